-- The files that a task owns, as a part of all files: taken away, put in their place, and by themselves (Turborepo docs, "Caching": a hit restores the files of `outputs`; that a task's files are removed first is this project's own rule).
use Rattle.std.specs.Prelude.{◌≡◌, ℕ, Bool, false, List, None, if◌then◌else◌}
use Rattle.std.specs.List.{list_all}
use Rattle.rel_path.specs.Paths.{Path}
use Rattle.rel_path.specs.Files.{FileMap, file_at}
use Rattle.globs.specs.declared.out_set.OutSet.{OutSet}
use Rattle.globs.specs.Outputs.{takes}

-- without the owned files
abbrev pub cleared : OutSet → FileMap → FileMap
cleared outs world = λ path. if takes outs path then None else world path

-- with these for the owned files
abbrev pub restored : OutSet → List (Path × List ℕ) → FileMap → FileMap
restored outs files world = λ path. if takes outs path then file_at files path else world path

-- the owned files alone
abbrev pub owned : OutSet → FileMap → FileMap
owned outs world = λ path. if takes outs path then world path else None

-- the task owns each of these files
abbrev pub owns_all : OutSet → List (Path × List ℕ) → Bool
owns_all outs files = list_all (λ file. takes outs file.0) files

-- every path that the task doesn't own is as before
abbrev pub SameOutside : OutSet → FileMap → FileMap → Type 0
SameOutside outs old new = (path : Path) → takes outs path ≡ false → new path ≡ old path

-- What a look-up finds (Turborepo docs, "Caching": a hit restores the outputs of the task).
use Rattle.std.specs.Prelude.{ℕ, if◌then◌else◌, List, [], ◌∷◌, Option, Some, None}
use Rattle.rel_path.specs.Paths.{name_eq}
use Rattle.globs.specs.declared.out_set.OutSet.{OutSet}
use Rattle.globs.specs.OwnedFiles.{owns_all}
use Rattle.cache_api.specs.Artifacts.{Artifact}
use Rattle.cache_api.specs.Reading.{Reader}
use Rattle.cache_api.specs.Pairs.{Pair}

-- the artifact serves a task with these outputs where it owns all files
abbrev pub if_owned : OutSet → Option Artifact → Option Artifact
if_owned outs None = None
if_owned outs (Some a) = if owns_all outs a.1 then Some a else None

-- what a pair gives to a task with this key and these outputs: the whole key counts
abbrev pub given : Reader → List ℕ → OutSet → Pair → Option Artifact
given read key outs pair = if name_eq pair.0 key then if_owned outs (read pair.1) else None

abbrev pub or_else : Option Artifact → Option Artifact → Option Artifact
or_else (Some a) other = Some a
or_else None other = other

-- what the last pair gives that gives something
abbrev pub found : Reader → List ℕ → OutSet → List Pair → Option Artifact
found read key outs [] = None
found read key outs (pair ∷ pairs) = or_else (found read key outs pairs) (given read key outs pair)

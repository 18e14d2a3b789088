use Rattle.std.proofs.Common.{◌≡◌, Bool, List, filter, take, drop}
use Rattle.rel_path.specs.Paths.{Path}
use Rattle.workspaces.specs.declared.member.Package.{Package}
use Rattle.repository.specs.Reading.{Contents}
use Rattle.pruned_files.specs.Calls.{Knows, stays}
use Rattle.pruned_files.proofs.staying.picked.Given as goal

-- those of the files so far, and what is left beside those behind
abbrev pub invariant-loop-path : goal.invariant-loop-path
invariant-loop-path l = (contents : Contents) (kept : List Package) (test : Path → Bool) → Knows contents kept l.known → l.fn.rooted ≡ filter test l.walk
    → (l.left ≡ filter test (drop l.path-index l.walk)) × (l.paths ≡ filter (stays contents kept test) (take l.path-index l.walk))

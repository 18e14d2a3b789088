use Rattle.std.proofs.Common.{take}
use Rattle.workspaces.specs.Space.{Space, IsProper}
use Rattle.kept_packages.specs.Needs.{Gains}
use Rattle.kept_packages.specs.Steps.{IsIndex, IsHomeIn}
use Rattle.kept_packages.proofs.files.add_homes.Given as goal

-- the homes of the paths so far
abbrev pub invariant-loop-path : goal.invariant-loop-path
invariant-loop-path l = (space : Space) → IsProper space → IsIndex space l.folders → Gains space (IsHomeIn space (take l.path-index l.paths)) l.initial.found.items l.found.items

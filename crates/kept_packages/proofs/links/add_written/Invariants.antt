use Rattle.std.proofs.Common.{take}
use Rattle.workspaces.specs.Space.{Space}
use Rattle.kept_packages.specs.Needs.{Gains}
use Rattle.kept_packages.specs.Steps.{IsIndex, IsWrittenIn}
use Rattle.kept_packages.proofs.links.add_written.Given as goal

-- the packages of the texts so far
abbrev pub invariant-loop-text : goal.invariant-loop-text
invariant-loop-text l = (space : Space) → IsIndex space l.folders → Gains space (IsWrittenIn space (take l.text-index l.texts)) l.initial.found.items l.found.items

use Rattle.std.proofs.Common.{take}
use Rattle.kept_packages.specs.Needs.{Gains}
use Rattle.kept_packages.specs.Steps.{NamesOwner}
use Rattle.kept_packages.proofs.tasks.add_texts.Given as goal

-- the owners that the texts so far name
abbrev pub invariant-loop-text : goal.invariant-loop-text
invariant-loop-text l = Gains l.packages (NamesOwner l.packages (take l.text-index l.texts)) l.initial.found.items l.found.items

use Rattle.std.proofs.Common.{take}
use Rattle.repository.specs.Reading.{contents_of}
use Rattle.kept_packages.specs.Needs.{Gains, Leads, NeedsOne}
use Rattle.kept_packages.proofs.needs.add_all_needs.Given as goal

-- what the owners so far need
abbrev pub invariant-loop-owner : goal.invariant-loop-owner
invariant-loop-owner l = Gains l.repository.packages (Leads l.repository.packages (NeedsOne (contents_of l.repository)) (take l.owner-index l.users)) l.initial.found.items l.found.items

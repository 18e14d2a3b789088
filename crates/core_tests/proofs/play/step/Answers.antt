use Rattle.std.proofs.Common.{refl, sym, arith}
use Rattle.core_tests.proofs.play.step.Goals as goal

pub missed-requires-clause-next : goal.missed-requires-clause-next
missed-requires-clause-next c = sym c.in-Lookup.ensures.next

pub found-requires : goal.found-requires
found-requires c = sym c.in-Lookup.ensures.next

pub started-requires : goal.started-requires
started-requires c = sym c.in-Start.ensures.next

pub state-requires : goal.state-requires
state-requires c = omega (arith, c.if-t-count.false, c.requires.size)

pub ended-requires : goal.ended-requires
ended-requires c = sym c.in-Running.ensures

pub returns-in_err-note-in-Lookup : goal.returns-in_err-note-in-Lookup
returns-in_err-note-in-Lookup c = c.missed.ensures.kept

pub returns-in_err-note-in-Lookup-2 : goal.returns-in_err-note-in-Lookup-2
returns-in_err-note-in-Lookup-2 c = c.found.ensures.kept

pub returns-in_err-note-in-Start : goal.returns-in_err-note-in-Start
returns-in_err-note-in-Start c = c.started.ensures.kept

pub returns-in_err-note-in-WaitFirst : goal.returns-in_err-note-in-WaitFirst
returns-in_err-note-in-WaitFirst c = c.ended.ensures.kept

pub returns-in_ok-note-in-Lookup : goal.returns-in_ok-note-in-Lookup
returns-in_ok-note-in-Lookup c = c.missed.ensures.kept

pub returns-in_ok-note-in-Lookup-2 : goal.returns-in_ok-note-in-Lookup-2
returns-in_ok-note-in-Lookup-2 c = c.found.ensures.kept

pub returns-in_ok-note-in-Start : goal.returns-in_ok-note-in-Start
returns-in_ok-note-in-Start c = c.started.ensures.kept

pub returns-in_ok-note-in-WaitFirst : goal.returns-in_ok-note-in-WaitFirst
returns-in_ok-note-in-WaitFirst c = c.ended.ensures.kept

pub returns-then-not-agree : goal.returns-then-not-agree
returns-then-not-agree c = record { rules = refl; commands = refl }

pub returns-in_err-number-in-WaitFirst : goal.returns-in_err-number-in-WaitFirst
returns-in_err-number-in-WaitFirst c = record { rules = refl; commands = refl }

pub returns-in_default : goal.returns-in_default
returns-in_default c = record { rules = refl; commands = refl }

pub returns-then-t-count : goal.returns-then-t-count
returns-then-t-count c = record { rules = refl; commands = refl }

pub returns-in_default-state : goal.returns-in_default-state
returns-in_default-state c = record { rules = refl; commands = refl }

pub returns-in-Finished : goal.returns-in-Finished
returns-in-Finished c = record { rules = refl; commands = refl }

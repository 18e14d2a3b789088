use Rattle.std.proofs.Common.{refl, sym, arith}
use Rattle.run_core.specs.Core.{rules, states}
use Rattle.run_core.proofs.Turns.{next-tells}
use Rattle.core_bench.proofs.go_on.Goals as goal

pub missed-requires-clause-next : goal.missed-requires-clause-next
missed-requires-clause-next c = sym c.in-Lookup.ensures.next

pub missed-requires-clause-runs : goal.missed-requires-clause-runs
missed-requires-clause-runs c =
    let core = c.args.core.now in
    let lookup = next-tells.lookup (rules core) (states core) c.in-Lookup.t (sym c.in-Lookup.ensures.next) in
    c.requires.commands c.in-Lookup.t (omega (arith, lookup.0, c.requires.size))

pub started-requires : goal.started-requires
started-requires c = sym c.in-Start.ensures.next

pub returns-in_err-push-in-Start : goal.returns-in_err-push-in-Start
returns-in_err-push-in-Start c = c.started.ensures.kept

pub returns-in_default : goal.returns-in_default
returns-in_default c = record { rules = refl; commands = refl }

pub returns-then-t-count : goal.returns-then-t-count
returns-then-t-count c = record { rules = refl; commands = refl }

pub state-requires : goal.state-requires
state-requires c = omega (arith, c.if-t-count.false, c.requires.size)

pub returns-in_default-state : goal.returns-in_default-state
returns-in_default-state c = record { rules = refl; commands = refl }

pub ended-requires : goal.ended-requires
ended-requires c = sym c.in-Running.ensures

pub returns-in-Finished : goal.returns-in-Finished
returns-in-Finished c = record { rules = refl; commands = refl }

pub returns-in-Lookup : goal.returns-in-Lookup
returns-in-Lookup c = c.missed.ensures.kept

pub returns-in_ok-push-in-Start : goal.returns-in_ok-push-in-Start
returns-in_ok-push-in-Start c = c.started.ensures.kept

pub returns-in-Running : goal.returns-in-Running
returns-in-Running c = c.ended.ensures.kept

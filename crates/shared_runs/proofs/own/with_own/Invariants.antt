use Rattle.std.proofs.Common.{◌≡◌, ◌-◌, ◌++◌}
use Rattle.shared_runs.specs.Own.{numbers_on}
use Rattle.shared_runs.proofs.own.with_own.Given as goal

abbrev pub invariant-loop-number : goal.invariant-loop-number
invariant-loop-number l = l.items.items ++ numbers_on l.number (l.next - l.number)
    ≡ l.own ++ numbers_on l.from (l.next - l.from)

use Rattle.std.proofs.Common.{◌≡◌, [], drop, take}
use Rattle.cli_words.specs.Orders.{first_fault}
use Rattle.cli_words.specs.Seen.{all_seen}
use Rattle.cli_words.proofs.faults.first_fault.Given as goal

abbrev pub invariant-loop-i : goal.invariant-loop-i
invariant-loop-i l =
    first_fault l.command (all_seen (take l.i l.items)) (all_seen (drop l.i l.items)) ≡ first_fault l.command [] (all_seen l.items)

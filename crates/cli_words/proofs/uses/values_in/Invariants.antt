use Rattle.std.proofs.Common.{◌≡◌, ◌++◌, drop}
use Rattle.cli_words.specs.Orders.{values_in}
use Rattle.cli_words.specs.Seen.{all_seen}
use Rattle.cli_words.proofs.uses.values_in.Given as goal

abbrev pub invariant-loop-placed : goal.invariant-loop-placed
invariant-loop-placed l = l.values.items ++ values_in l.place (all_seen (drop l.placed-index l.items)) ≡ values_in l.place (all_seen l.items)

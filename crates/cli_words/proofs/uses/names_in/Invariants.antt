use Rattle.std.proofs.Common.{◌≡◌, ◌++◌, drop}
use Rattle.cli_words.specs.Orders.{names_in}
use Rattle.cli_words.specs.Seen.{all_seen}
use Rattle.cli_words.proofs.uses.names_in.Given as goal

abbrev pub invariant-loop-placed : goal.invariant-loop-placed
invariant-loop-placed l = l.names.items ++ names_in (all_seen (drop l.placed-index l.items)) ≡ names_in (all_seen l.items)

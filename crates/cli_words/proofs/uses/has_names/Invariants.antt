use Rattle.std.proofs.Common.{◌≡◌, drop}
use Rattle.cli_words.specs.Orders.{has_names}
use Rattle.cli_words.specs.Seen.{all_seen}
use Rattle.cli_words.proofs.uses.has_names.Given as goal

abbrev pub invariant-loop-placed : goal.invariant-loop-placed
invariant-loop-placed l = has_names (all_seen (drop l.placed-index l.items)) ≡ has_names (all_seen l.items)

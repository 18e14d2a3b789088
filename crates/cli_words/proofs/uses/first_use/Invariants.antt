use Rattle.std.proofs.Common.{◌≡◌, drop}
use Rattle.cli_words.specs.Orders.{first_use}
use Rattle.cli_words.specs.Seen.{all_seen}
use Rattle.cli_words.proofs.uses.first_use.Given as goal

abbrev pub invariant-loop-placed : goal.invariant-loop-placed
invariant-loop-placed l = first_use l.place (all_seen (drop l.placed-index l.items)) ≡ first_use l.place (all_seen l.items)

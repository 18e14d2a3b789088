use Rattle.std.proofs.Common.{◌≡◌, ◌+◌, ◌++◌, length}
use Rattle.cli_words.specs.Grammar.{items}
use Rattle.cli_words.specs.Seen.{all_seen}
use Rattle.cli_words.proofs.items.items.Given as goal

abbrev pub invariant-loop-word : goal.invariant-loop-word
invariant-loop-word l = (all_seen l.found.items ++ items l.command l.at l.rest ≡ items l.command l.first l.words) × (l.at + length l.rest ≡ l.first + length l.words)

abbrev pub decreases-loop-word : goal.decreases-loop-word
decreases-loop-word l = length l.rest

use Rattle.std.proofs.Common.{◌≡◌, drop}
use Rattle.compact.specs.Quick.{with_words}
use Rattle.compact.proofs.quick.with_words.Given as goal

abbrev pub invariant-loop-word : goal.invariant-loop-word
invariant-loop-word l = with_words l.now (drop l.word-index l.words) ≡ with_words l.fn.print l.words

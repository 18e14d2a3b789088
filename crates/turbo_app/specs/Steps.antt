-- What the steps of a call answer.
use Rattle.std.specs.Prelude.{◌≡◌, ◌≢◌}
use Rattle.cli_words.specs.declared.error.WordsErr.{WordsErr}
use Rattle.cli_words.specs.declared.error.WordsErr.TheVariants as words
use Rattle.refusals.specs.declared.refusal.Refusal.{Refusal}
use Rattle.refusals.specs.declared.refusal.Refusal.TheVariants as refusal

-- the refusal of words that are no order; want of memory is none
pub record IsWordsRefusal (fault : WordsErr) (reason : Refusal) : Type 0 where
  pub is : reason ≡ refusal.Words fault
  pub known : fault ≢ words.OutOfMemory

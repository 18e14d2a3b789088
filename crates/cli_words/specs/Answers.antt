-- What a reader of words answers.
use Rattle.std.specs.Prelude.{◌≡◌, ◌⊎◌, Result, Ok, Err, MatchResult}
use Rattle.cli_words.specs.declared.error.WordsErr.{WordsErr}
use Rattle.cli_words.specs.declared.error.WordsErr.TheVariants.{OutOfMemory}

-- the answer is the one that is meant, or want of memory, which may come at any time
abbrev pub Reads : {A : Type 0} → Result A WordsErr → Result A WordsErr → Type 0
Reads meant answer = MatchResult answer (λ value. meant ≡ Ok value) (λ e. (e ≡ OutOfMemory) ⊎ (meant ≡ Err e))

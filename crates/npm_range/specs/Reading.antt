-- How far a set is read.
use Rattle.std.specs.Prelude.{◌≡◌, ◌⊎◌, ⊤, ℕ, List, ◌++◌, Option, Some, None, Result, MatchResult}
use Rattle.npm_range.specs.declared.error.RangeErr.{RangeErr}
use Rattle.npm_range.specs.declared.error.RangeErr.TheVariants.{NotARange, OutOfMemory}
use Rattle.npm_range.specs.declared.range.Reader.{Reader}
use Rattle.npm_range.specs.Limits.{Bound}
use Rattle.npm_range.specs.Grammar.{both, comparators}

-- what was read, with what the words to come say
unfoldable pub reads_on : Reader → List (List ℕ) → Option (List Bound)
reads_on reader words = both (Some reader.bounds.items) (comparators reader.waiting words)

-- whatever words follow, what is said is as before; or the words say nothing
unfoldable pub Reads : Reader → List (List ℕ) → Result ⊤ RangeErr → Reader → Type 0
Reads old words result new = MatchResult result
    (λ _. (more : List (List ℕ)) → reads_on old (words ++ more) ≡ reads_on new more)
    (λ e. (e ≡ OutOfMemory) ⊎ ((e ≡ NotARange) × ((more : List (List ℕ)) → reads_on old (words ++ more) ≡ None)))

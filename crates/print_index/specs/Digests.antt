-- Digests by number: the list has the digest of each number.
use Rattle.std.specs.Prelude.{◌≡◌, ◌≢◌, ◌<◌, ℕ, zero, suc, Bool, false, List, length, Option, None, Some, slice_get, bytes_eq, if◌then◌else◌}
use Rattle.std.specs.Option.{option_map_or, option_and_then}

-- the number has the digest
abbrev pub has_at : List (List ℕ) → ℕ → List ℕ → Bool
has_at digests number digest = option_map_or (λ d. bytes_eq d digest) (slice_get digests number) false

-- the greatest number below the limit that has the digest
unfoldable pub last_below : List (List ℕ) → ℕ → List ℕ → Option ℕ
last_below digests zero digest = None
last_below digests (suc number) digest = if has_at digests number digest then Some number else last_below digests number digest

-- the greatest number that has the digest
abbrev pub last_of : List (List ℕ) → List ℕ → Option ℕ
last_of digests digest = last_below digests (length digests) digest

-- the greatest number below that number with its digest
abbrev pub before_in : List (List ℕ) → ℕ → Option ℕ
before_in digests number = option_and_then (last_below digests number) (slice_get digests number)

-- no number below the limit has the digest
abbrev pub NoneBelow : List (List ℕ) → ℕ → List ℕ → Type 0
NoneBelow digests limit digest = (i : ℕ) → i < limit → slice_get digests i ≢ Some digest

-- the number is below the limit and has the digest, and no number between has it
pub record IsLastBelow (digests : List (List ℕ)) (limit : ℕ) (digest : List ℕ) (number : ℕ) : Type 0 where
  pub below : number < limit
  pub same : slice_get digests number ≡ Some digest
  pub later : (i : ℕ) → number < i → i < limit → slice_get digests i ≢ Some digest

-- What the fields of an index hold. The links have, at each number, what `link_to` says of the number before it with its
-- digest; the firsts are the distinct digests in the order of their first numbers.
use Rattle.std.specs.Prelude.{◌≡◌, ◌<◌, ◌+◌, ℕ, zero, suc, List, [], ◌∷◌, ◌++◌, length, drop, Option, None, Some, slice_get, unwrap_or}
use Rattle.std.specs.HashMap.{HashMap, get, keys}
use Rattle.std.specs.Prelude.{bytes_eq}
use Rattle.print_index.specs.Digests.{last_of, before_in}

-- 1 more than the number, or 0 where there is none
abbrev pub link_to : Option ℕ → ℕ
link_to None = 0
link_to (Some number) = number + 1

-- the digest at that place, where there is one
abbrev pub digest_at : List (List ℕ) → ℕ → List ℕ
digest_at digests place = unwrap_or (slice_get digests place) []

-- the digests so far, and behind them those that the links tell: a number with no link has the next of the firsts
unfoldable pub digests_from : List (List ℕ) → List (List ℕ) → List ℕ → List (List ℕ)
digests_from digests firsts [] = digests
digests_from digests firsts (zero ∷ links) = digests_from (digests ++ digest_at firsts 0 ∷ []) (drop 1 firsts) links
digests_from digests firsts (suc number ∷ links) = digests_from (digests ++ digest_at digests number ∷ []) firsts links

abbrev pub digests_in : List (List ℕ) → List ℕ → List (List ℕ)
digests_in firsts links = digests_from [] firsts links

-- how many numbers are the first of their digest
unfoldable pub count_of_firsts : List ℕ → ℕ
count_of_firsts [] = 0
count_of_firsts (zero ∷ links) = count_of_firsts links + 1
count_of_firsts (suc number ∷ links) = count_of_firsts links

-- the map and the links say what these digests say
pub record Indexes {S : Type 0} (last : HashMap (List ℕ) ℕ S) (links : List ℕ) (digests : List (List ℕ)) : Type 0 where
  pub lasts : (digest : List ℕ) → get bytes_eq last digest ≡ last_of digests digest
  pub links_back : (number : ℕ) → number < length digests → slice_get links number ≡ Some (link_to (before_in digests number))
  pub firsts : count_of_firsts links ≡ length (keys last)

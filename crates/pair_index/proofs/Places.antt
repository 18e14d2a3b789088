-- Where a search for a key goes on.
use Rattle.std.proofs.Common.{◌≡◌, ◌≢◌, ℕ, ◌<◌, ◌≤◌, Bool, true, false, List, [], length, get_or, Option, Some, None, refl, ◌∙◌, ap, arith}
use Rattle.std.specs.Prelude.{bytes_eq, slice_get, IfSome, IfNone}
use Rattle.std.proofs.lemmas.Option.{get_or_from_slice_get, slice_get-get_or}
use Rattle.std.proofs.lemmas.Slice.Eq.{bytes_eq-Decides}
use Rattle.sha2.specs.Sha256.{sha256}
use Rattle.print_index.specs.Digests as digests
use Rattle.pair_index.specs.declared.keys.Keys.{Keys}
use Rattle.pair_index.specs.Keys.{prints_in, place_count, may_have, IsBehind}

by_test : (b : Bool) → b ≢ true → b ≡ false
by_test true other = absurd (other refl)
by_test false other = refl

-- a fingerprint that is not there
apart : (prints : List (List ℕ)) (digest : List ℕ) (i : ℕ) → i < length prints
    → slice_get prints i ≢ Some digest → bytes_eq (get_or prints i []) digest ≡ false
apart prints digest i lt other =
    by_test (bytes_eq (get_or prints i []) digest)
    (λ same. other (slice_get-get_or prints i [] lt ∙ ap (λ (l : List ℕ). Some l) ((bytes_eq-Decides (get_or prints i []) digest).0 same)))

behind_print : (keys : Keys) (key : List ℕ) (limit : ℕ) (r : Option ℕ)
    → limit ≤ length (prints_in keys)
    → IfSome r (digests.IsLastBelow (prints_in keys) limit (sha256 key))
    → IfNone r (digests.NoneBelow (prints_in keys) limit (sha256 key))
    → IsBehind true keys key limit r
behind_print keys key limit None few some none =
    λ i lt. apart (prints_in keys) (sha256 key) i (omega (arith, lt, few)) (none i lt)
behind_print keys key limit (Some at) few some none =
    let same : get_or (prints_in keys) at [] ≡ sha256 key =
    get_or_from_slice_get (prints_in keys) at (sha256 key) [] some.same in
    record {
      below = some.below;
      inside = omega (arith, some.below, few);
      may = ap (λ (l : List ℕ). bytes_eq l (sha256 key)) same ∙ (bytes_eq-Decides (sha256 key) (sha256 key)).1 refl;
      later = λ i after lt.
          apart (prints_in keys) (sha256 key) i (omega (arith, lt, few)) (some.later i after lt);
    }

pub last_print : (by : Bool) (keys : Keys) (key : List ℕ) (r : Option ℕ) → by ≡ true
    → IfSome r (digests.IsLastBelow (prints_in keys) (length (prints_in keys)) (sha256 key))
    → IfNone r (digests.NoneBelow (prints_in keys) (length (prints_in keys)) (sha256 key))
    → IsBehind by keys key (place_count by keys) r
last_print true keys key r is some none =
    behind_print keys key (length (prints_in keys)) r (omega arith) some none
last_print false keys key r is some none = absurd cc

pub print_at : (by : Bool) (keys : Keys) (key : List ℕ) (at : ℕ) → by ≡ true
    → at < place_count by keys → may_have by keys key at ≡ true
    → slice_get (prints_in keys) at ≡ Some (sha256 key)
print_at true keys key at is lt may =
    slice_get-get_or (prints_in keys) at [] lt
    ∙ ap (λ (l : List ℕ). Some l) ((bytes_eq-Decides (get_or (prints_in keys) at []) (sha256 key)).0 may)
print_at false keys key at is lt may = absurd cc

pub before_print : (by : Bool) (keys : Keys) (key : List ℕ) (at : ℕ) (r : Option ℕ) → by ≡ true
    → at < place_count by keys
    → IfSome r (digests.IsLastBelow (prints_in keys) at (sha256 key))
    → IfNone r (digests.NoneBelow (prints_in keys) at (sha256 key))
    → IsBehind by keys key at r
before_print true keys key at r is lt some none =
    behind_print keys key at r (omega (arith, lt)) some none
before_print false keys key at r is lt some none = absurd cc

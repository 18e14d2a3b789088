-- What the greatest number of a digest says, and what it is after a push.
use Rattle.std.proofs.Common.{◌≡◌, ◌≢◌, ◌<◌, ◌≤◌, ℕ, zero, suc, Bool, true, false, true≢false, List, [], ◌∷◌, ◌++◌, length, Option, None, Some, slice_get, bytes_eq, if◌then◌else◌, refl, sym, ap, subst, ◌∙◌, length-append, add-one, arith}
use Rattle.std.specs.Prelude.{MatchOption, IfSome, IfNone}
use Rattle.std.specs.Option.{option_map_or, option_and_then}
use Rattle.std.specs.Cmp.Lexicographic.{same_text, other_text}
use Rattle.print_index.specs.Digests.{has_at, last_below, last_of, before_in, NoneBelow, IsLastBelow}

pub length-push : {X : Type 0} (xs : List X) (y : X) → length (xs ++ y ∷ []) ≡ suc (length xs)
length-push xs y = length-append xs (y ∷ []) ∙ add-one (length xs)

-- a push leaves the elements before it
pub slice_get-push : {X : Type 0} (xs : List X) (y : X) (i : ℕ) → i < length xs → slice_get (xs ++ y ∷ []) i ≡ slice_get xs i
slice_get-push [] y i within = absurd (omega arith)
slice_get-push (x ∷ xs) y zero within = refl
slice_get-push (x ∷ xs) y (suc i) within = slice_get-push xs y i (omega arith)

-- and stands behind them
pub slice_get-pushed : {X : Type 0} (xs : List X) (y : X) → slice_get (xs ++ y ∷ []) (length xs) ≡ Some y
slice_get-pushed [] y = refl
slice_get-pushed (x ∷ xs) y = slice_get-pushed xs y

at_true : (digests : List (List ℕ)) (number : ℕ) (digest : List ℕ) → has_at digests number digest ≡ true → slice_get digests number ≡ Some digest
at_true digests number digest = by (slice_get digests number) refl
  where
    by : (o : Option (List ℕ)) → slice_get digests number ≡ o → option_map_or (λ d. bytes_eq d digest) o false ≡ true → slice_get digests number ≡ Some digest
    by None is same = absurd (true≢false (sym same))
    by (Some d) is same = is ∙ ap Some (same_text d digest (sym same))

at_false : (digests : List (List ℕ)) (number : ℕ) (digest : List ℕ) → has_at digests number digest ≡ false → slice_get digests number ≢ Some digest
at_false digests number digest other is =
    other_text digest digest (sym other ∙ ap (λ o. option_map_or (λ d. bytes_eq d digest) o false) is) refl

module _ (digests : List (List ℕ)) (digest : List ℕ) where
  step : (n : ℕ) (b : Bool) → has_at digests n digest ≡ b → (o : Option ℕ) → MatchOption o (NoneBelow digests n digest) (IsLastBelow digests n digest)
      → MatchOption (if b then Some n else o) (NoneBelow digests (suc n) digest) (IsLastBelow digests (suc n) digest)
  step n true is o so = record {
    below = omega arith;
    same = at_true digests n digest is;
    later = λ i above within. absurd (omega arith);
  }
  step n false is None none = λ i within same.
      let other : i ≢ n = λ e. at_false digests n digest is (subst (λ k. slice_get digests k ≡ Some digest) e same) in
      none i (omega arith) same
  step n false is (Some number) last = record {
    below = let b = last.below in omega arith;
    same = last.same;
    later = λ i above within same.
        let other : i ≢ n = λ e. at_false digests n digest is (subst (λ k. slice_get digests k ≡ Some digest) e same) in
        last.later i above (omega arith) same;
  }

  -- the greatest number below the limit is that, and where there is none, no number has the digest
  pub last_below_is : (limit : ℕ) → MatchOption (last_below digests limit digest) (NoneBelow digests limit digest) (IsLastBelow digests limit digest)
  unfolding last_below
  last_below_is zero = λ i within same. absurd (omega arith)
  last_below_is (suc n) = step n (has_at digests n digest) refl (last_below digests n digest) (last_below_is n)

module _ (digests : List (List ℕ)) (pushed : List ℕ) where
  -- a push leaves what is below it
  pub last_below_push : (limit : ℕ) (digest : List ℕ) → limit ≤ length digests → last_below (digests ++ pushed ∷ []) limit digest ≡ last_below digests limit digest
  unfolding last_below
  last_below_push zero digest within = refl
  last_below_push (suc n) digest within =
      let at : has_at (digests ++ pushed ∷ []) n digest ≡ has_at digests n digest = ap (λ o. option_map_or (λ d. bytes_eq d digest) o false) (slice_get-push digests pushed n (omega arith)) in
      let rest = last_below_push n digest (omega arith) in
      λ i. if at i then Some n else rest i

  -- the digest that is pushed has the new number, and every other one what it had
  pub last_of_push : (digest : List ℕ) → last_of (digests ++ pushed ∷ []) digest ≡ (if bytes_eq pushed digest then Some (length digests) else last_of digests digest)
  unfolding last_below
  last_of_push digest =
      let at : has_at (digests ++ pushed ∷ []) (length digests) digest ≡ bytes_eq pushed digest = ap (λ o. option_map_or (λ d. bytes_eq d digest) o false) (slice_get-pushed digests pushed) in
      let rest = last_below_push (length digests) digest (omega arith) in
      let long : last_of (digests ++ pushed ∷ []) digest ≡ last_below (digests ++ pushed ∷ []) (suc (length digests)) digest = ap (λ n. last_below (digests ++ pushed ∷ []) n digest) (length-push digests pushed) in
      long ∙ (λ i. if at i then Some (length digests) else rest i)

  pub before_in_push : (number : ℕ) → number < length digests → before_in (digests ++ pushed ∷ []) number ≡ before_in digests number
  before_in_push number within =
      ap (option_and_then (last_below (digests ++ pushed ∷ []) number)) (slice_get-push digests pushed number within) ∙ by (slice_get digests number)
    where
      by : (o : Option (List ℕ)) → option_and_then (last_below (digests ++ pushed ∷ []) number) o ≡ option_and_then (last_below digests number) o
      by None = refl
      by (Some digest) = last_below_push number digest (omega arith)

  -- before the number that is pushed is the last one of its digest
  pub before_in_pushed : before_in (digests ++ pushed ∷ []) (length digests) ≡ last_of digests pushed
  before_in_pushed =
      ap (option_and_then (last_below (digests ++ pushed ∷ []) (length digests))) (slice_get-pushed digests pushed) ∙ last_below_push (length digests) pushed (omega arith)

-- what `last` and `before` say of a number that they give
pub last_below-some : (digests : List (List ℕ)) (limit : ℕ) (digest : List ℕ) (o : Option ℕ) → o ≡ last_below digests limit digest → IfSome o (IsLastBelow digests limit digest)
last_below-some digests limit digest o is = by o (subst (λ p. MatchOption p (NoneBelow digests limit digest) (IsLastBelow digests limit digest)) (sym is) (last_below_is digests digest limit))
  where
    by : (p : Option ℕ) → MatchOption p (NoneBelow digests limit digest) (IsLastBelow digests limit digest) → IfSome p (IsLastBelow digests limit digest)
    by None none = tt
    by (Some number) last = last

-- and where they give none
pub last_below-none : (digests : List (List ℕ)) (limit : ℕ) (digest : List ℕ) (o : Option ℕ) → o ≡ last_below digests limit digest → IfNone o (NoneBelow digests limit digest)
last_below-none digests limit digest o is = by o (subst (λ p. MatchOption p (NoneBelow digests limit digest) (IsLastBelow digests limit digest)) (sym is) (last_below_is digests digest limit))
  where
    by : (p : Option ℕ) → MatchOption p (NoneBelow digests limit digest) (IsLastBelow digests limit digest) → IfNone p (NoneBelow digests limit digest)
    by None none = none
    by (Some number) last = tt

pub before_in-at : (digests : List (List ℕ)) (number : ℕ) (digest : List ℕ) (o : Option ℕ) → o ≡ before_in digests number → slice_get digests number ≡ Some digest → o ≡ last_below digests number digest
before_in-at digests number digest o is at = is ∙ ap (option_and_then (last_below digests number)) at

-- Ancestors, in a listing and in a part of it.
use Rattle.std.proofs.Common.{◌≡◌, ℕ, zero, suc, ◌<◌, ◌≤◌, ◌==◌, Bool, true, ◌||◌, refl, sym, ap, ◌∙◌, arith, inl, inr}
use Rattle.std.specs.List.{list_any, AllByRecursion}
use Rattle.std.proofs.lemmas.Bool.{or_cases, or_left, or_right, false≢true, eqb-true}
use Rattle.run_core.proofs.Any.{all_both, any-map, any_agree, any_none, any_gives, any_mono, all_members, get_or-map}
use Rattle.run_laws.proofs.PickFacts.{rank-same, rank-lt, get_or-pick}
use Rattle.run_laws.specs.Ancestors.{part_at, blank, reaches, is_above, IsLower}
use Rattle.run_laws.specs.Picks.{pick, rank}
use Rattle.run_laws.specs.Closures.{renumbered, sub_listing, in_closure, IsClosed}
use Rattle.listing.specs.declared.part.Listing.{Listing}

pub part-sub : (l : Listing) (keep : ℕ → Bool) (i : ℕ) → keep i ≡ true → part_at (sub_listing l keep) (rank keep i) ≡ renumbered keep (part_at l i)
part-sub l keep i h = get_or-map (renumbered keep) (pick keep l.parts) (rank keep i) blank ∙ ap (renumbered keep) (get_or-pick keep l.parts i blank h)

abbrev Both : Listing → (ℕ → Bool) → ℕ → ℕ → Type 0
Both l keep i d = (d < i) × (keep d ≡ true)

both : (l : Listing) (keep : ℕ → Bool) → IsLower l → IsClosed l keep → (i : ℕ) → keep i ≡ true → AllByRecursion (Both l keep i) (part_at l i).deps
both l keep low closed i h = all_both (λ d. d < i) (λ d. keep d ≡ true) (part_at l i).deps (low i) (closed i h)

-- the same ways lead from a kept place to a kept place
pub reaches-sub : (l : Listing) (keep : ℕ → Bool) → IsLower l → IsClosed l keep → (n m i j : ℕ) → keep i ≡ true → keep j ≡ true → rank keep i ≤ n → i ≤ m → reaches (sub_listing l keep) n (rank keep i) (rank keep j) ≡ reaches l m i j
reaches-sub l keep low closed zero zero i j hi hj ln lm = refl
reaches-sub l keep low closed zero (suc m) i j hi hj ln lm =
    sym (any_none (Both l keep i) _ (λ d b. absurd (let k = rank-lt keep d i b.1 b.0 in omega arith)) (part_at l i).deps (both l keep low closed i hi))
reaches-sub l keep low closed (suc n) zero i j hi hj ln lm =
    rw (part-sub l keep i hi) (any-map _ (rank keep) (part_at l i).deps ∙ any_none (Both l keep i) _ (λ d b. absurd (let k = b.0 in omega arith)) (part_at l i).deps (both l keep low closed i hi))
reaches-sub l keep low closed (suc n) (suc m) i j hi hj ln lm =
    rw (part-sub l keep i hi)
    (any-map _ (rank keep) (part_at l i).deps
    ∙ any_agree (Both l keep i) _ _
    (λ d b. let k = rank-lt keep d i b.1 b.0 in let lt = b.0 in
    rw (rank-same keep d j b.1 hj, reaches-sub l keep low closed n m d j b.1 hj (omega arith) (omega arith)) refl)
    (part_at l i).deps (both l keep low closed i hi))

pub above-sub : (l : Listing) (keep : ℕ → Bool) → IsLower l → IsClosed l keep → (i j : ℕ) → keep i ≡ true → keep j ≡ true → is_above (sub_listing l keep) (rank keep i) (rank keep j) ≡ is_above l i j
above-sub l keep low closed i j hi hj = reaches-sub l keep low closed (rank keep i) i i j hi hj (omega arith) (omega arith)

-- more steps than places below lead nowhere else
pub reaches-enough : (l : Listing) → IsLower l → (n m i j : ℕ) → i ≤ n → i ≤ m → reaches l n i j ≡ reaches l m i j
reaches-enough l low zero zero i j ln lm = refl
reaches-enough l low zero (suc m) i j ln lm = sym (any_none (λ d. d < i) _ (λ d b. absurd (omega arith)) (part_at l i).deps (low i))
reaches-enough l low (suc n) zero i j ln lm = any_none (λ d. d < i) _ (λ d b. absurd (omega arith)) (part_at l i).deps (low i)
reaches-enough l low (suc n) (suc m) i j ln lm =
    any_agree (λ d. d < i) _ _ (λ d b. ap (λ r. (d == j) || r) (reaches-enough l low n m d j (omega arith) (omega arith))) (part_at l i).deps (low i)

-- what a closed set of places holds, it holds with its ancestors
pub reaches-closed : (l : Listing) (keep : ℕ → Bool) → IsClosed l keep → (n i j : ℕ) → keep i ≡ true → reaches l n i j ≡ true → keep j ≡ true
reaches-closed l keep closed zero i j h r = absurd (false≢true r)
reaches-closed l keep closed (suc n) i j h r =
    any_gives (λ d. keep d ≡ true) _ (keep j ≡ true)
    (λ d k t. elim (or_cases (d == j) (reaches l n d j) t) [ inl e ↦ ap keep (sym (eqb-true d j e)) ∙ k | inr u ↦ reaches-closed l keep closed n d j k u ])
    (part_at l i).deps (closed i h) r

pub reaches-lower : (l : Listing) → IsLower l → (n i j : ℕ) → reaches l n i j ≡ true → j < i
reaches-lower l low zero i j r = absurd (false≢true r)
reaches-lower l low (suc n) i j r =
    any_gives (λ d. d < i) _ (j < i)
    (λ d k t. elim (or_cases (d == j) (reaches l n d j) t) [ inl e ↦ let q = eqb-true d j e in omega arith | inr u ↦ let q = reaches-lower l low n d j u in omega arith ])
    (part_at l i).deps (low i) r

-- a dependency of what is reached is reached in one step more
pub reaches-more : (l : Listing) (n i k d : ℕ) → reaches l n i k ≡ true → list_any (λ e. e == d) (part_at l k).deps ≡ true → reaches l (suc n) i d ≡ true
reaches-more l zero i k d r h = absurd (false≢true r)
reaches-more l (suc n) i k d r h =
    any_mono _ _
    (λ e t. or_right (e == d) (reaches l (suc n) e d)
    (elim (or_cases (e == k) (reaches l n e k) t) [
      | inl q ↦ rw (eqb-true e k q) (any_mono (λ x. x == d) _ (λ x u. or_left (x == d) (reaches l n x d) u) (part_at l k).deps h)
      | inr u ↦ reaches-more l n e k d u h
    ]))
    (part_at l i).deps r

-- the closure of a place holds the dependencies of what it holds
pub closure-closed : (l : Listing) (i : ℕ) → IsLower l → IsClosed l (in_closure l i)
closure-closed l i low k h =
    all_members _ (part_at l k).deps
    (λ d m. or_right (d == i) (is_above l i d) (reaches-enough l low i (suc i) i d (omega arith) (omega arith) ∙
    elim (or_cases (k == i) (is_above l i k) h) [
      | inl q ↦ any_mono (λ x. x == d) _ (λ x u. or_left (x == d) (reaches l i x d) u) (part_at l i).deps (rw (eqb-true k i q) at m)
      | inr u ↦ reaches-more l i i k d u m
    ]))

-- a dependency is an ancestor
pub dep-above : (l : Listing) (t d : ℕ) → IsLower l → list_any (λ x. x == d) (part_at l t).deps ≡ true → is_above l t d ≡ true
dep-above l t d low m = reaches-enough l low t (suc t) t d (omega arith) (omega arith) ∙ any_mono (λ x. x == d) _ (λ x u. or_left (x == d) (reaches l t x d) u) (part_at l t).deps m

-- Places that are kept, and what stands at them.
use Rattle.std.proofs.Common.{◌≡◌, ℕ, zero, suc, ◌==◌, Bool, true, false, cond, List, [], ◌∷◌, Some, filter, map, refl, sym, ap, ◌∙◌, subst, inl, inr}
use Rattle.std.specs.Prelude.{slice_get}
use Rattle.std.specs.List.{list_any, AllByRecursion}
use Rattle.std.specs.declared.cmp.Ordering.{Ordering}
use Rattle.std.specs.declared.cmp.Ordering.TheVariants.{Equal}
use Rattle.std.specs.Cmp.{IsTotalOrder}
use Rattle.std.proofs.lemmas.Bool.{cases_Bool, or_cases, or_left, or_right, false≢true, eq-eqb, eqb-true}
use Rattle.workspaces.specs.Lists.{Has, places}
use Rattle.run_laws.specs.Picks.{pick, rank}
use Rattle.run_core.proofs.Any.{all-map, any-map, any_mono}
use Rattle.run_laws.proofs.PickFacts.{shift, rank-true, rank-false}
use Rattle.prune_facts.proofs.Lists.{some_inj, none≢some, get_has}
use Rattle.prune_facts.proofs.Following.{among, has_among}

-- ---- places and ranks

all_unmap : (P : ℕ → Type 0) (xs : List ℕ) → AllByRecursion P (map suc xs) → AllByRecursion (λ d. P (suc d)) xs
all_unmap P [] a = tt
all_unmap P (x ∷ xs) a = (a.0, all_unmap P xs a.1)

ranks-true : (keep : ℕ → Bool) (ds : List ℕ) → keep zero ≡ true → map (rank keep) (map suc ds) ≡ map suc (map (rank (shift keep)) ds)
ranks-true keep [] h = refl
ranks-true keep (d ∷ ds) h = let e = rank-true keep d h in let es = ranks-true keep ds h in λ j. e j ∷ es j

ranks-false : (keep : ℕ → Bool) (ds : List ℕ) → keep zero ≡ false → map (rank keep) (map suc ds) ≡ map (rank (shift keep)) ds
ranks-false keep [] h = refl
ranks-false keep (d ∷ ds) h = let e = rank-false keep d h in let es = ranks-false keep ds h in λ j. e j ∷ es j

-- the places of what passes, by their ranks, are those among what is kept
pub rank-places : {X : Type 0} (keep : ℕ → Bool) (test : X → Bool) (xs : List X) → AllByRecursion (λ d. keep d ≡ true) (places test xs) → map (rank keep) (places test xs) ≡ places test (pick keep xs)
unfolding places
rank-places keep test [] a = refl
rank-places keep test (x ∷ xs) a =
    elim (cases_Bool (test x)) [
      | inl t ↦
          let b : (keep zero ≡ true) × AllByRecursion (λ d. keep d ≡ true) (map suc (places test xs)) = rw t at a in
          rw (t, b.0, t) (ap (λ ds. zero ∷ ds) (ranks-true keep (places test xs) b.0 ∙ ap (map suc) (rank-places (shift keep) test xs (all_unmap (λ d. keep d ≡ true) (places test xs) b.1))))
      | inr f ↦
          let b : AllByRecursion (λ d. keep d ≡ true) (map suc (places test xs)) = rw f at a in
          let e = rank-places (shift keep) test xs (all_unmap (λ d. keep d ≡ true) (places test xs) b) in
          elim (cases_Bool (keep zero)) [
            | inl k ↦ rw (f, k, f) (ranks-true keep (places test xs) k ∙ ap (map suc) e)
            | inr k ↦ rw (f, k) (ranks-false keep (places test xs) k ∙ e)
          ]
    ]

any_suc : (k : ℕ) (ds : List ℕ) → list_any (λ d. d == k) ds ≡ true → list_any (λ d. d == suc k) (map suc ds) ≡ true
any_suc k ds h = any-map (λ d. d == suc k) suc ds ∙ any_mono (λ d. d == k) (λ d. suc d == suc k) (λ d u. eq-eqb (suc d) (suc k) (ap suc (eqb-true d k u))) ds h

-- the place of what passes is among them
pub place_of : {X : Type 0} (test : X → Bool) (xs : List X) (k : ℕ) (y : X) → slice_get xs k ≡ Some y → test y ≡ true → list_any (λ d. d == k) (places test xs) ≡ true
unfolding places
place_of test [] k y e h = absurd (none≢some y e)
place_of test (x ∷ xs) zero y e h = rw (ap test (some_inj x y e) ∙ h) (or_left (zero == zero) (list_any (λ d. d == zero) (map suc (places test xs))) refl)
place_of test (x ∷ xs) (suc k) y e h =
    let u = any_suc k (places test xs) (place_of test xs k y e h) in
    elim (cases_Bool (test x)) [ inl t ↦ rw t (or_right (zero == suc k) (list_any (λ d. d == suc k) (map suc (places test xs))) u) | inr f ↦ rw f u ]

-- what holds of the place of each that passes holds of all of them
pub all_places : {X : Type 0} (P : ℕ → Type 0) (test : X → Bool) (xs : List X) → ((d : ℕ) (y : X) → slice_get xs d ≡ Some y → test y ≡ true → P d) → AllByRecursion P (places test xs)
unfolding places
all_places P test [] gives = tt
all_places P test (x ∷ xs) gives =
    let rest = all-map P suc (places test xs) (all_places (λ d. P (suc d)) test xs (λ d y e t. gives (suc d) y e t)) in
    elim (cases_Bool (test x)) [ inl t ↦ rw t (gives zero x refl t, rest) | inr f ↦ rw f rest ]

pub all_at : (P : ℕ → Type 0) (ds : List ℕ) (k : ℕ) → AllByRecursion P ds → list_any (λ d. d == k) ds ≡ true → P k
all_at P [] k a h = absurd (false≢true h)
all_at P (d ∷ ds) k a h = elim (or_cases (d == k) (list_any (λ d. d == k) ds) h) [ inl e ↦ subst P (eqb-true d k e) a.0 | inr u ↦ all_at P ds k a.1 u ]

-- ---- members at kept places

pub has_get : {X : Type 0} (xs : List X) (x : X) → Has xs x → (j : ℕ) × (slice_get xs j ≡ Some x)
has_get [] x h = absurd h
has_get (z ∷ zs) x (inl e) = (zero, ap Some e)
has_get (z ∷ zs) x (inr h) = let v = has_get zs x h in (suc v.0, v.1)

pub pick_get : {X : Type 0} (keep : ℕ → Bool) (xs : List X) (x : X) → Has (pick keep xs) x → (j : ℕ) × (slice_get xs j ≡ Some x) × (keep j ≡ true)
pick_get keep [] x h = absurd h
pick_get keep (z ∷ zs) x h = by (keep zero) refl h (pick_get (shift keep) zs x)
  where
    by : (b : Bool) → keep zero ≡ b → Has (cond b (z ∷ pick (shift keep) zs) (pick (shift keep) zs)) x → (Has (pick (shift keep) zs) x → (j : ℕ) × (slice_get zs j ≡ Some x) × (keep (suc j) ≡ true))
        → (j : ℕ) × (slice_get (z ∷ zs) j ≡ Some x) × (keep j ≡ true)
    by true k (inl e) rest = (zero, ap Some e, k)
    by true k (inr u) rest = let v = rest u in (suc v.0, v.1, v.2)
    by false k u rest = let v = rest u in (suc v.0, v.1, v.2)

pub get_pick : {X : Type 0} (keep : ℕ → Bool) (xs : List X) (j : ℕ) (x : X) → slice_get xs j ≡ Some x → keep j ≡ true → Has (pick keep xs) x
get_pick keep [] j x e k = absurd (none≢some x e)
get_pick keep (z ∷ zs) zero x e k = rw k (inl (some_inj z x e))
get_pick keep (z ∷ zs) (suc j) x e k = by (keep zero) (get_pick (shift keep) zs j x e k)
  where
    by : (b : Bool) → Has (pick (shift keep) zs) x → Has (cond b (z ∷ pick (shift keep) zs) (pick (shift keep) zs)) x
    by true u = inr u
    by false u = u

pub pick-has : {X : Type 0} (keep : ℕ → Bool) (xs : List X) (x : X) → Has (pick keep xs) x → Has xs x
pick-has keep xs x h = let v = pick_get keep xs x h in get_has xs v.0 x v.1

pub pick_filter : {X : Type 0} (set : X → Bool) (keep : ℕ → Bool) (xs : List X) → ((j : ℕ) (x : X) → slice_get xs j ≡ Some x → set x ≡ keep j) → filter set xs ≡ pick keep xs
pick_filter set keep [] agree = refl
pick_filter set keep (x ∷ xs) agree =
    let e = pick_filter set (shift keep) xs (λ j y g. agree (suc j) y g) in
    let k = agree zero x refl in
    λ i. cond (k i) (x ∷ e i) (e i)

-- ---- where all members differ

module _ {X : Type 0} (cmp : X → X → Ordering) (total : IsTotalOrder cmp) (tied : (a b : X) → cmp a b ≡ Equal → a ≡ b) where
  abbrev pub AreApart : List X → Type 0
  AreApart [] = Unit {0}
  AreApart (x ∷ xs) = (among cmp xs x ≡ false) × AreApart xs

  twice : (z : X) (zs : List X) (x : X) → among cmp zs z ≡ false → Has zs x → z ≡ x → ⊥
  twice z zs x apart h e = false≢true (sym apart ∙ ap (among cmp zs) e ∙ has_among cmp total tied zs x h)

  -- one that stands at a place is kept where the place is
  pub picked : (keep : ℕ → Bool) (xs : List X) (j : ℕ) (x : X) → AreApart xs → slice_get xs j ≡ Some x → Has (pick keep xs) x → keep j ≡ true
  picked keep xs j x apart e h = let v = pick_get keep xs x h in ap keep (one xs j v.0 x apart e v.1) ∙ v.2
    where
      one : (xs : List X) (j k : ℕ) (x : X) → AreApart xs → slice_get xs j ≡ Some x → slice_get xs k ≡ Some x → j ≡ k
      one [] j k x apart e f = absurd (none≢some x e)
      one (z ∷ zs) zero zero x apart e f = refl
      one (z ∷ zs) zero (suc k) x apart e f = absurd (twice z zs x apart.0 (get_has zs k x f) (some_inj z x e))
      one (z ∷ zs) (suc j) zero x apart e f = absurd (twice z zs x apart.0 (get_has zs j x e) (some_inj z x f))
      one (z ∷ zs) (suc j) (suc k) x apart e f = ap suc (one zs j k x apart.1 e f)

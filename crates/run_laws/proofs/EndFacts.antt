-- Which tasks are left out, and on what good ends stand.
use Rattle.std.proofs.Common.{not, ◌≡◌, ◌≢◌, ℕ, zero, suc, ◌<◌, ◌==◌, ◌||◌, ◌++◌, Bool, true, false, cond, List, [], ◌∷◌, length, slice_get, refl, sym, ap, ◌∙◌, subst, arith, inl, inr, Some}
use Rattle.std.specs.List.{list_any, AllByRecursion}
use Rattle.std.proofs.lemmas.Bool.{cases_Bool, or_cases, or_left, or_right, or_parts, false≢true, true≢false, eqb-true, eq-eqb, ne_eqb}
use Rattle.listing.specs.declared.part.Listing.{Listing}
use Rattle.run_core.specs.declared.states.Mode.{Mode}
use Rattle.run_core.specs.declared.states.Mode.TheVariants.{Always}
use Rattle.spawn_dev.specs.declared.effect.Effect.{Effect}
use Rattle.run_laws.specs.declared.outcome.Outcome.{Outcome}
use Rattle.run_laws.specs.declared.outcome.Outcome.TheVariants.{Skipped, Passed, Done}
use Rattle.run_laws.specs.Ancestors.{part_at, is_nil, reaches, is_above, IsLower}
use Rattle.run_laws.specs.Closures.{in_closure}
use Rattle.run_laws.specs.Effects.{Book}
use Rattle.run_laws.specs.Clean.{skips, is_bad, seen, outcome, clean_upto, clean}
use Rattle.run_laws.specs.Pairs.{is_good, EndsWell}
use Rattle.run_laws.specs.CleanLaws.{HasFailedAbove, SkippedLaw, EndsLaw}
use Rattle.run_core.proofs.Any.{all_both, any_gives, any_mono, all_members}
use Rattle.run_laws.proofs.AncestorFacts.{reaches-enough, dep-above}
use Rattle.run_laws.proofs.ClosedParts.{length-clean_upto, get_some}
use Rattle.run_laws.proofs.EachFacts.{each_law_lem}

-- ---- no outcome is left out in mode `always`

abbrev is_skipped : Outcome → Bool
is_skipped Skipped = true
is_skipped Passed = false
is_skipped (Done effect) = false

outcome-kept : (mode : Mode) (book : Book) (l : Listing) (i : ℕ) (outs : List Outcome) → skips mode ≡ false → is_skipped (outcome mode book l i outs) ≡ false
unfolding outcome
outcome-kept mode book l i outs k = rw k (by (is_nil (part_at l i).scripts))
  where
    by : (b : Bool) → is_skipped (cond b Passed (Done (book (seen l i outs)))) ≡ false
    by true = refl
    by false = refl

all-push : {X : Type 0} (P : X → Type 0) (xs : List X) (y : X) → AllByRecursion P xs → P y → AllByRecursion P (xs ++ y ∷ [])
all-push P [] y a h = (h, tt)
all-push P (x ∷ xs) y a h = (a.0, all-push P xs y a.1 h)

all-get : {X : Type 0} (P : X → Type 0) (xs : List X) (i : ℕ) (x : X) → AllByRecursion P xs → slice_get xs i ≡ Some x → P x
all-get P [] i x a e = absurd (cc)
all-get P (y ∷ xs) zero x a e = let q : y ≡ x = cc in subst P q a.0
all-get P (y ∷ xs) (suc i) x a e = all-get P xs i x a.1 e

all-kept : (mode : Mode) (book : Book) (l : Listing) → skips mode ≡ false → (n : ℕ) → AllByRecursion (λ o. is_skipped o ≡ false) (clean_upto mode book l n)
all-kept mode book l k zero = tt
all-kept mode book l k (suc n) = all-push _ (clean_upto mode book l n) (outcome mode book l n (clean_upto mode book l n)) (all-kept mode book l k n) (outcome-kept mode book l n (clean_upto mode book l n) k)

never-skipped : (mode : Mode) (book : Book) (l : Listing) (i : ℕ) → skips mode ≡ false → slice_get (clean mode book l) i ≢ Some Skipped
never-skipped mode book l i k e = true≢false (all-get _ (clean mode book l) i Skipped (all-kept mode book l k (length l.parts)) e)

-- ---- a failure below

-- some dependency is bad
abbrev has_bad : List Outcome → Listing → ℕ → Bool
has_bad outs l i = list_any (λ d. is_bad (slice_get outs d)) (part_at l i).deps

skipped-bad : (mode : Mode) (book : Book) (l : Listing) (i : ℕ) (outs : List Outcome) → skips mode ≡ true → outcome mode book l i outs ≡ Skipped → has_bad outs l i ≡ true
unfolding outcome
skipped-bad mode book l i outs k e = by (has_bad outs l i) (is_nil (part_at l i).scripts) (rw k at e)
  where
    by : (b n : Bool) → cond b Skipped (cond n Passed (Done (book (seen l i outs)))) ≡ Skipped → b ≡ true
    by true n h = refl
    by false true h = absurd (false≢true (ap is_skipped h))
    by false false h = absurd (false≢true (ap is_skipped h))

bad-skipped : (mode : Mode) (book : Book) (l : Listing) (i : ℕ) (outs : List Outcome) → skips mode ≡ true → has_bad outs l i ≡ true → outcome mode book l i outs ≡ Skipped
unfolding outcome
bad-skipped mode book l i outs k h = rw (k, h) refl

-- an ancestor of a dependency is an ancestor
above-dep : (l : Listing) (i d a : ℕ) → IsLower l → d < i → list_any (λ x. x == d) (part_at l i).deps ≡ true → is_above l d a ≡ true → is_above l i a ≡ true
above-dep l i d a low lt m r =
    reaches-enough l low i (suc i) i a (omega arith) (omega arith)
    ∙ any_mono (λ x. x == d) _ (λ x u. or_right (x == a) (reaches l i x a) (rw (eqb-true x d u) (reaches-enough l low i d d a (omega arith) (omega arith) ∙ r))) (part_at l i).deps m

any_with : {X : Type 0} (P : X → Type 0) (s t : X → Bool) → ((x : X) → P x → s x ≡ true → t x ≡ true) → (xs : List X) → AllByRecursion P xs → list_any s xs ≡ true → list_any t xs ≡ true
any_with P s t gives [] a h = absurd (false≢true h)
any_with P s t gives (x ∷ xs) a h =
    elim (or_cases (s x) (list_any s xs) h) [ inl k ↦ or_left (t x) (list_any t xs) (gives x a.0 k) | inr k ↦ or_right (t x) (list_any t xs) (any_with P s t gives xs a.1 k) ]

not-zero : (s : ℕ) → not (s == 0) ≡ true → s ≢ 0
not-zero s h e = false≢true (sym (ap not (eq-eqb s 0 e)) ∙ h)

module _ (mode : Mode) (book : Book) (l : Listing) (skip : skips mode ≡ true) (low : IsLower l) where
  abbrev outs : List Outcome
  outs = clean mode book l

  size : length outs ≡ length l.parts
  size = length-clean_upto mode book l (length l.parts)

  here : (i : ℕ) → i < length l.parts → slice_get outs i ≡ Some Skipped → outcome mode book l i outs ≡ Skipped
  here i lt e = let same = sym (each_law_lem mode book l i low lt) ∙ e in cc

  failed-dep : (i d : ℕ) (y : Outcome) → d < i → list_any (λ x. x == d) (part_at l i).deps ≡ true → slice_get outs d ≡ Some y → is_bad (Some y) ≡ true
      → (slice_get outs d ≡ Some Skipped → HasFailedAbove mode book l d) → HasFailedAbove mode book l i
  failed-dep i d Skipped lt m e b below =
      let w = below e in
      record { place = w.place; above = above-dep l i d w.place low lt m w.above; effect = w.effect; ended = w.ended; failed = w.failed }
  failed-dep i d Passed lt m e b below = absurd (false≢true b)
  failed-dep i d (Done effect) lt m e b below =
      record { place = d; above = dep-above l i d low m; effect = effect; ended = e; failed = not-zero effect.status b }

  abbrev IsDep : ℕ → ℕ → Type 0
  IsDep i d = (d < i) × (list_any (λ x. x == d) (part_at l i).deps ≡ true)

  are-deps : (i : ℕ) → AllByRecursion (IsDep i) (part_at l i).deps
  are-deps i = all_both (λ d. d < i) _ (part_at l i).deps (low i) (all_members (λ d. list_any (λ x. x == d) (part_at l i).deps ≡ true) (part_at l i).deps (λ d m. m))

  failed-above : (n i : ℕ) → i < n → i < length l.parts → slice_get outs i ≡ Some Skipped → HasFailedAbove mode book l i
  failed-above zero i small lt e = absurd (omega arith)
  failed-above (suc n) i small lt e =
      any_gives (IsDep i) (λ d. is_bad (slice_get outs d)) (HasFailedAbove mode book l i)
      (λ d m b.
      let less = m.0 in
      let y = get_some outs d (rw size (omega arith)) in
      failed-dep i d y.0 less m.1 y.1 (ap is_bad (sym y.1) ∙ b) (failed-above n d (omega arith) (omega arith)))
      (part_at l i).deps (are-deps i) (skipped-bad mode book l i outs skip (here i lt e))

  bad-status : (status : ℕ) → status ≢ 0 → not (status == 0) ≡ true
  bad-status status ne = ap not (ne_eqb status 0 ne)

  left-above : (n i a : ℕ) (effect : Effect) → i < length l.parts → slice_get outs a ≡ Some (Done effect) → effect.status ≢ 0 → reaches l n i a ≡ true → slice_get outs i ≡ Some Skipped
  left-above zero i a effect lt e ne r = absurd (false≢true r)
  left-above (suc n) i a effect lt e ne r =
      each_law_lem mode book l i low lt
      ∙ ap Some (bad-skipped mode book l i outs skip
      (any_with (λ d. d < i) (λ d. (d == a) || reaches l n d a) _
      (λ d less t. elim (or_cases (d == a) (reaches l n d a) t) [
        | inl q ↦ rw (eqb-true d a q) (ap is_bad e ∙ bad-status effect.status ne)
        | inr u ↦ ap is_bad (left-above n d a effect (omega arith) e ne u)
      ])
      (part_at l i).deps (low i) r))

pub skipped_law_lem : SkippedLaw
skipped_law_lem = record {
  always = λ book l i. never-skipped Always book l i refl;
  left = λ mode book l i skip low lt. (
    λ e. failed-above mode book l skip low (suc i) i (omega arith) lt e,
    λ w. left-above mode book l skip low i i w.place w.effect lt w.ended w.failed w.above,
  );
}

-- ---- good ends

none_all : {X : Type 0} (t : X → Bool) (xs : List X) → list_any t xs ≡ false → AllByRecursion (λ x. t x ≡ false) xs
none_all t [] h = tt
none_all t (x ∷ xs) h = let p = or_parts (t x) (list_any t xs) h in (p.0, none_all t xs p.1)

good_not_bad : (o : Outcome) → is_bad (Some o) ≡ false → is_good o ≡ true
good_not_bad Skipped h = absurd (true≢false h)
good_not_bad Passed h = refl
good_not_bad (Done e) h = by (e.status == 0) h
  where
    by : (b : Bool) → not b ≡ false → b ≡ true
    by true h = refl
    by false h = absurd (true≢false h)

-- a good outcome has no bad dependency
no_bad_dep : (mode : Mode) (book : Book) (l : Listing) (i : ℕ) (outs : List Outcome) → skips mode ≡ true → is_good (outcome mode book l i outs) ≡ true → has_bad outs l i ≡ false
unfolding outcome
no_bad_dep mode book l i outs k good = by (has_bad outs l i) (rw k at good)
  where
    by : (b : Bool) → is_good (cond b Skipped (cond (is_nil (part_at l i).scripts) Passed (Done (book (seen l i outs))))) ≡ true → b ≡ false
    by true h = absurd (false≢true h)
    by false h = refl

abbrev IsGoodAt : List Outcome → ℕ → Type 0
IsGoodAt outs i = (o : Outcome) → slice_get outs i ≡ Some o → is_good o ≡ true

good_above : (mode : Mode) (book : Book) (l : Listing) → skips mode ≡ true → IsLower l → (n i a : ℕ) → i < length l.parts → IsGoodAt (clean mode book l) i → reaches l n i a ≡ true → IsGoodAt (clean mode book l) a
good_above mode book l k low zero i a h good r = absurd (false≢true r)
good_above mode book l k low (suc n) i a h good r =
    let outs = clean mode book l in
    let calm = no_bad_dep mode book l i outs k (good _ (each_law_lem mode book l i low h)) in
    any_gives (λ d. (d < i) × (is_bad (slice_get outs d) ≡ false)) _ (IsGoodAt outs a)
    (λ d b t.
    let here : IsGoodAt outs d = λ o e. good_not_bad o (ap is_bad (sym e) ∙ b.1) in
    elim (or_cases (d == a) (reaches l n d a) t) [
      | inl e ↦ subst (IsGoodAt outs) (eqb-true d a e) here
      | inr u ↦ good_above mode book l k low n d a (let k = b.0 in omega arith) here u
    ])
    (part_at l i).deps (all_both (λ d. d < i) (λ d. is_bad (slice_get outs d) ≡ false) (part_at l i).deps (low i) (none_all _ (part_at l i).deps calm)) r

good_here : (outs : List Outcome) (i : ℕ) (effect : Effect) → slice_get outs i ≡ Some (Done effect) → effect.status ≡ 0 → IsGoodAt outs i
good_here outs i effect done ok o e = let same : Done effect ≡ o = cc in subst (λ x. is_good x ≡ true) same (eq-eqb effect.status 0 ok)

-- each of a closure is the place or an ancestor
closure-cases : (P : ℕ → Type 0) (l : Listing) (i j : ℕ) → P i → (is_above l i j ≡ true → P j) → in_closure l i j ≡ true → P j
closure-cases P l i j here above k = elim (or_cases (j == i) (is_above l i j) k) [ inl q ↦ subst P (sym (eqb-true j i q)) here | inr u ↦ above u ]

left_lem : (mode : Mode) (book : Book) (l : Listing) (i : ℕ) (effect : Effect) → skips mode ≡ true → IsLower l → i < length l.parts → slice_get (clean mode book l) i ≡ Some (Done effect) → effect.status ≡ 0 → EndsWell mode book l i effect
left_lem mode book l i effect k low h done ok =
    let good = good_here (clean mode book l) i effect done ok in
    record {
      ended = done;
      good = λ j o c e. closure-cases (IsGoodAt (clean mode book l)) l i j good (λ u. good_above mode book l k low i i j h good u) c o e;
    }

good-kept : (mode : Mode) (book : Book) (l : Listing) (j : ℕ) (o : Outcome) → skips mode ≡ false → ((other : Effect) → slice_get (clean mode book l) j ≡ Some (Done other) → other.status ≡ 0) → slice_get (clean mode book l) j ≡ Some o → is_good o ≡ true
good-kept mode book l j Skipped k well e = absurd (never-skipped mode book l j k e)
good-kept mode book l j Passed k well e = refl
good-kept mode book l j (Done other) k well e = eq-eqb other.status 0 (well other e)

any_lem : (mode : Mode) (book : Book) (l : Listing) (i : ℕ) (effect : Effect) → IsLower l → i < length l.parts → slice_get (clean mode book l) i ≡ Some (Done effect) → effect.status ≡ 0
    → ((j : ℕ) (other : Effect) → is_above l i j ≡ true → slice_get (clean mode book l) j ≡ Some (Done other) → other.status ≡ 0) → EndsWell mode book l i effect
any_lem mode book l i effect low h done ok well =
    elim (cases_Bool (skips mode)) [
      | inl k ↦ left_lem mode book l i effect k low h done ok
      | inr k ↦ record {
        ended = done;
        good = λ j o c e. closure-cases (IsGoodAt (clean mode book l)) l i j (good_here (clean mode book l) i effect done ok) (λ u p q. good-kept mode book l j p k (λ other r. well j other u r) q) c o e;
      }
    ]

pub ends_law_lem : EndsLaw
ends_law_lem = record {
  left = λ mode book l i effect k low h done ok. left_lem mode book l i effect k low h done ok;
  any = λ mode book l i effect low h done ok well. any_lem mode book l i effect low h done ok well;
}

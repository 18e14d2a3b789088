-- A closed part of a valid listing is valid.
use Rattle.std.proofs.Common.{◌≡◌, ℕ, zero, suc, ◌<◌, ◌≤◌, Bool, true, false, cond, List, [], ◌∷◌, map, filter, length, get_or, refl, sym, ap, ◌∙◌, subst, arith, inl, inr, ◌⊎◌, lt_of_le_of_lt}
use Rattle.std.specs.List.{list_any, AllByRecursion}
use Rattle.std.proofs.lemmas.Bool.{cases_Bool, or_cases, or_left, or_right}
use Rattle.std.proofs.lemmas.List.{length-map}
use Rattle.run_core.proofs.Any.{all_both, all_weaker, all-map, any-map}
use Rattle.run_laws.proofs.PickFacts.{shift, rank-lt, rank-true, rank-false, rank-le, length-pick, map-pick}
use Rattle.run_laws.proofs.AncestorFacts.{part-sub, closure-closed}
use Rattle.run_laws.proofs.ClosedParts.{file_at-filter}
use Rattle.run_laws.specs.Ancestors.{part_at, blank, IsLower}
use Rattle.run_laws.specs.Picks.{pick, rank}
use Rattle.run_laws.specs.Closures.{renumbered, names, sub_parts, sub_listing, in_closure, closure, IsClosed}
use Rattle.spawn_dev.specs.Orders.{IsAscending}
use Rattle.run_laws.specs.Valid.{IsOrderedPart, IsOrdered, IsValid}
use Rattle.listing.specs.declared.part.Part.{Part}
use Rattle.listing.specs.declared.part.Listing.{Listing}
use Rattle.codes.specs.Codes.{Each, IsWord}
use Rattle.listing.specs.KeyText.{PartFits, Fits}

all-filter : {X : Type 0} (P : X → Type 0) (t : X → Bool) (xs : List X) → AllByRecursion P xs → AllByRecursion P (filter t xs)
all-filter P t [] a = tt
all-filter P t (x ∷ xs) a = elim (t x) as (λ b. AllByRecursion P (cond b (x ∷ filter t xs) (filter t xs))) [ true ↦ (a.0, all-filter P t xs a.1) | false ↦ all-filter P t xs a.1 ]

ascending-filter : {X : Type 0} (R : X → X → Type 0) (t : X → Bool) (xs : List X) → IsAscending R xs → IsAscending R (filter t xs)
ascending-filter R t [] a = tt
ascending-filter R t (x ∷ xs) a =
    elim (t x) as (λ b. IsAscending R (cond b (x ∷ filter t xs) (filter t xs))) [ true ↦ (all-filter (R x) t xs a.0, ascending-filter R t xs a.1) | false ↦ ascending-filter R t xs a.1 ]

filter_holds : {X : Type 0} (t : X → Bool) (xs : List X) → AllByRecursion (λ x. t x ≡ true) (filter t xs)
filter_holds t [] = tt
filter_holds t (x ∷ xs) = elim (cases_Bool (t x)) [ inl k ↦ rw k (k, filter_holds t xs) | inr k ↦ rw k (filter_holds t xs) ]

length-filter_le : {X : Type 0} (t : X → Bool) (xs : List X) → length (filter t xs) ≤ length xs
length-filter_le t [] = omega arith
length-filter_le t (x ∷ xs) =
    elim (t x) as (λ b. length (cond b (x ∷ filter t xs) (filter t xs)) ≤ suc (length xs)) [ true ↦ omega (arith, length-filter_le t xs) | false ↦ omega (arith, length-filter_le t xs) ]

pub any-pick_all : {X : Type 0} (t : X → Bool) (keep : ℕ → Bool) (xs : List X) → list_any t (pick keep xs) ≡ true → list_any t xs ≡ true
any-pick_all t keep [] h = h
any-pick_all t keep (x ∷ xs) h =
    elim (cases_Bool (keep zero)) [
      | inl k ↦ elim (or_cases (t x) (list_any t (pick (shift keep) xs)) (rw k at h)) [ inl u ↦ or_left (t x) (list_any t xs) u | inr u ↦ or_right (t x) (list_any t xs) (any-pick_all t (shift keep) xs u) ]
      | inr k ↦ or_right (t x) (list_any t xs) (any-pick_all t (shift keep) xs (rw k at h))
    ]

-- what holds of each element that is kept
pub all-pick : {X : Type 0} (P : X → Type 0) (keep : ℕ → Bool) (d : X) (xs : List X) → ((i : ℕ) → keep i ≡ true → i < length xs → P (get_or xs i d)) → AllByRecursion P (pick keep xs)
all-pick P keep d [] each = tt
all-pick P keep d (x ∷ xs) each =
    let rest = all-pick P (shift keep) d xs (λ i k l. each (suc i) k (omega arith)) in
    elim (cases_Bool (keep zero)) [ inl k ↦ rw k (each zero k (omega arith), rest) | inr k ↦ rw k rest ]

pub all-get_or : {X : Type 0} (P : X → Type 0) (xs : List X) (i : ℕ) (d : X) → AllByRecursion P xs → i < length xs → P (get_or xs i d)
all-get_or P [] i d a l = absurd (omega arith)
all-get_or P (x ∷ xs) zero d a l = a.0
all-get_or P (x ∷ xs) (suc i) d a l = all-get_or P xs i d a.1 (omega arith)

-- each place of a pick is that of a kept place, or past the end
unrank : {X : Type 0} (keep : ℕ → Bool) (xs : List X) (n : ℕ) (d : X) → (get_or (pick keep xs) n d ≡ d) ⊎ ((i : ℕ) × (keep i ≡ true) × (rank keep i ≡ n))
unrank keep [] n d = inl refl
unrank keep (x ∷ xs) n d =
    elim (cases_Bool (keep zero)) [
      | inl k ↦ elim n as (λ m. (get_or (pick keep (x ∷ xs)) m d ≡ d) ⊎ ((i : ℕ) × (keep i ≡ true) × (rank keep i ≡ m))) [
        | zero ↦ inr (zero, k, refl)
        | suc m ↦ elim (unrank (shift keep) xs m d) [ inl e ↦ inl (rw k e) | inr w ↦ inr (suc w.0, w.1, rank-true keep w.0 k ∙ ap suc w.2) ]
      ]
      | inr k ↦ elim (unrank (shift keep) xs n d) [ inl e ↦ inl (rw k e) | inr w ↦ inr (suc w.0, w.1, rank-false keep w.0 k ∙ w.2) ]
    ]

lower-sub : (l : Listing) (keep : ℕ → Bool) → IsLower l → IsClosed l keep → IsLower (sub_listing l keep)
lower-sub l keep low closed n =
    elim (unrank keep (map (renumbered keep) l.parts) n blank) [
      | inl e ↦ let q : part_at (sub_listing l keep) n ≡ blank = ap (λ ps. get_or ps n blank) (map-pick (renumbered keep) keep l.parts) ∙ e in rw q tt
      | inr w ↦
          subst (λ m. AllByRecursion (λ d. d < m) (part_at (sub_listing l keep) m).deps) w.2
          (rw (part-sub l keep w.0 w.1)
          (all-map _ (rank keep) (part_at l w.0).deps
          (all_weaker _ _ (λ d b. rank-lt keep d w.0 b.1 b.0) (part_at l w.0).deps (all_both (λ d. d < w.0) (λ d. keep d ≡ true) (part_at l w.0).deps (low w.0) (closed w.0 w.1)))))
    ]

ascending-rank : (keep : ℕ → Bool) (ds : List ℕ) → AllByRecursion (λ d. keep d ≡ true) ds → IsAscending (λ a b. a < b) ds → IsAscending (λ a b. a < b) (map (rank keep) ds)
ascending-rank keep [] k a = tt
ascending-rank keep (d ∷ ds) k a = (all-map _ (rank keep) ds (all_weaker _ _ (λ e l. rank-lt keep d e k.0 l) ds a.0), ascending-rank keep ds k.1 a.1)

ordered_part-sub : (l : Listing) (keep : ℕ → Bool) → IsClosed l keep → AllByRecursion IsOrderedPart l.parts → (i : ℕ) → keep i ≡ true → i < length l.parts → IsOrderedPart (renumbered keep (part_at l i))
ordered_part-sub l keep closed ordered i k h =
    let part = all-get_or IsOrderedPart l.parts i blank ordered h in
    record {
      home = part.home;
      inputs = part.inputs;
      deps = ascending-rank keep (part_at l i).deps (closed i k) part.deps;
    }

pub ordered-sub : (l : Listing) (keep : ℕ → Bool) → IsClosed l keep → IsOrdered l → IsOrdered (sub_listing l keep)
ordered-sub l keep closed v = record {
  ascend = ascending-filter _ _ l.files v.ascend;
  named = filter_holds _ l.files;
  present = λ path m. rw (file_at-filter (names (sub_parts l keep)) l.files path m) (v.present path (any-pick_all _ keep l.parts (sym (any-map _ (renumbered keep) (pick keep l.parts)) ∙ m)));
  lower = lower-sub l keep v.lower closed;
  parts = all-map IsOrderedPart (renumbered keep) (pick keep l.parts) (all-pick _ keep blank l.parts (ordered_part-sub l keep closed v.parts));
}

-- ---- what a key text can tell

each-filter : {X : Type 0} (P : X → Type 0) (t : X → Bool) (xs : List X) → Each P xs → Each P (filter t xs)
each-filter P t [] a = tt
each-filter P t (x ∷ xs) a = elim (t x) as (λ b. Each P (cond b (x ∷ filter t xs) (filter t xs))) [ true ↦ (a.0, each-filter P t xs a.1) | false ↦ each-filter P t xs a.1 ]

each-pick : {X : Type 0} (P : X → Type 0) (keep : ℕ → Bool) (xs : List X) → Each P xs → Each P (pick keep xs)
each-pick P keep [] a = tt
each-pick P keep (x ∷ xs) a = elim (keep zero) as (λ b. Each P (cond b (x ∷ pick (shift keep) xs) (pick (shift keep) xs))) [ true ↦ (a.0, each-pick P (shift keep) xs a.1) | false ↦ each-pick P (shift keep) xs a.1 ]

each-map : {X Y : Type 0} (P : X → Type 0) (Q : Y → Type 0) (f : X → Y) → ((x : X) → P x → Q (f x)) → (xs : List X) → Each P xs → Each Q (map f xs)
each-map P Q f gives [] a = tt
each-map P Q f gives (x ∷ xs) a = (gives x a.0, each-map P Q f gives xs a.1)

part_fits-sub : (keep : ℕ → Bool) (part : Part) → PartFits part → PartFits (renumbered keep part)
part_fits-sub keep part fits = record {
  «package» = fits.package;
  folder = fits.folder;
  task = fits.task;
  scripts = fits.scripts;
  args = fits.args;
  outs = fits.outs;
  env = fits.env;
  inputs = fits.inputs;
  externals = fits.externals;
  deps = record {
    short = rw (length-map part.deps (rank keep)) fits.deps.short;
    each = each-map IsWord IsWord (rank keep) (λ d w. lt_of_le_of_lt (rank-le keep d) w) part.deps fits.deps.each;
  };
}

pub fits-sub : (l : Listing) (keep : ℕ → Bool) → Fits l → Fits (sub_listing l keep)
fits-sub l keep fits = record {
  files = record {
    short = lt_of_le_of_lt (length-filter_le _ l.files) fits.files.short;
    each = each-filter _ _ l.files fits.files.each;
  };
  parts = record {
    short = lt_of_le_of_lt (rw (length-map (pick keep l.parts) (renumbered keep), length-pick keep l.parts) (rank-le keep (length l.parts))) fits.parts.short;
    each = each-map PartFits PartFits (renumbered keep) (part_fits-sub keep) (pick keep l.parts) (each-pick PartFits keep l.parts fits.parts.each);
  };
}

pub closure_is_ordered_lem : (l : Listing) (i : ℕ) → IsOrdered l → IsOrdered (closure l i)
closure_is_ordered_lem l i v = ordered-sub l (in_closure l i) (closure-closed l i v.lower) v

pub closure_is_valid_lem : (l : Listing) (i : ℕ) → IsValid l → IsValid (closure l i)
closure_is_valid_lem l i v = record { ordered = closure_is_ordered_lem l i v.ordered; fits = fits-sub l (in_closure l i) v.fits }

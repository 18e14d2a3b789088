-- What is counted of each task.
use Rattle.std.proofs.Common.{◌≡◌, ◌≢◌, ◌==◌, ◌&&◌, ◌||◌, ◌⊎◌, inl, inr, ◌+◌, ◌<◌, ℕ, zero, suc, Bool, true, false, cond, not, List, [], ◌∷◌, ◌++◌, length, get_or, set, map, refl, sym, ap, ◌∙◌, subst, arith, eqb, nat_lt, count_by, get_or-set_same, get_or-set_other}
use Rattle.std.specs.List.{list_all}
use Rattle.std.specs.Ordering.{nat_cmp, is_eq}
use Rattle.std.specs.BTreeMap.{is_at}
use Rattle.std.specs.declared.cmp.Ordering.{Ordering}
use Rattle.std.specs.declared.cmp.Ordering.TheVariants.{Less, Equal, Greater}
use Rattle.std.proofs.lemmas.Cmp.{tied_itself, nat_cmp_total}
use Rattle.std.proofs.lemmas.List.Sums.{sum_by-cons}
use Rattle.std.proofs.lemmas.Bool.Decides.{eqb_tells, nat_tests}
use Rattle.workspaces.specs.Lists.{places}
use Rattle.workspaces.specs.Reach.{is_in}
use Rattle.task_graph.specs.declared.slots.Slot.{Slot}
use Rattle.task_graph.specs.Sorting.{Fits, slot_at, no_slot, settled}
use Rattle.workspaces.proofs.Marking.{in_more}
use Rattle.workspaces.proofs.Lists.{nat_tied}

abbrev pub first_slot : List ℕ → Slot
first_slot row = record { unmet = length row; places = [] }

all_count : (row : List ℕ) → count_by (λ d. not (is_in [] d)) row ≡ length row
all_count [] = refl
all_count (d ∷ row) = sum_by-cons (λ x. cond (not (is_in [] x)) 1 0) d row ∙ (let more = all_count row in omega (arith, more))

-- nothing is in the order
pub fits_first : (rows : List (List ℕ)) (n : ℕ) → Fits rows [] n (slot_at (map first_slot rows) n)
unfolding places
fits_first [] n = record { unmet = refl; places = refl }
fits_first (row ∷ rows) zero = record { unmet = sym (all_count row); places = refl }
fits_first (row ∷ rows) (suc n) = let more = fits_first rows n in record { unmet = more.unmet; places = more.places }

-- ---- tests of numbers

pub at_number : (a b : ℕ) → is_at (nat_cmp a) b ≡ (a == b)
at_number a b = by (eqb_tells a b) where
  apart : a ≢ b → (r : Ordering) → nat_cmp a b ≡ r → is_eq r ≡ false
  apart other Less e = refl
  apart other Equal e = absurd (other (nat_tied a b e))
  apart other Greater e = refl

  by : ((eqb a b ≡ true) × (a ≡ b)) ⊎ ((eqb a b ≡ false) × (a ≢ b)) → is_at (nat_cmp a) b ≡ (a == b)
  by (inl same) = ap is_eq (subst (λ w. nat_cmp a w ≡ Equal) same.1 (tied_itself nat_cmp_total a)) ∙ sym same.0
  by (inr other) = apart other.1 (nat_cmp a b) refl ∙ sym other.0

below_next : (n i : ℕ) → n ≢ i → nat_lt n (i + 1) ≡ nat_lt n i
below_next n i apart = grind (arith, nat_tests, apart)

below_itself : (i : ℕ) → nat_lt i (i + 1) ≡ true
below_itself i = grind (arith, nat_tests)

not_below : (i : ℕ) → nat_lt i i ≡ false
not_below i = grind (arith, nat_tests)

module _ (test : ℕ → Bool) (n i : ℕ) (old : Bool) (before : old ≡ (nat_lt n i && test n)) where
  pub ready_more : test i ≡ true → cond (is_at (nat_cmp i) n) true old ≡ (nat_lt n (i + 1) && test n)
  ready_more is = rw (at_number i n) (by (eqb_tells i n)) where
    by : ((eqb i n ≡ true) × (i ≡ n)) ⊎ ((eqb i n ≡ false) × (i ≢ n)) → cond (i == n) true old ≡ (nat_lt n (i + 1) && test n)
    by (inl same) = rw (same.0, ← same.1, below_itself i, is) refl
    by (inr other) = rw (other.0, below_next n i (λ e. other.1 (sym e))) before

  pub ready_same : test i ≡ false → old ≡ (nat_lt n (i + 1) && test n)
  ready_same is = by (eqb_tells i n) where
    none : (t : Bool) → (t && false) ≡ false
    none true = refl
    none false = refl

    by : ((eqb i n ≡ true) × (i ≡ n)) ⊎ ((eqb i n ≡ false) × (i ≢ n)) → old ≡ (nat_lt n (i + 1) && test n)
    by (inl same) = let fails : test n ≡ false = subst (λ w. test w ≡ false) same.1 is in before ∙ rw fails (none (nat_lt n i) ∙ sym (none (nat_lt n (i + 1))))
    by (inr other) = before ∙ ap (λ t. t && test n) (sym (below_next n i (λ e. other.1 (sym e))))

-- ---- slots by their places

pub slot-get : (slots : List Slot) (at : ℕ) (d : Slot) → at < length slots → get_or slots at d ≡ slot_at slots at
slot-get [] at d less = absurd (omega arith)
slot-get (slot ∷ slots) zero d less = refl
slot-get (slot ∷ slots) (suc at) d less = slot-get slots at d (omega arith)

pub settled_more : (users : List ℕ) (at place : ℕ) (old now : List Slot) (new : Slot) → at < length now → new ≡ settled place (slot_at old at)
    → ((n : ℕ) → slot_at now n ≡ cond (is_in users n) (settled place (slot_at old n)) (slot_at old n))
    → (n : ℕ) → slot_at (set now at new) n ≡ cond (is_in (users ++ at ∷ []) n) (settled place (slot_at old n)) (slot_at old n)
settled_more users at place old now new less is before n = rw (in_more users at n) (by (eqb_tells at n)) where
  or_true : (t : Bool) → (t || true) ≡ true
  or_true true = refl
  or_true false = refl

  or_none : (t : Bool) → (t || false) ≡ t
  or_none true = refl
  or_none false = refl

  by : ((eqb at n ≡ true) × (at ≡ n)) ⊎ ((eqb at n ≡ false) × (at ≢ n)) → slot_at (set now at new) n ≡ cond (is_in users n || (at == n)) (settled place (slot_at old n)) (slot_at old n)
  by (inl same) = rw (same.0, or_true (is_in users n), ← same.1) (get_or-set_same now at new no_slot less ∙ is)
  by (inr other) = rw (other.0, or_none (is_in users n)) (let apart : n ≢ at = λ e. other.1 (sym e) in rw get_or-set_other (before n))

pub all_of_none : (row : List ℕ) → (length row == 0) ≡ true → list_all (is_in []) row ≡ true
all_of_none [] none = refl
all_of_none (d ∷ row) none = absurd (grind (arith, nat_tests, none))

pub none_of_some : (row : List ℕ) → (length row == 0) ≡ false → list_all (is_in []) row ≡ false
none_of_some [] some = absurd (grind (arith, nat_tests, some))
none_of_some (d ∷ row) some = refl

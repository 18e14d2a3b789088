-- The entry of a name is the only one, where names are distinct.
use Rattle.std.proofs.Common.{◌≡◌, ◌&&◌, ◌||◌, ◌↔◌, ◌⊎◌, inl, inr, ℕ, zero, suc, List, [], ◌∷◌, map, Bool, true, false, not, Option, Some, None, is_some, cond, refl, sym, ap, ◌∙◌, arith}
use Rattle.std.specs.Option.{IsNone, option_map}
use Rattle.std.specs.List.{Contains, list_any}
use Rattle.std.proofs.lemmas.Bool.{false≢true}
use Rattle.std.proofs.lemmas.Slice.Eq.{bytes_eq-Decides}
use Rattle.key_table.specs.Entry.{Entry, is_named, are_distinct, entry_named}

contains_first : {X : Type 0} (x y : X) (xs : List X) → x ≡ y → Contains (x ∷ xs) y
contains_first x y xs same = (0, omega arith, same)

contains_later : {X : Type 0} (x y : X) (xs : List X) → Contains xs y → Contains (x ∷ xs) y
contains_later x y xs (k, less, at) = (suc k, omega arith, at)

-- an element is the first one or among the others
contains_cases : {X : Type 0} (x y : X) (xs : List X) → Contains (x ∷ xs) y → (x ≡ y) ⊎ Contains xs y
contains_cases x y xs (zero, less, at) = inl at
contains_cases x y xs (suc k, less, at) = inr (k, omega arith, at)

contains_none : {X : Type 0} (y : X) → Contains [] y → ⊥
contains_none y (k, less, at) = omega arith

either_true : (a b : Bool) → (a ≡ true) ⊎ (b ≡ true) → (a || b) ≡ true
either_true true b known = refl
either_true false b (inl same) = absurd (false≢true same)
either_true false b (inr same) = same

both_true : (a b : Bool) → (not a && b) ≡ true → (a ≡ false) × (b ≡ true)
both_true true b known = absurd (false≢true known)
both_true false b known = (refl, known)

module _ (name : List ℕ) where
  some_named : (entries : List Entry) (entry : Entry) → Contains entries entry → entry.name ≡ name → list_any (is_named name) entries ≡ true
  some_named [] entry among same = absurd (contains_none entry among)
  some_named (first ∷ entries) entry among same = by (contains_cases first entry entries among) (some_named entries entry) where
    by : (first ≡ entry) ⊎ Contains entries entry → (Contains entries entry → entry.name ≡ name → list_any (is_named name) entries ≡ true) → list_any (is_named name) (first ∷ entries) ≡ true
    by (inl here) rest = either_true _ _ (inl ((bytes_eq-Decides first.name name).1 (ap (λ e. e.name) here ∙ same)))
    by (inr later) rest = either_true (is_named name first) _ (inr (rest later same))

  entry_named_is : (entries : List Entry) (entry : Entry) → entry_named name entries ≡ Some entry → Contains entries entry × (entry.name ≡ name)
  entry_named_is [] entry found = absurd (cc)
  entry_named_is (first ∷ entries) entry found = by (is_named name first) refl found (entry_named_is entries entry) where
    by : (here : Bool) → is_named name first ≡ here → cond here (Some first) (entry_named name entries) ≡ Some entry
        → (entry_named name entries ≡ Some entry → Contains entries entry × (entry.name ≡ name)) → Contains (first ∷ entries) entry × (entry.name ≡ name)
    by true is at rest =
        let same : first ≡ entry = cc in
        (contains_first first entry entries same, ap (λ e. e.name) (sym same) ∙ (bytes_eq-Decides first.name name).0 is)
    by false is at rest = (contains_later first entry entries (rest at).0, (rest at).1)

  is_entry_named : (entries : List Entry) (entry : Entry) → are_distinct entries ≡ true → Contains entries entry → entry.name ≡ name → entry_named name entries ≡ Some entry
  is_entry_named [] entry distinct among same = absurd (contains_none entry among)
  is_entry_named (first ∷ entries) entry distinct among same = by (is_named name first) refl (contains_cases first entry entries among) (is_entry_named entries entry apart.1) where
    apart : (list_any (is_named first.name) entries ≡ false) × (are_distinct entries ≡ true)
    apart = both_true _ _ distinct

    twice : is_named name first ≡ true → Contains entries entry → ⊥
    twice is later =
        let named : first.name ≡ name = (bytes_eq-Decides first.name name).0 is in
        false≢true (sym apart.0 ∙ ap (λ n. list_any (is_named n) entries) named ∙ some_named entries entry later same)

    by : (here : Bool) → is_named name first ≡ here → (first ≡ entry) ⊎ Contains entries entry
        → (Contains entries entry → entry.name ≡ name → entry_named name entries ≡ Some entry) → cond here (Some first) (entry_named name entries) ≡ Some entry
    by true is (inl here) rest = ap Some here
    by true is (inr later) rest = absurd (twice is later)
    by false is (inl here) rest = absurd (false≢true (sym is ∙ (bytes_eq-Decides first.name name).1 (ap (λ e. e.name) here ∙ same)))
    by false is (inr later) rest = rest later same

  -- the entry of a name, exactly
  pub entry_named_exact : (entries : List Entry) → are_distinct entries ≡ true → (entry : Entry) → (entry_named name entries ≡ Some entry) ↔ (Contains entries entry × (entry.name ≡ name))
  entry_named_exact entries distinct entry = (entry_named_is entries entry, λ both. is_entry_named entries entry distinct both.0 both.1)

  none_named : (entries : List Entry) → IsNone (entry_named name entries) → Contains (map (λ e. e.name) entries) name → ⊥
  none_named [] none among = contains_none name among
  none_named (first ∷ entries) none among = by (is_named name first) refl none (contains_cases first.name name (map (λ e. e.name) entries) among) (none_named entries) where
    by : (here : Bool) → is_named name first ≡ here → is_some (cond here (Some first) (entry_named name entries)) ≡ false → (first.name ≡ name) ⊎ Contains (map (λ e. e.name) entries) name
        → (IsNone (entry_named name entries) → Contains (map (λ e. e.name) entries) name → ⊥) → ⊥
    by true is some at rest = false≢true (sym some)
    by false is some (inl here) rest = false≢true (sym is ∙ (bytes_eq-Decides first.name name).1 here)
    by false is some (inr later) rest = rest some later

  named_none : (entries : List Entry) → (Contains (map (λ e. e.name) entries) name → ⊥) → IsNone (entry_named name entries)
  named_none [] none = refl
  named_none (first ∷ entries) none = by (is_named name first) refl (named_none entries (λ later. none (contains_later first.name name (map (λ e. e.name) entries) later))) where
    by : (here : Bool) → is_named name first ≡ here → IsNone (entry_named name entries) → is_some (cond here (Some first) (entry_named name entries)) ≡ false
    by true is rest = absurd (none (contains_first first.name name (map (λ e. e.name) entries) ((bytes_eq-Decides first.name name).0 is)))
    by false is rest = rest

  -- no entry of the name, exactly
  pub none_named_exact : (entries : List Entry) → IsNone (entry_named name entries) ↔ (¬ Contains (map (λ e. e.name) entries) name)
  none_named_exact entries = (none_named entries, named_none entries)

pub is_some-option_map : {A B : Type 0} (f : A → B) (o : Option A) → is_some (option_map f o) ≡ is_some o
is_some-option_map f None = refl
is_some-option_map f (Some a) = refl

-- Sets before others.
use Rattle.std.proofs.Common.{◌≡◌, ◌==◌, ◌≤◌, ◌∙◌, ℕ, Bool, true, false, length, drop, List, [], ◌∷◌, ◌++◌, Option, Some, None, inl, inr, refl, append_assoc, append-nil, ap, sym}
use Rattle.std.specs.Prelude.{not}
use Rattle.std.specs.List.{slice_split}
use Rattle.std.proofs.lemmas.List.{drop_all}
use Rattle.npm_range.specs.declared.error.RangeErr.{RangeErr}
use Rattle.npm_range.specs.Limits.{Bound}
use Rattle.npm_range.specs.Grammar.{one_more, range, set, sets}
use Rattle.npm_range.specs.Refusal.{MayRefuse}
use Rattle.npm_range.proofs.Sets.{nothing}

-- these sets, and those to come, where they can be read
abbrev pub before_all : List (List Bound) → Option (List (List Bound)) → Option (List (List Bound))
before_all found None = None
before_all found (Some later) = Some (found ++ later)

pub before_one : (found : List (List Bound)) (set : List Bound) (later : Option (List (List Bound))) → before_all found (one_more (Some set) later) ≡ before_all (found ++ set ∷ []) later
before_one found set None = refl
before_one found set (Some later) = ap Some (sym (append_assoc found (set ∷ []) later))

nothing_before : (later : Option (List (List Bound))) → before_all [] later ≡ later
nothing_before None = refl
nothing_before (Some later) = refl

-- ---- one turn of a walk over pieces

pub sets-set : (text : List ℕ) (found : List (List Bound)) (left later : List (List ℕ)) (piece : List ℕ) (one : List Bound) (is_set : Bool) → left ≡ piece ∷ later → is_set ≡ true
    → range text ≡ before_all found (sets is_set left) → set piece ≡ Some one → range text ≡ before_all (found ++ one ∷ []) (sets (not is_set) later)
sets-set text found left later piece one true e is h read = h ∙ rw (e, read) (before_one found one (sets false later))
sets-set text found left later piece one false e is h read = cc

pub sets-bar : (text : List ℕ) (found : List (List Bound)) (left later : List (List ℕ)) (piece : List ℕ) (is_set : Bool) → left ≡ piece ∷ later → is_set ≡ false
    → range text ≡ before_all found (sets is_set left) → (length piece == 0) ≡ true → range text ≡ before_all found (sets (not is_set) later)
sets-bar text found left later piece true e is h empty = cc
sets-bar text found left later piece false e is h empty = h ∙ rw (e, nothing piece empty) refl

pub sets-refused : (text : List ℕ) (found : List (List Bound)) (left later : List (List ℕ)) (piece : List ℕ) (is_set : Bool) (e : RangeErr) → left ≡ piece ∷ later → is_set ≡ true
    → range text ≡ before_all found (sets is_set left) → MayRefuse (set piece) e → MayRefuse (range text) e
sets-refused text found left later piece true e same is h (inl memory) = inl memory
sets-refused text found left later piece true e same is h (inr none) = inr (none.0, h ∙ rw (same, none.1) refl)
sets-refused text found left later piece false e same is h refused = cc

some_step : (piece : List ℕ) (later : List (List ℕ)) → (length piece == 0) ≡ false → sets false (piece ∷ later) ≡ None
some_step [] later h = cc
some_step (b ∷ piece) later h = refl

pub sets-other : (text : List ℕ) (found : List (List Bound)) (left later : List (List ℕ)) (piece : List ℕ) (is_set : Bool) → left ≡ piece ∷ later → is_set ≡ false
    → range text ≡ before_all found (sets is_set left) → (length piece == 0) ≡ false → range text ≡ None
sets-other text found left later piece true e is h some = cc
sets-other text found left later piece false e is h some = h ∙ rw (e, some_step piece later some) refl

-- ---- and its end

pub sets-open : (text : List ℕ) (found : List (List Bound)) (pieces : List (List ℕ)) (n : ℕ) (is_set : Bool) → length pieces ≤ n → is_set ≡ true → range text ≡ before_all found (sets is_set (drop n pieces)) → range text ≡ None
sets-open text found pieces n true over is h = h ∙ rw (drop_all n pieces over) refl
sets-open text found pieces n false over is h = cc

pub sets-done : (text : List ℕ) (found : List (List Bound)) (pieces : List (List ℕ)) (n : ℕ) (is_set : Bool) → length pieces ≤ n → is_set ≡ false → range text ≡ before_all found (sets is_set (drop n pieces)) → range text ≡ Some found
sets-done text found pieces n true over is h = cc
sets-done text found pieces n false over is h = h ∙ rw (drop_all n pieces over) (ap Some (append-nil found))

pub sets-first : (text : List ℕ) (found : List (List Bound)) → found ≡ [] → range text ≡ before_all found (sets true (slice_split (λ b. b == 124) text))
unfolding range
sets-first text found empty = rw empty (sym (nothing_before (sets true (slice_split (λ b. b == 124) text))))

-- The text that stands by a name.
use Rattle.std.proofs.Common.{◌≡◌, ℕ, zero, suc, ◌+◌, ◌<◌, Bool, true, false, cond, List, [], ◌∷◌, ◌++◌, length, get_or, take, refl, sym, ap, ◌∙◌, arith}
use Rattle.std.specs.Prelude.{Some, None, bytes_eq}
use Rattle.std.proofs.lemmas.List.{take_more}
use Rattle.workspaces.specs.Edges.{text_by}

pub text_at : (name : List ℕ) (pairs : List (List ℕ × List ℕ)) (i : ℕ) (pair : List ℕ × List ℕ) → i < length pairs → pair ≡ get_or pairs i pair → text_by name (take i pairs) ≡ None → bytes_eq pair.0 name ≡ true → Some pair.1 ≡ text_by name pairs
text_at name [] i pair lt is none t = absurd (omega arith)
text_at name (x ∷ pairs) zero pair lt is none t = rw (ap (λ (p : List ℕ × List ℕ). bytes_eq p.0 name) (sym is) ∙ t) (ap (λ (p : List ℕ × List ℕ). Some p.1) is)
text_at name (x ∷ pairs) (suc i) pair lt is none t = by (bytes_eq x.0 name) none (λ e. text_at name pairs i pair (omega arith) is e t) where
  by : (b : Bool) → cond b (Some x.1) (text_by name (take i pairs)) ≡ None → (text_by name (take i pairs) ≡ None → Some pair.1 ≡ text_by name pairs) → Some pair.1 ≡ cond b (Some x.1) (text_by name pairs)
  by true e more = cc
  by false e more = more e

text_push : (name : List ℕ) (pairs : List (List ℕ × List ℕ)) (pair : List ℕ × List ℕ) → text_by name pairs ≡ None → bytes_eq pair.0 name ≡ false → text_by name (pairs ++ pair ∷ []) ≡ None
text_push name [] pair none t = rw t refl
text_push name (x ∷ pairs) pair none t = by (bytes_eq x.0 name) none (λ e. text_push name pairs pair e t) where
  by : (b : Bool) → cond b (Some x.1) (text_by name pairs) ≡ None → (text_by name pairs ≡ None → text_by name (pairs ++ pair ∷ []) ≡ None) → cond b (Some x.1) (text_by name (pairs ++ pair ∷ [])) ≡ None
  by true e more = cc
  by false e more = more e

pub text_after : (name : List ℕ) (pairs : List (List ℕ × List ℕ)) (i : ℕ) (pair : List ℕ × List ℕ) → i < length pairs → pair ≡ get_or pairs i pair → text_by name (take i pairs) ≡ None → bytes_eq pair.0 name ≡ false → text_by name (take (i + 1) pairs) ≡ None
text_after name pairs i pair lt is none t = ap (text_by name) (take_more pairs i pair lt) ∙ text_push name (take i pairs) (get_or pairs i pair) none (ap (λ (p : List ℕ × List ℕ). bytes_eq p.0 name) (sym is) ∙ t)

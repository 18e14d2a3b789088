-- Several facts of one result.
use Rattle.std.specs.Prelude.{Result, Ok, Err, Option, Some, None, IfOk, IfSome, OnOk}

module _ {X E : Type 0} where
  pub both_ok : (r : Result X E) (A : Type 0) (P Q : X → Type 0) → (A → (x : X) → P x → Q x)
      → OnOk r A → IfOk r P → IfOk r Q
  both_ok (Ok x) A P Q to a p = to a x p
  both_ok (Err e) A P Q to a p = tt

  pub all_ok : (r : Result X E) (P Q : X → Type 0) → IfOk r P → IfOk r Q → IfOk r (λ x. P x × Q x)
  all_ok (Ok x) P Q p q = (p, q)
  all_ok (Err e) P Q p q = tt

-- a fact of what was found, under a premise that stands outside
pub found_told : {X E T : Type 0} (r : Result (Option X) E) (P : X → Type 0)
    → (T → IfOk r (λ o. IfSome o P)) → IfOk r (λ o. IfSome o (λ x. T → P x))
found_told (Ok (Some x)) P told = told
found_told (Ok None) P told = tt
found_told (Err e) P told = tt

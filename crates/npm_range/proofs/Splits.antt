-- One turn of a loop over a list.
use Rattle.std.proofs.Common.{◌≡◌, ◌∙◌, ◌+◌, ◌<◌, ℕ, List, [], ◌∷◌, ◌++◌, length, take, drop, get_or, refl, sym, ap}
use Rattle.std.proofs.lemmas.List.{take_more, drop_more}

pub turn : {X : Type 0} (all : List X) (n : ℕ) (x : X) → (n < length all) × (x ≡ get_or all n x) → (take (n + 1) all ≡ take n all ++ x ∷ []) × (drop n all ≡ x ∷ drop (n + 1) all)
turn all n x h =
    let e = sym h.1 in
    (take_more all n x h.0 ∙ ap (λ y. take n all ++ y ∷ []) e, drop_more all n x h.0 ∙ ap (λ y. y ∷ drop (n + 1) all) e)

-- One turn of a loop over a list.
use Rattle.std.proofs.Common.{◌≡◌, ◌<◌, ◌+◌, ℕ, List, ◌∷◌, length, get_or, drop, sym, ◌∙◌, ap}
use Rattle.std.proofs.lemmas.List.{drop_more}

-- the item is the next one
pub turn : {X : Type 0} (all : List X) (n : ℕ) (x : X) → (n < length all) × (x ≡ get_or all n x) → drop n all ≡ x ∷ drop (n + 1) all
turn all n x h = drop_more all n x h.0 ∙ ap (λ y. y ∷ drop (n + 1) all) (sym h.1)

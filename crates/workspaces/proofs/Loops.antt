-- One turn of a loop over a list, from the front and from the back.
use Rattle.std.proofs.Common.{◌≡◌, ◌<◌, ◌+◌, ℕ, List, [], ◌∷◌, ◌++◌, length, get_or, drop, refl, sym, ◌∙◌, ap, append_assoc}
use Rattle.std.proofs.lemmas.List.{drop_more, drop_at}

-- the item is the next one
pub turn : {X : Type 0} (all : List X) (n : ℕ) (x : X) → (n < length all) × (x ≡ get_or all n x) → drop n all ≡ x ∷ drop (n + 1) all
turn all n x h = drop_more all n x h.0 ∙ ap (λ y. y ∷ drop (n + 1) all) (sym h.1)

-- the item is the last of those that are left
pub one_earlier : {X : Type 0} (all rest earlier : List X) (x : X) → rest ≡ earlier ++ x ∷ [] → all ≡ rest ++ drop (length rest) all → (drop (length earlier) all ≡ x ∷ drop (length rest) all) × (all ≡ earlier ++ drop (length earlier) all)
one_earlier all rest earlier x last e =
    let later = drop (length rest) all in
    let whole : all ≡ earlier ++ x ∷ later = e ∙ ap (λ front. front ++ later) last ∙ append_assoc earlier (x ∷ []) later in
    let back : drop (length earlier) all ≡ x ∷ later = ap (drop (length earlier)) whole ∙ drop_at earlier (x ∷ later) (length earlier) refl in
    (back, rw back whole)

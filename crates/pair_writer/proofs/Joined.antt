-- Lists that were joined, cut again.
use Rattle.std.proofs.Common.{◌≡◌, ℕ, ◌<◌, List, [], ◌∷◌, map, length, take, drop, get_or, refl, sym, ◌∙◌, ap, arith}
use Rattle.std.specs.List.{flat_map, sum}
use Rattle.std.proofs.lemmas.List.{map-append, length-map, get_or-map, take_at, drop_at}
use Rattle.std.proofs.lemmas.List.Sums.{sum-map}
use Rattle.std.proofs.lemmas.List.Concat.{length-flat_map}
use Rattle.pair_writer.specs.Joined.{cut_by}

pub counts_sum : {A B : Type 0} (f : A → List B) (xs : List A)
    → sum (map (λ x. length (f x)) xs) ≡ length (flat_map f xs)
counts_sum f xs = sum-map (λ x. length (f x)) xs ∙ sym (length-flat_map f xs)

-- what was made of each item stands in the list of its own
pub cut_again : {A B C : Type 0} (f : A → List B) (h : B → C) (xs : List A)
    → cut_by (map (λ x. length (f x)) xs) (map h (flat_map f xs)) ≡ map (λ x. map h (f x)) xs
cut_again f h [] = refl
cut_again {A} {B} {C} f h (x ∷ xs) =
    let own = map h (f x) in
    let rest = map h (flat_map f xs) in
    let n = length (f x) in
    let counts = map (λ (y : A). length (f y)) xs in
    let both = map-append h (f x) (flat_map f xs) in
    let same = length-map (f x) h in
    (λ i. take n (both i) ∷ cut_by counts (drop n (both i)))
    ∙ (λ i. take_at own rest n same i ∷ cut_by counts (drop_at own rest n same i))
    ∙ ap (λ (l : List (List C)). own ∷ l) (cut_again f h xs)

-- the list with the number of an item, where there is one for each
pub own_list : {A V B : Type 0} (items : V → B) (f : A → B) (lists : List V) (xs : List A) (n : ℕ)
    (x : A) (list : V) → map items lists ≡ map f xs → (n < length xs) × (x ≡ get_or xs n x)
    → list ≡ get_or lists n list → items list ≡ f x
own_list items f lists xs n x list are at is =
    let inside : n < length lists =
    omega (arith, ap length are, length-map lists items, length-map xs f, at.0) in
    ap items is
    ∙ sym (get_or-map items lists n list (items list) inside)
    ∙ ap (λ l. get_or l n (items list)) are
    ∙ get_or-map f xs n x (items list) at.0
    ∙ ap f (sym at.1)

-- `each_then` is a product: it joins any way, and the list of nothing alone leaves the other as it is.
use Rattle.std.proofs.Common.{◌≡◌, List, [], ◌∷◌, ◌++◌, map, refl, sym, ◌∙◌, ap, append_assoc}
use Rattle.std.proofs.lemmas.List.{map-append}
use Rattle.std.proofs.lemmas.Grind.{flat_map-append}
use Rattle.glob_syntax.specs.declared.token.Token.{Token}
use Rattle.glob_syntax.specs.Pieces.{each_then}

append_nil : (xs : List Token) → xs ++ [] ≡ xs
append_nil [] = refl
append_nil (x ∷ xs) = ap (λ (rest : List Token). x ∷ rest) (append_nil xs)

lines_nil : (xs : List (List Token)) → xs ++ [] ≡ xs
lines_nil [] = refl
lines_nil (x ∷ xs) = ap (λ (rest : List (List Token)). x ∷ rest) (lines_nil xs)

map_id : (xs : List (List Token)) → map (λ (ts : List Token). [] ++ ts) xs ≡ xs
map_id [] = refl
map_id (x ∷ xs) = ap (λ (rest : List (List Token)). x ∷ rest) (map_id xs)

map_map : (x y : List Token) (zs : List (List Token)) → map (λ (ts : List Token). (x ++ y) ++ ts) zs ≡ map (λ (ts : List Token). x ++ ts) (map (λ (ts : List Token). y ++ ts) zs)
map_map x y [] = refl
map_map x y (z ∷ zs) = rw (append_assoc x y z, map_map x y zs) refl

pub each_then-nothing : (xs : List (List Token)) → each_then ([] ∷ []) xs ≡ xs
each_then-nothing xs = lines_nil (map (λ (ts : List Token). [] ++ ts) xs) ∙ map_id xs

pub nothing-each_then : (xs : List (List Token)) → each_then xs ([] ∷ []) ≡ xs
nothing-each_then [] = refl
nothing-each_then (x ∷ xs) = rw (append_nil x, nothing-each_then xs) refl

each_then-map : (x : List Token) (ys zs : List (List Token)) → each_then (map (λ (ts : List Token). x ++ ts) ys) zs ≡ map (λ (ts : List Token). x ++ ts) (each_then ys zs)
each_then-map x [] zs = refl
each_then-map x (y ∷ ys) zs = rw (map_map x y zs, each_then-map x ys zs) (sym (map-append (λ (ts : List Token). x ++ ts) (map (λ (ts : List Token). y ++ ts) zs) (each_then ys zs)))

pub each_then-assoc : (xs ys zs : List (List Token)) → each_then (each_then xs ys) zs ≡ each_then xs (each_then ys zs)
each_then-assoc [] ys zs = refl
each_then-assoc (x ∷ xs) ys zs = flat_map-append (λ first. map (λ second. first ++ second) zs) (map (λ (ts : List Token). x ++ ts) ys) (each_then xs ys) ∙ rw (each_then-map x ys zs, each_then-assoc xs ys zs) refl

-- one line more
pub each_then-push : (xs : List (List Token)) (x : List Token) (ys : List (List Token)) → each_then (xs ++ x ∷ []) ys ≡ each_then xs ys ++ map (λ (ts : List Token). x ++ ts) ys
each_then-push xs x ys = flat_map-append (λ first. map (λ second. first ++ second) ys) xs (x ∷ []) ∙ ap (λ (rest : List (List Token)). each_then xs ys ++ rest) (lines_nil (map (λ (ts : List Token). x ++ ts) ys))

-- a single part
pub each_then-one : (xs : List (List Token)) (part : List Token) → each_then xs (part ∷ []) ≡ map (λ (line : List Token). line ++ part) xs
each_then-one [] part = refl
each_then-one (x ∷ xs) part = ap (λ (rest : List (List Token)). (x ++ part) ∷ rest) (each_then-one xs part)

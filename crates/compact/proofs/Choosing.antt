-- The pairs that are chosen, from the last to the first.
use Rattle.std.proofs.Common.{◌≡◌, ◌≤◌, ◌<◌, ℕ, zero, suc, ◌+◌, ◌-◌, Bool, true, false, cond, List, [], ◌∷◌, ◌++◌, length, map, drop, get_or, Option, Some, None, refl, sym, ◌∙◌, ap, arith, length-append}
use Rattle.std.specs.Prelude.{◌||◌, filter, reverse, bytes_eq}
use Rattle.std.proofs.lemmas.List.{reverse-append, map-append, drop_more}
use Rattle.std.proofs.lemmas.Slice.Eq.{bytes_eq-Decides}
use Rattle.std.proofs.Math.Seq.{drop-append_seam}
use Rattle.cache_api.specs.Pairs.{Pair}
use Rattle.compact.specs.Chosen.{is_useful, has_key, lasts, last_of, chosen}
use Rattle.compact.specs.Picks.{pair_of, picked, picked_with}

-- ---- keys of those whose key does not stand again later

or_known : (b : Bool) (x y : Bool) → (b ≡ true → y ≡ true) → x ≡ y → x ≡ (b || y)
or_known true x y known is = is ∙ known refl
or_known false x y known is = is

key_by : (b : Bool) (key : List ℕ) (p : Pair) (ps : List Pair) → has_key p.0 ps ≡ b
    → has_key key (lasts ps) ≡ has_key key ps
    → has_key key (cond b (lasts ps) (p ∷ lasts ps)) ≡ has_key key (p ∷ ps)
key_by true key p ps is same =
    or_known (bytes_eq p.0 key) (has_key key (lasts ps)) (has_key key ps)
    (λ e. ap (λ (k : List ℕ). has_key k ps) (sym ((bytes_eq-Decides p.0 key).0 e)) ∙ is) same
key_by false key p ps is same = ap (λ (b : Bool). bytes_eq p.0 key || b) same

-- they have the keys of all
pub has_key-lasts : (key : List ℕ) (ps : List Pair) → has_key key (lasts ps) ≡ has_key key ps
has_key-lasts key [] = refl
has_key-lasts key (p ∷ ps) = key_by (has_key p.0 ps) key p ps refl (has_key-lasts key ps)

-- ---- one pair more in front

-- those worth keeping, of which none is counted off
abbrev pub worthy : List Pair → List Pair
worthy ps = lasts (filter is_useful ps)

with_by : (b : Bool) (p : Pair) (ps : List Pair)
    → cond b (cond (has_key p.0 (worthy ps)) (worthy ps) (p ∷ worthy ps)) (worthy ps)
    ≡ lasts (cond b (p ∷ filter is_useful ps) (filter is_useful ps))
with_by true p ps =
    ap (λ (b : Bool). cond b (worthy ps) (p ∷ worthy ps)) (has_key-lasts p.0 (filter is_useful ps))
with_by false p ps = refl

pub worthy_with : (p : Pair) (ps : List Pair) → picked_with p (worthy ps) ≡ worthy (p ∷ ps)
worthy_with p ps = with_by (is_useful p) p ps

pub worthy_from : (pairs : List Pair) (n : ℕ) (d : Pair) → n < length pairs
    → picked_with (get_or pairs n d) (worthy (drop (n + 1) pairs)) ≡ worthy (drop n pairs)
worthy_from pairs n d lt =
    worthy_with (get_or pairs n d) (drop (n + 1) pairs)
    ∙ ap worthy (sym (drop_more pairs n d lt))

-- ---- all of them end with those of the last pairs

pub record EndsWith (all back : List Pair) : Type 0 where
  pub front : List Pair
  pub is : all ≡ front ++ back

front_by : (b d : Bool) (p : Pair) (ps back : List Pair) → EndsWith (lasts ps) back
    → EndsWith (cond b (cond d (lasts ps) (p ∷ lasts ps)) (lasts ps)) back
front_by true true p ps back x = x
front_by true false p ps back x = record { front = p ∷ x.front; is = ap (λ (l : List Pair). p ∷ l) x.is }
front_by false d p ps back x = x

end_by : (b : Bool) (p : Pair) (ps back : List Pair) → EndsWith (lasts ps) back
    → EndsWith (lasts (cond b (p ∷ ps) ps)) back
end_by true p ps back x = front_by true (has_key p.0 ps) p ps back x
end_by false p ps back x = x

pub worthy_ends : (xs ys : List Pair) → EndsWith (worthy (xs ++ ys)) (worthy ys)
worthy_ends [] ys = record { front = []; is = refl }
worthy_ends (x ∷ xs) ys =
    end_by (is_useful x) x (filter is_useful (xs ++ ys)) (worthy ys) (worthy_ends xs ys)

pub ends_drop : (pairs : List Pair) (n : ℕ) → EndsWith (worthy pairs) (worthy (drop n pairs))
ends_drop pairs zero = record { front = []; is = refl }
ends_drop [] (suc n) = record { front = []; is = refl }
ends_drop (p ∷ pairs) (suc n) =
    end_by (is_useful p) p (filter is_useful pairs) (worthy (drop n pairs)) (ends_drop pairs n)

-- ---- enough of them

last_ends : (all back : List Pair) (n : ℕ) → EndsWith all back → n ≡ length back
    → last_of (Some n) all ≡ back
last_ends all back n x is =
    let at : length all - n ≡ length x.front = omega (arith, ap length x.is, length-append x.front back, is) in
    (λ i. drop (at i) (x.is i)) ∙ drop-append_seam x.front back

-- so many were asked for
pub chosen_some : (pairs : List Pair) (n k : ℕ) → n ≡ length (worthy (drop k pairs))
    → chosen pairs (Some n) ≡ worthy (drop k pairs)
unfolding chosen
chosen_some pairs n k is = last_ends (worthy pairs) (worthy (drop k pairs)) n (ends_drop pairs k) is

-- no more than so many, if a number is asked for
abbrev pub IsAtMost : Option ℕ → ℕ → Type 0
IsAtMost None n = Unit {0}
IsAtMost (Some most) n = n ≤ most

-- and all were looked at
pub chosen_all : (pairs : List Pair) (keep : Option ℕ) → IsAtMost keep (length (worthy pairs))
    → chosen pairs keep ≡ worthy pairs
unfolding chosen
chosen_all pairs None few = refl
chosen_all pairs (Some most) few =
    let none : length (worthy pairs) - most ≡ 0 = omega arith in
    ap (λ (n : ℕ). drop n (worthy pairs)) none

-- ---- by their numbers

pub picked_more : (pairs : List Pair) (numbers : List ℕ) (n : ℕ)
    → picked pairs (numbers ++ n ∷ []) ≡ pair_of pairs n ∷ picked pairs numbers
picked_more pairs numbers n =
    ap reverse (map-append (pair_of pairs) numbers (n ∷ []))
    ∙ reverse-append (map (pair_of pairs) numbers) (pair_of pairs n ∷ [])

reverse_one : {A : Type 0} (x : A) (xs : List A) → reverse (x ∷ xs) ≡ reverse xs ++ x ∷ []
reverse_one x xs = reverse-append (x ∷ []) xs

pub map-reverse : {A B : Type 0} (f : A → B) (xs : List A)
    → map f (reverse xs) ≡ reverse (map f xs)
map-reverse f [] = refl
map-reverse f (x ∷ xs) =
    ap (map f) (reverse_one x xs) ∙ map-append f (reverse xs) (x ∷ [])
    ∙ ap (λ l. l ++ f x ∷ []) (map-reverse f xs) ∙ sym (reverse_one (f x) (map f xs))

-- The outlook of the alternatives, from the back: what one token, one part and one piece change.
use Rattle.std.proofs.Common.{◌≡◌, ◌<◌, ◌≤◌, ◌-◌, ℕ, suc, length, get_or, drop, drop-cons, Bool, true, false, ◌&&◌, ◌||◌, List, [], ◌∷◌, ◌++◌, map, Option, Some, None, refl, sym, ◌∙◌, ap, arith, if◌then◌else◌}
use Rattle.std.specs.List.{onto_first}
use Rattle.glob_syntax.specs.declared.token.Token.{Token}
use Rattle.glob_syntax.specs.declared.climb.Outlook.{Outlook}
use Rattle.glob_syntax.specs.declared.token.Sign.{Sign}
use Rattle.glob_syntax.specs.declared.token.Sign.TheVariants as sign
use Rattle.glob_syntax.specs.Tokens.{is_slash_sign, is_dot}
use Rattle.glob_syntax.specs.Pieces.{each_then, alternatives_of}
use Rattle.glob_syntax.specs.Climbs.{components_of, least, climb_in, climb_among}
use Rattle.glob_syntax.specs.Outlook.{nowhere, is_nothing, is_one_dot, behind_first, outlook_in, either_of, outlook_of, behind_of, before_part, before_parts}

least_none : (a : Option ℕ) → least a None ≡ a
least_none None = refl
least_none (Some a) = refl

least_comm : (a b : Option ℕ) → least a b ≡ least b a
least_comm None b = sym (least_none b)
least_comm (Some a) None = refl
least_comm (Some a) (Some b) = ap Some (omega arith)

least_assoc : (a b c : Option ℕ) → least (least a b) c ≡ least a (least b c)
least_assoc None b c = refl
least_assoc (Some a) None c = refl
least_assoc (Some a) (Some b) None = refl
least_assoc (Some a) (Some b) (Some c) = ap Some (omega arith)

least_self : (a : Option ℕ) → least a a ≡ a
least_self None = refl
least_self (Some a) = ap Some (omega arith)

least_middle : (a b c d : Option ℕ) → least (least a b) (least c d) ≡ least (least a c) (least b d)
least_middle a b c d = least_assoc a b (least c d) ∙ ap (least a) (sym (least_assoc b c d) ∙ ap (λ x. least x d) (least_comm b c) ∙ least_assoc c b d) ∙ sym (least_assoc a c (least b d))

-- ---- tests
or_assoc : (a b c : Bool) → ((a || b) || c) ≡ (a || (b || c))
or_assoc true b c = refl
or_assoc false b c = refl

and_or : (a b c : Bool) → (a && (b || c)) ≡ ((a && b) || (a && c))
and_or true b c = refl
and_or false b c = refl

and_none : (a : Bool) → (a && false) ≡ false
and_none true = refl
and_none false = refl

here_either : (dot a b : Bool) (place : Option ℕ) → (if dot && (a || b) then place else None) ≡ least (if dot && a then place else None) (if dot && b then place else None)
here_either true true true place = sym (least_self place)
here_either true true false place = sym (least_none place)
here_either true false b place = refl
here_either false a b place = refl

-- ---- outlooks
pub either-assoc : (a b c : Outlook) → either_of (either_of a b) c ≡ either_of a (either_of b c)
either-assoc a b c = rw (or_assoc a.any b.any c.any, or_assoc a.ends b.ends c.ends, or_assoc a.dot_ends b.dot_ends c.dot_ends, least_assoc a.begins b.begins c.begins, least_assoc a.goes_on b.goes_on c.goes_on) refl

outlook-append : (xs ys : List (List Token)) → outlook_of (xs ++ ys) ≡ either_of (outlook_of xs) (outlook_of ys)
outlook-append [] ys = refl
outlook-append (x ∷ xs) ys = ap (either_of (outlook_in (components_of x))) (outlook-append xs ys) ∙ sym (either-assoc (outlook_in (components_of x)) (outlook_of xs) (outlook_of ys))

slash_no_dot : (s : Sign) → is_slash_sign s ≡ true → is_dot s ≡ false
slash_no_dot sign.Slash e = refl
slash_no_dot sign.Open e = refl
slash_no_dot sign.Close e = refl
slash_no_dot sign.Comma e = refl
slash_no_dot sign.OpenClass e = refl
slash_no_dot (sign.Atom atom) e = cc

and_some : (a : Bool) → (a && true) ≡ a
and_some true = refl
and_some false = refl

behind-onto : (t : Token) (cs : List (List Token)) → outlook_in (onto_first t cs) ≡ record { any = true; ends = false; dot_ends = is_dot t.sign && is_nothing cs; begins = least (if is_dot t.sign && is_one_dot cs then Some t.at else None) (climb_in (behind_first cs)); goes_on = climb_in (behind_first cs) }
behind-onto t [] = rw (and_none (is_dot t.sign), and_some (is_dot t.sign)) refl
behind-onto t ([] ∷ cs) = rw (and_none (is_dot t.sign), and_some (is_dot t.sign)) refl
behind-onto t ((u ∷ []) ∷ cs) = rw (and_none (is_dot t.sign)) refl
behind-onto t ((u ∷ v ∷ us) ∷ cs) = rw (and_none (is_dot t.sign)) refl

-- the token in front of one alternative
behind-one : (t : Token) (ts : List Token) → outlook_in (components_of (t ∷ ts)) ≡ behind_of t (outlook_in (components_of ts))
behind-one t ts = by (is_slash_sign t.sign) refl
  where
    by : (slash : Bool) → is_slash_sign t.sign ≡ slash → outlook_in (components_of (t ∷ ts)) ≡ behind_of t (outlook_in (components_of ts))
    by true e = let dot = slash_no_dot t.sign e in rw (e, dot) refl
    by false e = rw e (behind-onto t (components_of ts))

map_chosen : (slash : Bool) (a b c d : Option ℕ) → (if slash then least a b else least c d) ≡ least (if slash then a else c) (if slash then b else d)
map_chosen true a b c d = refl
map_chosen false a b c d = refl

behind-none : (t : Token) → behind_of t nowhere ≡ nowhere
behind-none t = by (is_slash_sign t.sign) (is_dot t.sign)
  where
    by : (slash dot : Bool) → ◌≡◌ {A = Outlook} (record { any = false; ends = slash && false; dot_ends = dot && false; begins = least (if dot && false then Some t.at else None) (if slash then None else None); goes_on = if slash then None else None }) nowhere
    by true true = refl
    by true false = refl
    by false true = refl
    by false false = refl

behind-either : (t : Token) (a b : Outlook) → behind_of t (either_of a b) ≡ either_of (behind_of t a) (behind_of t b)
behind-either t a b =
    let slash = is_slash_sign t.sign in
    let dot = is_dot t.sign in
    rw (and_or slash a.any b.any, and_or dot a.ends b.ends, here_either dot a.dot_ends b.dot_ends (Some t.at), map_chosen slash a.begins b.begins a.goes_on b.goes_on, least_middle (if dot && a.dot_ends then Some t.at else None) (if dot && b.dot_ends then Some t.at else None) (if slash then a.begins else a.goes_on) (if slash then b.begins else b.goes_on)) refl

outlook-map : (t : Token) (xs : List (List Token)) → outlook_of (map (λ ts. t ∷ ts) xs) ≡ behind_of t (outlook_of xs)
outlook-map t [] = sym (behind-none t)
outlook-map t (x ∷ xs) = ap (λ o. either_of o (outlook_of (map (λ ts. t ∷ ts) xs))) (behind-one t x) ∙ ap (either_of (behind_of t (outlook_in (components_of x)))) (outlook-map t xs) ∙ sym (behind-either t (outlook_in (components_of x)) (outlook_of xs))

map_id : (xs : List (List Token)) → map (λ (us : List Token). [] ++ us) xs ≡ xs
map_id [] = refl
map_id (x ∷ xs) = ap (λ (rest : List (List Token)). x ∷ rest) (map_id xs)

outlook-part : (part : List Token) (xs : List (List Token)) → outlook_of (map (λ ts. part ++ ts) xs) ≡ before_part part (outlook_of xs)
outlook-part [] xs = ap outlook_of (map_id xs)
outlook-part (t ∷ ts) xs = ap outlook_of (sym (map_map xs)) ∙ outlook-map t (map (λ (us : List Token). ts ++ us) xs) ∙ ap (behind_of t) (outlook-part ts xs)
  where
    map_map : (xs : List (List Token)) → map (λ (us : List Token). t ∷ us) (map (λ (us : List Token). ts ++ us) xs) ≡ map (λ (us : List Token). (t ∷ ts) ++ us) xs
    map_map [] = refl
    map_map (x ∷ xs) = ap (λ (rest : List (List Token)). ((t ∷ ts) ++ x) ∷ rest) (map_map xs)

outlook-parts : (parts xs : List (List Token)) → outlook_of (each_then parts xs) ≡ before_parts parts (outlook_of xs)
outlook-parts [] xs = refl
outlook-parts (part ∷ parts) xs = outlook-append (map (λ ts. part ++ ts) xs) (each_then parts xs) ∙ rw (outlook-part part xs, outlook-parts parts xs) refl

-- one piece more
pub outlook-piece : (parts : List (List Token)) (pieces : List (List (List Token))) → outlook_of (alternatives_of (parts ∷ pieces)) ≡ before_parts parts (outlook_of (alternatives_of pieces))
outlook-piece parts pieces = outlook-parts parts (alternatives_of pieces)

-- the least place of all
pub outlook-begins : (xs : List (List Token)) → (outlook_of xs).begins ≡ climb_among xs
outlook-begins [] = refl
outlook-begins (x ∷ xs) = ap (least (climb_in (components_of x))) (outlook-begins xs)

-- one element more, from the back
pub drop_before : {X : Type 0} (xs : List X) (n : ℕ) (x : X) → 0 < n → n ≤ length xs → x ≡ get_or xs (n - 1) x → drop (n - 1) xs ≡ x ∷ drop n xs
drop_before xs n x some le is =
    let next : suc (n - 1) ≡ n = omega arith in
    let step = drop-cons xs (n - 1) x (omega arith) in
    rw (← is, next) at step

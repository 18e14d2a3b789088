-- Where pairs find room, one behind another.
use Rattle.std.proofs.Common.{◌≡◌, ℕ, ◌+◌, ◌≤◌, Bool, true, false, cond, List, [], ◌∷◌}
use Rattle.std.proofs.Common.{◌++◌, length, map, refl, sym, ◌∙◌, ap, subst, arith, length-append}
use Rattle.std.specs.Prelude.{sum_by}
use Rattle.std.specs.List.{list_all}
use Rattle.std.proofs.lemmas.Bool.{and_from, le-leb}
use Rattle.codes.specs.Codes.{Each}
use Rattle.cache_api.specs.declared.puts.Put.{Put}
use Rattle.cache_api.specs.declared.puts.Put.TheVariants.{Stored, Full}
use Rattle.cache_api.specs.Pairs.{Pair, chosen}
use Rattle.cache_api.specs.Cache.{CacheState, due_in, ample, ArePut, AreToPut, NoRoomFor}
use Rattle.cache_api.specs.Cache.{NoRoomBehind}
use Rattle.pair_frames.proofs.Sizes.{sum_cons}
use Rattle.relay_store.specs.Puts.{Space, need, takes, filled, puts_in, spaces_behind, all_stored}

-- ---- where there is room for all

takes_all : (spaces : List Space) (pair : Pair) → Each (λ space. ample pair ≤ space.room) spaces
    → list_all (takes pair) spaces ≡ true
takes_all [] pair each = refl
takes_all (space ∷ spaces) pair each =
    and_from _ _ (le-leb (need space pair) space.room (omega (arith, each.0)))
    (takes_all spaces pair each.1)

less_each : (spaces : List Space) (a b : ℕ) → b ≤ a → Each (λ space. a ≤ space.room) spaces
    → Each (λ space. b ≤ space.room) spaces
less_each [] a b le each = tt
less_each (space ∷ spaces) a b le each =
    (omega (arith, le, each.0), less_each spaces a b le each.1)

left_each : (spaces : List Space) (pair : Pair) (rest : ℕ)
    → Each (λ space. ample pair + rest ≤ space.room) spaces
    → Each (λ space. rest ≤ space.room) (map (filled pair) spaces)
left_each [] pair rest each = tt
left_each (space ∷ spaces) pair rest each =
    (omega (arith, each.0), left_each spaces pair rest each.1)

pub stores_all : (pairs : List Pair) (spaces : List Space)
    → Each (λ space. sum_by ample pairs ≤ space.room) spaces
    → puts_in spaces pairs ≡ all_stored pairs
stores_all [] spaces each = refl
stores_all (pair ∷ pairs) spaces each =
    let both : Each (λ space. ample pair + sum_by ample pairs ≤ space.room) spaces =
    subst (λ n. Each (λ (space : Space). n ≤ space.room) spaces) (sum_cons ample pair pairs)
    each in
    let here = takes_all spaces pair
    (less_each spaces (ample pair + sum_by ample pairs) (ample pair) (omega arith) both) in
    ap (λ b. cond b (Stored ∷ puts_in (map (filled pair) spaces) pairs)
    (Full ∷ puts_in spaces pairs)) here
    ∙ ap (λ (l : List Put). Stored ∷ l)
    (stores_all pairs (map (filled pair) spaces) (left_each spaces pair (sum_by ample pairs) both))

pub chosen_all : (pairs : List Pair) → chosen pairs (all_stored pairs) ≡ pairs
chosen_all [] = refl
chosen_all (pair ∷ pairs) = ap (λ (l : List Pair). pair ∷ l) (chosen_all pairs)

-- with room for all, nothing else is answered
stored_by : (puts : List Put) (pairs : List Pair) (room taken : ℕ)
    → taken + sum_by ample pairs ≤ room → length puts ≡ length pairs
    → NoRoomBehind room taken pairs puts → puts ≡ all_stored pairs
stored_by [] [] room taken le same none = refl
stored_by (p ∷ puts) [] room taken le same none = absurd (omega (arith, same))
stored_by [] (pair ∷ pairs) room taken le same none = absurd (omega (arith, same))
stored_by (Stored ∷ puts) (pair ∷ pairs) room taken le same none =
    let sum : sum_by ample (pair ∷ pairs) ≡ ample pair + sum_by ample pairs = sum_cons ample pair
    pairs in
    ap (λ (l : List Put). Stored ∷ l)
    (stored_by puts pairs room (taken + ample pair) (omega (arith, le, sum)) (omega (arith, same))
    none)
stored_by (Full ∷ puts) (pair ∷ pairs) room taken le same none =
    let sum : sum_by ample (pair ∷ pairs) ≡ ample pair + sum_by ample pairs = sum_cons ample pair
    pairs in
    absurd (omega (arith, le, none.0, sum))

pub stored_all : {B : Type 0} (state : CacheState B) (puts : List Put) (pairs : List Pair)
    → due_in state ≡ [] → sum_by ample pairs ≤ state.room
    → AreToPut state pairs puts → puts ≡ all_stored pairs
stored_all state puts pairs none le x =
    stored_by puts pairs state.room (sum_by ample (due_in state))
    (omega (arith, le, ap (λ (due : List Pair). sum_by ample due) none)) x.even x.full

-- ---- with less room

less_room : (puts : List Put) (pairs : List Pair) (room less : ℕ) → less ≤ room
    → NoRoomFor room pairs puts → NoRoomFor less pairs puts
less_room puts [] room less le none = tt
less_room [] (p ∷ pairs) room less le none = tt
less_room (Stored ∷ puts) (p ∷ pairs) room less le none = less_room puts pairs room less le none
less_room (Full ∷ puts) (p ∷ pairs) room less le none =
    (omega (arith, le, none.0), less_room puts pairs room less le none.1)

pub are_put_less : (room less : ℕ) (pairs : List Pair) (puts : List Put) → less ≤ room
    → ArePut room pairs puts → ArePut less pairs puts
are_put_less room less pairs puts le x =
    record { even = x.even; full = less_room puts pairs room less le x.full }

-- ---- pairs behind pairs

puts_by : (b : Bool) (spaces : List Space) (pair : Pair) (xs ys : List Pair)
    → ((others : List Space) → puts_in others (xs ++ ys) ≡ puts_in others xs ++ puts_in
    (spaces_behind others xs) ys)
    → cond b (Stored ∷ puts_in (map (filled pair) spaces) (xs ++ ys))
    (Full ∷ puts_in spaces (xs ++ ys))
    ≡ cond b (Stored ∷ puts_in (map (filled pair) spaces) xs) (Full ∷ puts_in spaces xs)
    ++ puts_in (cond b (spaces_behind (map (filled pair) spaces) xs) (spaces_behind spaces xs)) ys
puts_by true spaces pair xs ys more =
    ap (λ (l : List Put). Stored ∷ l) (more (map (filled pair) spaces))
puts_by false spaces pair xs ys more = ap (λ (l : List Put). Full ∷ l) (more spaces)

pub puts_append : (xs ys : List Pair) (spaces : List Space)
    → puts_in spaces (xs ++ ys) ≡ puts_in spaces xs ++ puts_in (spaces_behind spaces xs) ys
puts_append [] ys spaces = refl
puts_append (pair ∷ xs) ys spaces =
    puts_by (list_all (takes pair) spaces) spaces pair xs ys (λ others. puts_append xs ys others)

spaces_by : (b : Bool) (spaces : List Space) (pair : Pair) (xs ys : List Pair)
    → ((others : List Space) → spaces_behind others (xs ++ ys)
    ≡ spaces_behind (spaces_behind others xs) ys)
    → cond b (spaces_behind (map (filled pair) spaces) (xs ++ ys))
    (spaces_behind spaces (xs ++ ys))
    ≡ spaces_behind (cond b (spaces_behind (map (filled pair) spaces) xs)
    (spaces_behind spaces xs)) ys
spaces_by true spaces pair xs ys more = more (map (filled pair) spaces)
spaces_by false spaces pair xs ys more = more spaces

pub spaces_append : (xs ys : List Pair) (spaces : List Space)
    → spaces_behind spaces (xs ++ ys) ≡ spaces_behind (spaces_behind spaces xs) ys
spaces_append [] ys spaces = refl
spaces_append (pair ∷ xs) ys spaces =
    spaces_by (list_all (takes pair) spaces) spaces pair xs ys
    (λ others. spaces_append xs ys others)

pub chosen_append : (xs ys : List Pair) (p q : List Put) → length p ≡ length xs
    → chosen (xs ++ ys) (p ++ q) ≡ chosen xs p ++ chosen ys q
chosen_append [] ys [] q same = refl
chosen_append [] ys (a ∷ p) q same = absurd (omega (arith, same))
chosen_append (x ∷ xs) ys [] q same = absurd (omega (arith, same))
chosen_append (x ∷ xs) ys (Stored ∷ p) q same =
    ap (λ (l : List Pair). x ∷ l) (chosen_append xs ys p q (omega (arith, same)))
chosen_append (x ∷ xs) ys (Full ∷ p) q same = chosen_append xs ys p q (omega (arith, same))

none_append : (xs ys : List Pair) (p q : List Put) (room : ℕ) → length p ≡ length xs
    → NoRoomFor room xs p → NoRoomFor room ys q → NoRoomFor room (xs ++ ys) (p ++ q)
none_append [] ys [] q room same a b = b
none_append [] ys (put ∷ p) q room same a b = absurd (omega (arith, same))
none_append (x ∷ xs) ys [] q room same a b = absurd (omega (arith, same))
none_append (x ∷ xs) ys (Stored ∷ p) q room same a b =
    none_append xs ys p q room (omega (arith, same)) a b
none_append (x ∷ xs) ys (Full ∷ p) q room same a b =
    (a.0, none_append xs ys p q room (omega (arith, same)) a.1 b)

pub put_append : (xs ys : List Pair) (p q : List Put) (before room : ℕ) → room ≤ before
    → ArePut before xs p → ArePut room ys q → ArePut room (xs ++ ys) (p ++ q)
put_append xs ys p q before room le x y =
    let less = are_put_less before room xs p le x in
    record {
      even = omega (arith, length-append p q, length-append xs ys, x.even, y.even);
      full = none_append xs ys p q room x.even less.full y.full;
    }

-- ---- one pair

pub one_by : (b : Bool) (spaces : List Space) (pair : Pair) → b ≡ list_all (takes pair) spaces
    → puts_in spaces (pair ∷ []) ≡ cond b (Stored ∷ []) (Full ∷ [])
one_by true spaces pair is = ap (λ b. cond b (Stored ∷ []) (Full ∷ [])) (sym is)
one_by false spaces pair is = ap (λ b. cond b (Stored ∷ []) (Full ∷ [])) (sym is)

pub behind_one : (b : Bool) (spaces : List Space) (pair : Pair) → b ≡ list_all (takes pair) spaces
    → spaces_behind spaces (pair ∷ []) ≡ cond b (map (filled pair) spaces) spaces
behind_one true spaces pair is = ap (λ b. cond b (map (filled pair) spaces) spaces) (sym is)
behind_one false spaces pair is = ap (λ b. cond b (map (filled pair) spaces) spaces) (sym is)

-- Pairs for which there is room, of several that are put one behind another.
use Rattle.std.proofs.Common.{◌≡◌, ℕ, ◌+◌, ◌≤◌, List, [], ◌∷◌, ◌++◌, length, drop, refl, sym, ap, subst, ◌∙◌, zero-add, add-zero, add_assoc, arith, length-append, length-drop}
use Rattle.std.specs.Prelude.{sum_by}
use Rattle.std.proofs.lemmas.List.Sums.{sum_by-append}
use Rattle.cache_api.specs.declared.puts.Put.{Put}
use Rattle.cache_api.specs.declared.puts.Put.TheVariants as put
use Rattle.cache_api.specs.Cache.{ample, NoRoomFor, ArePut, NoRoomBehind}
use Rattle.cache_api.specs.Pairs.{Pair, chosen}

sum_first : (pair : Pair) (pairs : List Pair)
    → sum_by ample (pair ∷ pairs) ≡ ample pair + sum_by ample pairs
sum_first pair pairs =
    sum_by-append ample (pair ∷ []) pairs ∙ ap (λ n. n + sum_by ample pairs) (zero-add (ample pair))

-- where there is room for the first pairs they are put, and the others behind them
pub behind_first : (room taken : ℕ) (first more : List Pair) (puts : List Put)
    → taken + sum_by ample first ≤ room → length puts ≡ length (first ++ more)
    → NoRoomBehind room taken (first ++ more) puts
    → (chosen (first ++ more) puts ≡ first ++ chosen more (drop (length first) puts))
    × NoRoomBehind room (taken + sum_by ample first) more (drop (length first) puts)
behind_first room taken [] more puts fits even full =
    (refl, subst (λ n. NoRoomBehind room n more puts) (sym (add-zero taken)) full)
behind_first room taken (pair ∷ first) more [] fits even full = absurd (omega (arith, even))
behind_first room taken (pair ∷ first) more (put.Stored ∷ puts) fits even full =
    let (are, rest) = behind_first room (taken + ample pair) first more puts (omega (arith, fits, sum_first pair first))
    (omega (arith, even)) full in (
      ap (λ (ps : List Pair). pair ∷ ps) are,
      subst (λ n. NoRoomBehind room n more (drop (length first) puts))
          (add_assoc taken (ample pair) (sum_by ample first) ∙ ap (λ n. taken + n) (sym (sum_first pair first))) rest,
    )
behind_first room taken (pair ∷ first) more (put.Full ∷ puts) fits even full =
    absurd (omega (arith, fits, full.0, sum_first pair first))

-- and one is put for which there is room too
pub one_stored : (room taken : ℕ) (pair : Pair) (puts : List Put) → taken + ample pair ≤ room
    → length puts ≡ 1 → NoRoomBehind room taken (pair ∷ []) puts → puts ≡ put.Stored ∷ []
one_stored room taken pair [] fits even full = absurd (omega (arith, even))
one_stored room taken pair (put.Stored ∷ []) fits even full = refl
one_stored room taken pair (put.Full ∷ []) fits even full = absurd (omega (arith, fits, full.0))
one_stored room taken pair (put ∷ other ∷ puts) fits even full = absurd (omega (arith, even))

no_room_none : (room : ℕ) (pairs : List Pair) → NoRoomFor room pairs []
no_room_none room [] = tt
no_room_none room (pair ∷ pairs) = tt

no_room_more : (room : ℕ) (first more : List Pair) (puts : List Put)
    → NoRoomFor room (first ++ more) puts → NoRoomFor room more (drop (length first) puts)
no_room_more room [] more puts full = full
no_room_more room (pair ∷ first) more [] full = no_room_none room more
no_room_more room (pair ∷ first) more (put.Stored ∷ puts) full = no_room_more room first more puts full
no_room_more room (pair ∷ first) more (put.Full ∷ puts) full = no_room_more room first more puts full.1

pub even_more : (first more : List Pair) (puts : List Put) → length puts ≡ length (first ++ more)
    → length (drop (length first) puts) ≡ length more
even_more first more puts even =
    omega (arith, even, length-drop (length first) puts, length-append first more)

-- what came of those behind the first ones
pub are_put_more : (room : ℕ) (first more : List Pair) (puts : List Put)
    → ArePut room (first ++ more) puts → ArePut room more (drop (length first) puts)
are_put_more room first more puts are = record {
  even = even_more first more puts are.even;
  full = no_room_more room first more puts are.full;
}

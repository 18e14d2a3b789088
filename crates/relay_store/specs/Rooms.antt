-- The room that is wanting where a relay does not put a pair.
use Rattle.std.proofs.Common.{◌≡◌, ℕ, ◌+◌, ◌<◌, ◌≤◌, suc, Bool, true, false, cond, List, [], ◌∷◌}
use Rattle.std.proofs.Common.{◌++◌, length, map, refl, sym, subst, arith}
use Rattle.std.specs.Prelude.{◌&&◌, sum_by}
use Rattle.std.specs.List.{list_all}
use Rattle.std.proofs.lemmas.Bool.{and_parts, leb-true, leb-false}
use Rattle.store_dev.specs.declared.device.StoreDevice.{Ghosts}
use Rattle.codes.specs.Codes.{Each}
use Rattle.cache_api.specs.declared.puts.Put.{Put}
use Rattle.cache_api.specs.declared.puts.Put.TheVariants.{Stored, Full}
use Rattle.cache_api.specs.Pairs.{Pair}
use Rattle.cache_api.specs.Cache.{ample, AreToPut, NoRoomBehind}
use Rattle.cache_api.proofs.Firsts.{none_due}
use Rattle.relay_store.specs.declared.relay.Relay.{Relay}
use Rattle.relay_store.specs.Parts.{space_of}
use Rattle.relay_store.specs.Puts.{Space, need, takes, filled, puts_in}
use Rattle.relay_store.specs.Relays.{room_by, state_of, spaces, stores}

-- ---- one space that does not take a pair

short_by : (b : Bool) (room taken : ℕ) (space : Space) (spaces : List Space) (pair : Pair)
    → b ≡ takes pair space → room ≤ taken + space.room
    → (list_all (takes pair) spaces ≡ false → room < taken + ample pair)
    → (b && list_all (takes pair) spaces) ≡ false → room < taken + ample pair
short_by true room taken space spaces pair is le rest e = rest e
short_by false room taken space spaces pair is le rest e =
    let short : space.room < need space pair = leb-false (need space pair) space.room (sym is) in
    omega (arith, short, le)

short : (spaces : List Space) (room taken : ℕ) (pair : Pair)
    → Each (λ space. room ≤ taken + space.room) spaces → list_all (takes pair) spaces ≡ false
    → room < taken + ample pair
short [] room taken pair each e = absurd (cc)
short (space ∷ spaces) room taken pair each e =
    short_by (takes pair space) room taken space spaces pair refl each.0
    (short spaces room taken pair each.1) e

-- ---- spaces behind a pair

filled_room : (spaces : List Space) (room taken : ℕ) (pair : Pair)
    → Each (λ space. room ≤ taken + space.room) spaces → list_all (takes pair) spaces ≡ true
    → Each (λ space. room ≤ (taken + ample pair) + space.room) (map (filled pair) spaces)
filled_room [] room taken pair each e = tt
filled_room (space ∷ spaces) room taken pair each e =
    let parts = and_parts _ _ e in
    let fits : need space pair ≤ space.room = leb-true (need space pair) space.room parts.0 in
    (omega (arith, each.0, fits), filled_room spaces room taken pair each.1 parts.1)

behind_by : (b : Bool) (spaces : List Space) (room taken : ℕ) (pair : Pair) (pairs : List Pair)
    → b ≡ list_all (takes pair) spaces → Each (λ space. room ≤ taken + space.room) spaces
    → ((t : ℕ) (others : List Space) → Each (λ space. room ≤ t + space.room) others
    → NoRoomBehind room t pairs (puts_in others pairs))
    → NoRoomBehind room taken (pair ∷ pairs)
    (cond b (Stored ∷ puts_in (map (filled pair) spaces) pairs) (Full ∷ puts_in spaces pairs))
behind_by true spaces room taken pair pairs is each more =
    more (taken + ample pair) (map (filled pair) spaces)
    (filled_room spaces room taken pair each (sym is))
behind_by false spaces room taken pair pairs is each more =
    (short spaces room taken pair each (sym is), more taken spaces each)

no_room : (pairs : List Pair) (spaces : List Space) (room taken : ℕ)
    → Each (λ space. room ≤ taken + space.room) spaces
    → NoRoomBehind room taken pairs (puts_in spaces pairs)
no_room [] spaces room taken each = tt
no_room (pair ∷ pairs) spaces room taken each =
    behind_by (list_all (takes pair) spaces) spaces room taken pair pairs refl each
    (λ t others more. no_room pairs others room t more)

even_by : (b : Bool) (x y : List Put) (n : ℕ) → length x ≡ n → length y ≡ n
    → length (cond b (Stored ∷ x) (Full ∷ y)) ≡ suc n
even_by true x y n e f = omega (arith, e)
even_by false x y n e f = omega (arith, f)

pub even : (pairs : List Pair) (spaces : List Space) → length (puts_in spaces pairs) ≡ length pairs
even [] spaces = refl
even (pair ∷ pairs) spaces =
    even_by (list_all (takes pair) spaces) _ _ (length pairs)
    (even pairs (map (filled pair) spaces)) (even pairs spaces)

-- ---- the least room

each_by : (p q : Bool) (a b : Space) (n : ℕ) → n ≤ room_by p q a.room b.room
    → Each (λ (space : Space). n ≤ space.room) ((cond p (a ∷ []) []) ++ (cond q (b ∷ []) []))
each_by true true a b n le = (omega (arith, le), (omega (arith, le), tt))
each_by true false a b n le = (le, tt)
each_by false true a b n le = (le, tt)
each_by false false a b n le = tt

from_zero : (room : ℕ) (spaces : List Space) → Each (λ space. room ≤ space.room) spaces
    → Each (λ space. room ≤ 0 + space.room) spaces
from_zero room [] each = tt
from_zero room (space ∷ spaces) each = (omega (arith, each.0), from_zero room spaces each.1)

module _ {S R : Type 0} {G : Ghosts S} {H : Ghosts R} (r : Relay S R G H) where
  pub each_space : (n : ℕ) → n ≤ (state_of r).room
      → Each (λ (space : Space). n ≤ space.room) (spaces r)
  each_space n le = each_by r.access.local_puts r.access.second_puts (space_of r.local)
      (space_of r.second) n le

  -- nothing is due, so that pairs find all the room that there is
  pub are_to_put : (pairs : List Pair) → AreToPut (state_of r) pairs (stores r pairs)
  are_to_put pairs = record {
    even = even pairs (spaces r);
    full = subst (λ (due : List Pair). NoRoomBehind (state_of r).room (sum_by ample due) pairs
        (stores r pairs)) (sym (none_due (state_of r).pairs))
        (no_room pairs (spaces r) (state_of r).room 0
        (from_zero (state_of r).room (spaces r) (each_space (state_of r).room (omega arith))));
  }

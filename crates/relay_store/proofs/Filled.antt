-- The spaces of a relay behind a pair that was put.
use Rattle.std.proofs.Common.{◌≡◌, ℕ, ◌≤◌, arith, Bool, true, false, cond, [], ◌∷◌, ◌++◌, map}
use Rattle.std.proofs.Common.{refl, ◌∙◌, ap}
use Rattle.std.specs.Prelude.{IsTrue}
use Rattle.std.proofs.lemmas.Bool.{and_parts}
use Rattle.store_dev.specs.declared.device.StoreDevice.{Ghosts}
use Rattle.cache_api.specs.declared.puts.Put.TheVariants.{Stored, Full}
use Rattle.cache_api.specs.Pairs.{Pair, chosen}
use Rattle.pair_frames.specs.Puts.{added}
use Rattle.cli_words.specs.declared.order.Access.{Access}
use Rattle.relay_store.specs.declared.relay.Relay.{Relay}
use Rattle.relay_store.specs.Access.{is_there, IsAccessOf}
use Rattle.relay_store.specs.Stores.{frames_in}
use Rattle.relay_store.specs.Parts as part
use Rattle.relay_store.specs.Parts.{space_of, HasRoom, AllFit}
use Rattle.relay_store.specs.Puts.{Space, filled}
use Rattle.relay_store.specs.Relays.{room_by, state_of, spaces}
use Rattle.relay_store.specs.Devices.{TellPuts}
use Rattle.relay_store.proofs.Fitting.{filled_part}

-- what is put into is there
pub local_there : {A B : Type 0} {access : Access} {a : _} {b : _}
    → IsAccessOf {A = A} {B = B} access a b
    → access.local_puts ≡ true → is_there a ≡ true
local_there x puts = x.local_there ∙ x.local_puts puts

pub second_there : {A B : Type 0} {access : Access} {a : _} {b : _}
    → IsAccessOf {A = A} {B = B} access a b
    → access.second_puts ≡ true → is_there b ≡ true
second_there x puts = x.second_there ∙ x.second_puts puts

in_both : (p q : Bool) (a b c d : Space) (pair : Pair) → (p ≡ true → c ≡ filled pair a)
    → (q ≡ true → d ≡ filled pair b)
    → (cond p (c ∷ []) []) ++ (cond q (d ∷ []) [])
    ≡ map (filled pair) ((cond p (a ∷ []) []) ++ (cond q (b ∷ []) []))
in_both true true a b c d pair x y = (λ i. x refl i ∷ y refl i ∷ [])
in_both true false a b c d pair x y = (λ i. x refl i ∷ [])
in_both false true a b c d pair x y = (λ i. y refl i ∷ [])
in_both false false a b c d pair x y = refl

-- a pair for which there was room
pub chosen_one : (b : Bool) (pair : Pair) → b ≡ true
    → pair ∷ [] ≡ chosen (pair ∷ []) (cond b (Stored ∷ []) (Full ∷ []))
chosen_one true pair is = refl
chosen_one false pair is = absurd (cc)

pub full_one : (b : Bool) → b ≡ false → cond b (Stored ∷ []) (Full ∷ []) ≡ Full ∷ []
full_one true is = absurd (cc)
full_one false is = refl

pub stored_one : (b : Bool) → b ≡ true → Stored ∷ [] ≡ cond b (Stored ∷ []) (Full ∷ [])
stored_one true is = refl
stored_one false is = absurd (cc)

-- ---- the least room

pub room_local : (p q : Bool) (a b : ℕ) → p ≡ true → room_by p q a b ≤ a
room_local true true a b is = omega arith
room_local true false a b is = omega arith
room_local false q a b is = absurd (cc)

pub room_second : (p q : Bool) (a b : ℕ) → q ≡ true → room_by p q a b ≤ b
room_second true true a b is = omega arith
room_second true false a b is = absurd (cc)
room_second false q a b is = omega arith

module _ {S R : Type 0} {G : Ghosts S} {H : Ghosts R} (a b : Relay S R G H) (pair : Pair) where
  spaces_are : b.access ≡ a.access
      → spaces b ≡ (cond a.access.local_puts (space_of b.local ∷ []) [])
      ++ (cond a.access.second_puts (space_of b.second ∷ []) [])
  spaces_are same = λ i. (cond (same i).local_puts (space_of b.local ∷ []) [])
      ++ (cond (same i).second_puts (space_of b.second ∷ []) [])

  pub spaces_filled : TellPuts a.access G.tells H.tells → IsTrue (state_of a).whole
      → (state_of b).whole ≡ (state_of a).whole
      → b.access ≡ a.access
      → (a.access.local_puts ≡ true → HasRoom a.local pair)
      → (a.access.second_puts ≡ true → HasRoom a.second pair)
      → (a.access.local_puts ≡ true → frames_in b.local.store ≡ frames_in a.local.store
      ++ added (part.state_of a.local).room (frames_in a.local.store) (pair ∷ []))
      → (a.access.second_puts ≡ true → frames_in b.second.store ≡ frames_in a.second.store
      ++ added (part.state_of a.second).room (frames_in a.second.store) (pair ∷ []))
      → spaces b ≡ map (filled pair) (spaces a)
  spaces_filled told whole stays same room_l room_s frames_l frames_s =
      let was = and_parts _ _ (and_parts _ _ whole).1 in
      let now = and_parts _ _ (and_parts _ _ (stays ∙ whole)).1 in
      let puts_l : a.access.local_puts ≡ true → b.access.local_puts ≡ true =
      λ is. ap (λ (x : Access). x.local_puts) same ∙ is in
      let puts_s : a.access.second_puts ≡ true → b.access.second_puts ≡ true =
      λ is. ap (λ (x : Access). x.second_puts) same ∙ is in
      spaces_are same
      ∙ in_both a.access.local_puts a.access.second_puts (space_of a.local) (space_of a.second)
      (space_of b.local) (space_of b.second) pair
      (λ is. filled_part a.local b.local pair (told.local is) (local_there a.serves is)
      (local_there b.serves (puts_l is)) was.0 now.0 (room_l is) (frames_l is))
      (λ is. filled_part a.second b.second pair (told.second is) (second_there a.serves is)
      (second_there b.serves (puts_s is)) was.1 now.1 (room_s is) (frames_s is))

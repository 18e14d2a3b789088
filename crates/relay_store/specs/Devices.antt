-- What the calls of a relay leave of one of its stores: each clause asks only that this store's
-- own device tells its bytes, and nothing of the other one.
use Rattle.std.specs.Prelude.{◌≡◌, ◌≤◌, ℕ, true, false, List, [], ◌∷◌, ◌++◌, length, take}
use Rattle.std.specs.Prelude.{Option, Some, None, Result, IfOk, IfSome, OnOk, IsTrue}
use Rattle.store_dev.specs.Device.{LeavesOnly}
use Rattle.store_dev.specs.declared.device.StoreDevice.{Ghosts}
use Rattle.cache_api.specs.declared.error.CacheErr.{CacheErr}
use Rattle.cache_api.specs.declared.hit.Hit.{Hit}
use Rattle.cache_api.specs.declared.puts.Put.{Put}
use Rattle.cache_api.specs.declared.puts.Put.TheVariants.{Stored, Full}
use Rattle.cache_api.specs.declared.puts.Puts.{Puts}
use Rattle.cache_api.specs.Artifacts.{Artifact}
use Rattle.cache_api.specs.Cache.{HitsStay, Keeps}
use Rattle.cache_api.specs.Pairs.{Pair, chosen, IsFirstPart}
use Rattle.cli_words.specs.declared.order.Access.{Access}
use Rattle.artifact_store.specs.declared.store.Store.{Store}
use Rattle.artifact_store.specs.Pairs.{told_as}
use Rattle.relay_store.specs.declared.relay.Relay.{Relay}
use Rattle.relay_store.specs.Access.{is_there}
use Rattle.relay_store.specs.Stores.{state_in, moment_in, images_in, stands_in, shows_in, cost_in}
use Rattle.relay_store.specs.Parts.{into}
use Rattle.relay_store.specs.Relays.{state_of, stores, stores_of}

-- ---- one store

-- What a call leaves of a store that it reads or does not call. At every moment an image of its
-- device stands for the store's pairs.
pub record IsOnlyRead {S : Type 0} {G : Ghosts S} (old new : Option (Store S G)) : Type 0 where
  pub pairs : G.tells → (state_in new).pairs ≡ (state_in old).pairs
  pub cost_same : G.tells → (key : List ℕ) → cost_in new key ≡ cost_in old key
  pub left : G.tells → LeavesOnly moment_in images_in old new
      (λ c. told_as (state_in old).base c ≡ Some (state_in old).pairs)
  pub hits : HitsStay G.tells stands_in shows_in old new
  pub keeps : Keeps (state_in old) (state_in new)
  pub there : is_there new ≡ is_there old

-- What a look-up answers of one of the stores, where its pairs give this. A hit in it stands for
-- what they give. Where nothing is answered they give nothing, and what they give is answered
-- where it is the store that is asked first.
pub record IsFound (side : ℕ) (asked_first : Type 0) (show : Hit → Artifact)
    (gives : Option Artifact) (answer : Option Hit) : Type 0 where
  pub hit : IfSome answer (λ hit. hit.side ≡ side → gives ≡ Some (show hit))
  pub none : answer ≡ None → gives ≡ None
  pub first : asked_first → (a : Artifact) → gives ≡ Some a
      → IfSome answer (λ hit. hit.side ≡ side)

-- What calls leave of a store that is given these pairs, whatever came of it. At every moment an
-- image of its device stands for the pairs that it had and the first of these, none to all; and
-- so does the store in the end.
pub record IsGiven {S : Type 0} {G : Ghosts S} (old new : Option (Store S G)) (news : List Pair)
    : Type 0 where
  pub pairs : G.tells
      → (n : ℕ) × (n ≤ length news) × ((state_in new).pairs ≡ (state_in old).pairs ++ take n news)
  pub left : G.tells → LeavesOnly moment_in images_in old new
      (λ c. IsFirstPart (state_in old).pairs news (told_as (state_in old).base c))
  pub hits : HitsStay G.tells stands_in shows_in old new
  pub keeps : Keeps (state_in old) (state_in new)
  pub there : is_there new ≡ is_there old

-- the same, where it took them all
pub record HasAll {S : Type 0} {G : Ghosts S} (old new : Option (Store S G)) (news : List Pair)
    : Type 0 where
  pub given : IsGiven old new news
  pub all : G.tells → (state_in new).pairs ≡ (state_in old).pairs ++ news

-- the same of a call, which gave it all where the answer is Ok
pub record HasTaken {S T : Type 0} {G : Ghosts S} (old new : Option (Store S G))
    (news : List Pair) (result : Result T CacheErr) : Type 0 where
  pub given : IsGiven old new news
  pub all : G.tells → OnOk result ((state_in new).pairs ≡ (state_in old).pairs ++ news)

-- ---- both stores

-- Answers to pairs of which some were given to the stores: of one that was not given the answer is
-- that there is no room.
abbrev pub AnswersTo : List Put → List Put → Type 0
AnswersTo [] [] = Unit {0}
AnswersTo [] (put ∷ puts) = ⊥
AnswersTo (give ∷ given) [] = ⊥
AnswersTo (Stored ∷ given) (put ∷ puts) = AnswersTo given puts
AnswersTo (Full ∷ given) (put ∷ puts) = (put ≡ Full) × AnswersTo given puts

-- the device of each store that is put into tells its bytes
pub record TellPuts (access : Access) (T U : Type 0) : Type 0 where
  pub local : access.local_puts ≡ true → T
  pub second : access.second_puts ≡ true → U

-- the access of a relay, which no call changes
abbrev pub access_of : {S R : Type 0} {G : Ghosts S} {H : Ghosts R} → Relay S R G H → Access
access_of r = (state_of r).base.access

-- What a call that puts pairs leaves of both stores. Each store that is put into is given the
-- same pairs, those for which there was room in each, as far as the call came. What is answered
-- is what the store took that is looked into first. A pair that is answered to be stored was
-- given to both.
pub record Gives {S R T : Type 0} {G : Ghosts S} {H : Ghosts R} (answers : T → List Put)
    (old : Relay S R G H) (new : Option (Store S G) × Option (Store R H)) (pairs : List Pair)
    (result : Result T CacheErr) : Type 0 where
  pub given : List Put
  pub few : length given ≤ length pairs
  pub answered : IfOk result (λ v. AnswersTo given (answers v))
  pub local_answers : (access_of old).local_puts ≡ true → G.tells
      → IfOk result (λ v. answers v ≡ given)
  pub second_answers : (access_of old).local_puts ≡ false → H.tells
      → IfOk result (λ v. answers v ≡ given)
  pub room : TellPuts (access_of old) G.tells H.tells
      → given ≡ take (length given) (stores old pairs)
  pub local : HasTaken (stores_of old).0 new.0
      (into (access_of old).local_puts (chosen pairs given)) result
  pub second : HasTaken (stores_of old).1 new.1
      (into (access_of old).second_puts (chosen pairs given)) result

-- the same of a call that answers for each pair
abbrev pub HasPut : {S R : Type 0} {G : Ghosts S} {H : Ghosts R} → Relay S R G H
    → Option (Store S G) × Option (Store R H) → List Pair → Result Puts CacheErr → Type 0
HasPut old new pairs result = Gives (λ (puts : Puts). puts) old new pairs result

-- ---- calls one behind another, of one store

-- before the first, of a store that may be used
abbrev pub HasNone : {S : Type 0} → Ghosts S → Type 0
HasNone {S = S} G = (store : Option (Store S G)) → IsTrue (state_in store).whole
    → HasAll store store []

-- a call that reads gives it nothing
abbrev pub ReadsNone : {S : Type 0} → Ghosts S → Type 0
ReadsNone {S = S} G = (old new : Option (Store S G)) → IsOnlyRead old new → HasAll old new []

-- behind calls that gave it some, a call that gives it more gives it these behind those
abbrev pub HasMore : {S : Type 0} → Ghosts S → Type 0
HasMore {S = S} G = (old mid new : Option (Store S G)) (first more : List Pair)
    (result : Result Puts CacheErr) → HasAll old mid first → HasTaken mid new more result
    → HasTaken old new (first ++ more) result

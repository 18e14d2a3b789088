-- What is known of a relay over opened stores, from when it was made to when it is taken apart.
use Rattle.std.proofs.Common.{◌≡◌, ◌+◌, List, Option, Some, sym, ◌∙◌, ap}
use Rattle.std.proofs.Math.Path.{transport}
use Rattle.store_dev.specs.Device.{LeavesOnly}
use Rattle.store_dev.specs.declared.device.StoreDevice.{Ghosts}
use Rattle.cache_api.specs.Moments.{Leaves}
use Rattle.cache_api.specs.Pairs.{Pair}
use Rattle.artifact_store.specs.declared.store.Store.{Store}
use Rattle.artifact_store.specs.Pairs.{told_as}
use Rattle.cli_words.specs.declared.order.Access.{Access}
use Rattle.relay_store.specs.declared.relay.Relay.{Relay}
use Rattle.relay_store.specs.Access.{is_there}
use Rattle.relay_store.specs.Agree.{firsts}
use Rattle.relay_store.specs.Laws.{GoesOn, Says, local_device, second_device}
use Rattle.relay_store.specs.Relays.{RelayBase, base_of, state_of, stores_of, moment_of, left_of}
use Rattle.relay_store.specs.Relays.{says, first_pairs, all_pairs, room_by}
use Rattle.relay_store.specs.Stores.{state_in, moment_in, images_in}

module _ {S R : Type 0} {G : Ghosts S} {H : Ghosts R} (old new : Relay S R G H) (access : Access)
    (local : Option (Store S G)) (second : Option (Store R H))
    (parts : Option (Store S G) × Option (Store R H))
    (began : stores_of old ≡ (local, second)) (ends : parts ≡ stores_of new)
    (right : (state_of old).base.access ≡ access)
    (same : (state_of new).base ≡ (state_of old).base) where
  local_began : old.local.store ≡ local
  local_began = ap (λ (p : Option (Store S G) × Option (Store R H)). p.0) began

  second_began : old.second.store ≡ second
  second_began = ap (λ (p : Option (Store S G) × Option (Store R H)). p.1) began

  local_ends : new.local.store ≡ parts.0
  local_ends = sym (ap (λ (p : Option (Store S G) × Option (Store R H)). p.0) ends)

  second_ends : new.second.store ≡ parts.1
  second_ends = sym (ap (λ (p : Option (Store S G) × Option (Store R H)). p.1) ends)

  access_stays : new.access ≡ access
  access_stays = ap (λ (b : RelayBase G.tells H.tells). b.access) same ∙ right

  -- ---- the stores

  pub local_there : is_there parts.0 ≡ is_there local
  local_there =
      ap is_there (sym local_ends) ∙ new.serves.local_there
      ∙ ap (λ (b : RelayBase G.tells H.tells). b.access.local_reads) same
      ∙ sym old.serves.local_there ∙ ap is_there local_began

  pub second_there : is_there parts.1 ≡ is_there second
  second_there =
      ap is_there (sym second_ends) ∙ new.serves.second_there
      ∙ ap (λ (b : RelayBase G.tells H.tells). b.access.second_reads) same
      ∙ sym old.serves.second_there ∙ ap is_there second_began

  pub room_stays : (state_of new).room
      ≡ room_by access.local_puts access.second_puts (state_in parts.0).room
      (state_in parts.1).room
  room_stays = λ i. room_by (access_stays i).local_puts (access_stays i).second_puts
      (state_in (local_ends i)).room (state_in (second_ends i)).room

  pub faults_began : (state_of old).faults ≡ (state_in local).faults + (state_in second).faults
  faults_began = λ i. (state_in (local_began i)).faults + (state_in (second_began i)).faults

  pub faults_end : (state_of new).faults ≡ (state_in parts.0).faults + (state_in parts.1).faults
  faults_end = λ i. (state_in (local_ends i)).faults + (state_in (second_ends i)).faults

  -- ---- their pairs

  module _ (t : G.tells) (u : H.tells)
      (f : (state_of old).base.local.first t ≡ (state_in local).pairs)
      (g : (state_of old).base.second.first u ≡ (state_in second).pairs) where
    -- as the relay is taken apart
    pub local_stays : (now : List Pair)
        → GoesOn (state_of new).base.access.local_puts (first_pairs (state_of new).base t u)
        ((state_of new).base.local.first t) (λ pairs. pairs ≡ now) (Some (state_in parts.0).pairs)
        → GoesOn access.local_puts (all_pairs access local second) (state_in local).pairs
        (λ pairs. pairs ≡ now) (Some (state_in parts.0).pairs)
    local_stays now goes =
        transport (λ i. GoesOn (right i).local_puts (firsts (right i).local_puts (f i) (g i)) (f i)
        (λ pairs. pairs ≡ now) (Some (state_in parts.0).pairs))
        (transport (λ i. GoesOn (same i).access.local_puts (first_pairs (same i) t u)
        ((same i).local.first t) (λ pairs. pairs ≡ now) (Some (state_in parts.0).pairs)) goes)

    pub second_stays : (now : List Pair)
        → GoesOn (state_of new).base.access.second_puts (first_pairs (state_of new).base t u)
        ((state_of new).base.second.first u) (λ pairs. pairs ≡ now)
        (Some (state_in parts.1).pairs)
        → GoesOn access.second_puts (all_pairs access local second) (state_in second).pairs
        (λ pairs. pairs ≡ now) (Some (state_in parts.1).pairs)
    second_stays now goes =
        transport (λ i. GoesOn (right i).second_puts (firsts (right i).local_puts (f i) (g i)) (g i)
        (λ pairs. pairs ≡ now) (Some (state_in parts.1).pairs))
        (transport (λ i. GoesOn (same i).access.second_puts (first_pairs (same i) t u)
        ((same i).second.first u) (λ pairs. pairs ≡ now) (Some (state_in parts.1).pairs)) goes)

    -- at every moment
    module _ (P : List Pair → Type 0)
        (leaves : Leaves moment_of left_of old new (λ image. Says P (says (base_of old) image))) where
      pub local_goes_on : LeavesOnly moment_in images_in local parts.0 (λ c.
          GoesOn access.local_puts (all_pairs access local second) (state_in local).pairs P
          (told_as (state_in local).base c))
      local_goes_on = transport (λ i. LeavesOnly moment_in images_in (local_began i) (local_ends i)
          (λ c. GoesOn (right i).local_puts (firsts (right i).local_puts (f i) (g i)) (f i) P
          (told_as (state_in (local_began i)).base c)))
          (local_device old new P t u same leaves)

      pub second_goes_on : LeavesOnly moment_in images_in second parts.1 (λ c.
          GoesOn access.second_puts (all_pairs access local second) (state_in second).pairs P
          (told_as (state_in second).base c))
      second_goes_on = transport (λ i. LeavesOnly moment_in images_in (second_began i)
          (second_ends i)
          (λ c. GoesOn (right i).second_puts (firsts (right i).local_puts (f i) (g i)) (g i) P
          (told_as (state_in (second_began i)).base c)))
          (second_device old new P t u same leaves)

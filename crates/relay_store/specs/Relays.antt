-- A relay as its contracts see it.
use Rattle.std.specs.Prelude.{◌≡◌, ◌≢◌, ◌⊎◌, ℕ, ◌+◌, min, Bool, true, false, ◌&&◌, ◌==◌}
use Rattle.std.specs.Prelude.{if◌then◌else◌, List, [], ◌∷◌, ◌++◌, length, take, Option, Some}
use Rattle.std.specs.Prelude.{None}
use Rattle.store_dev.specs.declared.device.StoreDevice.{Ghosts}
use Rattle.cache_api.specs.declared.hit.Hit.{Hit}
use Rattle.cache_api.specs.declared.puts.Put.{Put}
use Rattle.cache_api.specs.Artifacts.{Artifact}
use Rattle.cache_api.specs.Cache.{CacheState}
use Rattle.cache_api.specs.Moments.{Moment}
use Rattle.cache_api.specs.Pairs.{Pair}
use Rattle.artifact_store.specs.declared.store.Store.{Store}
use Rattle.artifact_store.specs.Pairs.{told_as}
use Rattle.cli_words.specs.declared.order.Access.{Access}
use Rattle.relay_store.specs.declared.relay.Relay.{Relay}
use Rattle.relay_store.specs.declared.relay.TheConstants.{LOCAL, SECOND}
use Rattle.relay_store.specs.Stores.{state_in, moment_in, images_in, stands_in, shows_in, cost_in}
use Rattle.relay_store.specs.Parts.{PartBase, space_of}
use Rattle.relay_store.specs.Parts as part
use Rattle.relay_store.specs.Behind.{in_place}
use Rattle.relay_store.specs.Agree.{firsts, later}
use Rattle.relay_store.specs.Puts.{Space, puts_in}

-- ---- what no call changes

pub record RelayBase (T U : Type 0) : Type 0 where
  pub access : Access
  pub local : PartBase T
  pub second : PartBase U

-- the first pairs of both stores, where both devices tell them; those of the store that is looked
-- into first stand last
abbrev pub first_pairs : {T U : Type 0} → RelayBase T U → T → U → List Pair
first_pairs base t u =
    firsts base.access.local_puts (base.local.first t) (base.second.first u)

-- ---- what a crash leaves

-- the bytes of one of two devices, both of which tell theirs
pub data Image (T U : Type 0) : Type 0 where
  Local : T → U → List ℕ → Image T U
  Second : T → U → List ℕ → Image T U

-- Where it puts into the store of these bytes: the relay's first pairs, and behind them what the
-- bytes have behind the store's first pairs. Else they say nothing.
abbrev pub says_by : Bool → List Pair → List Pair → Option (List Pair) → Option (List Pair)
says_by true all first told = in_place all first told
says_by false all first told = None

abbrev pub says : {T U : Type 0} → RelayBase T U → Image T U → Option (List Pair)
says base (Local t u bytes) =
    says_by base.access.local_puts (first_pairs base t u) (base.local.first t)
    (told_as base.local.generation bytes)
says base (Second t u bytes) =
    says_by base.access.second_puts (first_pairs base t u) (base.second.first u)
    (told_as base.second.generation bytes)

-- An image is noted where the relay puts into the store, and of another store only where it does
-- not stand for the store's pairs.
abbrev pub IsNotedBy : Bool → List Pair → Option (List Pair) → Type 0
IsNotedBy puts first told = puts ≡ false → told ≢ Some first

abbrev pub IsNoted : {T U : Type 0} → RelayBase T U → Image T U → Type 0
IsNoted base (Local t u bytes) =
    IsNotedBy base.access.local_puts (base.local.first t) (told_as base.local.generation bytes)
IsNoted base (Second t u bytes) =
    IsNotedBy base.access.second_puts (base.second.first u) (told_as base.second.generation bytes)

-- ---- as a cache

-- the least of those that are put into
abbrev pub room_by : Bool → Bool → ℕ → ℕ → ℕ
room_by true true local second = min local second
room_by true false local second = local
room_by false puts local second = second

module _ {S R : Type 0} {G : Ghosts S} {H : Ghosts R} where
  abbrev pub base_of : Relay S R G H → RelayBase G.tells H.tells
  base_of r = record {
    access = r.access;
    local = part.base_of r.local;
    second = part.base_of r.second;
  }

  -- what the store that is looked into first has behind its first pairs
  abbrev pub later_of : Relay S R G H → List Pair
  later_of r = later r.access.local_puts (part.more_of r.local) (part.more_of r.second)

  -- The first pairs of both stores and as many behind them as were counted; where it may be used,
  -- these are all. They all last, as those of its stores do, and all its room is sure. It may be
  -- used where its stores may and they have the same.
  abbrev pub state_of : Relay S R G H → CacheState (RelayBase G.tells H.tells)
  state_of r = record {
    pairs = firsts r.access.local_puts (part.first_of r.local) (part.first_of r.second)
        ++ take r.added (later_of r);
    lasting = length (firsts r.access.local_puts (part.first_of r.local) (part.first_of r.second)
        ++ take r.added (later_of r));
    whole = r.whole && ((state_in r.local.store).whole && (state_in r.second.store).whole);
    room = room_by r.access.local_puts r.access.second_puts
        (state_in r.local.store).room (state_in r.second.store).room;
    sure = room_by r.access.local_puts r.access.second_puts
        (state_in r.local.store).room (state_in r.second.store).room;
    faults = (state_in r.local.store).faults + (state_in r.second.store).faults;
    probes = (state_in r.local.store).probes + (state_in r.second.store).probes;
    base = base_of r;
  }

  abbrev pub cost_of : Relay S R G H → List ℕ → ℕ
  cost_of r key = cost_in r.local.store key + cost_in r.second.store key

  -- ---- hits

  abbrev pub stands : Relay S R G H → Hit → Type 0
  stands r hit = ((hit.side ≡ LOCAL) × stands_in r.local.store hit)
      ⊎ ((hit.side ≡ SECOND) × stands_in r.second.store hit)

  abbrev pub shows : Relay S R G H → Hit → Artifact
  shows r hit =
      if hit.side == LOCAL then shows_in r.local.store hit else shows_in r.second.store hit

  -- ---- puts

  -- those that are put into
  abbrev pub spaces : Relay S R G H → List Space
  spaces r =
      (if r.access.local_puts then space_of r.local ∷ [] else [])
      ++ (if r.access.second_puts then space_of r.second ∷ [] else [])

  abbrev pub stores : Relay S R G H → List Pair → List Put
  stores r pairs = puts_in (spaces r) pairs

  -- ---- moments

  abbrev pub moment_of : Relay S R G H → Moment
  moment_of r = record {
    first = moment_in r.local.store;
    second = moment_in r.second.store;
  }

  -- an image of one of the devices since a moment of its clock, which is noted
  abbrev pub left_of : Relay S R G H → Moment → Image G.tells H.tells → Type 0
  left_of r m (Local t u bytes) =
      images_in r.local.store m.first bytes × IsNoted (base_of r) (Local t u bytes)
  left_of r m (Second t u bytes) =
      images_in r.second.store m.second bytes × IsNoted (base_of r) (Second t u bytes)

  -- ---- the stores

  -- what they have behind their first pairs, which is more than was counted where a call failed
  abbrev pub local_more : Relay S R G H → List Pair
  local_more r = part.more_of r.local

  abbrev pub second_more : Relay S R G H → List Pair
  second_more r = part.more_of r.second

  abbrev pub stores_of : Relay S R G H → Option (Store S G) × Option (Store R H)
  stores_of r = (r.local.store, r.second.store)

  -- the pairs of both, those of the store that is looked into first standing last
  abbrev pub all_pairs : Access → Option (Store S G) → Option (Store R H) → List Pair
  all_pairs access local second =
      firsts access.local_puts (state_in local).pairs (state_in second).pairs

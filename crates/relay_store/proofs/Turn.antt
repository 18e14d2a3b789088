-- Pairs that are put in turn.
use Rattle.std.proofs.Common.{◌≡◌, ℕ, suc, ◌+◌, ◌<◌, List, [], ◌∷◌, ◌++◌, length, take, drop}
use Rattle.std.proofs.Common.{get_or, Ok, Err, refl, sym, ◌∙◌, ap, subst, arith, append_assoc}
use Rattle.std.proofs.Common.{drop-cons}
use Rattle.std.proofs.lemmas.List.{map_more, map-append, take-append-drop}
use Rattle.store_dev.specs.declared.device.StoreDevice.{Ghosts}
use Rattle.cache_api.specs.declared.error.CacheErr.{CacheErr}
use Rattle.cache_api.specs.declared.error.CacheErr.TheVariants.{OutOfMemory}
use Rattle.cache_api.specs.declared.puts.NewPair.{NewPair}
use Rattle.cache_api.specs.declared.puts.Put.{Put}
use Rattle.cache_api.specs.declared.puts.Puts.{Puts}
use Rattle.cache_api.specs.Cache.{ArePut}
use Rattle.cache_api.specs.Keys.{new_pairs}
use Rattle.cache_api.specs.Pairs.{Pair, chosen}
use Rattle.pair_writer.specs.Putting.{new_pair}
use Rattle.relay_store.specs.declared.relay.Relay.{Relay}
use Rattle.relay_store.specs.Puts.{Space, puts_in, spaces_behind}
use Rattle.relay_store.specs.Relays.{RelayBase, state_of, spaces, stores, stores_of}
use Rattle.relay_store.specs.Calls.{IsPutting}
use Rattle.relay_store.specs.Devices.{TellPuts, Gives, HasPut}
use Rattle.relay_store.proofs.Devices.{both_tell, tell_as, gives_none, gives_ok, gives_err}
use Rattle.relay_store.proofs.Devices.{gives_then}
use Rattle.relay_store.proofs.Relays.{unread}
use Rattle.relay_store.proofs.Putting.{putting_then, putting_as, putting_err, putting_ok}
use Rattle.relay_store.proofs.Putting.{putting_memory, putting_none}
use Rattle.std.specs.Prelude.{IsTrue, Result}
use Rattle.std.proofs.lemmas.Bool.{and_parts}
use Rattle.relay_store.specs.Rests.{OnlyNow}
use Rattle.relay_store.specs.Rooms.{even}
use Rattle.relay_store.proofs.Spaces.{puts_append, spaces_append, chosen_append, put_append}

-- what is chosen of pairs and of those behind them
chosen_both : (xs ys : List Pair) (spaces : List Space)
    → chosen (xs ++ ys) (puts_in spaces (xs ++ ys))
    ≡ chosen xs (puts_in spaces xs) ++ chosen ys (puts_in (spaces_behind spaces xs) ys)
chosen_both xs ys spaces =
    ap (chosen (xs ++ ys)) (puts_append xs ys spaces)
    ∙ chosen_append xs ys (puts_in spaces xs) (puts_in (spaces_behind spaces xs) ys)
    (even xs spaces)

-- the pairs before one, that one, and those behind it
pub around : (pairs : List NewPair) (i : ℕ) (x : NewPair) → i < length pairs → x ≡ get_or pairs i x
    → new_pairs pairs ≡ new_pairs (take i pairs) ++ (new_pair x ∷ new_pairs (drop (i + 1) pairs))
around pairs i x within at =
    let next : suc i ≡ i + 1 = omega arith in
    ap new_pairs (sym (take-append-drop i pairs) ∙ ap (λ (l : List NewPair). take i pairs ++ l)
    (drop-cons pairs i x within ∙ (λ j. sym at j ∷ drop (next j) pairs)))
    ∙ map-append new_pair (take i pairs) (x ∷ drop (i + 1) pairs)

-- and one more
pub one_more : (pairs : List NewPair) (i : ℕ) (x : NewPair) → i < length pairs
    → x ≡ get_or pairs i x
    → new_pairs (take (i + 1) pairs) ≡ new_pairs (take i pairs) ++ new_pair x ∷ []
one_more pairs i x within at =
    map_more new_pair pairs i x within
    ∙ ap (λ (y : NewPair). new_pairs (take i pairs) ++ new_pair y ∷ []) (sym at)

module _ {S R : Type 0} {G : Ghosts S} {H : Ghosts R} where
  -- so far
  pub record InTurn (start now : Relay S R G H) (pairs : List Pair) (puts : List Put)
      : Type 0 where
    pub putting : IsPutting {T = Unit {0}} start now (chosen pairs puts) (Ok tt)
    pub answers : G.tells → H.tells → puts ≡ puts_in (spaces start) pairs
    pub spaces : TellPuts start.access G.tells H.tells
        → spaces now ≡ spaces_behind (spaces start) pairs
    pub gives : Gives {T = Unit {0}} (λ v. puts) start (stores_of now) pairs (Ok tt)
    pub room : ArePut (state_of now).room pairs puts

  module _ (start mid now : Relay S R G H) (xs : List Pair) (p : List Put) (x : Pair)
      (so_far : InTurn start mid xs p) where
    same : mid.access ≡ start.access
    same = ap (λ (base : RelayBase G.tells H.tells). base.access) so_far.putting.keeps.base

    turn_then : (r : Result Put CacheErr)
        → Gives (λ (put : Put). put ∷ []) mid (stores_of now) (x ∷ []) r
        → Gives (λ (put : Put). p ++ (put ∷ [])) start (stores_of now) (xs ++ x ∷ []) r
    turn_then r gives = gives_then (λ (put : Put). put ∷ []) start mid (stores_of now) xs (x ∷ [])
        p r same so_far.room.even so_far.spaces so_far.gives gives

    -- where it is the last one, whatever comes of it
    pub turn_gives : (ys : List Pair) (r : Result Put CacheErr) (e : CacheErr)
        → Gives (λ (put : Put). put ∷ []) mid (stores_of now) (x ∷ []) r
        → HasPut start (stores_of now) (xs ++ (x ∷ ys)) (Err e)
    turn_gives ys r e gives = subst (λ (l : List Pair). HasPut start (stores_of now) l (Err e))
        (append_assoc xs (x ∷ []) ys)
        (gives_err (λ (put : Put). p ++ (put ∷ [])) (λ (puts : Puts). puts) start (stores_of now)
        (xs ++ x ∷ []) ys r e (turn_then r gives))

    pub next_turn : (put : Put)
        → (G.tells → H.tells → put ∷ [] ≡ stores mid (x ∷ []))
        → ArePut (state_of now).room (x ∷ []) (put ∷ [])
        → (TellPuts mid.access G.tells H.tells
        → spaces now ≡ spaces_behind (spaces mid) (x ∷ []))
        → IsPutting {T = Put} mid now (chosen (x ∷ []) (stores mid (x ∷ []))) (Ok put)
        → Gives (λ (q : Put). q ∷ []) mid (stores_of now) (x ∷ []) (Ok put)
        → InTurn start now (xs ++ x ∷ []) (p ++ put ∷ [])
    next_turn put outcome room filled putting gives = record {
      putting = putting_as start now (chosen xs p ++ chosen (x ∷ []) (stores mid (x ∷ []))) _
          (Ok tt)
          (λ told. ap (λ (q : List Put). chosen xs p ++ chosen (x ∷ []) q)
          (sym (outcome told.0 told.1))
          ∙ sym (chosen_append xs (x ∷ []) p (put ∷ []) so_far.room.even))
          (putting_ok start now _ put tt
          (putting_then start mid now (chosen xs p) _ tt (Ok put) so_far.putting putting));
      answers = λ t u. (λ i. so_far.answers t u i ++ outcome t u i)
          ∙ ap (λ (s : List Space). puts_in (spaces start) xs ++ puts_in s (x ∷ []))
          (so_far.spaces (both_tell start.access t u))
          ∙ sym (puts_append xs (x ∷ []) (spaces start));
      spaces = λ told.
          filled (tell_as start.access mid.access same told)
          ∙ ap (λ (s : List Space). spaces_behind s (x ∷ [])) (so_far.spaces told)
          ∙ sym (spaces_append xs (x ∷ []) (spaces start));
      gives = gives_ok (λ (q : Put). p ++ (q ∷ [])) (λ v. p ++ put ∷ []) start (stores_of now)
          (xs ++ x ∷ []) put tt refl (turn_then (Ok put) gives);
      room = put_append xs (x ∷ []) p (put ∷ []) (state_of mid).room (state_of now).room
          putting.keeps.room so_far.room room;
    }

    -- all that was to be chosen
    abbrev rest : (ys : List Pair) → List Pair
    rest ys = chosen ys (puts_in (spaces_behind (spaces start) (xs ++ x ∷ [])) ys)

    all_chosen : (ys : List Pair) → G.tells × H.tells
        → (chosen xs p ++ chosen (x ∷ []) (stores mid (x ∷ []))) ++ rest ys
        ≡ chosen (xs ++ (x ∷ ys)) (stores start (xs ++ (x ∷ ys)))
    all_chosen ys told =
        let sp = spaces start in
        (λ i. (chosen xs (so_far.answers told.0 told.1 i) ++ chosen (x ∷ [])
        (puts_in (so_far.spaces (both_tell start.access told.0 told.1) i) (x ∷ []))) ++ rest ys)
        ∙ ap (λ (l : List Pair). l ++ rest ys) (sym (chosen_both xs (x ∷ []) sp))
        ∙ sym (chosen_both (xs ++ x ∷ []) ys sp)
        ∙ ap (λ (l : List Pair). chosen l (puts_in sp l)) (append_assoc xs (x ∷ []) ys)

    pub turn_err : (ys : List Pair) (e : CacheErr)
        → IsPutting {T = Put} mid now (chosen (x ∷ []) (stores mid (x ∷ []))) (Err e)
        → IsPutting {T = Puts} start now (chosen (xs ++ (x ∷ ys)) (stores start (xs ++ (x ∷ ys))))
        (Err e)
    turn_err ys e putting =
        putting_as start now _ _ (Err e) (all_chosen ys)
        (putting_err {T = Put} {U = Puts} start now _ (rest ys) e
        (putting_then start mid now (chosen xs p) _ tt (Err e) so_far.putting putting))

    pub turn_memory : (ys : List Pair) (put : Put)
        → IsPutting {T = Put} mid now (chosen (x ∷ []) (stores mid (x ∷ []))) (Ok put)
        → IsPutting {T = Puts} start now (chosen (xs ++ (x ∷ ys)) (stores start (xs ++ (x ∷ ys))))
        (Err OutOfMemory)
    turn_memory ys put putting =
        putting_as start now _ _ (Err OutOfMemory) (all_chosen ys)
        (putting_memory {T = Put} {U = Puts} start now _ (rest ys) put
        (putting_then start mid now (chosen xs p) _ tt (Ok put) so_far.putting putting))

  pub no_turn : (start : Relay S R G H) → OnlyNow G → OnlyNow H → IsTrue (state_of start).whole
      → InTurn start start [] []
  no_turn start only also whole =
      let both = and_parts _ _ (and_parts _ _ whole).1 in
      record {
        putting = putting_none start tt only also whole;
        answers = λ t u. refl;
        spaces = λ told. refl;
        gives = gives_none start start (unread only start.local both.0)
            (unread also start.second both.1);
        room = record { even = refl; full = tt };
      }

  pub last_turn : (start now : Relay S R G H) (pairs : List Pair) (puts : Puts)
      → InTurn start now pairs puts
      → IsPutting {T = Puts} start now (chosen pairs (stores start pairs)) (Ok puts)
  last_turn start now pairs puts x =
      putting_as start now (chosen pairs puts) _ (Ok puts)
      (λ told. ap (chosen pairs) (x.answers told.0 told.1))
      (putting_ok start now (chosen pairs puts) tt puts x.putting)

  pub last_gives : (start now : Relay S R G H) (pairs : List Pair) (puts : Puts)
      → InTurn start now pairs puts → HasPut start (stores_of now) pairs (Ok puts)
  last_gives start now pairs puts x =
      gives_ok (λ (v : Unit {0}). puts) (λ (q : Puts). q) start (stores_of now) pairs tt puts refl
      x.gives

-- From what calls leave of the two stores to what they leave of the relay.
use Rattle.std.proofs.Common.{◌≡◌, ◌⊎◌, inl, inr, ⊎_elim, ℕ, ◌+◌, ◌≤◌, Bool, true, false, cond}
use Rattle.std.proofs.Common.{List, [], ◌++◌, length, take, drop, refl, sym, ◌∙◌, ap, subst}
use Rattle.std.proofs.Common.{arith}
use Rattle.std.specs.Prelude.{◌&&◌, ◌==◌, IsTrue}
use Rattle.std.proofs.lemmas.Bool.{eq-eqb}
use Rattle.store_dev.specs.declared.device.StoreDevice.{Ghosts}
use Rattle.cache_api.specs.declared.hit.Hit.{Hit}
use Rattle.cache_api.specs.Cache.{Keeps, HitsStay, CacheReads}
use Rattle.cache_api.specs.Calls.{reads_none}
use Rattle.cache_api.specs.Found.{found}
use Rattle.cache_api.specs.Reading.{artifact_in}
use Rattle.globs.specs.declared.out_set.OutSet.{OutSet}
use Rattle.std.proofs.lemmas.List.{take_all}
use Rattle.cache_api.specs.Moments.{Moment, NoLater, Leaves}
use Rattle.cache_api.specs.Pairs.{Pair, IsPartSince}
use Rattle.cache_api.proofs.Firsts.{all_left, all_part}
use Rattle.artifact_store.specs.Pairs.{told_as}
use Rattle.cli_words.specs.declared.order.Access.{Access}
use Rattle.relay_store.specs.declared.part.Part.{Part}
use Rattle.relay_store.specs.declared.relay.Relay.{Relay}
use Rattle.relay_store.specs.Stores.{state_in, shows_in}
use Rattle.relay_store.specs.Parts as part
use Rattle.relay_store.specs.Parts.{PartBase, first_of, more_of, pairs_of, IsRead}
use Rattle.relay_store.specs.Agree.{firsts, later}
use Rattle.relay_store.specs.Relays.{RelayBase, Image, says, IsNoted, room_by, base_of, state_of}
use Rattle.relay_store.specs.Relays.{cost_of, stands, shows, moment_of, left_of}
use Rattle.relay_store.specs.Relays.Image.{Local, Second}
use Rattle.relay_store.specs.Rests.{OnlyNow, rest_in, parted, local_says, second_says}
use Rattle.relay_store.proofs.Finding.{found_mid}

pub room_less : (p q : Bool) (a b c d : ℕ) → c ≤ a → d ≤ b → room_by p q c d ≤ room_by p q a b
room_less true true a b c d x y = omega (arith, x, y)
room_less true false a b c d x y = x
room_less false q a b c d x y = y

module _ {S R : Type 0} {G : Ghosts S} {H : Ghosts R} (old new : Relay S R G H) where
  pub relay_leaves : (PL PS : List ℕ → Type 0) (P : Image G.tells H.tells → Type 0)
      → base_of new ≡ base_of old
      → Leaves part.moment_of part.left_of old.local new.local PL
      → Leaves part.moment_of part.left_of old.second new.second PS
      → ((t : G.tells) (u : H.tells) (c : List ℕ) → IsNoted (base_of old) (Local t u c) → PL c
      → P (Local t u c))
      → ((t : G.tells) (u : H.tells) (c : List ℕ) → IsNoted (base_of old) (Second t u c) → PS c
      → P (Second t u c))
      → Leaves moment_of left_of old new P
  relay_leaves PL PS P same xl xs to_l to_s = record {
    later = record { first = xl.later.first; second = xs.later.first };
    each = each;
    before = before;
  }
    where
      was : (image : Image G.tells H.tells) → IsNoted (base_of new) image
          → IsNoted (base_of old) image
      was image noted = subst (λ (b : RelayBase G.tells H.tells). IsNoted b image) same noted

      each : (image : Image G.tells H.tells) → left_of new (moment_of old) image → P image
      each (Local t u c) left = to_l t u c (was (Local t u c) left.1) (xl.each c left.0)
      each (Second t u c) left = to_s t u c (was (Second t u c) left.1) (xs.each c left.0)

      before : (m : Moment) (image : Image G.tells H.tells) → NoLater m (moment_of old)
          → left_of new m image → left_of old m image ⊎ P image
      before m (Local t u c) le left = ⊎_elim
          (λ since. inl (since, was (Local t u c) left.1))
          (λ is. inr (to_l t u c (was (Local t u c) left.1) is))
          (xl.before (record { first = m.first; second = 0 }) c
          (record { first = le.first; second = omega arith }) left.0)
      before m (Second t u c) le left = ⊎_elim
          (λ since. inl (since, was (Second t u c) left.1))
          (λ is. inr (to_s t u c (was (Second t u c) left.1) is))
          (xs.before (record { first = m.second; second = 0 }) c
          (record { first = le.second; second = omega arith }) left.0)

  -- ---- hits

  shows_by : (hit : Hit) → G.tells × H.tells
      → HitsStay G.tells part.stands part.shows old.local new.local
      → HitsStay H.tells part.stands part.shows old.second new.second
      → stands old hit → shows new hit ≡ shows old hit
  shows_by hit told xl xs (inl (side, stood)) =
      let at = eq-eqb hit.side 0 side in
      ap (λ (b : Bool). cond b (shows_in new.local.store hit) (shows_in new.second.store hit)) at
      ∙ xl.same told.0 hit stood
      ∙ ap (λ (b : Bool). cond b (shows_in old.local.store hit) (shows_in old.second.store hit))
      (sym at)
  shows_by hit told xl xs (inr (side, stood)) =
      ap (λ (n : ℕ). cond (n == 0) (shows_in new.local.store hit) (shows_in new.second.store hit))
      side
      ∙ xs.same told.1 hit stood
      ∙ ap (λ (n : ℕ). cond (n == 0) (shows_in old.local.store hit)
      (shows_in old.second.store hit)) (sym side)

  pub relay_hits : HitsStay G.tells part.stands part.shows old.local new.local
      → HitsStay H.tells part.stands part.shows old.second new.second
      → HitsStay (G.tells × H.tells) stands shows old new
  relay_hits xl xs = record {
    stays = λ hit stood. ⊎_elim
        (λ l. inl (l.0, xl.stays hit l.1)) (λ s. inr (s.0, xs.stays hit s.1)) stood;
    same = λ told hit stood. shows_by hit told xl xs stood;
  }

  -- ---- calls that keep which store is put into

  module _ (access : new.access ≡ old.access) where
    pub relay_keeps : Keeps (part.state_of old.local) (part.state_of new.local)
        → Keeps (part.state_of old.second) (part.state_of new.second)
        → Keeps (state_of old) (state_of new)
    relay_keeps xl xs = record {
      base = λ i. record { access = access i; local = xl.base i; second = xs.base i };
      room = subst (λ (a : Access). room_by a.local_puts a.second_puts
          (state_in new.local.store).room (state_in new.second.store).room ≤ (state_of old).room)
          (sym access)
          (room_less old.access.local_puts old.access.second_puts _ _ _ _ xl.room xs.room);
      probes = omega (arith, xl.probes, xs.probes);
    }

    pub relay_reads : new.added ≡ old.added → IsTrue old.whole
        → new.local.first ≡ old.local.first → new.second.first ≡ old.second.first
        → CacheReads G.tells part.state_of part.cost_of part.stands part.shows part.moment_of
        part.left_of part.says_of old.local new.local
        → CacheReads H.tells part.state_of part.cost_of part.stands part.shows part.moment_of
        part.left_of part.says_of old.second new.second
        → CacheReads (G.tells × H.tells) state_of cost_of stands shows moment_of left_of says old
        new
    relay_reads added whole lf sf xl xs = record {
      pairs = pairs;
      lasting = λ told. ap (λ (l : List Pair). length l) (pairs told);
      sure = λ told. λ i. room_by (access i).local_puts (access i).second_puts
          (xl.sure told.0 i) (xs.sure told.1 i);
      cost_same = λ told key. λ i. xl.cost_same told.0 key i + xs.cost_same told.1 key i;
      hits = relay_hits xl.hits xs.hits;
      left = λ told. relay_leaves
          (λ c. IsPartSince (length (pairs_of old.local)) (pairs_of old.local)
          (told_as (state_in old.local.store).base c))
          (λ c. IsPartSince (length (pairs_of old.second)) (pairs_of old.second)
          (told_as (state_in old.second.store).base c))
          (λ image. IsPartSince (state_of old).lasting (state_of old).pairs
          (says (base_of old) image))
          keeps.base (xl.left told.0) (xs.left told.1)
          (λ t u c noted part. all_part _ _ (local_says old whole t u
          (told_as (state_in old.local.store).base c) (all_left _ _ part) noted))
          (λ t u c noted part. all_part _ _ (second_says old whole t u
          (told_as (state_in old.second.store).base c) (all_left _ _ part) noted));
      keeps = keeps;
    }
      where
        keeps : Keeps (state_of old) (state_of new)
        keeps = relay_keeps xl.keeps xs.keeps

        pairs : G.tells × H.tells → (state_of new).pairs ≡ (state_of old).pairs
        pairs told = λ i.
            firsts (access i).local_puts (take (lf i) (xl.pairs told.0 i))
            (take (sf i) (xs.pairs told.1 i))
            ++ take (added i) (later (access i).local_puts (drop (lf i) (xl.pairs told.0 i))
            (drop (sf i) (xs.pairs told.1 i)))

-- ---- a store that is not called

pub unread : {S : Type 0} {G : Ghosts S} → OnlyNow G → (p : Part S G)
    → IsTrue (part.state_of p).whole
    → IsRead p p
unread only p whole = record {
  reads = reads_none _ part.state_of part.cost_of part.stands part.shows part.moment_of
      part.left_of part.says_of p
      (λ told image left. all_part _ _ (rest_in only p.store told whole image left));
  first = refl;
  there = refl;
}

-- ---- the pairs that look-ups see

later_true : (b : Bool) (local second : List Pair) → b ≡ true → later b local second ≡ local
later_true true local second is = refl
later_true false local second is = absurd (cc)

later_false : (b : Bool) (local second : List Pair) → b ≡ false → later b local second ≡ second
later_false true local second is = absurd (cc)
later_false false local second is = refl

firsts_true : (b : Bool) (local second : List Pair) → b ≡ true
    → firsts b local second ≡ second ++ local
firsts_true true local second is = refl
firsts_true false local second is = absurd (cc)

firsts_false : (b : Bool) (local second : List Pair) → b ≡ false
    → firsts b local second ≡ local ++ second
firsts_false true local second is = absurd (cc)
firsts_false false local second is = refl

none_or_same : (p q : Bool) (local second : List Pair) → p ≡ true → (q ≡ false → second ≡ [])
    → ((p && q) ≡ true → second ≡ local) → (second ≡ []) ⊎ (second ≡ local)
none_or_same true true local second is none same = inr (same refl)
none_or_same true false local second is none same = inl (none refl)
none_or_same false q local second is none same = absurd (cc)

module _ {S R : Type 0} {G : Ghosts S} {H : Ghosts R} (r : Relay S R G H) (whole : IsTrue r.whole)
    (t : G.tells) (u : H.tells) (key : List ℕ) (outs : OutSet) where
  counted_local : r.access.local_puts ≡ true
      → take r.added (later r.access.local_puts (more_of r.local) (more_of r.second))
      ≡ more_of r.local
  counted_local puts =
      let is = later_true r.access.local_puts (more_of r.local) (more_of r.second) puts in
      take_all r.added _ (omega (arith, (r.agrees whole t u).counted)) ∙ is

  counted_second : r.access.local_puts ≡ false
      → take r.added (later r.access.local_puts (more_of r.local) (more_of r.second))
      ≡ more_of r.second
  counted_second other =
      let is = later_false r.access.local_puts (more_of r.local) (more_of r.second) other in
      take_all r.added _ (omega (arith, (r.agrees whole t u).counted)) ∙ is

  pub found_local : r.access.local_puts ≡ true
      → found artifact_in key outs (pairs_of r.second ++ pairs_of r.local)
      ≡ found artifact_in key outs (state_of r).pairs
  found_local puts =
      let agree = r.agrees whole t u in
      ap (found artifact_in key outs) (λ i. parted r.second i ++ parted r.local i)
      ∙ found_mid artifact_in key outs (first_of r.second) (more_of r.second) (first_of r.local)
      (more_of r.local)
      (none_or_same r.access.local_puts r.access.second_puts (more_of r.local) (more_of r.second)
      puts agree.second_none agree.same)
      ∙ ap (found artifact_in key outs)
      (λ i. sym (firsts_true r.access.local_puts (first_of r.local) (first_of r.second) puts) i
      ++ sym (counted_local puts) i)

  pub found_second : r.access.local_puts ≡ false
      → found artifact_in key outs (pairs_of r.local ++ pairs_of r.second)
      ≡ found artifact_in key outs (state_of r).pairs
  found_second other =
      let agree = r.agrees whole t u in
      ap (found artifact_in key outs) (λ i. parted r.local i ++ parted r.second i)
      ∙ found_mid artifact_in key outs (first_of r.local) (more_of r.local) (first_of r.second)
      (more_of r.second)
      (inl (agree.local_none other))
      ∙ ap (found artifact_in key outs)
      (λ i. sym (firsts_false r.access.local_puts (first_of r.local) (first_of r.second) other) i
      ++ sym (counted_second other) i)

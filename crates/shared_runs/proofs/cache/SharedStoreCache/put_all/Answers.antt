use Rattle.std.proofs.Common.{◌≡◌, inl, inr, ◌-◌, ◌++◌, min, Result, Err, refl, sym}
use Rattle.std.proofs.Common.{◌∙◌, ap, subst, arith}
use Rattle.std.specs.Prelude.{is_some}
use Rattle.rel_path.specs.Limits.{store_limit}
use Rattle.std.proofs.lemmas.Result.{err_from_is_err_and}
use Rattle.cache_api.specs.Cache.{IsFindErr}
use Rattle.cache_api.specs.Keys.{new_pairs}
use Rattle.cache_api.specs.Pairs.{chosen}
use Rattle.cache_api.specs.declared.puts.Puts.{Puts}
use Rattle.cache_api.specs.declared.error.CacheErr.{CacheErr}
use Rattle.cache_api.specs.declared.error.CacheErr.TheVariants.{OutOfMemory}
use Rattle.record_log.specs.Frames.{ends}
use Rattle.artifact_store.proofs.After.{after_err}
use Rattle.artifact_store.specs.Fits.{are_put_less}
use Rattle.shared_runs.specs.Own.{numbers_on, stored_in}
use Rattle.shared_runs.specs.Shared.{stores, file_of}
use Rattle.shared_runs.specs.SharedLaws.{are_to_put}
use Rattle.shared_runs.specs.Views.{view_of}
use Rattle.shared_runs.proofs.Ending.{some_of}
use Rattle.shared_runs.proofs.PutCalls.{dropped, sees_put, kept_put, now_store, put_starts, put_dropped}
use Rattle.shared_runs.proofs.PutCalls.{pairs_same, lasting_same, keeps_same, left_same}
use Rattle.shared_runs.proofs.PutSeen.{AreNumbered, seen_now, below_now, few_now}
use Rattle.shared_runs.proofs.PutSeen.{pairs_now, lasting_now, file_now, left_now, keeps_now}
use Rattle.shared_runs.proofs.PutCalls.{sees_own, kept_own}
use Rattle.shared_runs.proofs.Passed.{hits_start}
use Rattle.shared_runs.proofs.Stepping.{adds_ok, adds_err}
use Rattle.shared_runs.proofs.cache.SharedStoreCache.put_all.Goals as goal

find_oom : (e : CacheErr) → e ≡ OutOfMemory → IsFindErr e
find_oom e is = subst IsFindErr (sym is) tt

pub invariant_of-self : goal.invariant_of-self
invariant_of-self g c =
    let old = c.args.self.now in
    let (m, was) = some_of old.turns.mark c.requires in
    let stays = λ (told : g.H.Device.StoreDevice.tells).
    g.met.H.Shared.stays old.turns.shared told (old.sees told).sound in
    let news = new_pairs c.args.pairs.now in
    let new = c.put.new.self in
    let turn = c.put.ensures.turn in
    record {
      idle = turn.held;
      undamaged = λ told. turn.undamaged told ∙ old.undamaged told;
      below = old.below;
      sees = λ told. sees_put old new news m was stays turn told new.room (omega arith);
      kept = kept_put old new news m was stays turn;
    }

pub invariant_of-self-in-Err : goal.invariant_of-self-in-Err
invariant_of-self-in-Err g c =
    let old = c.args.self.now in
    let (m, was) = some_of old.turns.mark c.requires in
    let stays = λ (told : g.H.Device.StoreDevice.tells).
    g.met.H.Shared.stays old.turns.shared told (old.sees told).sound in
    let news = new_pairs c.args.pairs.now in
    let new = dropped c.put.new.self in
    let turn = put_dropped news old.turns c.put.new.self c.put.ensures.turn in
    record {
      idle = turn.held;
      undamaged = λ told. turn.undamaged told ∙ old.undamaged told;
      below = old.below;
      sees = λ told. sees_put old new news m was stays turn told new.room (omega arith);
      kept = kept_put old new news m was stays turn;
    }

pub returns-in_err-puts-clause-pairs : goal.returns-in_err-puts-clause-pairs
returns-in_err-puts-clause-pairs g c told =
    let old = c.args.self.now in
    let (m, was) = some_of old.turns.mark c.requires in
    let stays = λ (told : g.H.Device.StoreDevice.tells).
    g.met.H.Shared.stays old.turns.shared told (old.sees told).sound in
    let news = new_pairs c.args.pairs.now in
    let new = c.put.new.self in
    let turn = c.put.ensures.turn in
    let same = pairs_same old new news m was stays turn
    (now_store old new news m was stays turn) refl refl
    (inl (ap is_some c.in_err-puts.ensures.dropped)) told in
    let e = c.in_err-puts.field-0.0 in
    let p = err_from_is_err_and c.from_residual.result c.from_residual.ensures.1 in
    rw (p.1, p.2) (after_err Puts e (view_of old.seen (file_of old)) (chosen news (stores old news))
    (view_of old.seen (g.H.Shared.content new.shared))
    c.in_err-puts.ensures.answers (inr same) (inl same))

pub returns-in_err-puts-clause-full : goal.returns-in_err-puts-clause-full
returns-in_err-puts-clause-full g c told = are_to_put c.args.self.now (new_pairs c.args.pairs.now)

pub returns-in_err-puts-clause-lasting : goal.returns-in_err-puts-clause-lasting
returns-in_err-puts-clause-lasting g c told =
    let old = c.args.self.now in
    let (m, was) = some_of old.turns.mark c.requires in
    let stays = λ (told : g.H.Device.StoreDevice.tells).
    g.met.H.Shared.stays old.turns.shared told (old.sees told).sound in
    let news = new_pairs c.args.pairs.now in
    let new = c.put.new.self in
    let turn = c.put.ensures.turn in
    lasting_same old new news m was stays turn (now_store old new news m was stays turn) refl refl
    (inl (ap is_some c.in_err-puts.ensures.dropped)) told

pub returns-in_err-puts-clause-left : goal.returns-in_err-puts-clause-left
returns-in_err-puts-clause-left g c told =
    let old = c.args.self.now in
    let (m, was) = some_of old.turns.mark c.requires in
    let stays = λ (told : g.H.Device.StoreDevice.tells).
    g.met.H.Shared.stays old.turns.shared told (old.sees told).sound in
    let news = new_pairs c.args.pairs.now in
    let new = c.put.new.self in
    let turn = c.put.ensures.turn in
    left_same old new news m was stays turn told (chosen news (stores old news))
    (inl (ap is_some c.in_err-puts.ensures.dropped))
    (now_store old new news m was stays turn) refl refl

pub returns-in_err-puts-clause-hits : goal.returns-in_err-puts-clause-hits
returns-in_err-puts-clause-hits g c =
    let old = c.args.self.now in
    let (m, was) = some_of old.turns.mark c.requires in
    let stays = λ (told : g.H.Device.StoreDevice.tells).
    g.met.H.Shared.stays old.turns.shared told (old.sees told).sound in
    let news = new_pairs c.args.pairs.now in
    let new = c.put.new.self in
    let turn = c.put.ensures.turn in
    hits_start old _ (put_starts old new news m was stays turn)

pub returns-in_err-puts-clause-keeps : goal.returns-in_err-puts-clause-keeps
returns-in_err-puts-clause-keeps g c =
    let old = c.args.self.now in
    let (m, was) = some_of old.turns.mark c.requires in
    let stays = λ (told : g.H.Device.StoreDevice.tells).
    g.met.H.Shared.stays old.turns.shared told (old.sees told).sound in
    let news = new_pairs c.args.pairs.now in
    let new = c.put.new.self in
    let turn = c.put.ensures.turn in
    keeps_same old new news m was stays turn (now_store old new news m was stays turn) refl refl
    (inl (ap is_some c.in_err-puts.ensures.dropped)) c.put.ensures.room

pub returns-in_err-puts-clause-images : goal.returns-in_err-puts-clause-images
returns-in_err-puts-clause-images g c told =
    let old = c.args.self.now in
    let (m, was) = some_of old.turns.mark c.requires in
    let stays = λ (told : g.H.Device.StoreDevice.tells).
    g.met.H.Shared.stays old.turns.shared told (old.sees told).sound in
    let news = new_pairs c.args.pairs.now in
    let new = c.put.new.self in
    let turn = c.put.ensures.turn in
    record { file = turn.file told; goes = turn.goes told }

pub returns-in_err-puts-clause-steps : goal.returns-in_err-puts-clause-steps
returns-in_err-puts-clause-steps g c told =
    let old = c.args.self.now in
    let (m, was) = some_of old.turns.mark c.requires in
    let stays = λ (told : g.H.Device.StoreDevice.tells).
    g.met.H.Shared.stays old.turns.shared told (old.sees told).sound in
    let news = new_pairs c.args.pairs.now in
    let new = c.put.new.self in
    let turn = c.put.ensures.turn in
    let store = now_store old new news m was stays turn in
    let keeps = keeps_same old new news m was stays turn store refl refl
    (inl (ap is_some c.in_err-puts.ensures.dropped))
    c.put.ensures.room in
    let p = err_from_is_err_and c.from_residual.result c.from_residual.ensures.1 in
    adds_err old _ m was (stays told) (λ t. ap (λ b. b t) keeps.base) c.from_residual.result p.0 p.1
    (chosen news (stores old news)) c.in_err-puts.ensures.dropped (c.put.ensures.some told)

pub returns-in-Err-clause-pairs : goal.returns-in-Err-clause-pairs
returns-in-Err-clause-pairs g c told =
    let old = c.args.self.now in
    let (m, was) = some_of old.turns.mark c.requires in
    let stays = λ (told : g.H.Device.StoreDevice.tells).
    g.met.H.Shared.stays old.turns.shared told (old.sees told).sound in
    let news = new_pairs c.args.pairs.now in
    let new = dropped c.put.new.self in
    let turn = put_dropped news old.turns c.put.new.self c.put.ensures.turn in
    let same = pairs_same old new news m was stays turn
    (now_store old new news m was stays turn) refl refl (inl refl) told in
    after_err Puts c.in-Err.fault (view_of old.seen (file_of old)) (chosen news (stores old news))
    (view_of old.seen (g.H.Shared.content new.shared))
    (find_oom c.in-Err.fault c.in-Err.ensures.answers) (inr same) (inl same)

pub returns-in-Err-clause-full : goal.returns-in-Err-clause-full
returns-in-Err-clause-full g c told = are_to_put c.args.self.now (new_pairs c.args.pairs.now)

pub returns-in-Err-clause-lasting : goal.returns-in-Err-clause-lasting
returns-in-Err-clause-lasting g c told =
    let old = c.args.self.now in
    let (m, was) = some_of old.turns.mark c.requires in
    let stays = λ (told : g.H.Device.StoreDevice.tells).
    g.met.H.Shared.stays old.turns.shared told (old.sees told).sound in
    let news = new_pairs c.args.pairs.now in
    let new = dropped c.put.new.self in
    let turn = put_dropped news old.turns c.put.new.self c.put.ensures.turn in
    lasting_same old new news m was stays turn (now_store old new news m was stays turn) refl refl
    (inl refl) told

pub returns-in-Err-clause-left : goal.returns-in-Err-clause-left
returns-in-Err-clause-left g c told =
    let old = c.args.self.now in
    let (m, was) = some_of old.turns.mark c.requires in
    let stays = λ (told : g.H.Device.StoreDevice.tells).
    g.met.H.Shared.stays old.turns.shared told (old.sees told).sound in
    let news = new_pairs c.args.pairs.now in
    let new = dropped c.put.new.self in
    let turn = put_dropped news old.turns c.put.new.self c.put.ensures.turn in
    left_same old new news m was stays turn told (chosen news (stores old news))
    (inl refl) (now_store old new news m was stays turn) refl refl

pub returns-in-Err-clause-hits : goal.returns-in-Err-clause-hits
returns-in-Err-clause-hits g c =
    let old = c.args.self.now in
    let (m, was) = some_of old.turns.mark c.requires in
    let stays = λ (told : g.H.Device.StoreDevice.tells).
    g.met.H.Shared.stays old.turns.shared told (old.sees told).sound in
    let news = new_pairs c.args.pairs.now in
    let new = dropped c.put.new.self in
    let turn = put_dropped news old.turns c.put.new.self c.put.ensures.turn in
    hits_start old _ (put_starts old new news m was stays turn)

pub returns-in-Err-clause-keeps : goal.returns-in-Err-clause-keeps
returns-in-Err-clause-keeps g c =
    let old = c.args.self.now in
    let (m, was) = some_of old.turns.mark c.requires in
    let stays = λ (told : g.H.Device.StoreDevice.tells).
    g.met.H.Shared.stays old.turns.shared told (old.sees told).sound in
    let news = new_pairs c.args.pairs.now in
    let new = dropped c.put.new.self in
    let turn = put_dropped news old.turns c.put.new.self c.put.ensures.turn in
    keeps_same old new news m was stays turn (now_store old new news m was stays turn) refl refl
    (inl refl) c.put.ensures.room

pub returns-in-Err-clause-images : goal.returns-in-Err-clause-images
returns-in-Err-clause-images g c told =
    let old = c.args.self.now in
    let (m, was) = some_of old.turns.mark c.requires in
    let stays = λ (told : g.H.Device.StoreDevice.tells).
    g.met.H.Shared.stays old.turns.shared told (old.sees told).sound in
    let news = new_pairs c.args.pairs.now in
    let new = dropped c.put.new.self in
    let turn = put_dropped news old.turns c.put.new.self c.put.ensures.turn in
    record { file = turn.file told; goes = turn.goes told }

pub returns-in-Err-clause-steps : goal.returns-in-Err-clause-steps
returns-in-Err-clause-steps g c told =
    let old = c.args.self.now in
    let (m, was) = some_of old.turns.mark c.requires in
    let stays = λ (told : g.H.Device.StoreDevice.tells).
    g.met.H.Shared.stays old.turns.shared told (old.sees told).sound in
    let news = new_pairs c.args.pairs.now in
    let new = dropped c.put.new.self in
    let turn = put_dropped news old.turns c.put.new.self c.put.ensures.turn in
    let store = now_store old new news m was stays turn in
    let keeps = keeps_same old new news m was stays turn store refl refl (inl refl)
    c.put.ensures.room in
    let failed : Result Puts CacheErr = Err c.in-Err.fault in
    let is : failed ≡ Err c.in-Err.fault = refl in
    adds_err old _ m was (stays told) (λ t. ap (λ b. b t) keeps.base) failed c.in-Err.fault is
    (chosen news (stores old news)) refl (c.put.ensures.some told)

pub invariant_of-self-in-Ok : goal.invariant_of-self-in-Ok
invariant_of-self-in-Ok g c =
    let old = c.args.self.now in
    let (m, was) = some_of old.turns.mark c.requires in
    let stays = λ (told : g.H.Device.StoreDevice.tells).
    g.met.H.Shared.stays old.turns.shared told (old.sees told).sound in
    let news = new_pairs c.args.pairs.now in
    let new = c.put.new.self in
    let turn = c.put.ensures.turn in
    let puts = c.in_ok-puts.puts in
    let from = c.max-from.result in
    let next = c.in-Ok.next in
    let own = c.in-Ok.own in
    let x : AreNumbered g.H.Shared g.H.Device.StoreDevice old new news puts from next own = record {
      done = c.in_ok-puts.ensures.done;
      even = c.in_ok-puts.ensures.put.even;
      from_is = c.max-from.ensures;
      own_is = c.in-Ok.ensures.own
          ∙ ap (λ n. old.seen.own ++ numbers_on from n)
          (c.stored.ensures ∙ ap stored_in c.as_slice.ensures);
      next_is = omega (
        arith,
        c.in-Ok.ensures.next,
        c.stored.ensures,
        ap stored_in
            c.as_slice.ensures,
      );
    } in
    let below = below_now old new news m was stays turn puts from next own x in
    let few = few_now old new news m was stays turn puts from next own x in
    let seen = seen_now old new news m was stays turn puts from next own x in
    record {
      idle = turn.held;
      undamaged = λ told. turn.undamaged told ∙ old.undamaged told;
      below = below;
      sees = sees_own old new news m was stays turn seen next refl below few;
      kept = kept_own old new news m was stays turn seen next refl below few;
    }

pub returns-in-Ok-clause-full : goal.returns-in-Ok-clause-full
returns-in-Ok-clause-full g c told = are_to_put c.args.self.now (new_pairs c.args.pairs.now)

pub returns-in-Ok-clause-put : goal.returns-in-Ok-clause-put
returns-in-Ok-clause-put g c =
    let old = c.args.self.now in
    let (m, was) = some_of old.turns.mark c.requires in
    let stays = λ (told : g.H.Device.StoreDevice.tells).
    g.met.H.Shared.stays old.turns.shared told (old.sees told).sound in
    let news = new_pairs c.args.pairs.now in
    let new = c.put.new.self in
    let turn = c.put.ensures.turn in
    are_put_less new.room (min new.room (store_limit - ends (g.H.Shared.coming new.shared))) news
    c.in_ok-puts.puts (omega arith) c.in_ok-puts.ensures.put

pub returns-in-Ok-clause-pairs : goal.returns-in-Ok-clause-pairs
returns-in-Ok-clause-pairs g c told =
    let old = c.args.self.now in
    let (m, was) = some_of old.turns.mark c.requires in
    let stays = λ (told : g.H.Device.StoreDevice.tells).
    g.met.H.Shared.stays old.turns.shared told (old.sees told).sound in
    let news = new_pairs c.args.pairs.now in
    let new = c.put.new.self in
    let turn = c.put.ensures.turn in
    let puts = c.in_ok-puts.puts in
    let from = c.max-from.result in
    let next = c.in-Ok.next in
    let own = c.in-Ok.own in
    let x : AreNumbered g.H.Shared g.H.Device.StoreDevice old new news puts from next own = record {
      done = c.in_ok-puts.ensures.done;
      even = c.in_ok-puts.ensures.put.even;
      from_is = c.max-from.ensures;
      own_is = c.in-Ok.ensures.own
          ∙ ap (λ n. old.seen.own ++ numbers_on from n)
          (c.stored.ensures ∙ ap stored_in c.as_slice.ensures);
      next_is = omega (
        arith,
        c.in-Ok.ensures.next,
        c.stored.ensures,
        ap stored_in
            c.as_slice.ensures,
      );
    } in
    pairs_now old new news m was stays turn puts from next own x told

pub returns-in-Ok-clause-lasting : goal.returns-in-Ok-clause-lasting
returns-in-Ok-clause-lasting g c told =
    let old = c.args.self.now in
    let (m, was) = some_of old.turns.mark c.requires in
    let stays = λ (told : g.H.Device.StoreDevice.tells).
    g.met.H.Shared.stays old.turns.shared told (old.sees told).sound in
    let news = new_pairs c.args.pairs.now in
    let new = c.put.new.self in
    let turn = c.put.ensures.turn in
    let puts = c.in_ok-puts.puts in
    let from = c.max-from.result in
    let next = c.in-Ok.next in
    let own = c.in-Ok.own in
    let x : AreNumbered g.H.Shared g.H.Device.StoreDevice old new news puts from next own = record {
      done = c.in_ok-puts.ensures.done;
      even = c.in_ok-puts.ensures.put.even;
      from_is = c.max-from.ensures;
      own_is = c.in-Ok.ensures.own
          ∙ ap (λ n. old.seen.own ++ numbers_on from n)
          (c.stored.ensures ∙ ap stored_in c.as_slice.ensures);
      next_is = omega (
        arith,
        c.in-Ok.ensures.next,
        c.stored.ensures,
        ap stored_in
            c.as_slice.ensures,
      );
    } in
    lasting_now old new news m was stays turn puts from next own x told

pub returns-in-Ok-clause-left : goal.returns-in-Ok-clause-left
returns-in-Ok-clause-left g c told =
    let old = c.args.self.now in
    let (m, was) = some_of old.turns.mark c.requires in
    let stays = λ (told : g.H.Device.StoreDevice.tells).
    g.met.H.Shared.stays old.turns.shared told (old.sees told).sound in
    let news = new_pairs c.args.pairs.now in
    let new = c.put.new.self in
    let turn = c.put.ensures.turn in
    let puts = c.in_ok-puts.puts in
    let from = c.max-from.result in
    let next = c.in-Ok.next in
    let own = c.in-Ok.own in
    let x : AreNumbered g.H.Shared g.H.Device.StoreDevice old new news puts from next own = record {
      done = c.in_ok-puts.ensures.done;
      even = c.in_ok-puts.ensures.put.even;
      from_is = c.max-from.ensures;
      own_is = c.in-Ok.ensures.own
          ∙ ap (λ n. old.seen.own ++ numbers_on from n)
          (c.stored.ensures ∙ ap stored_in c.as_slice.ensures);
      next_is = omega (
        arith,
        c.in-Ok.ensures.next,
        c.stored.ensures,
        ap stored_in
            c.as_slice.ensures,
      );
    } in
    left_now old new news m was stays turn puts from next own x told

pub returns-in-Ok-clause-hits : goal.returns-in-Ok-clause-hits
returns-in-Ok-clause-hits g c =
    let old = c.args.self.now in
    let (m, was) = some_of old.turns.mark c.requires in
    let stays = λ (told : g.H.Device.StoreDevice.tells).
    g.met.H.Shared.stays old.turns.shared told (old.sees told).sound in
    hits_start old _ (put_starts old c.put.new.self (new_pairs c.args.pairs.now) m was stays
    c.put.ensures.turn)

pub returns-in-Ok-clause-keeps : goal.returns-in-Ok-clause-keeps
returns-in-Ok-clause-keeps g c =
    let old = c.args.self.now in
    let (m, was) = some_of old.turns.mark c.requires in
    let stays = λ (told : g.H.Device.StoreDevice.tells).
    g.met.H.Shared.stays old.turns.shared told (old.sees told).sound in
    let news = new_pairs c.args.pairs.now in
    let new = c.put.new.self in
    let turn = c.put.ensures.turn in
    let puts = c.in_ok-puts.puts in
    let from = c.max-from.result in
    let next = c.in-Ok.next in
    let own = c.in-Ok.own in
    let x : AreNumbered g.H.Shared g.H.Device.StoreDevice old new news puts from next own = record {
      done = c.in_ok-puts.ensures.done;
      even = c.in_ok-puts.ensures.put.even;
      from_is = c.max-from.ensures;
      own_is = c.in-Ok.ensures.own
          ∙ ap (λ n. old.seen.own ++ numbers_on from n)
          (c.stored.ensures ∙ ap stored_in c.as_slice.ensures);
      next_is = omega (
        arith,
        c.in-Ok.ensures.next,
        c.stored.ensures,
        ap stored_in
            c.as_slice.ensures,
      );
    } in
    keeps_now old new news m was stays turn puts from next own x c.put.ensures.room

pub returns-in-Ok-clause-images : goal.returns-in-Ok-clause-images
returns-in-Ok-clause-images g c told =
    let old = c.args.self.now in
    let (m, was) = some_of old.turns.mark c.requires in
    let stays = λ (told : g.H.Device.StoreDevice.tells).
    g.met.H.Shared.stays old.turns.shared told (old.sees told).sound in
    let news = new_pairs c.args.pairs.now in
    let new = c.put.new.self in
    let turn = c.put.ensures.turn in
    record { file = turn.file told; goes = turn.goes told }

pub returns-in-Ok-clause-steps : goal.returns-in-Ok-clause-steps
returns-in-Ok-clause-steps g c told =
    let old = c.args.self.now in
    let (m, was) = some_of old.turns.mark c.requires in
    let stays = λ (told : g.H.Device.StoreDevice.tells).
    g.met.H.Shared.stays old.turns.shared told (old.sees told).sound in
    let news = new_pairs c.args.pairs.now in
    let new = c.put.new.self in
    let turn = c.put.ensures.turn in
    let puts = c.in_ok-puts.puts in
    let from = c.max-from.result in
    let next = c.in-Ok.next in
    let own = c.in-Ok.own in
    let x : AreNumbered g.H.Shared g.H.Device.StoreDevice old new news puts from next own = record {
      done = c.in_ok-puts.ensures.done;
      even = c.in_ok-puts.ensures.put.even;
      from_is = c.max-from.ensures;
      own_is = c.in-Ok.ensures.own
          ∙ ap (λ n. old.seen.own ++ numbers_on from n)
          (c.stored.ensures ∙ ap stored_in c.as_slice.ensures);
      next_is = omega (
        arith,
        c.in-Ok.ensures.next,
        c.stored.ensures,
        ap stored_in
            c.as_slice.ensures,
      );
    } in
    let keeps = keeps_now old new news m was stays turn puts from next own x c.put.ensures.room in
    adds_ok old _ m was (stays told) (λ t. ap (λ b. b t) keeps.base) puts
    (chosen news (stores old news)) (file_now old new news m was stays turn puts from next own x
    told)
    c.in_ok-puts.ensures.stays (pairs_now old new news m was stays turn puts from next own x told)

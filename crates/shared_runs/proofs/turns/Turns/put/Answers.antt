use Rattle.std.proofs.Common.{◌≡◌, ◌≤◌, ℕ, inl, inr, ◌++◌, List, length, take, Result, Ok, sym, ◌∙◌}
use Rattle.std.proofs.Common.{ap, subst, arith}
use Rattle.std.specs.Prelude.{◌-◌, IsTrue}
use Rattle.rel_path.specs.Limits.{store_limit}
use Rattle.cache_api.specs.Keys.{new_pairs}
use Rattle.cache_api.specs.Pairs.{Pair, chosen}
use Rattle.record_log.specs.Kinds.{Entry}
use Rattle.record_log.specs.Frames.{reading, frames_of, ends}
use Rattle.pair_frames.specs.Pairs.{pairs_in}
use Rattle.pair_frames.specs.Puts.{added}
use Rattle.cache_api.specs.declared.error.CacheErr.{CacheErr}
use Rattle.cache_api.specs.Cache.{ArePut, AllAfter}
use Rattle.artifact_store.specs.Pairs.{free_in}
use Rattle.artifact_store.specs.Outcomes.{outcomes}
use Rattle.artifact_store.specs.Store as store
use Rattle.artifact_store.specs.Fits.{are_put_less}
use Rattle.shared_runs.specs.Others.{with_pairs}
use Rattle.shared_runs.proofs.Appending.{room_is}
use Rattle.shared_runs.proofs.Ending.{some_of, passes_err}
use Rattle.shared_runs.proofs.Putting.{ok_was, ok_holds, ok_whole, ok_after, ok_said, some_put}
use Rattle.shared_runs.proofs.Putting.{put_in_turn, puts_file, puts_goes, puts_free, puts_room}
use Rattle.shared_runs.proofs.Turning.{goes_more}
use Rattle.shared_runs.specs.Frames.{HoldsFirst}
use Rattle.shared_runs.specs.Passes.{HoldsFirstOrPut, HoldsSomePut, put_behind}
use Rattle.shared_runs.specs.Views.{pairs_at}
use Rattle.shared_runs.specs.declared.turn.Shared.{Ghosts}
use Rattle.store_dev.specs.declared.device.StoreDevice.{Ghosts as DeviceGhosts}
use Rattle.artifact_store.specs.declared.store.Store.{Store}
use Rattle.shared_runs.proofs.turns.Turns.put.Goals as goal

pub returns-in_err-store-clause-turn : goal.returns-in_err-store-clause-turn
returns-in_err-store-clause-turn g c =
    let h = g.H.Shared in
    let old = c.args.self.now in
    let mid = c.open_turn.new.self in
    let (m, is) = some_of old.mark c.requires.whole in
    let opens = c.in_err-store.ensures in
    let least = length (frames_of (h.content old.shared)) in
    let news = new_pairs c.args.pairs.now in
    let passes = passes_err h g.H.Device.StoreDevice old mid opens.began opens.file
    (λ told. g.met.H.Shared.stays old.shared told (c.requires.known m is told).sound) opens.grows
    opens.given opens.mark
    opens.same opens.reads opens.told in
    record {
      held = passes.held;
      began = passes.began;
      file = λ told. inl (opens.file told).file;
      goes = λ told. goes_more h.moment h.images_since old.shared mid.shared
          (HoldsFirst least (h.coming old.shared))
          (HoldsFirstOrPut least (h.coming old.shared) news) (opens.file told).goes (λ b p. inl p);
      undamaged = passes.undamaged;
      grows = passes.grows;
      known = passes.known;
      free = passes.free;
      reads = passes.reads;
    }

pub close_turn-requires-clause-turn : goal.close_turn-requires-clause-turn
close_turn-requires-clause-turn g c =
    let old = c.args.self.now in
    let (m, is) = some_of old.mark c.requires.whole in
    put_in_turn g.H.Shared g.H.Device.StoreDevice old.shared c.open_turn.new.self.shared
    c.in_ok-store.store c.put_all-answer.new.self
    (new_pairs c.args.pairs.now) c.in_ok-store.ensures.turn
    (λ told. (c.requires.known m is told).sound)
    c.put_all-answer.ensures.images c.put_all-answer.ensures.after
    c.put_all-answer.ensures.cause.later

pub close_turn-requires-clause-opened : goal.close_turn-requires-clause-opened
close_turn-requires-clause-opened g c =
    omega (arith, c.probes-opened.ensures, c.put_all-answer.ensures.keeps.probes)

pub close_turn-requires-clause-foresees : goal.close_turn-requires-clause-foresees
close_turn-requires-clause-foresees g c told =
    c.put_all-answer.ensures.foresees ∙ c.in_ok-store.ensures.foresees told

pub returns-in_err-puts-clause-turn : goal.returns-in_err-puts-clause-turn
returns-in_err-puts-clause-turn g c =
    let h = g.H.Shared in
    let k = g.H.Device.StoreDevice in
    let old = c.args.self.now in
    let mid = c.open_turn.new.self in
    let new = c.close_turn.new.self in
    let s = c.in_ok-store.store in
    let n = c.put_all-answer.new.self in
    let news = new_pairs c.args.pairs.now in
    let (m, is) = some_of old.mark c.requires.whole in
    let opens = c.in_ok-store.ensures in
    let put = c.put_all-answer.ensures in
    let end = c.close_turn.ensures in
    let sound = λ (told : k.tells). (c.requires.known m is told).sound in
    let starts = λ (told : k.tells). g.met.H.Shared.stays old.shared told (sound told) in
    let given = λ (told : k.tells). end.file told in
    let goes = λ (told : k.tells). end.time told in
    let earlier = λ (a b : ℕ) (x : List ℕ) (le : a ≤ b) (lt : b ≤ h.moment new.shared)
    (left : h.images_since new.shared b x). g.met.H.Shared.earlier new.shared a b x le lt
    left in
    record {
      held = end.held;
      began = end.began ∙ opens.began;
      file = puts_file h k old.shared mid.shared s n news opens.turn sound put.images put.after
          put.cause.later
          new.shared opens.file starts given goes earlier;
      goes = puts_goes h k old.shared mid.shared s n news opens.turn sound put.images put.after
          put.cause.later
          new.shared opens.file starts given goes earlier;
      undamaged = λ told. end.damaged ∙ opens.told told;
      grows = omega (arith, opens.grows, end.grows);
      known = end.known;
      free = λ told free.
          let less = puts_free h k old.shared mid.shared s n news opens.turn sound put.images
          put.after put.cause.later
          new.shared opens.file starts given goes earlier told in
          let room = puts_room h k old.shared mid.shared s n news opens.turn sound put.images
          put.after put.cause.later
          new.shared opens.file starts given goes earlier told in
          omega (arith, free, less, room, end.room, opens.free);
      reads = omega (arith, opens.reads, end.more);
    }

pub returns-clause-turn : goal.returns-clause-turn
returns-clause-turn g c =
    let h = g.H.Shared in
    let k = g.H.Device.StoreDevice in
    let old = c.args.self.now in
    let mid = c.open_turn.new.self in
    let new = c.close_turn.new.self in
    let s = c.in_ok-store.store in
    let n = c.put_all-answer.new.self in
    let news = new_pairs c.args.pairs.now in
    let (m, is) = some_of old.mark c.requires.whole in
    let opens = c.in_ok-store.ensures in
    let put = c.put_all-answer.ensures in
    let end = c.close_turn.ensures in
    let sound = λ (told : k.tells). (c.requires.known m is told).sound in
    let starts = λ (told : k.tells). g.met.H.Shared.stays old.shared told (sound told) in
    let given = λ (told : k.tells). end.file told in
    let goes = λ (told : k.tells). end.time told in
    let earlier = λ (a b : ℕ) (x : List ℕ) (le : a ≤ b) (lt : b ≤ h.moment new.shared)
    (left : h.images_since new.shared b x). g.met.H.Shared.earlier new.shared a b x le lt
    left in
    record {
      held = end.held;
      began = end.began ∙ opens.began;
      file = puts_file h k old.shared mid.shared s n news opens.turn sound put.images put.after
          put.cause.later
          new.shared opens.file starts given goes earlier;
      goes = puts_goes h k old.shared mid.shared s n news opens.turn sound put.images put.after
          put.cause.later
          new.shared opens.file starts given goes earlier;
      undamaged = λ told. end.damaged ∙ opens.told told;
      grows = omega (arith, opens.grows, end.grows);
      known = end.known;
      free = λ told free.
          let less = puts_free h k old.shared mid.shared s n news opens.turn sound put.images
          put.after put.cause.later
          new.shared opens.file starts given goes earlier told in
          let room = puts_room h k old.shared mid.shared s n news opens.turn sound put.images
          put.after put.cause.later
          new.shared opens.file starts given goes earlier told in
          let was = ok_was c.put_all-answer.result c.close_turn.result c.in_ok-puts.puts end.answer
          c.in_ok-puts.was in
          let whole = subst (λ b. IsTrue b)
          (sym (ok_whole c.put_all-answer.result c.in_ok-puts.puts s.log.whole n.log.whole was
          put.whole)) opens.turn.whole in
          omega (
            arith,
            free,
            less,
            room,
            end.room,
            opens.free,
            c.min-self.ensures,
            c.free-free.ensures,
            room_is n whole told,
            ap free_in (given told),
          );
      reads = omega (arith, opens.reads, end.more);
    }

pub returns-clause-done : goal.returns-clause-done
returns-clause-done g c told =
    let h = g.H.Shared in
    let k = g.H.Device.StoreDevice in
    let old = c.args.self.now in
    let s = c.in_ok-store.store in
    let n = c.put_all-answer.new.self in
    let news = new_pairs c.args.pairs.now in
    let (m, is) = some_of old.mark c.requires.whole in
    let opens = c.in_ok-store.ensures in
    let put = c.put_all-answer.ensures in
    let end = c.close_turn.ensures in
    let sound = (c.requires.known m is told).sound in
    let coming = h.coming old.shared in
    let answer = c.put_all-answer.result in
    let puts = c.in_ok-puts.puts in
    let was = ok_was answer c.close_turn.result puts end.answer c.in_ok-puts.was in
    let frames : store.frames_of s ≡ coming = opens.turn.frames told sound in
    let room : (store.state_of s).room ≡ store_limit - ends coming =
    room_is s opens.turn.whole told ∙ ap (λ (l : List Entry). store_limit - ends l) frames in
    let outcome : puts ≡ outcomes (store_limit - ends coming) coming news =
    ok_holds answer puts (λ p. p ≡ store.stores s news) was (put.outcome told)
    ∙ (λ i. outcomes (room i) (frames i) news) in
    let all : store.frames_of n ≡ with_pairs coming news =
    ok_said answer puts (store.frames_of n ≡ store.frames_of s ++ added (store.state_of s).room
    (store.frames_of s) news) was (put.frames told)
    ∙ (λ i. frames i ++ added (room i) (frames i) news) in
    let given = end.file told in
    record {
      puts_are = outcome;
      frames = ap reading given ∙ (n.log.front told).read ∙ ap (λ (l : List Entry). Ok l) all;
      pairs_are = ap pairs_in (sym all)
          ∙ ok_after answer puts (pairs_in (store.frames_of s)) (chosen news (store.stores s news))
          (pairs_in (store.frames_of n)) was (put.pairs told)
          ∙ (λ i. pairs_in (frames i) ++ chosen news
          (sym (ok_holds answer puts (λ p. p ≡ store.stores s news) was (put.outcome told)) i));
      count_is = end.count ∙ opens.count told ∙ ap (λ (l : List Entry). length (pairs_in l)) frames;
    }

pub returns-clause-put : goal.returns-clause-put
returns-clause-put g c =
    let n = c.put_all-answer.new.self in
    let puts = c.in_ok-puts.puts in
    let was = ok_was c.put_all-answer.result c.close_turn.result puts c.close_turn.ensures.answer
    c.in_ok-puts.was in
    are_put_less (store.state_of n).room c.min-self.result (new_pairs c.args.pairs.now) puts
    (omega (arith, c.min-self.ensures, c.free-free.ensures))
    (ok_holds c.put_all-answer.result puts (λ p. ArePut (store.state_of n).room
    (new_pairs c.args.pairs.now) p) was c.put_all-answer.ensures.put)

pub returns-in_err-store-clause-some : goal.returns-in_err-store-clause-some
returns-in_err-store-clause-some g c told = inl (c.in_err-store.ensures.file told).file

some_behind : {H D : Type 0} (G : Ghosts H D) (K : DeviceGhosts D) (old end : H) (s n : Store D K)
    (news : List Pair) → IsTrue (store.state_of s).whole → K.tells
    → store.frames_of s ≡ G.coming old → G.content end ≡ K.content (store.device_of n)
    → {T : Type 0} → (answer : Result T CacheErr)
    → AllAfter answer (store.state_of s).lasting (store.state_of s).pairs
    (chosen news (store.stores s news)) (store.state_of n).pairs
    → HoldsSomePut (length (frames_of (G.content old))) (G.coming old)
    (put_behind (G.coming old) news) (G.content end)
some_behind G K old end s n news whole told frames given answer after =
    let room : (store.state_of s).room ≡ store_limit - ends (G.coming old) =
    room_is s whole told ∙ ap (λ (l : List Entry). store_limit - ends l) frames in
    let more : chosen news (store.stores s news) ≡ put_behind (G.coming old) news =
    λ i. chosen news (outcomes (room i) (frames i) news) in
    let (count, few, is) = some_put answer (pairs_in (store.frames_of s))
    (chosen news (store.stores s news)) (pairs_in (store.frames_of n)) after in
    inr (
      count,
      subst (λ (l : List Pair). count ≤ length l) more few,
      ap pairs_at given ∙ is ∙ (λ i. pairs_in (frames i) ++ take count (more i)),
    )

pub returns-in_err-puts-clause-some : goal.returns-in_err-puts-clause-some
returns-in_err-puts-clause-some g c told =
    let old = c.args.self.now in
    let (m, is) = some_of old.mark c.requires.whole in
    let opens = c.in_ok-store.ensures in
    some_behind g.H.Shared g.H.Device.StoreDevice old.shared c.close_turn.new.self.shared
    c.in_ok-store.store c.put_all-answer.new.self (new_pairs c.args.pairs.now) opens.turn.whole told
    (opens.turn.frames told (c.requires.known m is told).sound) (c.close_turn.ensures.file told)
    c.put_all-answer.result (c.put_all-answer.ensures.pairs told)

pub returns-clause-some : goal.returns-clause-some
returns-clause-some g c told =
    let old = c.args.self.now in
    let (m, is) = some_of old.mark c.requires.whole in
    let opens = c.in_ok-store.ensures in
    some_behind g.H.Shared g.H.Device.StoreDevice old.shared c.close_turn.new.self.shared
    c.in_ok-store.store c.put_all-answer.new.self (new_pairs c.args.pairs.now) opens.turn.whole told
    (opens.turn.frames told (c.requires.known m is told).sound) (c.close_turn.ensures.file told)
    c.put_all-answer.result (c.put_all-answer.ensures.pairs told)

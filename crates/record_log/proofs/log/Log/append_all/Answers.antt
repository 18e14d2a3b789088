use Rattle.std.proofs.Common.{rules, ◌<◌, Result, Ok, Err, ◌++◌, ℕ, length, refl, subst, arith, inr, sym}
use Rattle.std.specs.Prelude.{IsErrOf, IsOk, OnOk}
use Rattle.std.proofs.lemmas.Bool.{eqb-false}
use Rattle.store_dev.specs.declared.device.StoreErr.TheVariants.{OutOfMemory}
use Rattle.record_log.specs.Frames.{frames_of, AtRest}
use Rattle.record_log.specs.Batch.{new_entries}
use Rattle.record_log.specs.Kept.{Kept}
use Rattle.record_log.proofs.Rest.{at_rest_read}
use Rattle.record_log.proofs.Appending.{frames_of_is, kept_all, kept_same, index_same}
use Rattle.record_log.proofs.Batch.{opened_some, some_entries}
use Rattle.record_log.proofs.Places.{kept_front, failed_front_all}
use Rattle.record_log.proofs.log.Log.append_all.Goals as goal

on_ok : {T E : Type 0} (r : Result T E) (P : Type 0) → IsOk r → OnOk r P → P
on_ok (Ok x) P is p = p
on_ok (Err e) P is p = absurd (cc (is))

pub write_frames-requires-clause-room : goal.write_frames-requires-clause-room
write_frames-requires-clause-room g c =
    let none = eqb-false (length c.args.frames.now) 0 (sym c.if-is_empty.ensures) in
    let there : 0 < length c.args.frames.now = omega (arith, none) in
    let some = opened_some (new_entries c.args.frames.now) (some_entries c.args.frames.now there) in
    omega (arith, some, c.if-need-free.false, c.need_of_all-need.ensures, c.room-free.ensures.room)

pub invariant_of-self-in-Ok : goal.invariant_of-self-in-Ok
invariant_of-self-in-Ok g c = record {
  front = λ told. kept_front (now told);
  kept = λ whole told. now told;
}
  where
    now : g.S.StoreDevice.tells
        → Kept (g.S.StoreDevice.content c.write_frames.new.device) (g.S.StoreDevice.images c.write_frames.new.device) c.learn_all.new.self
    now told =
        let log = c.args.self.now in
        let all = new_entries c.args.frames.now in
        let es = frames_of (g.S.StoreDevice.content log.device) in
        let kept = log.kept c.requires.whole told in
        let x = c.learn_all.ensures in
        let ok : IsOk c.learn_all.result = x.succeeds (omega (arith, c.in_ok-reserve.ensures.ok)) in
        let end = on_ok c.learn_all.result _ ok x.end in
        let was = index_same log.mark _ es kept.index c.in_ok-reserve.ensures.items refl refl refl in
        let index = on_ok c.learn_all.result _ ok x.index es was (c.requires.form told) in
        kept_all (g.S.StoreDevice.content log.device) _ _ c.learn_all.new.self all (subst (λ (n : ℕ). AtRest (g.S.StoreDevice.content c.write_frames.new.device) (es ++ all) n) (sym end) (c.in-Ok.ensures.written told)) (c.in-Ok.ensures.durable told) index

pub invariant_of-self-in-Err-Failed : goal.invariant_of-self-in-Err-Failed
invariant_of-self-in-Err-Failed g c = record {
  front = λ told.
      let s = g.S.StoreDevice in
      let laws = g.met.S.StoreDevice in
      let log = c.args.self.now in
      let new = c.write_frames.new.device in
      let kept = log.kept c.requires.whole told in
      let images = c.write_frames.ensures.images told in
      let left = images.each (s.content new) (laws.counts_now new (s.moment log.device) (s.content new) images.later (laws.as_it_reads new told)) in
      failed_front_all (s.content new) _ (frames_of (s.content log.device)) (new_entries c.args.frames.now) (index_same log.mark _ (frames_of (s.content log.device)) kept.index c.in_ok-reserve.ensures.items refl refl refl) left;
  kept = λ whole told. absurd cc;
}

pub invariant_of-self-in-Err-OutOfMemory : goal.invariant_of-self-in-Err-OutOfMemory
invariant_of-self-in-Err-OutOfMemory g c = record {
  front = λ told.
      let log = c.args.self.now in
      let kept = log.kept c.requires.whole told in
      let out : IsErrOf c.write_frames.result OutOfMemory = search rules in
      kept_front {images = g.S.StoreDevice.images c.write_frames.new.device} (kept_same _ _ log.mark _ _ _ kept (c.write_frames.ensures.memory told out) (c.write_frames.ensures.memory_durable told out) (index_same log.mark _ (frames_of (g.S.StoreDevice.content log.device)) kept.index c.in_ok-reserve.ensures.items refl refl refl));
  kept = λ whole told.
      let log = c.args.self.now in
      let kept = log.kept c.requires.whole told in
      let out : IsErrOf c.write_frames.result OutOfMemory = search rules in
      kept_same _ _ log.mark _ _ _ kept (c.write_frames.ensures.memory told out) (c.write_frames.ensures.memory_durable told out) (index_same log.mark _ (frames_of (g.S.StoreDevice.content log.device)) kept.index c.in_ok-reserve.ensures.items refl refl refl);
}

pub returns-in-Err-OutOfMemory-clause-unchanged : goal.returns-in-Err-OutOfMemory-clause-unchanged
returns-in-Err-OutOfMemory-clause-unchanged g c told =
    let out : IsErrOf c.write_frames.result OutOfMemory = search rules in
    inr (frames_of_is _ _ (at_rest_read (c.write_frames.ensures.memory told out)))

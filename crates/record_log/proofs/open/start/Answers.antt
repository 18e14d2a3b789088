use Rattle.std.proofs.Common.{◌≡◌, ◌≤◌, ◌<◌, List, ℕ, true, false, length, take, sym, ◌∙◌, ap, subst, arith}
use Rattle.std.specs.Str.{bytes_eq}
use Rattle.store_dev.specs.Device.{AreBytes}
use Rattle.store_dev.specs.Device.{Only}
use Rattle.record_log.specs.Frames.{magic, AtRest, frames_of}
use Rattle.record_log.specs.declared.mark.LogMark.{LogMark}
use Rattle.record_log.specs.Kinds.{Entry}
use Rattle.record_log.specs.Kept.{Kept, IsIndex, IsMarkOf}
use Rattle.record_log.proofs.Places.{Marked, marked_index}
use Rattle.record_log.proofs.Opening.{kept_found, written_empty, kept_empty, opened_empty, opened_same, no_magic, leaves_empty}
use Rattle.record_log.proofs.Appending.{index_none}
use Rattle.record_log.proofs.open.start.Goals as goal

pub returns-in_err-put_synced-clause-images : goal.returns-in_err-put_synced-clause-images
returns-in_err-put_synced-clause-images g c told =
    let s = g.S.StoreDevice in
    leaves_empty s.content s.images s.moment s.images_since c.args.device.now c.settle.new.device c.put_synced.new.device (λ f left. g.met.S.StoreDevice.only_now c.args.device.now f left) c.settle.ensures.reads (c.in_ok-len.ensures.durable told) (omega (arith, c.in_ok-len.ensures.len told, c.if-len.true)) c.put_synced.ensures.time

pub returns-then-len-clause-images : goal.returns-then-len-clause-images
returns-then-len-clause-images g c told =
    let s = g.S.StoreDevice in
    leaves_empty s.content s.images s.moment s.images_since c.args.device.now c.settle.new.device c.put_synced.new.device (λ f left. g.met.S.StoreDevice.only_now c.args.device.now f left) c.settle.ensures.reads (c.in_ok-len.ensures.durable told) (omega (arith, c.in_ok-len.ensures.len told, c.if-len.true)) c.put_synced.ensures.time

pub returns-then-len-clause-kept : goal.returns-then-len-clause-kept
returns-then-len-clause-kept g c told =
    let s = g.S.StoreDevice in
    let w = c.in_ok-put_synced.ensures.written told in
    let short : length (s.content c.settle.new.device) ≤ 9 = omega (arith, c.in_ok-len.ensures.len told, c.if-len.true, ap length c.settle.ensures.reads.same) in
    kept_empty (s.content c.put_synced.new.device) (s.images c.put_synced.new.device) c.new.result (written_empty (s.content c.settle.new.device) (s.content c.put_synced.new.device) short w.0) w.1 c.new.ensures.end (index_none c.new.result c.new.ensures.seats c.new.ensures.end c.new.ensures.contents c.new.ensures.generation)

pub returns-then-len-clause-opened : goal.returns-then-len-clause-opened
returns-then-len-clause-opened g c told =
    let s = g.S.StoreDevice in
    let w = c.in_ok-put_synced.ensures.written told in
    let short : length (s.content c.settle.new.device) ≤ 9 = omega (arith, c.in_ok-len.ensures.len told, c.if-len.true, ap length c.settle.ensures.reads.same) in
    opened_empty (s.content c.args.device.now) (s.content c.put_synced.new.device) (omega (arith, c.in_ok-len.ensures.len told, c.if-len.true)) (written_empty (s.content c.settle.new.device) (s.content c.put_synced.new.device) short w.0)

pub returns-then-not-branch-clause-fault : goal.returns-then-not-branch-clause-fault
returns-then-not-branch-clause-fault g c told =
    let s = g.S.StoreDevice in
    let bad : bytes_eq (take 8 (s.content c.args.device.now)) magic ≡ false = sym (c.in_ok-has_magic.ensures.value told ∙ ap (λ (l : List ℕ). bytes_eq (take 8 l) magic) c.settle.ensures.reads.same) ∙ c.if-not-branch.true in
    no_magic (s.content c.args.device.now) (omega (arith, c.in_ok-len.ensures.len told, c.if-len.false)) bad

pub returns-clause-opened : goal.returns-clause-opened
returns-clause-opened g c told =
    let s = g.S.StoreDevice in
    let same : s.content c.has_magic.new.device ≡ s.content c.args.device.now = c.has_magic.ensures.reads.same ∙ c.settle.ensures.reads.same in
    let rest = (c.in_ok-mark.ensures.found told).0 in
    opened_same (s.content c.args.device.now) (s.content c.index_of.new.device) c.in_ok-mark.mark.end (omega (arith, c.in_ok-len.ensures.len told, c.if-len.false)) (c.index_of.ensures.reads.same ∙ same) (subst (λ (l : List ℕ). AtRest l (frames_of l) c.in_ok-mark.mark.end) same rest)

pub returns-clause-kept : goal.returns-clause-kept
returns-clause-kept g c told =
    let s = g.S.StoreDevice in
    let was = s.content c.has_magic.new.device in
    let same : s.content c.index_of.new.device ≡ was = c.index_of.ensures.reads.same in
    let found = c.in_ok-mark.ensures.found told in
    let only : Only was (s.images c.index_of.new.device) = λ f now. c.in_ok-len.ensures.durable told f (c.has_magic.ensures.reads.fewer f (c.index_of.ensures.reads.fewer f now)) ∙ sym (c.has_magic.ensures.reads.same ∙ c.settle.ensures.reads.same) in
    subst (λ (l : List ℕ). Kept l (s.images c.index_of.new.device) c.in_ok-mark.mark) (sym same) (kept_found was (s.images c.index_of.new.device) c.in_ok-mark.mark found.0 found.1 only)

-- where the mark is one of the device's first frames
marked_in : (bytes old : List ℕ) (mark : LogMark) → AreBytes bytes → 9 < length old → bytes ≡ old
    → bytes_eq (take 8 bytes) magic ≡ true → IsMarkOf mark (frames_of old) → Marked bytes mark
marked_in bytes old mark fits long same good x = marked_index bytes mark fits (omega (arith, long, ap length same)) good (subst (λ (l : List ℕ). IsMarkOf mark (frames_of l)) (sym same) x)

known : (bytes : List ℕ) (mark : LogMark) → Marked bytes mark
    → (es : List Entry) × IsIndex bytes es mark
known bytes mark x = (x.es, x.index)

pub index_of-requires-clause-known : goal.index_of-requires-clause-known
index_of-requires-clause-known g c told =
    let s = g.S.StoreDevice in
    let bytes = s.content c.has_magic.new.device in
    let good : bytes_eq (take 8 bytes) magic ≡ true = ap (λ (l : List ℕ). bytes_eq (take 8 l) magic) c.has_magic.ensures.reads.same ∙ sym (c.in_ok-has_magic.ensures.value told) ∙ c.if-not-branch.false in
    let m = marked_in bytes (s.content c.args.device.now) c.args.mark (g.met.S.StoreDevice.are_bytes c.has_magic.new.device told) (omega (arith, c.in_ok-len.ensures.len told, c.if-len.false)) (c.has_magic.ensures.reads.same ∙ c.settle.ensures.reads.same) good (c.requires told) in
    known bytes c.args.mark m

pub returns-then-mark-len-clause-fault : goal.returns-then-mark-len-clause-fault
returns-then-mark-len-clause-fault g c told =
    let s = g.S.StoreDevice in
    let bytes = s.content c.has_magic.new.device in
    let same : bytes ≡ s.content c.args.device.now = c.has_magic.ensures.reads.same ∙ c.settle.ensures.reads.same in
    let good : bytes_eq (take 8 bytes) magic ≡ true = ap (λ (l : List ℕ). bytes_eq (take 8 l) magic) c.has_magic.ensures.reads.same ∙ sym (c.in_ok-has_magic.ensures.value told) ∙ c.if-not-branch.false in
    let m = marked_in bytes (s.content c.args.device.now) c.args.mark (g.met.S.StoreDevice.are_bytes c.has_magic.new.device told) (omega (arith, c.in_ok-len.ensures.len told, c.if-len.false)) same good (c.requires told) in
    absurd (omega (arith, m.inside, c.if-mark-len.true, c.in_ok-len.ensures.len told, ap length same))

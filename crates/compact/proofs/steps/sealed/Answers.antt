use Rattle.std.proofs.Common.{◌≡◌, ℕ, List, [], ◌∷◌, ◌++◌, length, Ok, refl, sym, ◌∙◌, ap, subst, arith}
use Rattle.store_dev.specs.Device.{LeavesOnly}
use Rattle.record_log.specs.Kinds.{Entry, entry, blobs}
use Rattle.record_log.specs.Forms.{form_5}
use Rattle.record_log.specs.Frames.{frames_of}
use Rattle.compact.specs.Current.{pairs_held}
use Rattle.compact.specs.Left.{RestsAs}
use Rattle.compact.specs.Room.{generation_frame}
use Rattle.compact.specs.Sources.{IsSealing}
use Rattle.compact.proofs.Telling.{frames_same, opened_reads, store_is}
use Rattle.compact.proofs.Stepping.{leaves_sealing, sealed_tells}
use Rattle.compact.proofs.steps.sealed.Goals as goal

pub append-requires-clause-form : goal.append-requires-clause-form
append-requires-clause-form g c told =
    form_5 (blobs (frames_of (g.P.StoreDevice.content c.in-Ok.log.device))) (entry 5 c.to_le_bytes.result []) refl (ap length c.to_le_bytes.ensures) refl

pub returns-in-Ok-append-clause-images : goal.returns-in-Ok-append-clause-images
returns-in-Ok-append-clause-images g c told =
    let p = g.P.StoreDevice in
    let to = c.args.to in
    let rests = c.requires told in
    subst (λ d. LeavesOnly p.moment p.images_since to d (IsSealing (p.content to) c.args.generation)) (sym c.device.ensures)
    (leaves_sealing p.moment p.images_since to c.in-Ok.log.device c.append.new.self.device (p.content to) (p.content c.in-Ok.log.device) (p.images to) c.args.generation
    (entry 5 c.to_le_bytes.result []) rests.sound rests.alone (c.in-Ok.ensures.ok told) (ap (λ (k : List ℕ). entry 5 k []) c.to_le_bytes.ensures) (omega arith)
    (c.in-Ok.ensures.images_ok told) (c.append.ensures.images told))

pub returns-in-Err-append-clause-images : goal.returns-in-Err-append-clause-images
returns-in-Err-append-clause-images g c told =
    let p = g.P.StoreDevice in
    let to = c.args.to in
    let rests = c.requires told in
    subst (λ d. LeavesOnly p.moment p.images_since to d (IsSealing (p.content to) c.args.generation)) (sym c.device-in-Err-append.ensures)
    (leaves_sealing p.moment p.images_since to c.in-Ok.log.device c.append.new.self.device (p.content to) (p.content c.in-Ok.log.device) (p.images to) c.args.generation
    (entry 5 c.to_le_bytes.result []) rests.sound rests.alone (c.in-Ok.ensures.ok told) (ap (λ (k : List ℕ). entry 5 k []) c.to_le_bytes.ensures) (omega arith)
    (c.in-Ok.ensures.images_ok told) (c.append.ensures.images told))

pub returns-in-Ok-append-clause-sealed : goal.returns-in-Ok-append-clause-sealed
returns-in-Ok-append-clause-sealed g c told =
    let p = g.P.StoreDevice in
    let bytes = p.content c.args.to in
    let new = c.append.new.self in
    let fs : frames_of (p.content c.in-Ok.log.device) ≡ frames_of bytes = frames_same (p.content c.in-Ok.log.device) bytes (opened_reads bytes (p.content c.in-Ok.log.device) (c.in-Ok.ensures.ok told)) in
    let e : entry 5 c.to_le_bytes.result [] ≡ generation_frame c.args.generation = ap (λ (k : List ℕ). entry 5 k []) c.to_le_bytes.ensures in
    let kept = new.kept (c.in-Ok-append.ensures.whole ∙ c.in-Ok.ensures.whole) told in
    let frames : frames_of (p.content new.device) ≡ frames_of bytes ++ generation_frame c.args.generation ∷ [] =
    c.in-Ok-append.ensures.frames told ∙ (λ i. fs i ++ e i ∷ []) in
    let tells = sealed_tells (frames_of bytes) c.args.generation (p.content new.device) (omega arith) (kept.read ∙ ap (λ (l : List Entry). Ok l) frames) in
    subst (λ d. RestsAs p c.args.generation (pairs_held bytes) d) (sym c.device.ensures)
    (record {
      rests = record { sound = kept.read; alone = c.in-Ok-append.ensures.durable told };
      is = store_is c.args.generation (pairs_held bytes) (p.content new.device) tells;
    })

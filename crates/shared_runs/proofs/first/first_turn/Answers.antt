use Rattle.std.proofs.Common.{◌≡◌, ℕ, List, Ok, sym, ◌∙◌, ap, length}
use Rattle.record_log.specs.Kinds.{Entry}
use Rattle.record_log.specs.Frames.{reading}
use Rattle.shared_runs.specs.Views.{pairs_at}
use Rattle.pair_reader.specs.declared.wanted.Lengths.TheVariants as lengths
use Rattle.artifact_store.specs.Pairs.{free_in}
use Rattle.artifact_store.specs.Store as store
use Rattle.shared_runs.proofs.Appending.{room_is}
use Rattle.shared_runs.proofs.Beginning.{in_turn, begins_turn, sound_back, first_goes}
use Rattle.shared_runs.proofs.MemTurns.{sound_is}
use Rattle.shared_runs.proofs.first.first_turn.Goals as goal

pub close-requires : goal.close-requires
close-requires g c =
    (begins_turn g.H.Shared g.H.Device.StoreDevice c.args.shared.now c.take.new.self c.in-Ok.device
    c.in-Ok.ensures.held c.in-Ok.ensures.begun c.in-Ok.ensures.device c.in-Ok.ensures.taken
    c.take.ensures.file
    lengths.All c.in-Ok-open.store c.in-Ok-open.ensures.opened).turn

pub end_turn-requires : goal.end_turn-requires
end_turn-requires g c =
    let un = c.in-Err-open.ensures.unopened in
    in_turn g.H.Shared g.H.Device.StoreDevice c.args.shared.now c.take.new.self c.in-Ok.device
    c.in-Ok.ensures.held c.in-Ok.ensures.begun c.in-Ok.ensures.device c.in-Ok.ensures.taken
    c.take.ensures.file
    c.in-Err-open.field-0.store un.cause.later un.images

pub returns-in-Ok-close-clause-turn : goal.returns-in-Ok-close-clause-turn
returns-in-Ok-close-clause-turn g c told =
    let h = g.H.Shared in
    let k = g.H.Device.StoreDevice in
    let s = c.in-Ok-open.store in
    let old = c.args.shared.now in
    let end = c.close.new.shared in
    let opened = c.in-Ok-open.ensures.opened in
    let begins = begins_turn h k old c.take.new.self c.in-Ok.device
    c.in-Ok.ensures.held c.in-Ok.ensures.begun c.in-Ok.ensures.device c.in-Ok.ensures.taken
    c.take.ensures.file
    lengths.All s opened in
    let new_sound = sound_is (h.content c.take.new.self) (store.frames_of s)
    (ap reading (sym (c.in-Ok.ensures.device told).same) ∙ (opened.opened told).frames) in
    let sound = sound_back h k old c.take.new.self c.in-Ok.device
    c.in-Ok.ensures.held c.in-Ok.ensures.begun c.in-Ok.ensures.device c.in-Ok.ensures.taken
    c.take.ensures.file told new_sound in
    let frames : store.frames_of s ≡ h.coming old = begins.frames told sound in
    let same = c.close.ensures.file told in
    let read : reading (h.content end) ≡ Ok (h.coming old) =
    ap reading same ∙ (s.log.kept opened.whole told).read
    ∙ ap (λ (l : List Entry). Ok l) frames in (
      record { sound = sound; read = read },
      record {
        sound = sound_is (h.content end) (h.coming old) read;
        durable = c.in-Ok-close.ensures.durable told;
        mark_is = c.in-Ok-close.ensures.mark told;
        foresees = c.in-Ok-close.ensures.foresees ∙ opened.foresees;
        count = c.count-pairs.ensures.pairs told opened.whole
            ∙ ap (λ (b : List ℕ). length (pairs_at b)) (sym same);
        free = c.free-room.ensures ∙ room_is s opened.whole told ∙ ap free_in (sym same);
      },
    )

pub returns-in-Ok-close-clause-time : goal.returns-in-Ok-close-clause-time
returns-in-Ok-close-clause-time g c told =
    let new = c.take.new.self in
    first_goes g.H.Shared g.H.Device.StoreDevice c.args.shared.now new c.in-Ok.device
    c.in-Ok.ensures.held c.in-Ok.ensures.begun c.in-Ok.ensures.device c.in-Ok.ensures.taken
    c.take.ensures.file
    c.close.new.shared (store.device_of c.in-Ok-open.store) told (c.take.ensures.time told)
    (c.in-Ok-open.ensures.opened.images told) (c.close.ensures.time told)
    (λ m n b le lt left. g.met.H.Shared.earlier c.close.new.shared m n b le lt left)
    (λ b now. g.met.H.Shared.counts_now new (g.H.Shared.moment c.args.shared.now) b
    (c.take.ensures.time told).later now)

pub returns-in-Ok-end_turn-clause-time : goal.returns-in-Ok-end_turn-clause-time
returns-in-Ok-end_turn-clause-time g c told =
    let new = c.take.new.self in
    first_goes g.H.Shared g.H.Device.StoreDevice c.args.shared.now new c.in-Ok.device
    c.in-Ok.ensures.held c.in-Ok.ensures.begun c.in-Ok.ensures.device c.in-Ok.ensures.taken
    c.take.ensures.file
    c.end_turn.new.shared c.in-Err-open.field-0.store told (c.take.ensures.time told)
    (c.in-Err-open.ensures.unopened.images told) (c.end_turn.ensures.time told)
    (λ m n b le lt left. g.met.H.Shared.earlier c.end_turn.new.shared m n b le lt left)
    (λ b now. g.met.H.Shared.counts_now new (g.H.Shared.moment c.args.shared.now) b
    (c.take.ensures.time told).later now)

pub returns-in-Err-close-clause-time : goal.returns-in-Err-close-clause-time
returns-in-Err-close-clause-time g c told =
    let new = c.take.new.self in
    first_goes g.H.Shared g.H.Device.StoreDevice c.args.shared.now new c.in-Ok.device
    c.in-Ok.ensures.held c.in-Ok.ensures.begun c.in-Ok.ensures.device c.in-Ok.ensures.taken
    c.take.ensures.file
    c.close.new.shared (store.device_of c.in-Ok-open.store) told (c.take.ensures.time told)
    (c.in-Ok-open.ensures.opened.images told) (c.close.ensures.time told)
    (λ m n b le lt left. g.met.H.Shared.earlier c.close.new.shared m n b le lt left)
    (λ b now. g.met.H.Shared.counts_now new (g.H.Shared.moment c.args.shared.now) b
    (c.take.ensures.time told).later now)

pub returns-in-Err-end_turn-clause-time : goal.returns-in-Err-end_turn-clause-time
returns-in-Err-end_turn-clause-time g c told =
    let new = c.take.new.self in
    first_goes g.H.Shared g.H.Device.StoreDevice c.args.shared.now new c.in-Ok.device
    c.in-Ok.ensures.held c.in-Ok.ensures.begun c.in-Ok.ensures.device c.in-Ok.ensures.taken
    c.take.ensures.file
    c.end_turn.new.shared c.in-Err-open.field-0.store told (c.take.ensures.time told)
    (c.in-Err-open.ensures.unopened.images told) (c.end_turn.ensures.time told)
    (λ m n b le lt left. g.met.H.Shared.earlier c.end_turn.new.shared m n b le lt left)
    (λ b now. g.met.H.Shared.counts_now new (g.H.Shared.moment c.args.shared.now) b
    (c.take.ensures.time told).later now)

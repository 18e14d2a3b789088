use Rattle.std.proofs.Common.{◌≡◌, sym, ◌∙◌, ap, subst}
use Rattle.record_log.specs.Frames.{reading, frames_of}
use Rattle.artifact_store.specs.Marks.{IsMarkOf, foreseen}
use Rattle.shared_runs.proofs.Beginning.{in_turn, begins_turn, left_first, taken_first}
use Rattle.shared_runs.proofs.Fronts.{mark_starts}
use Rattle.shared_runs.proofs.MemTurns.{frames_is}
use Rattle.shared_runs.proofs.passing.begin.Goals as goal

pub resume-requires : goal.resume-requires
resume-requires g c told =
    let h = g.H.Shared in
    let k = g.H.Device.StoreDevice in
    let old = c.args.shared.now in
    let device = c.in-Ok.device in
    let sound = c.requires.sound told in
    let is : frames_of (k.content device) ≡ h.coming old =
    frames_is (k.content device) (h.coming old)
    (ap reading (c.in-Ok.ensures.device told).same ∙ (c.in-Ok.ensures.taken told).frames sound) in
    subst (IsMarkOf c.args.mark) (sym is)
    (mark_starts c.args.mark (frames_of (h.content old)) (h.coming old)
    (g.met.H.Shared.stays old told sound) (c.requires.mark told))

pub end_turn-requires : goal.end_turn-requires
end_turn-requires g c =
    let un = c.in-Err-resume.ensures.unopened in
    in_turn g.H.Shared g.H.Device.StoreDevice c.args.shared.now c.take.new.self c.in-Ok.device
    c.in-Ok.ensures.held c.in-Ok.ensures.begun c.in-Ok.ensures.device c.in-Ok.ensures.taken
    c.take.ensures.file
    c.in-Err-resume.field-0.store un.cause.later un.images

pub returns-in-Ok-resume-clause-turn : goal.returns-in-Ok-resume-clause-turn
returns-in-Ok-resume-clause-turn g c =
    begins_turn g.H.Shared g.H.Device.StoreDevice c.args.shared.now c.take.new.self c.in-Ok.device
    c.in-Ok.ensures.held c.in-Ok.ensures.begun c.in-Ok.ensures.device c.in-Ok.ensures.taken
    c.take.ensures.file
    (foreseen c.args.mark) c.in-Ok-resume.store c.in-Ok-resume.ensures.opened

pub returns-in-Err-clause-file : goal.returns-in-Err-clause-file
returns-in-Err-clause-file g c told =
    let old = c.args.shared.now in
    let sound = c.requires.sound told in
    taken_first g.H.Shared old c.take.new.self sound (c.requires.durable told)
    (g.met.H.Shared.stays old told sound)
    (c.take.ensures.file told) (c.take.ensures.time told)

pub returns-in-Ok-resume-clause-file : goal.returns-in-Ok-resume-clause-file
returns-in-Ok-resume-clause-file g c told =
    let old = c.args.shared.now in
    let sound = c.requires.sound told in
    taken_first g.H.Shared old c.take.new.self sound (c.requires.durable told)
    (g.met.H.Shared.stays old told sound)
    (c.take.ensures.file told) (c.take.ensures.time told)

pub returns-in-Ok-end_turn-clause-file : goal.returns-in-Ok-end_turn-clause-file
returns-in-Ok-end_turn-clause-file g c told =
    let k = g.H.Device.StoreDevice in
    let old = c.args.shared.now in
    let sound = c.requires.sound told in
    let un = c.in-Err-resume.ensures.unopened in
    let after = c.in-Err-resume.field-0.store in
    let laws = g.met.H.Device.StoreDevice in
    left_first g.H.Shared k old c.take.new.self c.in-Ok.device
    c.in-Ok.ensures.held c.in-Ok.ensures.begun c.in-Ok.ensures.device c.in-Ok.ensures.taken
    c.take.ensures.file
    c.end_turn.new.shared after told sound (c.requires.durable told)
    (g.met.H.Shared.stays old told sound)
    (c.take.ensures.time told) (un.images told)
    (laws.counts_now after (k.moment c.in-Ok.device) (k.content after) (un.images told).later
    (laws.as_it_reads after told))
    (c.end_turn.ensures.file told) (c.end_turn.ensures.time told)
    (λ m n b le lt left. g.met.H.Shared.earlier c.end_turn.new.shared m n b le lt left)

pub returns-in-Err-end_turn-clause-file : goal.returns-in-Err-end_turn-clause-file
returns-in-Err-end_turn-clause-file g c told =
    let k = g.H.Device.StoreDevice in
    let old = c.args.shared.now in
    let sound = c.requires.sound told in
    let un = c.in-Err-resume.ensures.unopened in
    let after = c.in-Err-resume.field-0.store in
    let laws = g.met.H.Device.StoreDevice in
    left_first g.H.Shared k old c.take.new.self c.in-Ok.device
    c.in-Ok.ensures.held c.in-Ok.ensures.begun c.in-Ok.ensures.device c.in-Ok.ensures.taken
    c.take.ensures.file
    c.end_turn.new.shared after told sound (c.requires.durable told)
    (g.met.H.Shared.stays old told sound)
    (c.take.ensures.time told) (un.images told)
    (laws.counts_now after (k.moment c.in-Ok.device) (k.content after) (un.images told).later
    (laws.as_it_reads after told))
    (c.end_turn.ensures.file told) (c.end_turn.ensures.time told)
    (λ m n b le lt left. g.met.H.Shared.earlier c.end_turn.new.shared m n b le lt left)

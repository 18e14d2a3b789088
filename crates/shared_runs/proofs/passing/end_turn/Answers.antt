use Rattle.std.proofs.Common.{inl, inr, ⊎_elim}
use Rattle.shared_runs.specs.Turns.{LeftInTurn}
use Rattle.shared_runs.proofs.Turning.{goes_more, reads_since}
use Rattle.shared_runs.proofs.passing.end_turn.Goals as goal

pub give-requires-clause-kept : goal.give-requires-clause-kept
give-requires-clause-kept g c told sound b left =
    let k = g.H.Device.StoreDevice in
    let start = (g.H.Shared.turn c.args.shared.now).start in
    c.requires.kept told sound b
    (reads_since k.content k.images k.moment k.images_since c.args.device c.sync-synced.new.self
    start (c.requires.start told)
    (λ x now. g.met.H.Device.StoreDevice.counts_now c.args.device start x
    (c.requires.start told) now) c.sync-synced.ensures.reads b left)

pub returns-in_err-give-clause-time : goal.returns-in_err-give-clause-time
returns-in_err-give-clause-time g c told =
    let k = g.H.Device.StoreDevice in
    let shared = c.args.shared.now in
    let start = (g.H.Shared.turn shared).start in
    let device = c.args.device in
    let synced = c.sync-synced.new.self in
    goes_more g.H.Shared.moment g.H.Shared.images_since shared c.give.new.self
    (LeftInTurn (g.H.Shared.images shared) (k.images_since synced start))
    (LeftInTurn (g.H.Shared.images shared) (k.images_since device start)) (c.give.ensures.time told)
    (λ b. ⊎_elim (λ was. inl was) (λ left. inr
    (reads_since k.content k.images k.moment k.images_since device synced start
    (c.requires.start told)
    (λ x now. g.met.H.Device.StoreDevice.counts_now device start x (c.requires.start told) now)
    c.sync-synced.ensures.reads b left)))

pub returns-in-Ok-clause-time : goal.returns-in-Ok-clause-time
returns-in-Ok-clause-time g c told =
    let k = g.H.Device.StoreDevice in
    let shared = c.args.shared.now in
    let start = (g.H.Shared.turn shared).start in
    let device = c.args.device in
    let synced = c.sync-synced.new.self in
    goes_more g.H.Shared.moment g.H.Shared.images_since shared c.give.new.self
    (LeftInTurn (g.H.Shared.images shared) (k.images_since synced start))
    (LeftInTurn (g.H.Shared.images shared) (k.images_since device start)) (c.give.ensures.time told)
    (λ b. ⊎_elim (λ was. inl was) (λ left. inr
    (reads_since k.content k.images k.moment k.images_since device synced start
    (c.requires.start told)
    (λ x now. g.met.H.Device.StoreDevice.counts_now device start x (c.requires.start told) now)
    c.sync-synced.ensures.reads b left)))

pub returns-in-Err-clause-time : goal.returns-in-Err-clause-time
returns-in-Err-clause-time g c told =
    let k = g.H.Device.StoreDevice in
    let shared = c.args.shared.now in
    let start = (g.H.Shared.turn shared).start in
    let device = c.args.device in
    let synced = c.sync-synced.new.self in
    goes_more g.H.Shared.moment g.H.Shared.images_since shared c.give.new.self
    (LeftInTurn (g.H.Shared.images shared) (k.images_since synced start))
    (LeftInTurn (g.H.Shared.images shared) (k.images_since device start)) (c.give.ensures.time told)
    (λ b. ⊎_elim (λ was. inl was) (λ left. inr
    (reads_since k.content k.images k.moment k.images_since device synced start
    (c.requires.start told)
    (λ x now. g.met.H.Device.StoreDevice.counts_now device start x (c.requires.start told) now)
    c.sync-synced.ensures.reads b left)))

use Rattle.std.proofs.Common.{◌≡◌, ◌-◌, ◌^◌, ℕ, [], ◌∷◌, length, refl, ◌∙◌, ap, subst, arith}
use Rattle.std.specs.Prelude.{min, IfOk}
use Rattle.std.proofs.lemmas.Bool.{and_from}
use Rattle.record_log.specs.Kinds.{Entry, entry, room_for}
use Rattle.record_log.specs.Frames.{frames_of, ends}
use Rattle.record_log.specs.Batch.{room_for_all}
use Rattle.record_log.specs.Answers.{IsFullWhere}
use Rattle.record_log.specs.Log.{room_of, count_of}
use Rattle.record_log.proofs.Appending.{formed, length-seats_from}
use Rattle.record_log.proofs.Batch.{length-opened_one}
use Rattle.record_log.proofs.log.Log.append.Goals as goal

room_one : (e : Entry) → room_for_all (e ∷ []) ≡ room_for e
room_one e = ap (λ (n : ℕ). min n (2 ^ 64 - 1)) (length-opened_one [] e ∙ omega arith)

pub append_all-requires-clause-form : goal.append_all-requires-clause-form
append_all-requires-clause-form g c told =
    let e = entry c.args.kind c.args.key.now c.args.value.now in
    and_from _ _ (formed (frames_of (g.S.StoreDevice.content c.args.self.now.device)) e (c.requires.form told) c.requires.key_len c.requires.value_len) refl

pub returns-clause-limit : goal.returns-clause-limit
returns-clause-limit g c =
    let e = entry c.args.kind c.args.key.now c.args.value.now in
    subst (λ (n : ℕ). IsFullWhere c.append_all.result n (room_of c.args.self.now)) (room_one e) c.append_all.ensures.limit

pub returns-clause-full : goal.returns-clause-full
returns-clause-full g c told =
    let e = entry c.args.kind c.args.key.now c.args.value.now in
    subst (λ (n : ℕ). IsFullWhere c.append_all.result n (1099511627776 - ends (frames_of (g.S.StoreDevice.content c.args.self.now.device)))) (room_one e) (c.append_all.ensures.full told)

pub returns-clause-place : goal.returns-clause-place
returns-clause-place g c told =
    let log = c.args.self.now in
    let es = frames_of (g.S.StoreDevice.content log.device) in
    let count : count_of log ≡ length es = ap length (log.kept c.requires.whole told).index.seats ∙ length-seats_from es 8 in
    subst (λ (m : ℕ). IfOk c.append_all.result (λ n. n ≡ m)) count c.append_all.ensures.number

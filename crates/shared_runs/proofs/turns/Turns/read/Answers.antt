use Rattle.std.proofs.Common.{◌≡◌, ◌++◌, ℕ, List, sym, ◌∙◌, ap, subst, arith}
use Rattle.std.proofs.lemmas.Result.{IfOk-weaker}
use Rattle.record_log.specs.Frames.{frames_of, opened, text_of}
use Rattle.record_log.specs.Texts.{text_of_append}
use Rattle.artifact_reader.specs.Parts.{shown}
use Rattle.pair_index.specs.Index.{lengths_in}
use Rattle.pair_reader.specs.Answers.{AllWithin}
use Rattle.artifact_store.specs.Store as store
use Rattle.shared_runs.proofs.Ending.{some_of, passes_err, passes_reads, reads_in_turn, or_failed}
use Rattle.shared_runs.proofs.Texts.{spans_within, spans_shown}
use Rattle.shared_runs.proofs.turns.Turns.read.Goals as goal

pub returns-in_err-store-clause-turn : goal.returns-in_err-store-clause-turn
returns-in_err-store-clause-turn g c =
    let old = c.args.self.now in
    let (m, is) = some_of old.mark c.requires.whole in
    let opens = c.in_err-store.ensures in
    passes_err g.H.Shared g.H.Device.StoreDevice old c.open_turn.new.self opens.began opens.file
    (λ told. g.met.H.Shared.stays old.shared told (c.requires.known m is told).sound) opens.grows
    opens.given opens.mark opens.same opens.reads opens.told

pub read_at-bytes-requires : goal.read_at-bytes-requires
read_at-bytes-requires g c told =
    let old = c.args.self.now in
    let (m, is) = some_of old.mark c.requires.whole in
    let sound = (c.requires.known m is told).sound in
    let fs = frames_of (g.H.Shared.content old.shared) in
    let (more, starts) = g.met.H.Shared.stays old.shared told sound in
    let text : text_of (store.frames_of c.in_ok-store.store) ≡ text_of fs ++ opened more =
    ap text_of (c.in_ok-store.ensures.turn.frames told sound ∙ starts) ∙ text_of_append fs more in
    subst (λ (b : List ℕ). AllWithin b c.args.spans.now) (sym text)
    (spans_within (text_of fs) (opened more) c.args.spans.now (c.requires.within told))

pub returns-clause-bytes : goal.returns-clause-bytes
returns-clause-bytes g c told =
    let old = c.args.self.now in
    let (m, is) = some_of old.mark c.requires.whole in
    let sound = (c.requires.known m is told).sound in
    let fs = frames_of (g.H.Shared.content old.shared) in
    let (more, starts) = g.met.H.Shared.stays old.shared told sound in
    let text : text_of (store.frames_of c.in_ok-store.store) ≡ text_of fs ++ opened more =
    ap text_of (c.in_ok-store.ensures.turn.frames told sound ∙ starts) ∙ text_of_append fs more in
    let spans = c.args.spans.now in
    let same : shown (text_of (store.frames_of c.in_ok-store.store)) spans
    ≡ shown (text_of fs) spans =
    ap (λ (b : List ℕ). shown b spans) text
    ∙ spans_shown (text_of fs) (opened more) spans (c.requires.within told) in
    or_failed c.read_at-bytes.result c.close_turn.result (λ b. b ≡ shown (text_of fs) spans)
    c.close_turn.ensures.answer
    (IfOk-weaker c.read_at-bytes.result
    (λ b. b ≡ shown (text_of (store.frames_of c.in_ok-store.store)) spans)
    (λ b. b ≡ shown (text_of fs) spans) (λ b e. e ∙ same) (c.read_at-bytes.ensures.bytes told))

pub close_turn-requires-clause-turn : goal.close_turn-requires-clause-turn
close_turn-requires-clause-turn g c =
    let s = c.in_ok-store.store in
    let read = c.read_at-bytes in
    reads_in_turn g.H.Shared g.H.Device.StoreDevice c.args.self.now.shared
    c.open_turn.new.self.shared s (store.device_of read.new.self) c.in_ok-store.ensures.turn
    read.ensures.reads.log.device read.ensures.cause.later
    (λ n b le now. g.met.H.Device.StoreDevice.counts_now (store.device_of s) n b le now)

pub close_turn-requires-clause-opened : goal.close_turn-requires-clause-opened
close_turn-requires-clause-opened g c =
    omega (arith, c.probes-opened.ensures, c.read_at-bytes.ensures.reads.log.probes)

pub close_turn-requires-clause-foresees : goal.close_turn-requires-clause-foresees
close_turn-requires-clause-foresees g c told =
    ap lengths_in c.read_at-bytes.ensures.reads.index ∙ c.in_ok-store.ensures.foresees told

pub returns-clause-turn : goal.returns-clause-turn
returns-clause-turn g c =
    let h = g.H.Shared in
    let k = g.H.Device.StoreDevice in
    let old = c.args.self.now in
    let mid = c.open_turn.new.self in
    let new = c.close_turn.new.self in
    let opens = c.in_ok-store.ensures in
    let end = c.close_turn.ensures in
    let s = c.in_ok-store.store in
    let read = c.read_at-bytes in
    let (m, is) = some_of old.mark c.requires.whole in
    passes_reads h k old mid opens.began opens.file
    (λ told. g.met.H.Shared.stays old.shared told (c.requires.known m is told).sound) opens.grows
    new s (store.device_of read.new.self) opens.turn read.ensures.reads.log.device
    read.ensures.cause.later
    (λ n b le now. g.met.H.Device.StoreDevice.counts_now (store.device_of s) n b le now)
    (λ told. (c.requires.known m is told).sound) end.held end.began end.file end.known end.time
    (λ a b x le lt left. g.met.H.Shared.earlier new.shared a b x le lt left) end.grows opens.free
    end.room (omega (arith, opens.reads, end.more)) (λ told. end.damaged ∙ opens.told told)

pub returns-clause-few : goal.returns-clause-few
returns-clause-few g c =
    omega (
      arith,
      c.in_ok-store.ensures.reads,
      c.close_turn.ensures.reads,
      c.probes-opened.ensures,
      c.read_at-bytes.ensures.few,
    )

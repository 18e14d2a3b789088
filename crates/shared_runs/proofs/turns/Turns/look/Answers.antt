use Rattle.std.proofs.Common.{◌≡◌, ◌≤◌, ◌+◌, ◌^◌, ℕ, min, Option, Some, None, Result, Ok, Err, ◌∙◌}
use Rattle.std.proofs.Common.{ap, subst, arith}
use Rattle.std.specs.Prelude.{◌-◌, IfOk, IfSome}
use Rattle.record_log.specs.Frames.{frames_of}
use Rattle.cache_api.specs.declared.hit.Hit.{Hit}
use Rattle.cache_api.specs.Hits.{span_count}
use Rattle.cache_api.specs.Keys.{text_of}
use Rattle.pair_index.specs.Costs.{cost_seen}
use Rattle.pair_index.specs.Index.{lengths_in}
use Rattle.artifact_store.specs.Store as store
use Rattle.shared_runs.specs.Costs.{cost_among}
use Rattle.shared_runs.proofs.Formed.{read_formed}
use Rattle.shared_runs.proofs.Seeing.{cost_more}
use Rattle.shared_runs.proofs.Ending.{some_of, passes_err, passes_reads, reads_in_turn, or_failed}
use Rattle.shared_runs.proofs.turns.Turns.look.Goals as goal

pub returns-in_err-store-clause-turn : goal.returns-in_err-store-clause-turn
returns-in_err-store-clause-turn g c =
    let old = c.args.self.now in
    let (m, is) = some_of old.mark c.requires.whole in
    let opens = c.in_err-store.ensures in
    passes_err g.H.Shared g.H.Device.StoreDevice old c.open_turn.new.self opens.began opens.file
    (λ told. g.met.H.Shared.stays old.shared told (c.requires.known m is told).sound) opens.grows
    opens.given opens.mark opens.same opens.reads opens.told

pub close_turn-requires-clause-turn : goal.close_turn-requires-clause-turn
close_turn-requires-clause-turn g c =
    let s = c.in_ok-store.store in
    let found = c.lookup_seen-found in
    reads_in_turn g.H.Shared g.H.Device.StoreDevice c.args.self.now.shared
    c.open_turn.new.self.shared s (store.device_of found.new.self) c.in_ok-store.ensures.turn
    found.ensures.images found.ensures.cause.later
    (λ n b le now. g.met.H.Device.StoreDevice.counts_now (store.device_of s) n b le now)

pub close_turn-requires-clause-opened : goal.close_turn-requires-clause-opened
close_turn-requires-clause-opened g c =
    omega (arith, c.probes-opened.ensures, c.lookup_seen-found.ensures.reads.keeps.probes)

pub close_turn-requires-clause-foresees : goal.close_turn-requires-clause-foresees
close_turn-requires-clause-foresees g c told =
    ap lengths_in c.lookup_seen-found.ensures.store.index ∙ c.in_ok-store.ensures.foresees told

pub returns-clause-turn : goal.returns-clause-turn
returns-clause-turn g c =
    let h = g.H.Shared in
    let k = g.H.Device.StoreDevice in
    let old = c.args.self.now in
    let mid = c.open_turn.new.self in
    let new = c.close_turn.new.self in
    let opens = c.in_ok-store.ensures in
    let end = c.close_turn.ensures in
    let s = c.in_ok-store.store in
    let found = c.lookup_seen-found in
    let (m, is) = some_of old.mark c.requires.whole in
    passes_reads h k old mid opens.began opens.file
    (λ told. g.met.H.Shared.stays old.shared told (c.requires.known m is told).sound) opens.grows
    new s (store.device_of found.new.self) opens.turn found.ensures.images found.ensures.cause.later
    (λ n b le now. g.met.H.Device.StoreDevice.counts_now (store.device_of s) n b le now)
    (λ told. (c.requires.known m is told).sound) end.held end.began end.file end.known end.time
    (λ a b x le lt left. g.met.H.Shared.earlier new.shared a b x le lt left) end.grows opens.free
    end.room (omega (arith, opens.reads, end.more)) (λ told. end.damaged ∙ opens.told told)

few_of : (now before opened mid new old cost : ℕ) → opened ≡ before → mid ≡ old
    → new ≡ min (mid + (now - opened)) (2 ^ 64 - 1) → now ≤ before + cost → new ≤ old + cost
few_of now before opened mid new old cost at same is le = omega (arith, at, same, is, le)

more_of : (now before opened mid new old count cost : ℕ) → opened ≡ before → mid ≡ old
    → new ≡ min (mid + (now - opened)) (2 ^ 64 - 1) → before ≤ now → now + count ≤ before + cost
    → new + count ≤ old + cost
more_of now before opened mid new old count cost at same is later le =
    omega (arith, at, same, is, later, le)

spans_of : {E : Type 0} (r : Result (Option Hit) E) (now before opened mid new old cost : ℕ)
    → opened ≡ before → mid ≡ old → new ≡ min (mid + (now - opened)) (2 ^ 64 - 1) → before ≤ now
    → IfOk r (λ o. IfSome o (λ hit. now + span_count hit ≤ before + cost))
    → IfOk r (λ o. IfSome o (λ hit. new + span_count hit ≤ old + cost))
spans_of (Ok (Some hit)) now before opened mid new old cost at same is later le =
    more_of now before opened mid new old (span_count hit) cost at same is later le
spans_of (Ok None) now before opened mid new old cost at same is later le = tt
spans_of (Err e) now before opened mid new old cost at same is later le = tt

pub returns-clause-few : goal.returns-clause-few
returns-clause-few g c told =
    let old = c.args.self.now in
    let s = c.in_ok-store.store in
    let seen = c.args.seen.now in
    let key = text_of c.args.key in
    let opens = c.in_ok-store.ensures in
    let found = c.lookup_seen-found in
    let (m, is) = some_of old.mark c.requires.whole in
    let sound = (c.requires.known m is told).sound in
    let fs = frames_of (g.H.Shared.content old.shared) in
    let coming = g.H.Shared.coming old.shared in
    let frames = opens.turn.frames told sound in
    let formed = read_formed (g.H.Shared.content c.open_turn.new.self.shared) coming
    (opens.turn.read told sound) in
    let cost : store.cost_seen s seen key ≡ cost_among seen fs key =
    (λ i. cost_seen seen (opens.foresees told i) (frames i) key)
    ∙ cost_more fs coming (g.met.H.Shared.stays old.shared told sound) formed seen key
    (c.requires.below told) in
    few_of (store.state_of found.new.self).probes (store.state_of s).probes c.probes-opened.result
    c.open_turn.new.self.reads c.close_turn.new.self.reads old.reads
    (cost_among seen fs key) c.probes-opened.ensures opens.reads
    c.close_turn.ensures.reads (omega (arith, cost, found.ensures.probes told))

pub returns-clause-spans : goal.returns-clause-spans
returns-clause-spans g c told =
    let old = c.args.self.now in
    let s = c.in_ok-store.store in
    let seen = c.args.seen.now in
    let key = text_of c.args.key in
    let opens = c.in_ok-store.ensures in
    let found = c.lookup_seen-found in
    let new = c.close_turn.new.self in
    let (m, is) = some_of old.mark c.requires.whole in
    let sound = (c.requires.known m is told).sound in
    let fs = frames_of (g.H.Shared.content old.shared) in
    let coming = g.H.Shared.coming old.shared in
    let frames = opens.turn.frames told sound in
    let formed = read_formed (g.H.Shared.content c.open_turn.new.self.shared) coming
    (opens.turn.read told sound) in
    let cost : store.cost_seen s seen key ≡ cost_among seen fs key =
    (λ i. cost_seen seen (opens.foresees told i) (frames i) key)
    ∙ cost_more fs coming (g.met.H.Shared.stays old.shared told sound) formed seen key
    (c.requires.below told) in
    let now = (store.state_of found.new.self).probes in
    let before = (store.state_of s).probes in
    or_failed found.result c.close_turn.result
    (λ o. IfSome o (λ hit. new.reads + span_count hit ≤ old.reads + cost_among seen fs key))
    c.close_turn.ensures.answer
    (spans_of found.result now before c.probes-opened.result c.open_turn.new.self.reads new.reads
    old.reads (cost_among seen fs key) c.probes-opened.ensures opens.reads
    c.close_turn.ensures.reads found.ensures.reads.keeps.probes
    (subst (λ (n : ℕ). IfOk found.result (λ o. IfSome o (λ hit. now + span_count hit ≤ before + n)))
    cost (found.ensures.spans told)))

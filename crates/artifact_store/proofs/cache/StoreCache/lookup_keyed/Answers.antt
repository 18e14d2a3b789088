use Rattle.std.proofs.Common.{◌≡◌, ◌≤◌, ◌+◌, ℕ, List, length, subst, arith}
use Rattle.std.specs.Prelude.{IfOk, IfSome}
use Rattle.codes.specs.Views.{found_as}
use Rattle.cache_api.specs.Found.{found}
use Rattle.cache_api.specs.Hits.{span_count}
use Rattle.cache_api.specs.Keys.{text_of}
use Rattle.cache_api.specs.Pairs.{Pair}
use Rattle.cache_api.specs.Reading.{artifact_in}
use Rattle.record_log.specs.Log.{frames_in, probes_of}
use Rattle.pair_frames.specs.Pairs.{pairs_in}
use Rattle.pair_index.specs.Index.{lengths_in}
use Rattle.pair_index.specs.declared.seen.SeenPairs.{SeenPairs}
use Rattle.artifact_store.specs.Store.{shows}
use Rattle.artifact_store.proofs.Looking.{seen_all, cost_all, reads_all}
use Rattle.artifact_store.proofs.cache.StoreCache.lookup_keyed.Goals as goal

pub returns-clause-found : goal.returns-clause-found
returns-clause-found g c told =
    let store = c.args.self.now in
    let pairs = pairs_in (frames_in store.log) in
    let seen : SeenPairs = record { first = c.count.result; own = c.new.result } in
    let le : length pairs ≤ c.count.result = omega (arith, c.count.ensures.pairs told c.requires) in
    subst (λ (l : List Pair). IfOk c.lookup_seen.result (λ o. found_as (shows c.lookup_seen.new.self) o ≡ found artifact_in (text_of c.args.key) c.args.outs.now l))
    (seen_all seen pairs le) (c.lookup_seen.ensures.found told)

pub returns-clause-probes : goal.returns-clause-probes
returns-clause-probes g c told =
    let store = c.args.self.now in
    let fs = frames_in store.log in
    let seen : SeenPairs = record { first = c.count.result; own = c.new.result } in
    let le : length (pairs_in fs) ≤ c.count.result = omega (arith, c.count.ensures.pairs told c.requires) in
    subst (λ (n : ℕ). probes_of c.lookup_seen.new.self.log ≤ probes_of store.log + n)
    (cost_all seen (lengths_in store.index) fs (text_of c.args.key) le) (c.lookup_seen.ensures.probes told)

pub returns-clause-few : goal.returns-clause-few
returns-clause-few g c told =
    let store = c.args.self.now in
    let fs = frames_in store.log in
    let seen : SeenPairs = record { first = c.count.result; own = c.new.result } in
    let le : length (pairs_in fs) ≤ c.count.result = omega (arith, c.count.ensures.pairs told c.requires) in
    subst (λ (n : ℕ). probes_of c.lookup_seen.new.self.log ≤ probes_of store.log + n)
    (reads_all seen (lengths_in store.index) fs (text_of c.args.key) le) (c.lookup_seen.ensures.few told)

pub returns-clause-spans : goal.returns-clause-spans
returns-clause-spans g c told =
    let store = c.args.self.now in
    let fs = frames_in store.log in
    let seen : SeenPairs = record { first = c.count.result; own = c.new.result } in
    let le : length (pairs_in fs) ≤ c.count.result = omega (arith, c.count.ensures.pairs told c.requires) in
    subst (λ (n : ℕ). IfOk c.lookup_seen.result (λ o. IfSome o (λ hit. probes_of c.lookup_seen.new.self.log + span_count hit ≤ probes_of store.log + n)))
    (cost_all seen (lengths_in store.index) fs (text_of c.args.key) le) (c.lookup_seen.ensures.spans told)

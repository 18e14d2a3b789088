use Rattle.std.proofs.Common.{◌≡◌, ◌+◌, ℕ, List, Some, inl, sym, subst}
use Rattle.store_dev.specs.Device.{LeavesOnly}
use Rattle.cache_api.specs.Pairs.{Pair}
use Rattle.artifact_store.specs.Store.{device_of, state_of}
use Rattle.compact.specs.Chosen.{chosen}
use Rattle.compact.specs.Current.{generation_in, pairs_held, pairs_by}
use Rattle.compact.specs.Left.{ReadsAs, StillRests, RestsAs, IsStoreOf, IsUnsealed, IsRenewing, chosen_in}
use Rattle.compact.proofs.Moments.{old_pairs, new_pairs, either_pairs}
use Rattle.compact.proofs.Sourcing.{source_left, source_still, on_ok, unsealed_now, after_old, after_all}
use Rattle.compact.proofs.renewal.compact.Goals as goal

pub returns-in-Err-clause-moments : goal.returns-in-Err-clause-moments
returns-in-Err-clause-moments g c told tells side current f t from to =
    let s = g.S.StoreDevice in
    let p = g.P.StoreDevice in
    let a = c.requires.from told in
    let b = c.requires.to tells in
    let reads = (c.in-Err.ensures.err.images told).each f from in
    let now = unsealed_now (p.content c.args.to) (p.images c.args.to) b.sound b.alone t (g.met.P.StoreDevice.only_now c.args.to t to) in
    inl (old_pairs (s.content c.args.from) (p.content c.args.to) a.sound f reads side t current now)

pub returns-in-Err-clause-after : goal.returns-in-Err-clause-after
returns-in-Err-clause-after g c told tells side current f t from to =
    let s = g.S.StoreDevice in
    let p = g.P.StoreDevice in
    let a = c.requires.from told in
    let b = c.requires.to tells in
    let images = c.in-Err.ensures.err.images told in
    let reads = images.each f (g.met.S.StoreDevice.counts_now c.in-Err.field-0.store (s.moment c.args.from) f images.later from) in
    let now = unsealed_now (p.content c.args.to) (p.images c.args.to) b.sound b.alone t to in
    after_old c.in-Err.field-0.fault (pairs_held (s.content c.args.from)) (chosen_in (s.content c.args.from) c.args.keep) (pairs_by side f t)
    (old_pairs (s.content c.args.from) (p.content c.args.to) a.sound f reads side t current now)

pub returns-in-Ok-clause-from_left : goal.returns-in-Ok-clause-from_left
returns-in-Ok-clause-from_left g c told =
    let s = g.S.StoreDevice in
    let source = c.in-Ok.source in
    subst (λ d. LeavesOnly s.moment s.images_since c.args.from d (ReadsAs (s.content c.args.from))) (sym c.device.ensures.device)
    (source_left s c.args.from source c.renewed-result.new.from c.in-Ok.generation c.in-Ok.ensures.ok c.renewed-result.ensures.reads
    (g.met.S.StoreDevice.only_now (device_of source)) (g.met.S.StoreDevice.counts_now (device_of source)) told)

pub returns-in-Ok-clause-still : goal.returns-in-Ok-clause-still
returns-in-Ok-clause-still g c told =
    let s = g.S.StoreDevice in
    let source = c.in-Ok.source in
    on_ok c.renewed-result.result.0 (StillRests s c.args.from c.device.result)
    (subst (λ d. StillRests s c.args.from d) (sym c.device.ensures.device)
    (source_still s c.args.from source c.renewed-result.new.from c.in-Ok.generation c.in-Ok.ensures.ok c.renewed-result.ensures.reads
    (g.met.S.StoreDevice.only_now (device_of source)) (g.met.S.StoreDevice.counts_now (device_of source)) told
    (g.met.S.StoreDevice.as_it_reads (device_of source) told)))

pub returns-in-Ok-clause-moments : goal.returns-in-Ok-clause-moments
returns-in-Ok-clause-moments g c told tells side current f t from to =
    let s = g.S.StoreDevice in
    let p = g.P.StoreDevice in
    let source = c.in-Ok.source in
    let is = c.in-Ok.ensures.ok in
    let a = c.requires.from told in
    let left = source_left s c.args.from source c.renewed-result.new.from c.in-Ok.generation is c.renewed-result.ensures.reads
    (g.met.S.StoreDevice.only_now (device_of source)) (g.met.S.StoreDevice.counts_now (device_of source)) told in
    let reads = left.each f (subst (λ d. s.images_since d (s.moment c.args.from) f) c.device.ensures.device from) in
    let renewing = (c.renewed-result.ensures.images told tells).each t to in
    let here : IsRenewing (generation_in (p.content c.args.to)) (generation_in (s.content c.args.from) + 1) (chosen_in (s.content c.args.from) c.args.keep) t =
    subst (λ (n : ℕ). IsRenewing (generation_in (p.content c.args.to)) (n + 1) (chosen_in (s.content c.args.from) c.args.keep) t) (is.told told)
    (subst (λ (l : List Pair). IsRenewing (generation_in (p.content c.args.to)) (c.in-Ok.generation + 1) (chosen l c.args.keep) t) (is.pairs told) renewing) in
    either_pairs (s.content c.args.from) (p.content c.args.to) a.sound f reads side t (chosen_in (s.content c.args.from) c.args.keep) current here

pub returns-in-Ok-clause-after : goal.returns-in-Ok-clause-after
returns-in-Ok-clause-after g c told tells side current f t from to =
    let s = g.S.StoreDevice in
    let p = g.P.StoreDevice in
    let source = c.in-Ok.source in
    let is = c.in-Ok.ensures.ok in
    let a = c.requires.from told in
    let bytes = s.content c.args.from in
    let new = chosen_in bytes c.args.keep in
    let spare = c.renewed-result.result.1 in
    let left = source_left s c.args.from source c.renewed-result.new.from c.in-Ok.generation is c.renewed-result.ensures.reads
    (g.met.S.StoreDevice.only_now (device_of source)) (g.met.S.StoreDevice.counts_now (device_of source)) told in
    let now = subst (λ d. s.images d f) c.device.ensures.device from in
    let reads = left.each f (g.met.S.StoreDevice.counts_now (device_of c.renewed-result.new.from) (s.moment c.args.from) f left.later now) in
    let images = c.renewed-result.ensures.images told tells in
    let renewing = images.each t (g.met.P.StoreDevice.counts_now spare (p.moment c.args.to) t images.later to) in
    let here : IsRenewing (generation_in (p.content c.args.to)) (generation_in bytes + 1) new t =
    subst (λ (n : ℕ). IsRenewing (generation_in (p.content c.args.to)) (n + 1) new t) (is.told told)
    (subst (λ (l : List Pair). IsRenewing (generation_in (p.content c.args.to)) (c.in-Ok.generation + 1) (chosen l c.args.keep) t) (is.pairs told) renewing) in
    let A = RestsAs p (c.in-Ok.generation + 1) (chosen (state_of source).pairs c.args.keep) spare in
    let done : A → pairs_by side f t ≡ Some new = λ (x : A).
    let there : IsStoreOf (generation_in bytes + 1) new (p.content spare) =
    subst (λ (n : ℕ). IsStoreOf (n + 1) new (p.content spare)) (is.told told)
    (subst (λ (l : List Pair). IsStoreOf (c.in-Ok.generation + 1) (chosen l c.args.keep) (p.content spare)) (is.pairs told) x.is) in
    new_pairs bytes (p.content c.args.to) a.sound f reads side t new
    (subst (λ (l : List ℕ). IsStoreOf (generation_in bytes + 1) new l) (sym (x.rests.alone t to)) there) in
    after_all c.renewed-result.result.0 A (p.images spare) (IsUnsealed (generation_in (p.content c.args.to))) t (pairs_held bytes) new (pairs_by side f t)
    (c.renewed-result.ensures.renewed told tells) done (c.renewed-result.ensures.refused told tells) to
    (λ x. old_pairs bytes (p.content c.args.to) a.sound f reads side t current x)
    (either_pairs bytes (p.content c.args.to) a.sound f reads side t new current here)

use Rattle.std.proofs.Common.{sym, subst}
use Rattle.store_dev.specs.Device.{LeavesOnly}
use Rattle.pair_reader.specs.declared.wanted.Lengths.TheVariants.{Only}
use Rattle.artifact_store.specs.Store.{device_of, state_of}
use Rattle.compact.specs.Left.{RestsAs}
use Rattle.compact.specs.Picks.{pairs_at}
use Rattle.compact.specs.Sources.{IsOfGeneration}
use Rattle.compact.proofs.Refilling.{refill_unopened, refill_leaves, refill_rests}
use Rattle.compact.proofs.steps.filled.Goals as goal

pub returns-in-Err-clause-images : goal.returns-in-Err-clause-images
returns-in-Err-clause-images g c told =
    refill_unopened g.P.StoreDevice c.args.to (c.requires.none told) (c.requires.rests told) c.in-Err.field-0.store (c.in-Err.ensures.unopened.images told)

pub returns-in-Ok-fill-clause-images : goal.returns-in-Ok-fill-clause-images
returns-in-Ok-fill-clause-images g c told =
    let p = g.P.StoreDevice in
    subst (λ d. LeavesOnly p.moment p.images_since c.args.to d (IsOfGeneration 0)) (sym c.device.ensures.device)
    (refill_leaves p c.args.to (c.requires.none told) (c.requires.rests told) (Only c.new.result) c.in-Ok.store c.in-Ok.ensures.opened told c.fill.new.to c.fill.ensures.puts)

pub returns-in-Err-fill-clause-images : goal.returns-in-Err-fill-clause-images
returns-in-Err-fill-clause-images g c told =
    let p = g.P.StoreDevice in
    subst (λ d. LeavesOnly p.moment p.images_since c.args.to d (IsOfGeneration 0)) (sym c.device-in-Err-fill.ensures.device)
    (refill_leaves p c.args.to (c.requires.none told) (c.requires.rests told) (Only c.new.result) c.in-Ok.store c.in-Ok.ensures.opened told c.fill.new.to c.fill.ensures.puts)

pub returns-in-Ok-fill-clause-pairs : goal.returns-in-Ok-fill-clause-pairs
returns-in-Ok-fill-clause-pairs g c told tells =
    let p = g.P.StoreDevice in
    let new = c.fill.new.to in
    let pairs = pairs_at (state_of c.args.from.now).pairs c.args.numbers.now in
    subst (λ d. RestsAs p 0 pairs d) (sym c.device.ensures.device)
    (refill_rests p c.args.to (c.requires.none tells) (c.requires.rests tells) (Only c.new.result) c.in-Ok.store c.in-Ok.ensures.opened tells new pairs
    c.fill.ensures.puts c.in-Ok-fill.ensures.whole (c.in-Ok-fill.ensures.pairs told tells) (g.met.P.StoreDevice.as_it_reads (device_of new) tells))

use Rattle.std.proofs.Common.{arith, take}
use Rattle.std.specs.BTreeMap.{get}
use Rattle.rel_path.specs.Paths.{name_cmp}
use Rattle.rel_path.proofs.Parts.{turn}
use Rattle.env_select.proofs.Values.{removed}
use Rattle.env_select.proofs.choose.remove_names.Goals as goal

pub loop-pair-preserved : goal.loop-pair-preserved
loop-pair-preserved c = λ name.
    let step = turn c.args.pairs.now c.loop-pair.pair-index c.pair-item.result (omega arith, c.pair-item.is) in
    let updates = c.remove.ensures.updates in
    rw step.0 (removed (take c.loop-pair.pair-index c.args.pairs.now) c.pair-item.result.0 c.pair-item.result.1 name (get name_cmp c.args.values.now) (get name_cmp c.loop-pair.values) (get name_cmp c.remove.new.self) (c.loop-pair.invariant name) updates.1 updates.2)

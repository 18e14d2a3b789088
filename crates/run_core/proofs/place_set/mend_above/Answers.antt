use Rattle.std.proofs.Common.{◌≢◌, ◌/◌, ◌<◌, length, length-set, arith, get_or-set_other, ◌∙◌}
use Rattle.run_core.proofs.Nodes.{half-le, half-ge, half-below, mended}
use Rattle.run_core.proofs.place_set.mend_above.Goals as goal

pub bounds-flags-node : goal.bounds-flags-node
bounds-flags-node c = omega (arith, half-le c.loop-node.node)

pub bounds-flags-node-in-loop-node : goal.bounds-flags-node-in-loop-node
bounds-flags-node-in-loop-node c = half-below _ _ (let h = c.requires.even in let e = c.loop-node.auto.flags in rw e h) c.loop-node.invariant.below

pub bounds-flags-node-in-loop-node-2 : goal.bounds-flags-node-in-loop-node-2
bounds-flags-node-in-loop-node-2 c = omega (arith, half-le c.loop-node.node)

pub loop-node-smaller : goal.loop-node-smaller
loop-node-smaller c = omega (arith, half-le c.loop-node.node)

pub loop-node-preserved : goal.loop-node-preserved
loop-node-preserved c =
    let n = c.loop-node.node in
    let low = half-le n in
    let high = half-ge n in
    let inside : n / 2 < length c.loop-node.flags = omega arith in
    let same = length-set c.loop-node.flags (n / 2) c.either.result in
    record {
      above = omega arith;
      below = omega arith;
      others = λ i one b apart. mended c.loop-node.flags (n / 2) c.either.result (omega arith) inside c.either.ensures c.loop-node.invariant.others i one (omega arith) apart;
      leaves = λ i b. let apart : i ≢ n / 2 = omega arith in get_or-set_other c.loop-node.flags (n / 2) i c.either.result _ apart ∙ c.loop-node.invariant.leaves i (omega arith);
    }

pub returns-clause-right : goal.returns-clause-right
returns-clause-right c = λ i one b. c.loop-node.invariant.others i one b (omega (arith, half-le c.loop-node.node))

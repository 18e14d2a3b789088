use Rattle.std.proofs.Common.{◌≡◌, ◌*◌, ◌+◌, ◌-◌, ◌<◌, true, false, sym, ◌∙◌, subst, arith, length}
use Rattle.std.proofs.lemmas.List.{get_or_read}
use Rattle.run_core.specs.Sets.{has, IsLeast}
use Rattle.run_core.specs.Trees.{flag}
use Rattle.run_core.proofs.Nodes.{one-power, no-member, least-member, root-first, first-child, right-child}
use Rattle.run_core.proofs.place_set.PlaceSet.least.Goals as goal

pub returns-then-not-index : goal.returns-then-not-index
returns-then-not-index c =
    let s = c.self.inside in
    let one = one-power s.leaves c.self.invariant.power in
    let root = sym (get_or_read s.flags.items 1 _ (omega (arith, c.self.invariant.nodes)) c.index.ensures false) ∙ c.if-not-index.true in
    λ p. subst (λ set. has set p ≡ false) c.self.view_is (no-member s.flags.items s.leaves one c.self.invariant.right root p)

pub loop-node-init : goal.loop-node-init
loop-node-init c =
    let s = c.self.inside in
    let one = one-power s.leaves c.self.invariant.power in
    let root = sym (get_or_read s.flags.items 1 _ (omega (arith, c.self.invariant.nodes)) c.index.ensures false) ∙ c.if-not-index.false in
    record { above = omega arith; below = omega arith; first = root-first s.flags.items s.leaves c.self.invariant.power root }

pub loop-node-preserved-then-index : goal.loop-node-preserved-then-index
loop-node-preserved-then-index c =
    let s = c.self.inside in
    let i = c.loop-node.invariant in
    let here : flag s.flags.items (2 * c.loop-node.node) ≡ true = sym (get_or_read s.flags.items _ _ (omega (arith, c.self.invariant.nodes)) c.index-in-loop-node.ensures false) ∙ c.if-index.true in
    record {
      above = omega (arith, i.above);
      below = omega arith;
      first = first-child s.flags.items s.leaves c.loop-node.node (2 * c.loop-node.node) c.self.invariant.nodes c.self.invariant.right i.above c.loop-node-test.true i.first (omega arith) (omega arith) here (λ e. absurd (omega arith));
    }

pub loop-node-preserved : goal.loop-node-preserved
loop-node-preserved c =
    let s = c.self.inside in
    let i = c.loop-node.invariant in
    let inside : 2 * c.loop-node.node < length s.flags.items = omega (arith, c.self.invariant.nodes) in
    let missing : flag s.flags.items (2 * c.loop-node.node) ≡ false = sym (get_or_read s.flags.items _ _ inside c.index-in-loop-node.ensures false) ∙ c.if-index.false in
    let here = right-child s.flags.items c.loop-node.node c.self.invariant.right i.above inside i.first.here missing in
    record {
      above = omega (arith, i.above);
      below = omega arith;
      first = first-child s.flags.items s.leaves c.loop-node.node (2 * c.loop-node.node + 1) c.self.invariant.nodes c.self.invariant.right i.above c.loop-node-test.true i.first (omega arith) (omega arith) here (λ e. missing);
    }

pub returns : goal.returns
returns c =
    let s = c.self.inside in
    subst (λ set. IsLeast set (c.loop-node.node - s.leaves)) c.self.view_is (least-member s.flags.items s.leaves c.loop-node.node c.loop-node-test.false c.loop-node.invariant.first)

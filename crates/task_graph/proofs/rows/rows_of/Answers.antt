use Rattle.std.proofs.Common.{◌≡◌, true, ◌+◌, ◌++◌, ◌∷◌, [], map, take, length, ap, sym, subst, refl, ◌∙◌, arith}
use Rattle.std.specs.List.{AllByRecursion}
use Rattle.std.proofs.lemmas.List.{take_more, take_all}
use Rattle.workspaces.specs.Reach.{AreBelow}
use Rattle.task_graph.specs.declared.node.Node.{Node}
use Rattle.task_graph.specs.Nodes.{is_in_graph}
use Rattle.task_graph.specs.Rows.{id_at}
use Rattle.task_graph.proofs.Placed.{map-more, all-get, all-more, length-more, rows_ascend, rows_deps}
use Rattle.task_graph.proofs.rows.rows_of.Goals as goal

pub row_of-requires-clause-inner : goal.row_of-requires-clause-inner
row_of-requires-clause-inner c =
    let nodes = c.args.nodes.now in
    let inner = all-get (λ (n : Node). AllByRecursion (λ d. is_in_graph nodes d ≡ true) n.deps) nodes c.requires.inner c.loop-node.node-index c.node-item.result c.loop-node-test.true in
    rw c.as_slice.ensures (subst (λ (n : Node). AllByRecursion (λ d. is_in_graph nodes d ≡ true) n.deps) (sym c.node-item.is) inner)

pub loop-node-preserved : goal.loop-node-preserved
loop-node-preserved c =
    let nodes = c.args.nodes.now in
    let i = c.loop-node.node-index in
    let node = c.node-item.result in
    let inv = c.loop-node.invariant in
    let rows = c.loop-node.rows.items in
    let row = c.in_ok-row_of.field-0 in
    let next : take (i + 1) nodes ≡ take i nodes ++ node ∷ [] = take_more nodes i node c.loop-node-test.true ∙ ap (λ n. take i nodes ++ n ∷ []) (sym c.node-item.is) in
    let deps : map (id_at nodes) row ≡ node.deps = c.in_ok-row_of.ensures.value ∙ c.as_slice.ensures in
    record {
      count = ap length c.in_ok-push.ensures.items ∙ (length-more rows row ∙ ap (λ n. n + 1) inv.count);
      deps = rw (c.in_ok-push.ensures.items, map-more (map (id_at nodes)) rows row, next, map-more (λ (n : Node). n.deps) (take i nodes) node, inv.deps, deps) refl;
      below = rw c.in_ok-push.ensures.items (all-more (AreBelow (length nodes)) rows row inv.below c.in_ok-row_of.ensures.below);
    }

pub returns : goal.returns
returns c =
    let nodes = c.args.nodes.now in
    let rows = c.loop-node.rows.items in
    let inv = c.loop-node.invariant in
    let same : length rows ≡ length nodes = omega (arith, inv.count) in
    let whole : take c.loop-node.node-index nodes ≡ nodes = take_all c.loop-node.node-index nodes (omega arith) in
    let deps : map (map (id_at nodes)) rows ≡ map (λ (n : Node). n.deps) nodes = inv.deps ∙ ap (map (λ (n : Node). n.deps)) whole in
    record {
      rows = record {
        few = omega (arith, same, c.requires.few);
        below = subst (λ n. AllByRecursion (AreBelow n) rows) (sym same) inv.below;
        ascend = rows_ascend nodes c.requires.ascend nodes rows c.requires.deps inv.below deps;
      };
      numbered = record {
        same = same;
        deps = rows_deps (id_at nodes) nodes rows deps;
      };
      memory = tt;
    }

use Rattle.std.proofs.Common.{◌≡◌, ◌∙◌, Bool, Ok, map, sym, ap, subst, arith}
use Rattle.task_graph.specs.Entries.{entry_tasks}
use Rattle.task_graph.specs.Graphs.{Means}
use Rattle.task_graph.specs.Tasks.{is_task}
use Rattle.collect.specs.declared.wanted.Wanted.{Wanted}
use Rattle.repository.specs.Reading.{contents_of}
use Rattle.planner.specs.Plans.{AfterGraph, entries_of}
use Rattle.planner.specs.Steps.{Ends, NoMore}
use Rattle.planner.specs.Wanted.{asks_all, named}
use Rattle.planner.proofs.Following.{before_filters, before_graph, before_order, before_ends}
use Rattle.planner.proofs.Wanting.{selected_below, wanted_same, wanted_ids, wanted_deps, all_defined, in_order}
use Rattle.planner.proofs.preparing.prepare.Goals as goal

pub returns-in-Err-clause-ends : goal.returns-in-Err-clause-ends
returns-in-Err-clause-ends c = before_filters (contents_of c.args.repository.now) c.args.order.now (λ s. NoMore) c.in-Err.e c.in-Err.ensures

pub expansion_of-requires : goal.expansion_of-requires
expansion_of-requires c = selected_below c.args.repository.now.packages.packages c.args.order.now.filters c.in-Ok.selected c.in-Ok.ensures.1

pub returns-in-Err-expansion_of-clause-ends : goal.returns-in-Err-expansion_of-clause-ends
returns-in-Err-expansion_of-clause-ends c =
    let r = c.args.repository.now in
    let order = c.args.order.now in
    before_graph (contents_of r) order (λ s. NoMore) c.in-Ok.selected c.in-Ok.ensures.0 c.in-Ok.ensures.1 c.in-Err-expansion_of.e
    (subst (λ (all : Bool). Ends (AfterGraph r.packages r.config c.in-Ok.selected all order.tasks NoMore) c.in-Err-expansion_of.e) c.asks_all-all.ensures c.in-Err-expansion_of.ensures.graph)

pub returns-in-Err-order_of-clause-ends : goal.returns-in-Err-order_of-clause-ends
returns-in-Err-order_of-clause-ends c =
    let r = c.args.repository.now in
    let order = c.args.order.now in
    let nodes = c.in-Ok-expansion_of.expansion.graph in
    let means : Means r.packages r.config c.in-Ok.selected (asks_all order.filters) order.tasks (Ok nodes) =
    subst (λ (all : Bool). Means r.packages r.config c.in-Ok.selected all order.tasks (Ok nodes)) c.asks_all-all.ensures c.in-Ok-expansion_of.ensures.graph in
    before_order (contents_of r) order (λ s. NoMore) c.in-Ok.selected c.in-Ok.ensures.0 c.in-Ok.ensures.1 nodes means c.in-Err-order_of.e c.in-Err-order_of.ensures

pub returns-in-Err-check_ends-clause-ends : goal.returns-in-Err-check_ends-clause-ends
returns-in-Err-check_ends-clause-ends c =
    let r = c.args.repository.now in
    let order = c.args.order.now in
    let nodes = c.in-Ok-expansion_of.expansion.graph in
    let means : Means r.packages r.config c.in-Ok.selected (asks_all order.filters) order.tasks (Ok nodes) =
    subst (λ (all : Bool). Means r.packages r.config c.in-Ok.selected all order.tasks (Ok nodes)) c.asks_all-all.ensures c.in-Ok-expansion_of.ensures.graph in
    before_ends (contents_of r) order (λ s. NoMore) c.in-Ok.selected c.in-Ok.ensures.0 c.in-Ok.ensures.1 nodes means c.in-Ok-order_of.list c.in-Ok-order_of.ensures c.in-Err-check_ends.e c.in-Err-check_ends.ensures

pub wanted_of-requires : goal.wanted_of-requires
wanted_of-requires c = c.plan_law.ensures.same c.in-Ok-expansion_of.expansion.graph c.in-Ok-order_of.list c.in-Ok-order_of.ensures

pub returns-clause-prepared : goal.returns-clause-prepared
returns-clause-prepared c =
    let r = c.args.repository.now in
    let order = c.args.order.now in
    let expansion = c.in-Ok-expansion_of.expansion in
    let means : Means r.packages r.config c.in-Ok.selected (asks_all order.filters) order.tasks (Ok expansion.graph) =
    subst (λ (all : Bool). Means r.packages r.config c.in-Ok.selected all order.tasks (Ok expansion.graph)) c.asks_all-all.ensures c.in-Ok-expansion_of.ensures.graph in
    let entries : entries_of (contents_of r) order c.in-Ok.selected ≡ expansion.entries.items =
    ap (λ all. named (entry_tasks r.packages r.config c.in-Ok.selected all order.tasks)) (sym c.asks_all-all.ensures) ∙ ap named c.in-Ok-expansion_of.ensures.entries in
    record {
      selected = c.in-Ok.selected;
      whole = c.in-Ok.ensures.0;
      are_selected = c.in-Ok.ensures.1;
      nodes = expansion.graph;
      means = means;
      planned = c.in-Ok-order_of.ensures;
      ends = c.in-Ok-check_ends.ensures;
      wanted_are = rw entries (c.in_ok-wanted.ensures.value ∙ wanted_same c.in_ok-entries.entries.keys expansion.entries.items c.in_ok-entries.ensures.value order.args c.in-Ok-order_of.list);
    }

pub returns-clause-order : goal.returns-clause-order
returns-clause-order c =
    let r = c.args.repository.now in
    let order = c.args.order.now in
    let nodes = c.in-Ok-expansion_of.expansion.graph in
    let list = c.in-Ok-order_of.list in
    let planned = c.in-Ok-order_of.ensures in
    let same = c.plan_law.ensures.same nodes list planned in
    let below = selected_below r.packages.packages order.filters c.in-Ok.selected c.in-Ok.ensures.1 in
    in_order r.packages r.config list c.in_ok-wanted.wanted.items
    (ap (map (λ (w : Wanted). w.id)) c.in_ok-wanted.ensures.value ∙ wanted_ids c.in_ok-entries.entries.keys order.args list same)
    (ap (map (λ (w : Wanted). w.deps)) c.in_ok-wanted.ensures.value ∙ wanted_deps c.in_ok-entries.entries.keys order.args list same)
    (c.plan_law.ensures.inner nodes list planned (is_task r.packages r.config) (c.tasks_law.ensures r.packages r.config c.in-Ok.selected c.asks_all-all.result order.tasks nodes below c.in-Ok-expansion_of.ensures.graph))
    (c.plan_law.ensures.apart nodes list planned) planned.lower (c.plan_law.ensures.ascend nodes list planned)

pub returns-clause-defined : goal.returns-clause-defined
returns-clause-defined c =
    let r = c.args.repository.now in
    let nodes = c.in-Ok-expansion_of.expansion.graph in
    let list = c.in-Ok-order_of.list in
    let below = selected_below r.packages.packages c.args.order.now.filters c.in-Ok.selected c.in-Ok.ensures.1 in
    all_defined r.packages r.config list.ids (c.plan_law.ensures.inner nodes list c.in-Ok-order_of.ensures (is_task r.packages r.config) (c.tasks_law.ensures r.packages r.config c.in-Ok.selected c.asks_all-all.result c.args.order.now.tasks nodes below c.in-Ok-expansion_of.ensures.graph))

pub returns-clause-same : goal.returns-clause-same
returns-clause-same c = c.plan_law.ensures.same c.in-Ok-expansion_of.expansion.graph c.in-Ok-order_of.list c.in-Ok-order_of.ensures

pub returns-clause-few : goal.returns-clause-few
returns-clause-few c = omega (arith, c.plan_law.ensures.few c.in-Ok-expansion_of.expansion.graph c.in-Ok-order_of.list c.in-Ok-order_of.ensures, c.in-Ok-expansion_of.ensures.whole.few)

use Rattle.std.proofs.Common.{◌≡◌, ◌∙◌, ℕ, false, ap, sym, subst, arith, map, List, Result, Ok, Err, MatchResult, IfOk}
use Rattle.task_graph.specs.declared.error.GraphErr.{GraphErr}
use Rattle.task_graph.specs.declared.node.Node.{Node}
use Rattle.task_graph.specs.declared.plan.PlanList.{PlanList}
use Rattle.turbo_config.specs.declared.task_id.TaskId.{TaskId}
use Rattle.task_graph.specs.Memory.{OnlyMemory}
use Rattle.task_graph.specs.Inside.{IsWhole}
use Rattle.task_graph.specs.Rows.{id_at}
use Rattle.task_graph.specs.Sorting.{IsSorted, is_left, slot_at}
use Rattle.task_graph.specs.Ways.{Circles}
use Rattle.task_graph.specs.Plans.{IsPlan}
use Rattle.task_graph.specs.Cycles.{IsNoPlan, IsCycle}
use Rattle.task_graph.proofs.Walking.{left_within}
use Rattle.task_graph.proofs.Planned.{left_steps, order_below, plan_is}
use Rattle.task_graph.proofs.Circling.{cycle_below, cycle_is}
use Rattle.task_graph.proofs.graph.Graph.order.Goals as goal

pub cycle-requires-clause-steps : goal.cycle-requires-clause-steps
cycle-requires-clause-steps c =
    let nodes = c.nodes-nodes.result.now in
    let rows = c.in_ok-rows.rows.items in
    let order = c.in_ok-sorting.sorting.order.items in
    let slots = c.in_ok-sorting.sorting.slots.items in
    let whole : IsWhole nodes = subst IsWhole (sym c.nodes-nodes.ensures.value) c.nodes-nodes.ensures.whole in
    let are = c.in_ok-rows.ensures.rows in
    let num = c.in_ok-rows.ensures.numbered in
    let sorted : IsSorted rows order slots = subst (λ rs. IsSorted rs order slots) c.as_slice.ensures.value c.in_ok-sorting.ensures.sorted in
    rw (c.as_slice-slots.ensures.value, c.as_slice-2.ensures.value) (λ n left. left_steps nodes whole rows are num order slots sorted n left (omega (arith, left_within slots n left, sorted.same, num.same)))

pub ids_at-requires : goal.ids_at-requires
ids_at-requires c =
    let nodes = c.nodes-nodes.result.now in
    let rows = c.in_ok-rows.rows.items in
    let order = c.in_ok-sorting.sorting.order.items in
    let slots = c.in_ok-sorting.sorting.slots.items in
    let whole : IsWhole nodes = subst IsWhole (sym c.nodes-nodes.ensures.value) c.nodes-nodes.ensures.whole in
    let are = c.in_ok-rows.ensures.rows in
    let num = c.in_ok-rows.ensures.numbered in
    let sorted : IsSorted rows order slots = subst (λ rs. IsSorted rs order slots) c.as_slice.ensures.value c.in_ok-sorting.ensures.sorted in
    let found = rw c.in-Some.is at c.in_ok-tasks.ensures.cycle in
    let circles : Circles rows (is_left slots) c.in-Some.tasks = rw (← c.as_slice-2.ensures.value, ← c.as_slice-slots.ensures.value) found in
    rw c.as_slice-in-Some.ensures (cycle_below nodes whole rows are num order slots sorted c.in-Some.tasks circles)

pub returns-in-Some : goal.returns-in-Some
returns-in-Some c =
    let nodes = c.nodes-nodes.result.now in
    let rows = c.in_ok-rows.rows.items in
    let order = c.in_ok-sorting.sorting.order.items in
    let slots = c.in_ok-sorting.sorting.slots.items in
    let whole : IsWhole nodes = subst IsWhole (sym c.nodes-nodes.ensures.value) c.nodes-nodes.ensures.whole in
    let are = c.in_ok-rows.ensures.rows in
    let num = c.in_ok-rows.ensures.numbered in
    let sorted : IsSorted rows order slots = subst (λ rs. IsSorted rs order slots) c.as_slice.ensures.value c.in_ok-sorting.ensures.sorted in
    let found = rw c.in-Some.is at c.in_ok-tasks.ensures.cycle in
    let circles : Circles rows (is_left slots) c.in-Some.tasks = rw (← c.as_slice-2.ensures.value, ← c.as_slice-slots.ensures.value) found in
    subst (λ ns. IsCycle ns c.in_ok-ids_at-in-Some.field-0) c.nodes-nodes.ensures.value (cycle_is nodes whole rows are num order slots sorted c.in-Some.tasks c.in_ok-ids_at-in-Some.field-0 circles (c.in_ok-ids_at-in-Some.ensures.value ∙ ap (map (id_at nodes)) c.as_slice-in-Some.ensures))

pub plan_of-requires-clause-nodes : goal.plan_of-requires-clause-nodes
plan_of-requires-clause-nodes c =
    let nodes = c.nodes-nodes.result.now in
    let rows = c.in_ok-rows.rows.items in
    let order = c.in_ok-sorting.sorting.order.items in
    let slots = c.in_ok-sorting.sorting.slots.items in
    let whole : IsWhole nodes = subst IsWhole (sym c.nodes-nodes.ensures.value) c.nodes-nodes.ensures.whole in
    let are = c.in_ok-rows.ensures.rows in
    let num = c.in_ok-rows.ensures.numbered in
    let sorted : IsSorted rows order slots = subst (λ rs. IsSorted rs order slots) c.as_slice.ensures.value c.in_ok-sorting.ensures.sorted in
    rw c.as_slice-order.ensures.value (order_below nodes whole rows are num order slots sorted)

pub plan_of-requires-clause-slots : goal.plan_of-requires-clause-slots
plan_of-requires-clause-slots c =
    let nodes = c.nodes-nodes.result.now in
    let rows = c.in_ok-rows.rows.items in
    let order = c.in_ok-sorting.sorting.order.items in
    let slots = c.in_ok-sorting.sorting.slots.items in
    let whole : IsWhole nodes = subst IsWhole (sym c.nodes-nodes.ensures.value) c.nodes-nodes.ensures.whole in
    let are = c.in_ok-rows.ensures.rows in
    let num = c.in_ok-rows.ensures.numbered in
    let sorted : IsSorted rows order slots = subst (λ rs. IsSorted rs order slots) c.as_slice.ensures.value c.in_ok-sorting.ensures.sorted in
    rw (c.as_slice-order.ensures.value, c.as_slice-slots.ensures.value, sorted.same, num.same) (order_below nodes whole rows are num order slots sorted)

answers : (nodes : List Node) (ids : List TaskId) (deps : List (List ℕ)) → ((plan : PlanList) → plan.ids ≡ ids → plan.deps ≡ deps → IsPlan nodes plan) → (r : Result PlanList GraphErr) → IfOk r (λ plan. plan.ids ≡ ids) → IfOk r (λ plan. plan.deps ≡ deps) → OnlyMemory r → MatchResult r (IsPlan nodes) (IsNoPlan nodes)
answers nodes ids deps is (Ok plan) same places memory = is plan same places
answers nodes ids deps is (Err e) same places memory = subst (IsNoPlan nodes) (sym memory) tt

pub returns : goal.returns
returns c =
    let nodes = c.nodes-nodes.result.now in
    let rows = c.in_ok-rows.rows.items in
    let order = c.in_ok-sorting.sorting.order.items in
    let slots = c.in_ok-sorting.sorting.slots.items in
    let whole : IsWhole nodes = subst IsWhole (sym c.nodes-nodes.ensures.value) c.nodes-nodes.ensures.whole in
    let are = c.in_ok-rows.ensures.rows in
    let num = c.in_ok-rows.ensures.numbered in
    let sorted : IsSorted rows order slots = subst (λ rs. IsSorted rs order slots) c.as_slice.ensures.value c.in_ok-sorting.ensures.sorted in
    let found = rw c.in-None.is at c.in_ok-tasks.ensures.cycle in
    let none : (n : ℕ) → is_left slots n ≡ false = rw (← c.as_slice-slots.ensures.value) found in
    subst (λ ns. MatchResult c.plan_of.result (IsPlan ns) (IsNoPlan ns)) c.nodes-nodes.ensures.value
    (answers nodes (map (id_at nodes) c.as_slice-order.result.now) (map (λ n. (slot_at c.as_slice-slots.result.now n).places) c.as_slice-order.result.now)
    (λ plan ids deps. plan_is nodes whole rows are num order slots sorted none plan (ids ∙ ap (map (id_at nodes)) c.as_slice-order.ensures.value) (deps ∙ λ j. map (λ n. (slot_at (c.as_slice-slots.ensures.value j) n).places) (c.as_slice-order.ensures.value j)))
    c.plan_of.result c.plan_of.ensures.ids c.plan_of.ensures.deps c.plan_of.ensures.memory)

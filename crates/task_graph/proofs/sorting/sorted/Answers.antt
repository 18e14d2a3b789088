use Rattle.std.proofs.Common.{◌≡◌, ◌∙◌, ◌+◌, ◌<◌, ◌||◌, ◌&&◌, ◌==◌, ℕ, false, cond, sym, ap, subst, arith, length}
use Rattle.std.specs.Ordering.{nat_cmp}
use Rattle.std.specs.BTreeSet.{contains}
use Rattle.workspaces.specs.Reach.{is_in, row_at}
use Rattle.std.specs.BTreeMap.{is_at}
use Rattle.task_graph.specs.Sorting.{slot_at, settled}
use Rattle.workspaces.proofs.Marking.{row-get}
use Rattle.workspaces.proofs.Lists.{sorted-places}
use Rattle.task_graph.proofs.Placed.{length-more}
use Rattle.task_graph.proofs.Peeling.{Peels, peels_first, peels_more, next_below, room, users_open, users_are, users_below, none_below}
use Rattle.task_graph.proofs.sorting.sorted.Goals as goal

pub loop-task-init : goal.loop-task-init
loop-task-init c =
    subst (λ ns. Peels c.args.rows.now ns c.in_ok-slots.slots.items (contains nat_cmp c.in_ok-ready.ready)) (sym c.new-order.ensures.items)
    (peels_first c.args.rows.now c.in_ok-slots.slots.items (contains nat_cmp c.in_ok-ready.ready) c.in_ok-slots.ensures.same c.in_ok-slots.ensures.fits c.in_ok-ready.ensures.value)

pub overflow_cast-len : goal.overflow_cast-len
overflow_cast-len c =
    let less = room c.args.rows.now c.loop-task.order.items c.loop-task.slots.items (contains nat_cmp c.loop-task.ready) c.loop-task.invariant c.in-Some.task c.in-Some.ensures.member in
    omega (arith, less, c.requires.few, c.len.ensures)

pub settle-requires-clause-below : goal.settle-requires-clause-below
settle-requires-clause-below c =
    let rows = c.args.rows.now in
    let users = c.in_ok-users.users.items in
    let order = c.loop-task.order.items in
    let slots = c.loop-task.slots.items in
    let waits = contains nat_cmp c.loop-task.ready in
    let inv = c.loop-task.invariant in
    let task = c.in-Some.task in
    let within : task < length users = omega (arith, next_below rows order slots waits inv task c.in-Some.ensures.member, c.in_ok-users.ensures.same) in
    let row : c.as_slice-users.result.now ≡ row_at users task = c.as_slice-users.ensures ∙ (c.index.ensures ∙ sym (row-get users task c.index.result.now within)) in
    rw (inv.same, row) (users_below rows users task c.in_ok-users.ensures.turned within)

pub settle-requires-clause-ascend : goal.settle-requires-clause-ascend
settle-requires-clause-ascend c =
    let rows = c.args.rows.now in
    let users = c.in_ok-users.users.items in
    let order = c.loop-task.order.items in
    let slots = c.loop-task.slots.items in
    let waits = contains nat_cmp c.loop-task.ready in
    let inv = c.loop-task.invariant in
    let task = c.in-Some.task in
    let within : task < length users = omega (arith, next_below rows order slots waits inv task c.in-Some.ensures.member, c.in_ok-users.ensures.same) in
    let row : c.as_slice-users.result.now ≡ row_at users task = c.as_slice-users.ensures ∙ (c.index.ensures ∙ sym (row-get users task c.index.result.now within)) in
    rw (row, c.in_ok-users.ensures.turned task within) (sorted-places (λ r. is_in r task) rows)

pub settle-requires-clause-unmet : goal.settle-requires-clause-unmet
settle-requires-clause-unmet c n is =
    let rows = c.args.rows.now in
    let users = c.in_ok-users.users.items in
    let order = c.loop-task.order.items in
    let slots = c.loop-task.slots.items in
    let waits = contains nat_cmp c.loop-task.ready in
    let inv = c.loop-task.invariant in
    let task = c.in-Some.task in
    let within : task < length users = omega (arith, next_below rows order slots waits inv task c.in-Some.ensures.member, c.in_ok-users.ensures.same) in
    let row : c.as_slice-users.result.now ≡ row_at users task = c.as_slice-users.ensures ∙ (c.index.ensures ∙ sym (row-get users task c.index.result.now within)) in
    users_open rows order slots waits inv task c.in-Some.ensures.member c.requires n (sym (users_are rows users task n c.in_ok-users.ensures.turned within) ∙ rw row at is)

pub wake-requires : goal.wake-requires
wake-requires c =
    let rows = c.args.rows.now in
    let users = c.in_ok-users.users.items in
    let order = c.loop-task.order.items in
    let slots = c.loop-task.slots.items in
    let waits = contains nat_cmp c.loop-task.ready in
    let inv = c.loop-task.invariant in
    let task = c.in-Some.task in
    let within : task < length users = omega (arith, next_below rows order slots waits inv task c.in-Some.ensures.member, c.in_ok-users.ensures.same) in
    let row : c.as_slice-users.result.now ≡ row_at users task = c.as_slice-users.ensures ∙ (c.index.ensures ∙ sym (row-get users task c.index.result.now within)) in
    let same : length c.as_slice.result.now ≡ length rows = ap length c.as_slice.ensures.value ∙ (c.in_ok-settle.ensures.same ∙ inv.same) in
    rw (same, row) (users_below rows users task c.in_ok-users.ensures.turned within)

pub loop-task-smaller : goal.loop-task-smaller
loop-task-smaller c =
    let less = room c.args.rows.now c.loop-task.order.items c.loop-task.slots.items (contains nat_cmp c.loop-task.ready) c.loop-task.invariant c.in-Some.task c.in-Some.ensures.member in
    let longer : length c.push.new.self.items ≡ length c.loop-task.order.items + 1 = ap length c.in_ok-push.ensures.items ∙ length-more c.loop-task.order.items c.in-Some.task in
    omega (arith, less, longer)

pub loop-task-preserved : goal.loop-task-preserved
loop-task-preserved c =
    let rows = c.args.rows.now in
    let users = c.in_ok-users.users.items in
    let order = c.loop-task.order.items in
    let slots = c.loop-task.slots.items in
    let waits = contains nat_cmp c.loop-task.ready in
    let inv = c.loop-task.invariant in
    let task = c.in-Some.task in
    let within : task < length users = omega (arith, next_below rows order slots waits inv task c.in-Some.ensures.member, c.in_ok-users.ensures.same) in
    let row : c.as_slice-users.result.now ≡ row_at users task = c.as_slice-users.ensures ∙ (c.index.ensures ∙ sym (row-get users task c.index.result.now within)) in
    let new = c.settle.new.slots.items in
    let uses : (n : ℕ) → is_in c.as_slice-users.result.now n ≡ is_in (row_at rows n) task = λ n. ap (λ ns. is_in ns n) row ∙ users_are rows users task n c.in_ok-users.ensures.turned within in
    let least = none_below waits task c.in-Some.ensures.least in
    let woken : (n : ℕ) → contains nat_cmp c.wake.new.ready n ≡ (cond (is_at (nat_cmp task) n) false (waits n) || (is_in c.as_slice-users.result.now n && ((slot_at new n).unmet == 0))) =
    λ n. c.in_ok-wake.ensures.woken n ∙ ((λ j. c.in-Some.ensures.updates.0 n j || (is_in c.as_slice-users.result.now n && ((slot_at (c.as_slice.ensures.value j) n).unmet == 0)))) in
    let count : c.len.result ≡ length order = omega (arith, c.len.ensures) in
    let settles : (n : ℕ) → slot_at new n ≡ cond (is_in c.as_slice-users.result.now n) (settled (length order) (slot_at slots n)) (slot_at slots n) =
    λ n. c.in_ok-settle.ensures.settled n ∙ ap (λ place. cond (is_in c.as_slice-users.result.now n) (settled place (slot_at slots n)) (slot_at slots n)) count in
    rw c.in_ok-push.ensures.items (peels_more rows order slots waits inv task c.in-Some.ensures.member c.requires c.as_slice-users.result.now uses least new (contains nat_cmp c.wake.new.ready) c.in_ok-settle.ensures.same settles woken)

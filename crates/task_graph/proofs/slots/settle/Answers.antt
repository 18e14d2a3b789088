use Rattle.std.proofs.Common.{◌≡◌, ◌∙◌, ◌++◌, ◌∷◌, ◌+◌, ◌-◌, ◌<◌, [], false, get_or, take, length, ap, arith, refl}
use Rattle.std.proofs.Math.ListN.{length-set}
use Rattle.std.proofs.lemmas.List.{take_more}
use Rattle.workspaces.specs.Reach.{is_in}
use Rattle.task_graph.specs.declared.slots.Slot.{Slot}
use Rattle.task_graph.specs.Sorting.{slot_at, settled}
use Rattle.workspaces.proofs.Marking.{below_at, in_at}
use Rattle.task_graph.proofs.Numbers.{fresh_at}
use Rattle.task_graph.proofs.Counted.{slot-get, settled_more}
use Rattle.task_graph.proofs.slots.settle.Goals as goal

pub overflow_sub-slot : goal.overflow_sub-slot
overflow_sub-slot c =
    let users = c.args.users.now in
    let i = c.loop-user.user-index in
    let at = get_or users i 0 in
    let old = c.args.slots.now.items in
    let now = c.loop-user.slots.items in
    let inv = c.loop-user.invariant in
    let less : at < length now = omega (arith, below_at (length old) users c.requires.below i 0 c.loop-user-test.true, inv.same) in
    let fresh : is_in (take i users) at ≡ false = fresh_at users c.requires.ascend i 0 c.loop-user-test.true in
    let before : slot_at now at ≡ slot_at old at = inv.settled at ∙ rw fresh refl in
    let slot : c.index_mut-slot.result.now ≡ slot_at old at = c.index_mut-slot.ensures.value ∙ (slot-get now at c.index_mut-slot.result.now less ∙ before) in
    omega (arith, c.requires.unmet at (in_at users i 0 c.loop-user-test.true), ap (λ (s : Slot). s.unmet) slot)

pub loop-user-preserved : goal.loop-user-preserved
loop-user-preserved c =
    let users = c.args.users.now in
    let i = c.loop-user.user-index in
    let at = get_or users i 0 in
    let old = c.args.slots.now.items in
    let now = c.loop-user.slots.items in
    let place = c.args.place in
    let inv = c.loop-user.invariant in
    let less : at < length now = omega (arith, below_at (length old) users c.requires.below i 0 c.loop-user-test.true, inv.same) in
    let fresh : is_in (take i users) at ≡ false = fresh_at users c.requires.ascend i 0 c.loop-user-test.true in
    let before : slot_at now at ≡ slot_at old at = inv.settled at ∙ rw fresh refl in
    let slot : c.index_mut-slot.result.now ≡ slot_at old at = c.index_mut-slot.ensures.value ∙ (slot-get now at c.index_mut-slot.result.now less ∙ before) in
    let new : Slot = record { unmet = c.index_mut-slot.result.now.unmet - 1; places = c.push.new.self } in
    let is : new ≡ settled place (slot_at old at) = λ j. record { unmet = (slot j).unmet - 1; places = (c.in_ok-push.ensures.pushed ∙ ap (λ (s : Slot). s.places ++ place ∷ []) slot) j } in
    let next : take (i + 1) users ≡ take i users ++ at ∷ [] = take_more users i 0 c.loop-user-test.true in
    record {
      same = length-set now at new ∙ inv.same;
      settled = λ n. rw next (settled_more (take i users) at place old now new less is inv.settled n);
    }

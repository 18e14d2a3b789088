use Rattle.std.proofs.Common.{◌≡◌, ap, ◌∙◌, sym, length, subst}
use Rattle.npm_lock.specs.Reach.{mark_all, finds_at, IsReached}
use Rattle.npm_lock.proofs.Reaching.{started, turned, taken_below, read_at, finds_below, ended}
use Rattle.npm_lock.proofs.reach.reach.Goals as goal

pub loop-number-init : goal.loop-number-init
loop-number-init c = started c.args.finds.now c.args.set.items c.args.roots.now c.requires.roots c.requires.size c.requires.closed c.mark_all.new.self (c.in_ok-mark_all.ensures ∙ ap (mark_all c.args.roots.now) c.new-work.ensures)

pub bounds-finds-number : goal.bounds-finds-number
bounds-finds-number c = taken_below c.args.finds.now c.args.set.items c.args.roots.now c.loop-number.work c.in-Some.number c.next.new.self.1 c.in-Some.ensures.todo c.loop-number.invariant

pub mark_all-requires-in-Some : goal.mark_all-requires-in-Some
mark_all-requires-in-Some c =
    let is : c.as_slice.result.now ≡ finds_at c.args.finds.now c.in-Some.number = c.as_slice.ensures ∙ read_at c.args.finds.now c.in-Some.number c.index-finds-number.result (taken_below c.args.finds.now c.args.set.items c.args.roots.now c.loop-number.work c.in-Some.number c.next.new.self.1 c.in-Some.ensures.todo c.loop-number.invariant) c.index-finds-number.is in
    let size : length c.next.new.self.0 ≡ length c.args.finds.now = ap length c.in-Some.ensures.set ∙ c.loop-number.invariant.size in
    rw (size, is) (finds_below (length c.args.finds.now) c.args.finds.now c.requires.finds c.in-Some.number)

pub loop-number-smaller : goal.loop-number-smaller
loop-number-smaller c =
    let is : c.as_slice.result.now ≡ finds_at c.args.finds.now c.in-Some.number = c.as_slice.ensures ∙ read_at c.args.finds.now c.in-Some.number c.index-finds-number.result (taken_below c.args.finds.now c.args.set.items c.args.roots.now c.loop-number.work c.in-Some.number c.next.new.self.1 c.in-Some.ensures.todo c.loop-number.invariant) c.index-finds-number.is in
    (turned c.args.finds.now c.args.set.items c.args.roots.now c.requires.finds c.loop-number.work c.next.new.self c.mark_all-in-Some.new.self c.in-Some.number c.as_slice.result.now c.in-Some.ensures.set c.in-Some.ensures.todo is c.in_ok-mark_all-2.ensures c.loop-number.invariant).1

pub loop-number-preserved : goal.loop-number-preserved
loop-number-preserved c =
    let is : c.as_slice.result.now ≡ finds_at c.args.finds.now c.in-Some.number = c.as_slice.ensures ∙ read_at c.args.finds.now c.in-Some.number c.index-finds-number.result (taken_below c.args.finds.now c.args.set.items c.args.roots.now c.loop-number.work c.in-Some.number c.next.new.self.1 c.in-Some.ensures.todo c.loop-number.invariant) c.index-finds-number.is in
    (turned c.args.finds.now c.args.set.items c.args.roots.now c.requires.finds c.loop-number.work c.next.new.self c.mark_all-in-Some.new.self c.in-Some.number c.as_slice.result.now c.in-Some.ensures.set c.in-Some.ensures.todo is c.in_ok-mark_all-2.ensures c.loop-number.invariant).0

pub returns : goal.returns
returns c =
    let reached = ended c.args.finds.now c.args.set.items c.args.roots.now c.loop-number.work c.in_default.ensures.todo c.loop-number.invariant in
    subst (IsReached c.args.finds.now c.args.set.items c.args.roots.now) (sym (c.into_set.ensures ∙ c.in_default.ensures.set)) reached

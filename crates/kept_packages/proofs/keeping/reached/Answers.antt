use Rattle.std.proofs.Common.{◌≡◌, ◌∙◌, ◌+◌, ℕ, [], false, sym, ap, subst, refl, arith, length}
use Rattle.std.specs.Prelude.{replicate}
use Rattle.std.proofs.lemmas.Bool.{eqb-true}
use Rattle.std.proofs.lemmas.List.{length-replicate, nil_from_length}
use Rattle.workspaces.specs.Marks.{is_marked, Adds}
use Rattle.workspaces.specs.Reach.{AreBelow}
use Rattle.workspaces.specs.Space.{owners}
use Rattle.workspaces.proofs.Owners.{owners_count}
use Rattle.repository.specs.Reading.{contents_of}
use Rattle.kept_packages.specs.Needs.{Leads, Needs}
use Rattle.workspaces.proofs.Marking.{none_marked}
use Rattle.kept_packages.proofs.Reaching.{waiting_below, gained_below, began, stepped, ended}
use Rattle.kept_packages.proofs.keeping.reached.Goals as goal

pub loop-alloc-init : goal.loop-alloc-init
loop-alloc-init c =
    let contents = contents_of c.args.repository.now in
    let first = c.args.first.now in
    let old = c.in_ok-vec.field-0.items in
    let vec : old ≡ replicate (c.count.result + 1) false = c.in_ok-vec.ensures.items_if_clones_equal (λ y e. e) in
    let size : length old ≡ length (owners contents.space) = ap length vec ∙ length-replicate (c.count.result + 1) false ∙ omega (arith, c.count.ensures.value, owners_count contents.space) in
    let none : (n : ℕ) → is_marked old n ≡ false = λ n. subst (λ marks. is_marked marks n ≡ false) (sym vec) (none_marked (c.count.result + 1) n) in
    let adds : Adds first old [] c.add.new.front.marks.items c.add.new.front.waiting = rw c.new.ensures at c.in_ok-add.ensures.added in
    began contents first old c.add.new.front.marks.items first c.add.new.front.waiting adds size none refl

pub needs_of-requires-clause-users : goal.needs_of-requires-clause-users
needs_of-requires-clause-users c = waiting_below (contents_of c.args.repository.now) c.args.first.now c.loop-alloc.front.marks.items c.loop-alloc.front.waiting c.loop-alloc.invariant

pub add-requires-in-loop-alloc : goal.add-requires-in-loop-alloc
add-requires-in-loop-alloc c =
    let contents = contents_of c.args.repository.now in
    let below : AreBelow (length (owners contents.space)) c.in_ok-needs.needs.items = gained_below contents.space (Leads contents.space (Needs contents) c.loop-alloc.front.waiting) c.in_ok-needs.needs.items c.in_ok-needs.ensures.needs in
    rw (c.loop-alloc.invariant.size, c.as_slice-in-loop-alloc.ensures.value) below

pub loop-alloc-preserved : goal.loop-alloc-preserved
loop-alloc-preserved c =
    let contents = contents_of c.args.repository.now in
    let first = c.args.first.now in
    let old = c.loop-alloc.front.marks.items in
    let new = c.add-in-loop-alloc.new.front in
    let needs = c.in_ok-needs.needs.items in
    let adds : Adds needs old [] new.marks.items new.waiting = rw (c.as_slice-in-loop-alloc.ensures.value, c.new-in-loop-alloc.ensures) at c.in_ok-add-2.ensures.added in
    stepped contents first old new.marks.items needs new.waiting adds c.loop-alloc.front.waiting c.loop-alloc.invariant c.in_ok-needs.ensures.needs

pub returns-clause-reaches : goal.returns-clause-reaches
returns-clause-reaches c =
    let waiting = c.loop-alloc.front.waiting in
    let none : length c.as_slice.result.now ≡ 0 = eqb-true (length c.as_slice.result.now) 0 (sym c.is_empty.ensures ∙ c.loop-alloc-test.false) in
    let empty : waiting ≡ [] = nil_from_length waiting (sym (ap length c.as_slice.ensures) ∙ none) in
    ended (contents_of c.args.repository.now) c.args.first.now c.loop-alloc.front.marks.items waiting empty c.loop-alloc.invariant

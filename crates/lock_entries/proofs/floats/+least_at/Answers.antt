use Rattle.std.proofs.Common.{sym, ap, ◌∙◌}
use Rattle.serde_json.specs.View.{view}
use Rattle.json_view.specs.Pointer.{pointer_to}
use Rattle.lock_entries.specs.Least.{least_by}
use Rattle.lock_entries.specs.Floats.{floats}
use Rattle.lock_entries.proofs.FloatSteps.{member_with, member_without, item_with, item_without}
use Rattle.lock_entries.proofs.floats.+least_at.Goals as goal
use Rattle.lock_entries.proofs.floats.+least_at.Goals.{least_of_items-then-has_float+in_ok-number+in_ok-pointer+in_ok-found, least_of_items-else-has_float}

pub least_of_items-loop-i-preserved : goal.least_of_items-loop-i-preserved
least_of_items-loop-i-preserved t c =
    let is = c.item-item.is in
    elim c.if-has_float.branch [
      | least_of_items-then-has_float+in_ok-number+in_ok-pointer+in_ok-found w ↦
          let at = w.as_str-then-has_float.ensures ∙ w.in_ok-pointer.ensures.text ∙ ap (pointer_to c.args.at.now) (w.as_str.ensures.value ∙ w.in_ok-number.ensures) in
          let found = w.in_ok-found.ensures.least ∙ ap (λ p. least_by (λ q. q) (floats p (view c.item-item.result))) at in
          item_with c.args.at.now c.deref-item-items.result.now c.loop-i.i c.item-item.result c.loop-i.least w.in_ok-found.found c.if-has_float.least _ (c.loop-i-test.true, is) found (w.least-is ∙ w.lesser-least.ensures) c.loop-i.invariant
      | least_of_items-else-has_float w ↦
          rw w.least-is (item_without c.args.at.now c.deref-item-items.result.now c.loop-i.i c.item-item.result c.loop-i.least _ (c.loop-i-test.true, is) (sym c.has_float.ensures ∙ w.if-has_float.false) c.loop-i.invariant)
    ]

pub least_of_members-loop-name-preserved-then-has_float : goal.least_of_members-loop-name-preserved-then-has_float
least_of_members-loop-name-preserved-then-has_float t c =
    let at = c.as_str-then-has_float.ensures ∙ c.in_ok-pointer.ensures.text ∙ ap (pointer_to c.args.at.now) c.as_str.ensures.value in
    let found = c.in_ok-found.ensures.least ∙ ap (λ p. least_by (λ q. q) (floats p (view c.in-Some.member.now))) at in
    member_with c.args.at.now c.loop-name.name-iterator c.next.new.self c.in-Some.name.now c.in-Some.member.now c.loop-name.least c.in_ok-found.found c.lesser-least.result _ c.in-Some.ensures.steps found c.lesser-least.ensures c.loop-name.invariant

pub least_of_members-loop-name-preserved : goal.least_of_members-loop-name-preserved
least_of_members-loop-name-preserved t c =
    member_without c.args.at.now c.loop-name.name-iterator c.next.new.self c.in-Some.name.now c.in-Some.member.now c.loop-name.least _ c.in-Some.ensures.steps (sym c.has_float.ensures ∙ c.if-has_float.false) c.loop-name.invariant

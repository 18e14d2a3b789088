use Rattle.std.proofs.Common.{◌≡◌, ◌∙◌, ◌++◌, ◌∷◌, ◌+◌, [], false, sym, ap, refl, arith, rules, length, take, get_or, cond, append-nil}
use Rattle.std.proofs.Math.ListN.{length-take}
use Rattle.std.proofs.lemmas.List.{take_more}
use Rattle.workspaces.specs.Lists.{places}
use Rattle.workspaces.specs.Marks.{itself}
use Rattle.workspaces.proofs.Turning.{places-push}
use Rattle.workspaces.proofs.reach.marked.Goals as goal
use Rattle.workspaces.proofs.reach.marked.Goals.{then-mark+in_ok-push, else-mark}

pub loop-place-init : goal.loop-place-init
unfolding places
loop-place-init c = search rules

pub loop-place-preserved : goal.loop-place-preserved
loop-place-preserved c =
    let marks = c.args.marks.now in
    let at = c.loop-place.place in
    let next : take (at + 1) marks ≡ take at marks ++ get_or marks at false ∷ [] = take_more marks at false c.loop-place-test.true in
    let more : places itself (take (at + 1) marks) ≡ places itself (take at marks) ++ cond (get_or marks at false) (length (take at marks) ∷ []) [] = ap (places itself) next ∙ places-push itself (take at marks) (get_or marks at false) in
    let whole : length (take at marks) ≡ at = omega (arith, length-take at marks, c.loop-place-test.true) in
    elim c.if-mark.branch [
      | then-mark+in_ok-push w ↦ w.found-is ∙ (w.in_ok-push.ensures.pushed ∙ (ap (λ f. f ++ at ∷ []) c.loop-place.invariant ∙ sym (more ∙ rw (w.if-mark.true, whole) refl)))
      | else-mark w ↦ w.found-is ∙ (c.loop-place.invariant ∙ sym (more ∙ rw (w.if-mark.false, append-nil) refl))
    ]

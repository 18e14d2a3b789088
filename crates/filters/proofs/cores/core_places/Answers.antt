use Rattle.std.proofs.Common.{◌≡◌, ◌∙◌, ◌+◌, ◌<◌, ◌++◌, ◌∷◌, [], sym, ap, refl, rules, arith, length, take, cond, append-nil}
use Rattle.workspaces.specs.Lists.{places}
use Rattle.filters.specs.Selection.{is_in_core}
use Rattle.filters.proofs.Places.{places_next}
use Rattle.filters.proofs.cores.core_places.Goals as goal
use Rattle.filters.proofs.cores.core_places.Goals.{then-is_in_core+in_ok-push, else-is_in_core}

pub loop-p-init : goal.loop-p-init
unfolding places
loop-p-init c = search rules

pub loop-p-preserved : goal.loop-p-preserved
loop-p-preserved c =
    let members = c.args.packages.now.packages in
    let test = is_in_core c.args.core.now in
    let at = c.loop-p.p in
    let less : at < length members = omega (arith, c.loop-p-test.true, c.count-p-end.ensures.value) in
    let more : places test (take (at + 1) members) ≡ places test (take at members) ++ cond c.is_in_core.result (at ∷ []) [] = places_next test members at less ∙ ap (λ t. places test (take at members) ++ cond t (at ∷ []) []) (sym c.is_in_core.ensures) in
    elim c.if-is_in_core.branch [
      | then-is_in_core+in_ok-push w ↦ w.found-is ∙ (w.in_ok-push.ensures.pushed ∙ (ap (λ f. f ++ at ∷ []) c.loop-p.invariant ∙ sym (more ∙ rw w.if-is_in_core.true refl)))
      | else-is_in_core w ↦ w.found-is ∙ (c.loop-p.invariant ∙ sym (more ∙ rw (w.if-is_in_core.false, append-nil) refl))
    ]

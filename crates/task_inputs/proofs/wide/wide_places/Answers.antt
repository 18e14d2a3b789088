use Rattle.std.proofs.Common.{◌∙◌, ◌++◌, ◌∷◌, [], sym, ap, cond, take, List, ℕ, Bool}
use Rattle.workspaces.specs.Lists.{places}
use Rattle.input_entries.specs.Entries.{any_wide}
use Rattle.task_inputs.proofs.Places.{no_places, places_more}
use Rattle.task_inputs.proofs.wide.wide_places.Goals as goal

pub loop-place-init : goal.loop-place-init
loop-place-init c = c.new-found.ensures.items ∙ sym (no_places (any_wide c.args.globs.now))

pub loop-place-preserved : goal.loop-place-preserved
loop-place-preserved c =
    let place = c.loop-place.place in let test = any_wide c.args.globs.now in
    c.in_ok-add_place.ensures.added ∙ ap (λ (ks : List ℕ). ks ++ cond c.any_wide.result (place ∷ []) []) c.loop-place.invariant
    ∙ ap (λ (b : Bool). places test (take place c.args.walk.now) ++ cond b (place ∷ []) []) c.any_wide.ensures
    ∙ sym (places_more test c.args.walk.now place c.index-walk-place.result c.loop-place-test.true c.index-walk-place.is)

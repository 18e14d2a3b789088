use Rattle.std.proofs.Common.{◌∙◌, ◌++◌, ◌∷◌, [], sym, ap, cond, get_or, false}
use Rattle.std.specs.Prelude.{None}
use Rattle.task_inputs.specs.declared.files.FileFacts.{FileFacts}
use Rattle.task_inputs.proofs.Places.{no_places, places_at}
use Rattle.task_inputs.proofs.files.global_places.Goals as goal

pub loop-place-init : goal.loop-place-init
loop-place-init c = c.new-found.ensures.items ∙ sym (no_places (λ (f : FileFacts). f.global))

pub loop-place-preserved : goal.loop-place-preserved
loop-place-preserved c =
    let test : FileFacts → _ = λ f. f.global in
    c.in_ok-add_place.ensures.added ∙ ap (λ ks. ks ++ cond (get_or c.args.files.now c.loop-place.place (record { home = None; may_count = false; ignored = false; global = false })).global (c.loop-place.place ∷ []) []) c.loop-place.invariant
    ∙ sym (places_at test c.args.files.now c.loop-place.place (record { home = None; may_count = false; ignored = false; global = false }) c.loop-place-test.true)

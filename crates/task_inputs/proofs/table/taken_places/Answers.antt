use Rattle.std.proofs.Common.{◌≡◌, ◌∙◌, ◌+◌, ◌<◌, List, ℕ, [], length, get_or, sym, ap, subst}
use Rattle.std.proofs.lemmas.List.{get_or_default}
use Rattle.std.specs.List.{AllByRecursion}
use Rattle.task_inputs.specs.Facts.{merged}
use Rattle.task_inputs.specs.Tables.{close, looked}
use Rattle.task_inputs.proofs.Places.{all_merged}
use Rattle.task_inputs.proofs.table.taken_places.Goals as goal

pub taken_of-requires-clause-below : goal.taken_of-requires-clause-below
taken_of-requires-clause-below c =
    let table = c.args.table.now in let place = c.args.task.now.place in let wide = c.args.wide.now in
    let globals = table.globals.items in let near = c.as_slice-near.result.now in
    let near_is : near ≡ get_or table.near.items place [] = c.as_slice-near.ensures ∙ c.index.ensures ∙ get_or_default table.near.items place c.index.result.now [] c.requires.looked.stands in
    let close_is : c.deref-2.result.now ≡ close table place =
    c.deref-2.ensures.value ∙ c.in_ok-close.ensures.value ∙ ap (λ (gs : List ℕ). merged (length near + length gs) near gs) c.deref.ensures.value
    ∙ ap (λ (ns : List ℕ). merged (length ns + length globals) ns globals) near_is in
    let is : c.deref-4.result.now ≡ looked table place wide = c.deref-4.ensures.value ∙ c.in_ok-places.ensures.value ∙ ap (λ (ks : List ℕ). merged (length ks + length wide) ks wide) close_is in
    subst (λ (ks : List ℕ). AllByRecursion (λ k. k < length c.args.walk.now) ks) (sym is) (all_merged (λ k. k < length c.args.walk.now) _ (close table place) wide c.requires.looked.narrow c.requires.wide)

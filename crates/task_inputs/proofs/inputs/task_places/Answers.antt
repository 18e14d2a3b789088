use Rattle.std.proofs.Common.{◌≡◌, ◌∙◌, ◌<◌, List, ℕ, length, filter, sym, ap, subst}
use Rattle.std.specs.List.{AllByRecursion}
use Rattle.workspaces.specs.Lists.{places}
use Rattle.workspaces.specs.Space.{owners}
use Rattle.task_inputs.specs.declared.wide.Wide.{Wide}
use Rattle.task_inputs.specs.Tables.{takes_at, looked, IsRowOf}
use Rattle.task_inputs.specs.WideLists.{places_by, wide_by}
use Rattle.task_inputs.proofs.Rows.{places_below, with_ok}
use Rattle.task_inputs.proofs.inputs.task_places.Goals as goal

pub taken_places-requires-clause-wide : goal.taken_places-requires-clause-wide
taken_places-requires-clause-wide c =
    let test = wide_by c.in_ok-globs.globs.inputs in
    let wide : c.places_by-wide.result.now ≡ places test c.args.walk.now = c.places_by-wide.ensures ∙ ap (λ (ws : List Wide). places_by ws c.in_ok-number.number) c.deref.ensures.value ∙ c.in_ok-number.ensures.places in
    subst (λ (ks : List ℕ). AllByRecursion (λ k. k < length c.args.walk.now) ks) (sym wide) (places_below test c.args.walk.now)

pub returns-clause-row : goal.returns-clause-row
returns-clause-row c =
    let globs = c.in_ok-globs.globs in let table = c.args.table.now in let walk = c.args.walk.now in
    let takes = takes_at globs table.files.items walk in
    let wide : c.places_by-wide.result.now ≡ places (wide_by globs.inputs) walk = c.places_by-wide.ensures ∙ ap (λ (ws : List Wide). places_by ws c.in_ok-number.number) c.deref.ensures.value ∙ c.in_ok-number.ensures.places in
    with_ok (λ (row : List ℕ). row ≡ filter takes (looked table globs.place c.places_by-wide.result.now)) (IsRowOf (owners c.args.packages.now) walk table c.args.task.now) c.taken_places.result
    (λ row taken. record { task = globs; read = c.in_ok-globs.ensures.read; taken = taken ∙ ap (λ (ks : List ℕ). filter takes (looked table globs.place ks)) wide }) c.taken_places.ensures.taken

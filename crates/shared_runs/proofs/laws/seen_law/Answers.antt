use Rattle.std.proofs.Common.{◌≡◌, true, false, Bool, if◌then◌else◌, List, ◌++◌, Option, Some, None}
use Rattle.std.proofs.Common.{sym, ◌∙◌, ap}
use Rattle.std.specs.Prelude.{is_some}
use Rattle.std.specs.List.{list_any}
use Rattle.cache_api.specs.Pairs.{Pair}
use Rattle.artifact_store.specs.declared.mark.StoreMark.{StoreMark}
use Rattle.shared_views.specs.Histories.{events_of, is_cut, added_by}
use Rattle.shared_runs.specs.Shared.{state_of}
use Rattle.shared_runs.specs.Steps.{entered_at}
use Rattle.shared_runs.proofs.Ending.{some_of}
use Rattle.shared_runs.proofs.laws.seen_law.Goals as goal

some_same : (cut : Bool) (was view : List Pair) → (if cut then None else Some was) ≡ Some view
    → was ≡ view
some_same true was view is = cc
some_same false was view is = cc

pub returns : goal.returns
returns g c h s f whole =
    let (m, kept) = some_of s.turns.mark whole in
    let view = c.view_law.ensures.entered h.first h.earlier h.later h.run f.history in
    sym (some_same (list_any is_cut (events_of h.run h.later))
    (entered_at h ++ added_by h.run h.later) (state_of s).pairs
    (sym view ∙ f.view
    ∙ ap (λ (o : Option StoreMark). if is_some o then Some (state_of s).pairs else None) kept))

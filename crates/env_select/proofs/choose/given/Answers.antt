use Rattle.std.proofs.Common.{◌≡◌, ◌∙◌}
use Rattle.std.specs.BTreeMap.{IsOrdered}
use Rattle.std.proofs.lemmas.Result.{IfOk-weaker}
use Rattle.rel_path.specs.Paths.{name_cmp}
use Rattle.env_select.specs.Choice.{first_value, has, IsChosen, is_passed, is_given}
use Rattle.env_select.proofs.Values.{is_chosen, wanted_is, left_over}
use Rattle.env_select.proofs.choose.given.Goals as goal

pub returns : goal.returns
returns c =
    let a = c.args in
    let values = c.remove_names.new.values in
    let wanted = is_given a.mode a.task.now a.global.now a.taken.now in
    IfOk-weaker c.pairs_of.result (λ pairs. (pairs ≡ values.entries) × IsOrdered name_cmp values) (IsChosen wanted a.env.now)
    (λ pairs h. is_chosen wanted a.env.now pairs values h.0 h.1
    (λ name.
    let before = rw (c.reach_of.ensures, wanted_is a.mode a.task.now a.global.now name) at (c.in_ok-values.ensures name) in
    let after = rw (c.as_slice.ensures, before) at (c.remove_names.ensures name) in
    after ∙ left_over (is_passed a.mode a.task.now a.global.now name) (has a.taken.now name) (first_value a.env.now name)))
    c.pairs_of.ensures

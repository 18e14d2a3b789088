use Rattle.std.proofs.Common.{◌≡◌}
use Rattle.std.specs.BTreeMap.{IsOrdered}
use Rattle.std.proofs.lemmas.Result.{IfOk-weaker}
use Rattle.rel_path.specs.Paths.{name_cmp}
use Rattle.env_select.specs.Choice.{IsChosen, is_hashed}
use Rattle.env_select.proofs.Values.{is_chosen}
use Rattle.env_select.proofs.choose.hashed.Goals as goal

pub returns : goal.returns
returns c =
    let values = c.in_ok-values.values in
    let wanted = is_hashed c.args.task.now c.args.global.now in
    IfOk-weaker c.pairs_of.result (λ pairs. (pairs ≡ values.entries) × IsOrdered name_cmp values) (IsChosen wanted c.args.env.now)
    (λ pairs h. is_chosen wanted c.args.env.now pairs values h.0 h.1 c.in_ok-values.ensures) c.pairs_of.ensures

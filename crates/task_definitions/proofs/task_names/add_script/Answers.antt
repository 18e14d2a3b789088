use Rattle.std.proofs.Common.{◌≡◌, ◌∙◌, true, false, sym, ap}
use Rattle.std.specs.BTreeSet.{contains}
use Rattle.rel_path.specs.Paths.{name_cmp}
use Rattle.turbo_config.specs.Names.{is_task_name}
use Rattle.task_definitions.proofs.Gains.{gains_good, gains_bad}
use Rattle.task_definitions.proofs.task_names.add_script.Goals as goal

pub returns-then-not-is_task_name-clause-added : goal.returns-then-not-is_task_name-clause-added
returns-then-not-is_task_name-clause-added c = λ name.
    let none : is_task_name c.args.script.now ≡ false = ap is_task_name (sym c.as_str.ensures) ∙ sym c.is_task_name.ensures ∙ c.if-not-is_task_name.true in
    gains_bad is_task_name c.args.script.now name (contains name_cmp c.args.names.now name) none

pub returns-clause-added : goal.returns-clause-added
returns-clause-added c = λ name.
    let one : is_task_name c.args.script.now ≡ true = ap is_task_name (sym c.as_str.ensures) ∙ sym c.is_task_name.ensures ∙ c.if-not-is_task_name.false in
    let updates = rw c.in_ok-copy.ensures.value at c.in_ok-insert.ensures.updates in
    gains_good is_task_name c.args.script.now name (contains name_cmp c.args.names.now name) (contains name_cmp c.insert.new.self name) one (updates.0 name)

use Rattle.std.proofs.Common.{◌≡◌, ◌∙◌, true, sym, ap, refl}
use Rattle.turbo_config.specs.Names.{is_task_name}
use Rattle.turbo_config.specs.Entries.{over}
use Rattle.task_definitions.specs.Setup.{is_among}
use Rattle.task_definitions.proofs.definition.def_by_scripts.Goals as goal

pub returns-in_ok-def_under-clause-value : goal.returns-in_ok-def_under-clause-value
unfolding over
returns-in_ok-def_under-clause-value c =
    let named : is_task_name c.args.task.now ≡ true = ap is_task_name (sym c.as_str.ensures) ∙ sym c.is_task_name.ensures ∙ c.if-is_task_name.true in
    let there : is_among c.args.scripts.now.keys c.args.task.now ≡ true = sym c.contains.ensures ∙ c.if-contains.true in
    rw (named, there, c.in_ok-def_under.ensures.value, c.new-nothing.ensures) refl

use Rattle.std.proofs.Common.{◌∙◌, sym, ap}
use Rattle.std.specs.List.{list_any}
use Rattle.input_entries.specs.Entries.{is_wide}
use Rattle.task_inputs.specs.Facts.{is_wide_list}
use Rattle.task_inputs.proofs.WideLists.{thin_places, default_places}
use Rattle.task_inputs.proofs.wide.list_number.Goals as goal

pub returns-in_default-2-clause-places : goal.returns-in_default-2-clause-places
returns-in_default-2-clause-places c = default_places c.args.walk.now c.args.inputs.now c.args.read.now c.requires.read c.in_default.is-0

pub returns-then-not-has_wide-clause-places : goal.returns-then-not-has_wide-clause-places
returns-then-not-has_wide-clause-places c =
    thin_places c.args.walk.now c.args.read.now (ap is_wide_list c.in-Some-Some.is-1 ∙ ap (list_any is_wide) (sym c.deref.ensures.value) ∙ sym c.has_wide.ensures ∙ c.if-not-has_wide.true)

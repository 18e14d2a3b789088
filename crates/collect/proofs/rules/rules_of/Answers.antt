use Rattle.std.proofs.Common.{length, ap, sym, ◌∙◌}
use Rattle.collect.specs.Steps.{folder_of}
use Rattle.collect.proofs.Readings.{folder_above, folder_none, rules_same}
use Rattle.collect.proofs.rules.rules_of.Goals as goal
use Rattle.collect.proofs.rules.rules_of.Goals.{in-None, in-Some+in_ok-folder-in-Some}

pub returns-clause-value : goal.returns-clause-value
returns-clause-value c = elim c.match-split_last.branch [
  | in-None w ↦ rules_same c.args.file.now c.in_ok-ignore.ignore c.match-split_last.folder c.as_slice.result.now c.in_ok-ignore.ensures
      (w.folder-is ∙ w.root-folder.ensures ∙ sym (folder_none c.args.file.now.0 (ap length (sym c.components-names.ensures.value) ∙ w.in-None.ensures.cases))) c.as_slice.ensures
  | in-Some+in_ok-folder-in-Some w ↦ rules_same c.args.file.now c.in_ok-ignore.ignore c.match-split_last.folder c.as_slice.result.now c.in_ok-ignore.ensures
      (w.folder-is ∙ w.in_ok-folder-in-Some.ensures.value ∙ sym (folder_above w.in-Some.above.now w.in-Some.field-0-0.now) ∙ ap folder_of (sym w.in-Some.ensures.cases.0 ∙ c.components-names.ensures.value)) c.as_slice.ensures
]

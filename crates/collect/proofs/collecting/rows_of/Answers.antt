use Rattle.std.proofs.Common.{◌<◌, length, sym, subst, List}
use Rattle.rel_path.specs.Paths.{Path}
use Rattle.std.specs.List.{AllByRecursion}
use Rattle.ignore_rules.specs.Ignored.{is_ignored}
use Rattle.ignore_rules.specs.Stacks.{rules_in}
use Rattle.task_inputs.specs.Inputs.{input_row}
use Rattle.workspaces.specs.Space.{owners}
use Rattle.collect.proofs.Lists.{all_map}
use Rattle.collect.proofs.Spots.{row_below}
use Rattle.collect.proofs.collecting.rows_of.Goals as goal

pub marks_of-requires : goal.marks_of-requires
marks_of-requires c =
    let ignored = is_ignored (rules_in c.in_ok-stack.stack) in
    rw (c.deref-2.ensures.value, c.in_ok-rows.ensures.rows)
    (all_map (AllByRecursion (λ k. k < length c.as_slice-2.result.now)) (input_row ignored c.args.config.now (owners c.args.packages.now) c.args.walk.now) c.deref.result.now
    (λ t. subst (λ (walk : List Path). AllByRecursion (λ k. k < length walk) (input_row ignored c.args.config.now (owners c.args.packages.now) c.args.walk.now t)) (sym c.as_slice-2.ensures) (row_below ignored c.args.config.now (owners c.args.packages.now) c.args.walk.now t)))

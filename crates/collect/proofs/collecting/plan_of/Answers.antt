use Rattle.std.proofs.Common.{ap, ◌∙◌, ◌<◌, length}
use Rattle.std.proofs.lemmas.Option.{slice_get_within}
use Rattle.workspaces.specs.Space.{owners}
use Rattle.collect.specs.Steps.{IsTaskOf}
use Rattle.task_inputs.specs.Ignores.{rule_files}
use Rattle.collect.proofs.Lists.{paired_all}
use Rattle.collect.proofs.Paths.{rules_are}
use Rattle.collect.proofs.collecting.plan_of.Goals as goal

pub all_uses-requires : goal.all_uses-requires
all_uses-requires c =
    rw c.deref.ensures.value (paired_all (λ w t. IsTaskOf c.args.config.now c.args.packages.now w.id t) (λ t. t.owner < length (owners c.args.packages.now)) c.args.wanted.now c.in-Ok.tasks.items (λ w t r. slice_get_within (owners c.args.packages.now) t.owner r.member r.at) c.in-Ok.ensures.value)

pub returns-in-Ok-read : goal.returns-in-Ok-read
returns-in-Ok-read c = record {
  tasks = c.in-Ok.ensures.value;
  uses = rw c.deref.ensures.value at c.in-Ok-all_uses.ensures;
  declared = c.in-Ok-new.ensures.value;
  rules = c.in-Ok-rule_paths.ensures.value ∙ rules_are c.args.config.now (owners c.args.packages.now) c.as_slice.result.now c.in-Ok-new.declared c.in-Ok-new.ensures.value ∙ ap (rule_files c.args.config.now (owners c.args.packages.now)) c.as_slice.ensures;
  exclusions = c.in-Ok-exclusions_of.ensures.value;
  globals = c.in-Ok-read.ensures ∙ ap (λ x. x.env) c.globals.ensures.value;
  folders = c.in-Ok-exclusions_of.ensures.folders;
  proper = c.in-Ok-exclusions_of.ensures.proper;
}

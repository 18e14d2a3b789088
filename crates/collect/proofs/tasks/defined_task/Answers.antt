use Rattle.std.proofs.Common.{◌≡◌, sym, ap, ◌∙◌}
use Rattle.std.specs.Prelude.{Some}
use Rattle.std.specs.List.{slice_get}
use Rattle.std.proofs.lemmas.Option.{slice_get-get_or}
use Rattle.workspaces.specs.declared.member.Package.{Package}
use Rattle.workspaces.specs.Space.{owners}
use Rattle.task_definitions.specs.Setup.{task_def}
use Rattle.collect.proofs.Lists.{got}
use Rattle.collect.proofs.tasks.defined_task.Goals as goal

pub returns-clause-value : goal.returns-clause-value
returns-clause-value c =
    let all = owners c.args.packages.now in
    let owner = c.in-Some.owner in
    let member = c.requires.member in
    let at : slice_get all owner ≡ Some member = slice_get-get_or all owner member c.in-Some.ensures.0 ∙ sym (c.in-Some.ensures.1 member) ∙ c.requires.stands in
    let name = c.name.ensures member ∙ ap (λ (p : Package). p.name) (got all owner member member at) in
    record {
      member = member;
      stands = c.requires.stands;
      at = at;
      def = ap (λ n. task_def c.args.config.now n c.args.id.now.task) (sym name) ∙ sym c.in_ok-def.ensures.value ∙ c.in-Some-2.is;
    }

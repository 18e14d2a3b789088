use Rattle.std.proofs.Common.{ap, ◌∙◌, ◌<◌, length, get_or, arith}
use Rattle.manifest.specs.declared.manifest.Manifest.{Manifest}
use Rattle.workspaces.specs.declared.member.Package.{Package}
use Rattle.workspaces.specs.Space.{owners}
use Rattle.task_inputs.specs.Homes.{Home}
use Rattle.collect.specs.Parts.{scripts_of}
use Rattle.collect.specs.Steps.{inputs_at, out_set_by}
use Rattle.collect.proofs.Lists.{there, got}
use Rattle.collect.proofs.parts.part_of.Goals as goal

pub returns-clause-value : goal.returns-clause-value
returns-clause-value c =
    let source = c.args.source.now in
    let job = c.args.job.now in
    let number = job.task.now.owner in
    let p = there (owners source.packages.now) number c.requires.job.number in
    let l : number < length source.declared.now = omega (arith, c.requires.job.number, c.requires.source.homes) in
    let h = there source.declared.now number l in
    let at = got (owners source.packages.now) number p.0 p.0 p.1 in
    record {
      member = p.0;
      at = p.1;
      home = h.0;
      home_at = h.1;
      «package» = c.in_ok-copy.ensures.value;
      folder = c.in_ok-copy-2.ensures.value ∙ c.folder.ensures p.0 ∙ ap (λ (m : Package). m.folder) at;
      task_is = c.in_ok-copy-3.ensures.value;
      scripts = c.in_ok-scripts_of.ensures.value ∙ ap (λ scripts. scripts_of scripts job.wanted.now.id.task) (c.as_slice-scripts.ensures ∙ ap (λ (m : Manifest). m.scripts) (c.manifest.ensures p.0) ∙ ap (λ (m : Package). m.manifest.scripts) at);
      args = c.in_ok-copy-4.ensures.value;
      outs = c.in_ok-out_set.ensures.value p.0 h.0 ∙ ap (λ (m : Package). out_set_by source.exclusions.now m.folder (get_or source.declared.now number h.0) job.wanted.now.id.task job.task.now.def) at
          ∙ ap (λ (x : Home). out_set_by source.exclusions.now p.0.folder x job.wanted.now.id.task job.task.now.def) (got source.declared.now number h.0 h.0 h.1);
      env_pairs = c.in_ok-env_of.ensures.value;
      inputs = c.in_ok-inputs_of.ensures.value ∙ ap (inputs_at source.walk.now source.found.now) c.as_slice.ensures;
      externals = c.in_ok-copy-5.ensures.value;
      deps = c.in_ok-copy-6.ensures.value;
    }

use Rattle.std.proofs.Common.{◌-◌, ◌∙◌, ap, map, take, length}
use Rattle.listing.specs.declared.part.Listing.{Listing}
use Rattle.run_plan.specs.Commands.{outs_of, externals_of, command_of}
use Rattle.run_plan.proofs.CommandFacts.{above-is}
use Rattle.run_plan.proofs.plan.Plan.command.Goals as goal

pub returns-clause-command : goal.returns-clause-command
unfolding command_of
returns-clause-command c =
    let part = c.part-part.ensures in
    let parts = c.parts-parts.ensures ∙ ap (λ (l : Listing). l.parts) c.in_ok-closure.ensures.value in
    let files = c.files.ensures ∙ ap (λ (l : Listing). l.files) c.in_ok-closure.ensures.value in
    let externals = c.in_ok-externals_of.ensures.externals ∙ ap externals_of parts in
    let reads = c.in_ok-paths_of.ensures.paths ∙ ap (map (λ f. f.0)) files in
    let above = c.in_ok-outs_of.ensures.outs ∙ ap outs_of (c.but_last.ensures ∙ ap (λ ps. take (length ps - 1) ps) parts) ∙ above-is c.args.self.now.listing c.args.place c.requires.plan.ordered.lower c.requires.place in
    λ i. record {
      place = c.args.place;
      «package» = (c.in_ok-copy.ensures.value ∙ ap (λ p. p.package) part) i;
      task = (c.in_ok-copy-2.ensures.value ∙ ap (λ p. p.task) part) i;
      dir = (c.in_ok-copy-3.ensures.value ∙ ap (λ p. p.folder) part) i;
      scripts = (c.in_ok-copy-4.ensures.value ∙ ap (λ p. p.scripts) part) i;
      args = (c.in_ok-copy-5.ensures.value ∙ ap (λ p. p.args) part) i;
      env = (c.in_ok-copy-6.ensures.value ∙ ap (λ p. p.env) part) i;
      given = (c.in_ok-copy-7.ensures.value ∙ c.passed.ensures) i;
      externals = externals i;
      reads = reads i;
      above = above i;
      outs = (c.in_ok-copy-8.ensures.value ∙ ap (λ p. p.outs) part) i;
    }

use Rattle.std.proofs.Common.{◌∙◌, sym, ap}
use Rattle.repository.specs.Reading.{contents_of}
use Rattle.prune.specs.Folders.{first_below_out}
use Rattle.prune.proofs.Planned.{below_kept, no_name, taken, plans}
use Rattle.prune.proofs.planning.plan_for.Goals as goal

pub returns-in-Err : goal.returns-in-Err
returns-in-Err c = no_name (contents_of c.args.repository.now) c.args.targets.now c.in-Err.e c.in-Err.ensures

pub returns-in-Some : goal.returns-in-Some
returns-in-Some c =
    taken (contents_of c.args.repository.now) c.args.targets.now c.in-Some.path.now c.out_taken.result c.in-Ok.ensures.0 (ap first_below_out (sym c.as_slice.ensures) ∙ sym c.in-Some.ensures) c.out_taken.ensures

pub plan_of-requires : goal.plan_of-requires
plan_of-requires c = below_kept (contents_of c.args.repository.now) c.args.targets.now c.in-Ok.kept c.in-Ok.ensures.1

pub returns-in-None : goal.returns-in-None
returns-in-None c =
    plans (contents_of c.args.repository.now) c.args.targets.now c.in-Ok.kept c.plan_of.result c.in-Ok.ensures.0 (ap first_below_out (sym c.as_slice.ensures) ∙ sym c.in-None.ensures) c.in-Ok.ensures.1 c.plan_of.ensures

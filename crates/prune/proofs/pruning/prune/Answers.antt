use Rattle.std.proofs.Common.{◌<◌, ℕ, List, length, sym, ap, subst}
use Rattle.std.specs.List.{AllByRecursion}
use Rattle.workspaces.specs.Space.{owners}
use Rattle.repository.specs.Reading.{contents_of}
use Rattle.prune.specs.Cause.{HasCause, counts_of}
use Rattle.prune.specs.Printed.{added_lines}
use Rattle.prune.specs.Steps.{packages_at, PutsText}
use Rattle.prune.proofs.Planned.{kept_below, leaves_refused, prints_refused, cause_refused}
use Rattle.prune.proofs.Printing.{prints, prints_nothing}
use Rattle.prune.proofs.Written.{plan_written, prunes, stopped, finished}
use Rattle.prune.proofs.pruning.prune.Goals as goal

pub returns-in-Err-clause-leaves : goal.returns-in-Err-clause-leaves
returns-in-Err-clause-leaves g c = λ told. leaves_refused c.args.docker (contents_of c.args.repository.now) c.args.targets.now (g.T.Tree.state c.args.tree.now).files c.in-Err.e c.in-Err.ensures

pub returns-in-Err-clause-prints : goal.returns-in-Err-clause-prints
returns-in-Err-clause-prints g c = λ told. prints_refused (contents_of c.args.repository.now) c.args.targets.now (g.K.Sink.written c.args.out.now) c.in-Err.e c.in-Err.ensures

pub returns-in-Err-clause-cause : goal.returns-in-Err-clause-cause
returns-in-Err-clause-cause g c = cause_refused (contents_of c.args.repository.now) c.args.targets.now (counts_of (g.T.Tree.state c.args.tree.now).faults (g.K.Sink.faults c.args.out.now)) c.in-Err.e c.in-Err.ensures

pub write_plan-requires-clause-paths : goal.write_plan-requires-clause-paths
write_plan-requires-clause-paths g c = plan_written (contents_of c.args.repository.now) c.args.targets.now c.in-Ok.plan c.requires.walk c.in-Ok.ensures

pub returns-in-Err-write_plan-clause-leaves : goal.returns-in-Err-write_plan-clause-leaves
returns-in-Err-write_plan-clause-leaves g c = λ told.
    stopped c.args.docker (contents_of c.args.repository.now) c.args.targets.now c.in-Ok.plan (g.T.Tree.state c.args.tree.now).files (g.T.Tree.state c.write_plan.new.tree).files c.in-Err-write_plan.e c.in-Ok.ensures (c.in-Err-write_plan.ensures.writes told)

pub returns-in-Err-write_plan-clause-prints : goal.returns-in-Err-write_plan-clause-prints
returns-in-Err-write_plan-clause-prints g c = λ told.
    prints_nothing (contents_of c.args.repository.now) c.args.targets.now (g.K.Sink.written c.args.out.now) (g.T.Tree.state c.args.tree.now).faults (g.T.Tree.state c.write_plan.new.tree).faults c.in-Err-write_plan.e (c.in-Err-write_plan.ensures.cause 0)

pub returns-in-Err-write_plan-clause-cause : goal.returns-in-Err-write_plan-clause-cause
returns-in-Err-write_plan-clause-cause g c = c.in-Err-write_plan.ensures.cause (g.K.Sink.faults c.args.out.now)

pub put_lines-requires : goal.put_lines-requires
put_lines-requires g c =
    let contents = contents_of c.args.repository.now in
    subst (λ (ns : List ℕ). AllByRecursion (λ n. n < length (owners contents.space)) ns) (sym c.as_slice.ensures) (kept_below contents c.args.targets.now c.in-Ok.plan c.in-Ok.ensures)

pub returns-clause-leaves : goal.returns-clause-leaves
returns-clause-leaves g c = λ told.
    let contents = contents_of c.args.repository.now in let old = (g.T.Tree.state c.args.tree.now).files in let new = (g.T.Tree.state c.write_plan.new.tree).files in
    finished c.args.docker contents c.args.targets.now old new c.put_lines.result c.put_lines.ensures.fault (prunes c.args.docker contents c.args.targets.now c.in-Ok.plan old new c.in-Ok.ensures (c.in-Ok-write_plan.ensures.writes told))

pub returns-clause-prints : goal.returns-clause-prints
returns-clause-prints g c = λ told.
    let contents = contents_of c.args.repository.now in let old = g.K.Sink.written c.args.out.now in let new = g.K.Sink.written c.put_lines.new.out in
    prints contents c.args.targets.now c.in-Ok.plan old new c.put_lines.result c.in-Ok.ensures
    (subst (λ (ns : List ℕ). PutsText (added_lines (packages_at contents.space ns)) old new c.put_lines.result) c.as_slice.ensures (c.put_lines.ensures.prints told))

pub returns-clause-cause : goal.returns-clause-cause
returns-clause-cause g c =
    subst (λ (n : ℕ). HasCause (counts_of n (g.K.Sink.faults c.args.out.now)) (counts_of (g.T.Tree.state c.write_plan.new.tree).faults (g.K.Sink.faults c.put_lines.new.out)) c.put_lines.result) (ap (λ n. n.tree) (c.in-Ok-write_plan.ensures.cause 0)) (c.put_lines.ensures.cause (g.T.Tree.state c.write_plan.new.tree).faults)

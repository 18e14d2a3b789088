use Rattle.std.proofs.Common.{◌≡◌, ℕ, Bool, sym, ap, subst}
use Rattle.std.specs.Prelude.{None}
use Rattle.prune.specs.Cause.{HasCause, counts_of}
use Rattle.prune.specs.Folders.{folder_of_all, first_over}
use Rattle.prune.specs.Steps.{IsSame, copied, WritesPlan}
use Rattle.prune.proofs.Written.{part_written, both_written}
use Rattle.prune.proofs.writing.write_plan.Goals as goal

pub write_layer-requires-clause-plan : goal.write_layer-requires-clause-plan
write_layer-requires-clause-plan g c = part_written c.args.plan.now.layer c.args.plan.now.paths c.requires.layer c.requires.paths

pub returns-then-docker-clause-writes : goal.returns-then-docker-clause-writes
returns-then-docker-clause-writes g c = λ told.
    let plan = c.args.plan.now in let old = (g.T.Tree.state c.args.tree.now).files in let mid = (g.T.Tree.state c.write_full.new.tree).files in let new = (g.T.Tree.state c.write_layer.new.tree).files in
    subst (λ (docker : Bool). WritesPlan docker plan old new c.write_layer.result) (sym c.if-docker.true)
    (both_written plan old mid new c.write_layer.result c.requires.paths.outside c.requires.layer
    (subst (λ (docker : Bool). (first_over old plan.paths ≡ None) × IsSame mid (copied plan.text (folder_of_all docker) plan.paths old)) c.if-docker.true (c.in-Ok.ensures.copies told))
    (c.write_layer.ensures.copies told))

pub returns-then-docker-clause-cause : goal.returns-then-docker-clause-cause
returns-then-docker-clause-cause g c = λ sink.
    subst (λ (n : ℕ). HasCause (counts_of n sink) (counts_of (g.T.Tree.state c.write_layer.new.tree).faults sink) c.write_layer.result) (ap (λ n. n.tree) (c.in-Ok.ensures.cause sink)) (c.write_layer.ensures.cause sink)

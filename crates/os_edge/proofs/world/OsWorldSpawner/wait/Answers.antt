use Rattle.std.specs.Prelude.{Result, Ok, Err, OnErr, None}
use Rattle.os_edge.proofs.CommandLists.{over_taken}
use Rattle.os_edge.proofs.world.OsWorldSpawner.wait.Goals as goal

on_err : {A E : Type 0} (P : Type 0) (result : Result A E) → P → OnErr result P
on_err P (Ok a) p = tt
on_err P (Err e) p = p

pub returns-in_err-end-clause-failed : goal.returns-in_err-end-clause-failed
returns-in_err-end-clause-failed g c =
    let taken = c.take-command.ensures in
    on_err _ c.from_residual.result (c.take-command.result.0.place, over_taken c.args.self.now.children c.take-command.new.self c.take-command.result.0 _ _ (λ path. None) taken.taken taken.distinct)

pub returns-clause-over : goal.returns-clause-over
returns-clause-over g c =
    let taken = c.take-command.ensures in
    over_taken c.args.self.now.children c.take-command.new.self c.take-command.result.0 _ _ (λ path. None) taken.taken taken.distinct

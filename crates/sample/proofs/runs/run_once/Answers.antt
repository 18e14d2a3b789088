use Rattle.std.proofs.Common.{◌≡◌, ℕ, List, [], ◌++◌, ap, subst}
use Rattle.spawn_dev.specs.Spawn.{Runs}
use Rattle.spawn_dev.specs.declared.book.Rule.{Rule}
use Rattle.refusals.specs.Refusals.{line_of, refusal_text}
use Rattle.answers.specs.Answers.{IfDone, IfRefused}
use Rattle.answers.specs.Stops.{IfFault}
use Rattle.answers.specs.Facts.{if_fault, if_refused}
use Rattle.cli_words.specs.declared.order.RunOrder.{RunOrder}
use Rattle.spawn_dev.specs.Books.{effect_of}
use Rattle.spawn_dev.specs.MemWorld.{runs_of}
use Rattle.run_orders.specs.Asking.{IsRefusedRunOrder}
use Rattle.run_orders.specs.Outcomes.{RanOrder}
use Rattle.run_orders.specs.Stops.{StoppedRun}
use Rattle.sample.proofs.Over.{ran_over, refused_over, stopped_over}
use Rattle.answers.specs.declared.answer.Answer.{Answer}
use Rattle.answers.specs.declared.answer.Answer.TheVariants.{Done, Refused, TreeFault, StoreFault}
use Rattle.answers.specs.declared.answer.Answer.TheVariants.{StartFault, SinkFault, OutOfMemory}
use Rattle.sample.specs.Runs.{IsKept, LeavesAlone}
use Rattle.sample.specs.States.{State}
use Rattle.sample.proofs.runs.run_once.Goals as goal

-- what a refusal leaves, part by part
left_alone : (answer : Answer) (old new : State)
    → IfRefused answer (λ reason. new.files ≡ old.files)
    → IfRefused answer (λ reason. new.steps ≡ old.steps)
    → IfRefused answer (λ reason. IsKept old.stores.store new.stores.store)
    → IfRefused answer (λ reason. IsKept old.stores.spare new.stores.spare)
    → IfRefused answer (λ reason. new.printed ≡ old.printed ++ line_of (refusal_text reason))
    → IfRefused answer (LeavesAlone old new)
left_alone (Refused reason) old new files steps store spare printed =
    record { files = files; steps = steps; store = store; spare = spare; printed = printed }
left_alone (Done status) old new files steps store spare printed = tt
left_alone TreeFault old new files steps store spare printed = tt
left_alone StoreFault old new files steps store spare printed = tt
left_alone StartFault old new files steps store spare printed = tt
left_alone SinkFault old new files steps store spare printed = tt
left_alone OutOfMemory old new files steps store spare printed = tt

-- where what ran is the same, the steps are
same_steps : (answer : Answer) (old new : Runs (List Rule))
    → IfRefused answer (λ reason. new ≡ old)
    → IfRefused answer (λ reason. new.steps ≡ old.steps)
same_steps (Refused reason) old new same = ap (λ runs. runs.steps) same
same_steps (Done status) old new same = tt
same_steps TreeFault old new same = tt
same_steps StoreFault old new same = tt
same_steps StartFault old new same = tt
same_steps SinkFault old new same = tt
same_steps OutOfMemory old new same = tt

done_as : (answer : Answer) (P Q : ℕ → Type 0) → ((status : ℕ) → P status → Q status)
    → IfDone answer P → IfDone answer Q
done_as (Done status) P Q more h = more status h
done_as (Refused reason) P Q more h = tt
done_as TreeFault P Q more h = tt
done_as StoreFault P Q more h = tt
done_as StartFault P Q more h = tt
done_as SinkFault P Q more h = tt
done_as OutOfMemory P Q more h = tt

pub returns-clause-runs : goal.returns-clause-runs
returns-clause-runs c before after =
    let call = c.run_order-answer in
    let answer = call.result.0 in
    let ran = call.ensures.ran tt tt tt tt tt in
    let refused = call.ensures.refused tt tt tt tt tt in
    let stopped = call.ensures.stopped tt tt tt tt tt tt in
    let built_ran = rw c.requires.order at ran in
    let built_refused = rw c.requires.order at refused in
    let built_stopped = rw c.requires.order at stopped in
    record {
      ran = done_as answer _ _ (ran_over _ _ _ _) built_ran;
      refused = if_refused answer _ _ (refused_over _ _) built_refused;
      stopped = if_fault answer _ _ (stopped_over _ _ _ _) built_stopped;
    }

pub returns-clause-kept : goal.returns-clause-kept
returns-clause-kept c before after =
    let asked = c.run_order-answer.ensures in
    let answer = c.run_order-answer.result.0 in
    left_alone answer _ _ asked.untouched
    (same_steps answer _ _ asked.unstarted)
    (if_refused answer _ _ (λ reason left. left.same) (asked.reread tt))
    (if_refused answer _ _ (λ reason left. left.same) (asked.spare_reread tt)) (asked.line tt)

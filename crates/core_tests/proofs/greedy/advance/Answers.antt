use Rattle.std.proofs.Common.{sym, ap, ◌∙◌, append-nil, arith}
use Rattle.std.proofs.lemmas.Bool.{true≢false}
use Rattle.run_core.specs.Core.{states}
use Rattle.run_core.specs.Moves.Move.{Finds, Misses, Starts, Ends}
use Rattle.core_tests.specs.Tasks.{tasks}
use Rattle.core_tests.proofs.Driving.{moved}
use Rattle.core_tests.proofs.greedy.advance.Goals as goal

pub missed-requires-clause-next : goal.missed-requires-clause-next
missed-requires-clause-next c = sym c.in-Lookup.ensures.next

pub missed-requires-clause-runs : goal.missed-requires-clause-runs
missed-requires-clause-runs c = ap (λ f. f c.in-Lookup.t) c.requires.commands ∙ sym c.has.ensures ∙ c.if-has.true

pub found-requires : goal.found-requires
found-requires c = sym c.in-Lookup.ensures.next

pub started-requires : goal.started-requires
started-requires c = sym c.in-Start.ensures.next

pub returns-then-has-clause-kept : goal.returns-then-has-clause-kept
returns-then-has-clause-kept c = c.missed.ensures.kept

pub returns-then-has-clause-at : goal.returns-then-has-clause-at
returns-then-has-clause-at c =
    let v = c.args.core.now in
    let t = c.in-Lookup.t in
    moved (tasks v) (states v) (states c.missed.new.self) c.args.steps.now.items c.args.steps.now.items (Misses t) c.requires.at
    (sym c.in-Lookup.ensures.next, ap (λ f. f t) c.requires.commands ∙ sym c.has.ensures ∙ c.if-has.true) c.missed.ensures.states (sym (append-nil c.args.steps.now.items))

pub returns-then-has-clause-over : goal.returns-then-has-clause-over
returns-then-has-clause-over c = λ h. absurd (true≢false h)

pub returns-else-has-clause-kept : goal.returns-else-has-clause-kept
returns-else-has-clause-kept c = c.found.ensures.kept

pub returns-else-has-clause-at : goal.returns-else-has-clause-at
returns-else-has-clause-at c =
    let v = c.args.core.now in
    let t = c.in-Lookup.t in
    moved (tasks v) (states v) (states c.found.new.self) c.args.steps.now.items c.args.steps.now.items (Finds t) c.requires.at
    (sym c.in-Lookup.ensures.next, ap (λ f. f t) c.requires.commands ∙ sym c.has.ensures ∙ c.if-has.false) c.found.ensures.states (sym (append-nil c.args.steps.now.items))

pub returns-else-has-clause-over : goal.returns-else-has-clause-over
returns-else-has-clause-over c = λ h. absurd (true≢false h)

pub returns-in_ok-push-in-Start-clause-kept : goal.returns-in_ok-push-in-Start-clause-kept
returns-in_ok-push-in-Start-clause-kept c = c.started.ensures.kept

pub returns-in_ok-push-in-Start-clause-at : goal.returns-in_ok-push-in-Start-clause-at
returns-in_ok-push-in-Start-clause-at c =
    let v = c.args.core.now in
    moved (tasks v) (states v) (states c.started.new.self) c.args.steps.now.items _ (Starts c.in-Start.t) c.requires.at
    (sym c.in-Start.ensures.next) c.started.ensures.states c.in_ok-push-in-Start.ensures.items

pub returns-in_ok-push-in-Start-clause-over : goal.returns-in_ok-push-in-Start-clause-over
returns-in_ok-push-in-Start-clause-over c = λ h. absurd (true≢false h)

pub ended-requires : goal.ended-requires
ended-requires c = c.in-Some.ensures.running

pub returns-in_ok-push-in-Some-clause-at : goal.returns-in_ok-push-in-Some-clause-at
returns-in_ok-push-in-Some-clause-at c =
    let v = c.args.core.now in
    let t = c.in-Some.t in
    moved (tasks v) (states v) (states c.ended.new.self) c.args.steps.now.items _ (Ends t c.status_of-status.result) c.requires.at
    (sym c.in-WaitFirst.ensures.next, omega (arith, c.in-Some.ensures.below, c.requires.size), c.in-Some.ensures.running) c.ended.ensures.states c.in_ok-push-in-Some.ensures.items

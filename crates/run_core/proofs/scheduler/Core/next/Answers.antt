use Rattle.std.proofs.Common.{◌≡◌, ◌∙◌, sym, Some, None}
use Rattle.run_core.specs.Core.{rules, states, rules_in, states_in}
use Rattle.run_core.specs.Machine.{least, is_ready}
use Rattle.run_core.proofs.Moved.{look-least, look-none}
use Rattle.run_core.proofs.Views.{outward, next-stopped, next-looks, next-goes}
use Rattle.run_core.proofs.scheduler.Core.next.Goals as goal

pub returns-then-is_stopped-clause-next : goal.returns-then-is_stopped-clause-next
returns-then-is_stopped-clause-next c =
    let v = c.args.self.now in
    c.wait_or_finish.ensures ∙ sym (next-stopped (rules v) (states v) (sym c.is_stopped.ensures.stopped ∙ c.if-is_stopped.true))

pub returns-in-Some-clause-next : goal.returns-in-Some-clause-next
returns-in-Some-clause-next c =
    let s = c.self.inside in
    let i = c.self.invariant in
    let v = c.args.self.now in
    sym (next-looks (rules v) (states v) (sym c.is_stopped.ensures.stopped ∙ c.if-is_stopped.false) c.in-Some.t
    (outward s.deps.items s.commands.items s.width s.mode (λ g st. least (is_ready g st) g.size ≡ Some c.in-Some.t) s.states.items v c.self.view_is
    (look-least (rules_in s.deps.items s.width s.mode) i.lower (states_in s.states.items) s.unmet.items s.ready s.missed s.running s.failed i.agree c.in-Some.t c.in-Some.ensures).1))

pub returns-in-None-clause-next : goal.returns-in-None-clause-next
returns-in-None-clause-next c =
    let s = c.self.inside in
    let i = c.self.invariant in
    let v = c.args.self.now in
    c.start_or_wait.ensures ∙ sym (next-goes (rules v) (states v) (sym c.is_stopped.ensures.stopped ∙ c.if-is_stopped.false)
    (outward s.deps.items s.commands.items s.width s.mode (λ g st. least (is_ready g st) g.size ≡ None) s.states.items v c.self.view_is
    (look-none (rules_in s.deps.items s.width s.mode) i.lower (states_in s.states.items) s.unmet.items s.ready s.missed s.running s.failed i.agree c.in-None.ensures)))

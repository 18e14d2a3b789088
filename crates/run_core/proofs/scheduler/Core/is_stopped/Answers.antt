use Rattle.std.proofs.Common.{◌≡◌, ◌&&◌, ◌∙◌, ap}
use Rattle.run_core.specs.Greedy.{stops}
use Rattle.run_core.specs.Machine.{has_stopped, IsCalm}
use Rattle.run_core.proofs.Views.{outward}
use Rattle.run_core.proofs.scheduler.Core.is_stopped.Goals as goal

pub returns-clause-stopped : goal.returns-clause-stopped
returns-clause-stopped c =
    let s = c.self.inside in
    outward s.deps.items s.commands.items s.width s.mode (λ g st. c.both.result ≡ has_stopped g st) s.states.items c.args.self.now c.self.view_is
    (c.both.ensures ∙ ap (λ b. b && s.failed) c.is_stopping.ensures ∙ ap (λ b. stops s.mode && b) c.self.invariant.agree.failures)

pub returns-clause-calm : goal.returns-clause-calm
returns-clause-calm c =
    let s = c.self.inside in
    outward s.deps.items s.commands.items s.width s.mode IsCalm s.states.items c.args.self.now c.self.view_is c.self.invariant.agree.calm

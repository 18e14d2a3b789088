use Rattle.std.proofs.Common.{◌≡◌, nat_lt, cond, sym, ap, ◌∙◌}
use Rattle.std.proofs.lemmas.Bool.{lt-ltb, le-ltb}
use Rattle.run_core.specs.declared.states.Next.TheVariants.{WaitFirst, Finished}
use Rattle.run_core.specs.Machine.{wait_or_end}
use Rattle.run_core.proofs.Views.{outward}
use Rattle.run_core.proofs.scheduler.Core.wait_or_finish.Goals as goal

pub returns-then-self-gt0 : goal.returns-then-self-gt0
returns-then-self-gt0 c =
    let s = c.self.inside in
    outward s.deps.items s.commands.items s.width s.mode (λ g st. WaitFirst ≡ wait_or_end g st) s.states.items c.args.self.now c.self.view_is
    (sym (ap (λ b. cond b WaitFirst Finished) (ap (nat_lt 0) (sym c.self.invariant.agree.commands) ∙ lt-ltb 0 s.running c.if-self-gt0.true)))

pub returns-else-self-gt0 : goal.returns-else-self-gt0
returns-else-self-gt0 c =
    let s = c.self.inside in
    outward s.deps.items s.commands.items s.width s.mode (λ g st. Finished ≡ wait_or_end g st) s.states.items c.args.self.now c.self.view_is
    (sym (ap (λ b. cond b WaitFirst Finished) (ap (nat_lt 0) (sym c.self.invariant.agree.commands) ∙ le-ltb 0 s.running c.if-self-gt0.false)))

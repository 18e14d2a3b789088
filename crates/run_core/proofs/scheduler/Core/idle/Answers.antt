use Rattle.std.proofs.Common.{◌≡◌, ℕ, ◌==◌, false, sym, ap, subst, ◌∙◌, inl, inr, length, ◌≤◌}
use Rattle.std.specs.Bool.{IsTrue}
use Rattle.std.proofs.lemmas.Bool.{cases_lt, eq-eqb}
use Rattle.run_core.specs.Core.{states_in}
use Rattle.run_core.specs.Machine.{runs}
use Rattle.run_core.proofs.Moved.{none-run, none-count}
use Rattle.run_core.proofs.Views.{outward, past-waits}
use Rattle.run_core.proofs.scheduler.Core.idle.Goals as goal

pub returns : goal.returns
returns c =
    let s = c.self.inside in
    let i = c.self.invariant in
    outward s.deps.items s.commands.items s.width s.mode (λ g st. (IsTrue (s.running == 0) → (t : ℕ) → runs (st t) ≡ false) × (((t : ℕ) → runs (st t) ≡ false) → IsTrue (s.running == 0))) s.states.items c.args.self.now c.self.view_is (
      (λ h t. elim (cases_lt t (length s.deps.items)) [
        | inl b ↦ none-run (λ u. runs (states_in s.states.items u)) (length s.deps.items) (ap (λ n. n == 0) (sym i.agree.commands) ∙ h) t b
        | inr o ↦ ap runs (past-waits s.states.items t (subst (λ n. n ≤ t) (sym i.state_count) o))
      ]),
      (λ none. eq-eqb s.running 0 (i.agree.commands ∙ none-count (λ u. runs (states_in s.states.items u)) (length s.deps.items) none)),
    )

-- From where a core stands to greedy steps.
use Rattle.std.proofs.Common.{◌≡◌, List, [], ◌∷◌, ◌++◌, refl, sym, ap, ◌∙◌, subst}
use Rattle.run_core.specs.declared.states.Step.{Step}
use Rattle.run_core.specs.declared.states.Step.TheVariants.{Start, End}
use Rattle.run_core.specs.declared.states.State.TheVariants.{Waiting}
use Rattle.run_core.specs.declared.states.Next.TheVariants.{Finished}
use Rattle.run_core.specs.Greedy.{Tasks, IsGreedy, AreLower}
use Rattle.run_core.specs.Machine.{States, next}
use Rattle.run_core.specs.Moves.{Move, Allows, after, steps_of, IsRun}
use Rattle.run_core.specs.Moves.Move.{Finds, Misses, Starts, Ends}
use Rattle.run_core.specs.Moves.{Lead, IsAt}
use Rattle.run_core.proofs.Steps.{core_law_lem}

lead-push : (g : Tasks) (st to : States) (moves : List Move) (m : Move) → Lead g st moves to → Allows g to m → Lead g st (moves ++ m ∷ []) (after g to m)
lead-push g st to [] m e a = (subst (λ x. Allows g x m) (sym e) a, ap (λ x. after g x m) e)
lead-push g st to (n ∷ moves) m l a = (l.0, lead-push g (after g st n) to moves m l.1 a)

steps-append : (a b : List Move) → steps_of (a ++ b) ≡ steps_of a ++ steps_of b
steps-append [] b = refl
steps-append (Finds t ∷ a) b = steps-append a b
steps-append (Misses t ∷ a) b = steps-append a b
steps-append (Starts t ∷ a) b = ap (λ s. Start t ∷ s) (steps-append a b)
steps-append (Ends t x ∷ a) b = ap (λ s. End t x ∷ s) (steps-append a b)

pub at_start : (g : Tasks) → IsAt g (λ t. Waiting) []
at_start g = record { moves = []; lead = refl; steps_are = refl }

pub at_move : (g : Tasks) (st : States) (steps : List Step) (m : Move) → IsAt g st steps → Allows g st m → IsAt g (after g st m) (steps ++ steps_of (m ∷ []))
at_move g st steps m at a = record { moves = at.moves ++ m ∷ []; lead = lead-push g _ st at.moves m at.lead a; steps_are = ap (λ s. s ++ steps_of (m ∷ [])) at.steps_are ∙ sym (steps-append at.moves (m ∷ [])) }

run-lead : (g : Tasks) (st to : States) (moves : List Move) → Lead g st moves to → next g.rules to ≡ Finished → IsRun g st moves
run-lead g st to [] e h = ap (next g.rules) e ∙ h
run-lead g st to (m ∷ moves) l h = (l.0, run-lead g (after g st m) to moves l.1 h)

pub at_end : (g : Tasks) (st : States) (steps : List Step) → AreLower g.rules → IsAt g st steps → next g.rules st ≡ Finished → IsGreedy g steps
at_end g st steps low at h = subst (IsGreedy g) (sym at.steps_are) (core_law_lem g at.moves low (run-lead g _ st at.moves at.lead h))

-- A move of a scheduler and its step.
use Rattle.std.proofs.Common.{◌≡◌, List, [], ◌∷◌, ◌++◌, sym, subst}
use Rattle.run_core.specs.declared.states.Step.{Step}
use Rattle.run_core.specs.Greedy.{Tasks}
use Rattle.run_core.specs.Machine.{States}
use Rattle.run_core.specs.Moves.{Move, Allows, after, steps_of, IsAt}
use Rattle.run_core.specs.Core.{Machine, Keeps}
use Rattle.run_core.proofs.Reached.{at_move}
use Rattle.core_tests.specs.Tasks.{tasks}

pub moved : (g : Tasks) (st new : States) (steps more : List Step) (m : Move) → IsAt g st steps → Allows g st m → new ≡ after g st m → more ≡ steps ++ steps_of (m ∷ []) → IsAt g new more
moved g st new steps more m at a e f = subst (λ x. IsAt g x more) (sym e) (subst (IsAt g (after g st m)) (sym f) (at_move g st steps m at a))

pub kept-tasks : (old new : Machine) → Keeps old new → tasks new ≡ tasks old
kept-tasks old new k = λ j. record { rules = k.rules j; to_run = k.commands j }

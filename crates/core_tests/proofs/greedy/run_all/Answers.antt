use Rattle.std.proofs.Common.{◌∙◌, sym, ap, subst}
use Rattle.run_core.specs.Greedy.{AreLower, IsGreedy, Tasks}
use Rattle.run_core.specs.Moves.{IsAt}
use Rattle.run_core.specs.Core.{rules, states}
use Rattle.run_core.proofs.Reached.{at_end}
use Rattle.core_tests.specs.Tasks.{tasks}
use Rattle.core_tests.proofs.Driving.{kept-tasks}
use Rattle.core_tests.proofs.greedy.run_all.Goals as goal

pub loop-preserved : goal.loop-preserved
loop-preserved c =
    let new = c.advance.new.core in
    let k = c.in_ok-advance.ensures.kept in
    let same = kept-tasks c.loop.core new k in
    record {
      size = ap (λ r. r.size) k.rules ∙ c.loop.invariant.size;
      commands = k.commands ∙ c.loop.invariant.commands;
      same = same ∙ c.loop.invariant.same;
      at = subst (λ g. IsAt g (states new) c.advance.new.steps.items) (sym same) c.in_ok-advance.ensures.at;
    }

pub returns-then-not-branch : goal.returns-then-not-branch
returns-then-not-branch c =
    let new = c.advance.new.core in
    let same = kept-tasks c.loop.core new c.in_ok-advance.ensures.kept in
    let first = same ∙ c.loop.invariant.same in
    let low : AreLower (rules new) = subst AreLower (ap (λ (g : Tasks). g.rules) (sym first)) c.requires.order in
    let at = subst (λ g. IsAt g (states new) c.advance.new.steps.items) (sym same) c.in_ok-advance.ensures.at in
    λ done. subst (λ g. IsGreedy g c.advance.new.steps.items) first (at_end (tasks new) (states new) c.advance.new.steps.items low at (c.in_ok-advance.ensures.over c.if-not-branch.true))

use Rattle.std.proofs.Common.{◌<◌, ◌∙◌, [], sym, ap, subst, slice_index_or}
use Rattle.std.specs.List.{AllByRecursion}
use Rattle.run_core.proofs.Any.{get_or-map}
use Rattle.run_laws.specs.Ancestors.{blank}
use Rattle.run_board.proofs.TurnFacts.{rules-are, commands-are}
use Rattle.run_board.proofs.moves.core_of.Goals as goal

pub new-requires-clause-order : goal.new-requires-clause-order
new-requires-clause-order c t =
    let is = ap (λ ds. slice_index_or ds t []) (c.as_slice.ensures.value ∙ c.in_ok-deps.ensures.deps) ∙ get_or-map (λ part. part.deps) c.args.plan.now.listing.parts t blank in
    subst (AllByRecursion (λ d. d < t)) (sym is) (c.requires.ordered.lower t)

pub returns-clause-rules : goal.returns-clause-rules
returns-clause-rules c = c.in_ok-new.ensures.rules ∙ rules-are c.args.plan.now c.as_slice.result.now (c.as_slice.ensures.value ∙ c.in_ok-deps.ensures.deps)

pub returns-clause-commands : goal.returns-clause-commands
returns-clause-commands c = c.in_ok-new.ensures.commands ∙ commands-are c.args.plan.now c.as_slice-2.result.now (c.as_slice-2.ensures.value ∙ c.in_ok-scripts.ensures.scripts)

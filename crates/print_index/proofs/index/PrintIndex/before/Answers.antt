use Rattle.std.proofs.Common.{◌<◌, length, ap, subst, sym, ◌∙◌}
use Rattle.print_index.specs.Index.{Index}
use Rattle.print_index.specs.Digests.{before_in}
use Rattle.print_index.proofs.Lasts.{last_below-some, last_below-none, before_in-at}
use Rattle.print_index.proofs.Pushes.{before_by_link}
use Rattle.print_index.proofs.index.PrintIndex.before.Goals as goal

pub returns-clause-before : goal.returns-clause-before
returns-clause-before c =
    let inside = c.self.inside in
    let number = c.args.number in
    let digests = ap (λ (x : Index). x.digests) c.self.view_is in
    let within = subst (λ ds. number < length ds) (sym digests) c.requires in
    before_by_link inside.earlier.items number c.index.result.now _ c.checked_sub.result (c.self.invariant.links_back number within) c.index.ensures c.checked_sub.ensures
    ∙ ap (λ ds. before_in ds number) digests

pub returns-clause-greatest : goal.returns-clause-greatest
returns-clause-greatest c = λ digest at. last_below-some c.args.self.now.digests c.args.number digest c.checked_sub.result (before_in-at c.args.self.now.digests c.args.number digest c.checked_sub.result (returns-clause-before c) at)

pub returns-clause-none : goal.returns-clause-none
returns-clause-none c = λ digest at. last_below-none c.args.self.now.digests c.args.number digest c.checked_sub.result (before_in-at c.args.self.now.digests c.args.number digest c.checked_sub.result (returns-clause-before c) at)

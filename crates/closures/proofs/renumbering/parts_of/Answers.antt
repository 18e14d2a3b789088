use Rattle.std.proofs.Common.{◌≡◌, ◌++◌, [], append-nil, map, drop, sym, ap, ◌∙◌}
use Rattle.std.proofs.lemmas.List.{drop_all}
use Rattle.run_laws.specs.Ancestors.{part_at}
use Rattle.run_laws.specs.Closures.{renumbered}
use Rattle.closures.specs.Places.{has}
use Rattle.closures.proofs.Ranks.{parts-are}
use Rattle.closures.proofs.renumbering.parts_of.Goals as goal

pub returns-clause-parts : goal.returns-clause-parts
returns-clause-parts c =
    let l = c.args.listing.now in
    let kept = c.args.kept.now in
    let none : drop c.loop-place.place-index kept ≡ [] = drop_all c.loop-place.place-index kept c.loop-place-test.false in
    sym (append-nil c.loop-place.parts.items) ∙ ap (λ ks. c.loop-place.parts.items ++ map (λ k. renumbered (has kept) (part_at l k)) ks) (sym none) ∙ c.loop-place.invariant
    ∙ parts-are l kept c.requires.ascend c.requires.inner

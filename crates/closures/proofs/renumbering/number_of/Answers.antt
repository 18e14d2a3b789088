use Rattle.std.proofs.Common.{◌≡◌, ltb, sym, arith, rules}
use Rattle.std.proofs.lemmas.Fn.{always_returns_same}
use Rattle.run_laws.specs.Picks.{rank}
use Rattle.run_laws.proofs.PickFacts.{rank-le}
use Rattle.closures.specs.Places.{has}
use Rattle.closures.proofs.Ranks.{rank-point}
use Rattle.closures.proofs.renumbering.number_of.Goals as goal

pub overflow_cast-result : goal.overflow_cast-result
overflow_cast-result c =
    let kept = c.args.kept.now in
    let place = c.args.place in
    let ends = c.partition_point.ensures.partitioned (λ k. ltb k place) (always_returns_same _ _ _ (λ a r g h. (search rules, search rules))) in
    let is : rank (has kept) place ≡ c.partition_point.result = rank-point kept c.partition_point.result place c.requires c.partition_point.ensures.bound ends in
    omega (arith, rank-le (has kept) place, is, c.ranges.place.fits)

pub returns : goal.returns
returns c =
    let ends = c.partition_point.ensures.partitioned (λ k. ltb k c.args.place) (always_returns_same _ _ _ (λ a r g h. (search rules, search rules))) in
    sym (rank-point c.args.kept.now c.partition_point.result c.args.place c.requires c.partition_point.ensures.bound ends)

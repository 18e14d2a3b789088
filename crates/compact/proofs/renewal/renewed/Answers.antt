use Rattle.std.proofs.Common.{◌≡◌, sym, ◌∙◌, subst}
use Rattle.artifact_store.specs.Store.{state_of}
use Rattle.compact.specs.Chosen.{chosen}
use Rattle.compact.specs.Picks.{AreUseful, pairs_at}
use Rattle.compact.proofs.Chaining.{useful_chosen}
use Rattle.compact.proofs.Seeking.{pairs_read}
use Rattle.compact.proofs.renewal.renewed.Goals as goal

pub rewritten-requires-clause-useful : goal.rewritten-requires-clause-useful
rewritten-requires-clause-useful g c told =
    let first = c.args.from.now in
    let same = pairs_read first c.choose.new.from c.choose.ensures.reads in
    let is : pairs_at (state_of c.choose.new.from).pairs c.as_slice.result.now ≡ chosen (state_of first).pairs c.args.keep =
    (λ i. pairs_at (same i) (c.as_slice.ensures.value i)) ∙ c.in-Ok.ensures.chosen told in
    subst AreUseful (sym is) (useful_chosen (state_of first).pairs c.args.keep)

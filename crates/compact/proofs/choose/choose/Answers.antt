use Rattle.std.proofs.Common.{◌∙◌, ap}
use Rattle.artifact_store.specs.Store.{state_of}
use Rattle.compact.specs.Picks.{pairs_at}
use Rattle.compact.proofs.Picking.{picked_round}
use Rattle.compact.proofs.choose.choose.Goals as goal

pub returns-clause-chosen : goal.returns-clause-chosen
returns-clause-chosen g c told =
    let pairs = (state_of c.args.from.now).pairs in
    ap (pairs_at pairs) c.reverse.ensures.items
    ∙ picked_round pairs c.pick_all.new.picks.numbers.items
    ∙ c.in_ok-pick_all.ensures.chosen told

use Rattle.std.proofs.Common.{append_assoc, arith}
use Rattle.std.proofs.lemmas.Grind.{common_steps}
use Rattle.listing.proofs.Writing.{items_more, each_more}
use Rattle.listing.proofs.coded.put_items.Goals as goal

pub loop-item-preserved : goal.loop-item-preserved
loop-item-preserved g c =
    let all = c.args.all.now in
    let n = c.loop-item.item-index in
    let x = c.item-item.result in
    let more = items_more g.T.Coded.code all n x (omega arith, c.item-item.is) in (
      grind (arith, common_steps, append_assoc, more),
      each_more g.T.Coded.fits all n x (omega arith, c.item-item.is) c.loop-item.invariant.1 c.in_ok-put.ensures.told,
    )

use Rattle.std.proofs.Common.{ap, arith, length, length-append, take}
use Rattle.codes.specs.Codes.{items}
use Rattle.listing.proofs.Writing.{items_more}
use Rattle.listing.proofs.coded.list_len.Goals as goal

pub loop-item-preserved : goal.loop-item-preserved
loop-item-preserved g c =
    let all = c.args.all.now in
    let n = c.loop-item.item-index in
    let x = c.item-item.result in
    let more = items_more g.T.Coded.code all n x (omega arith, c.item-item.is) in
    omega (arith, c.saturating_add-len.ensures, c.code_len.ensures, c.loop-item.invariant, ap length more, length-append (items g.T.Coded.code (take n all)) (g.T.Coded.code x))

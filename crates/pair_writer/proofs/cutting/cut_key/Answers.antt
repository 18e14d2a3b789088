use Rattle.std.proofs.Common.{sym, subst, ◌∙◌}
use Rattle.blob_pool.specs.Known.{known_in}
use Rattle.pair_writer.specs.Cuts.{IsCut}
use Rattle.pair_writer.proofs.Cuts.{cut_plain}
use Rattle.pair_writer.proofs.Files.{plain_runs}
use Rattle.pair_writer.proofs.cutting.cut_key.Goals as goal

pub returns-clause-cut : goal.returns-clause-cut
returns-clause-cut g c =
    let tells = g.S.StoreDevice.tells in
    let fs = known_in c.args.log.now in
    let s = c.args.staged.now in
    let p = c.args.pieces.now in
    let q = c.plain.new.self in
    let key = c.args.key.now in
    let none = sym c.lists_files.ensures ∙ c.if-lists_files.false in
    subst (IsCut tells fs s s p q) (sym (plain_runs key none))
    (cut_plain tells fs s p q key c.in_ok-plain.ensures.bytes c.in_ok-plain.ensures.added)

use Rattle.std.proofs.Common.{[], ◌∷◌, ◌++◌, length, arith}
use Rattle.codes.specs.Codes.{word, str}
use Rattle.blob_pool.specs.Known.{known_in}
use Rattle.pair_frames.specs.Runs.{file_run}
use Rattle.pair_frames.specs.Runs.Run.{Plain}
use Rattle.pair_writer.proofs.Cuts.{bytes_both, str_bytes, word_bytes, cut_plain, cut_both}
use Rattle.pair_writer.proofs.cutting.cut_named.Goals as goal

pub returns-clause-cut : goal.returns-clause-cut
returns-clause-cut g c =
    let tells = g.S.StoreDevice.tells in
    let fs = known_in c.args.log.now in
    let s = c.args.staged.now in
    let t = c.cut_file.new.staged in
    let p = c.args.pieces.now in
    let q = c.head.new.self in
    let r = c.cut_file.new.pieces in
    let name = c.args.name.now in
    let bytes = c.args.bytes.now in
    let head = str name ++ word (length bytes) in
    let fits = bytes_both (str name) (word (length bytes)) (str_bytes name (λ i. omega (arith, c.type_inv.name i))) (word_bytes (length bytes)) in
    cut_both tells fs s s t p q r (Plain head ∷ []) (file_run bytes ∷ [])
    (cut_plain tells fs s p q head fits c.in_ok-head.ensures.added)
    c.in_ok-cut_file.ensures.cut

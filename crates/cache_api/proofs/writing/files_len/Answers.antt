use Rattle.std.proofs.Common.{ap, arith, length, length-append, take}
use Rattle.codes.specs.Codes.{items}
use Rattle.listing.specs.KeyText.{file_code}
use Rattle.listing.proofs.Writing.{items_more}
use Rattle.cache_api.proofs.writing.files_len.Goals as goal

pub loop-file-preserved : goal.loop-file-preserved
loop-file-preserved c =
    let all = c.args.files.now in
    let n = c.loop-file.file-index in
    let x = c.file-item.result in
    let more = items_more file_code all n x (omega arith, c.file-item.is) in
    omega (arith, c.saturating_add-len.ensures, c.file_len.ensures, c.loop-file.invariant, ap length more, length-append (items file_code (take n all)) (file_code x))

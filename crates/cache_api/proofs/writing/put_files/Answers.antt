use Rattle.std.proofs.Common.{append_assoc, arith}
use Rattle.std.proofs.lemmas.Grind.{common_steps}
use Rattle.listing.specs.KeyText.{file_code}
use Rattle.listing.proofs.Writing.{items_more, each_more}
use Rattle.cache_api.specs.Artifacts.{FileFits}
use Rattle.cache_api.proofs.writing.put_files.Goals as goal

pub loop-file-preserved : goal.loop-file-preserved
loop-file-preserved c =
    let all = c.args.files.now in
    let n = c.loop-file.file-index in
    let x = c.file-item.result in
    let more = items_more file_code all n x (omega arith, c.file-item.is) in
    record {
      written = grind (arith, common_steps, append_assoc, more);
      fits = each_more FileFits all n x (omega arith, c.file-item.is) c.loop-file.invariant.fits c.in_ok-put_file.ensures.fits;
    }

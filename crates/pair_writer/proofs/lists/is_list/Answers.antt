use Rattle.std.proofs.Common.{◌-◌, ◌+◌, [], ◌∷◌, ◌++◌, refl, ◌∙◌, arith}
use Rattle.codes.specs.Reading.{items_step}
use Rattle.pair_writer.proofs.Files.{read_named, read_some}
use Rattle.pair_writer.proofs.lists.is_list.Goals as goal

pub loop-i-preserved : goal.loop-i-preserved
loop-i-preserved c =
    let (files, is) = c.loop-i.invariant.found in
    let n = c.in-Some.count in
    let i = c.loop-i.i in
    let rest = c.loop-i.rest.now in
    let more = c.in-Some-file_at.more.now in
    let (x, at, _) = read_some (read_named rest) c.in-Some-file_at.field-0-0.now more c.in-Some-file_at.ensures in
    record { found = (files ++ x ∷ [], is ∙ items_step read_named files (files ++ x ∷ []) (n - i) (n - (i + 1)) rest more x (omega arith) at refl) }

use Rattle.std.proofs.Common.{rules, ◌≡◌, ◌-◌, ◌+◌, ◌++◌, ◌∷◌, [], ◌∙◌, arith}
use Rattle.codes.specs.Codes.{took}
use Rattle.codes.specs.Reading.{items_step}
use Rattle.cache_api.specs.Reading.{read_file}
use Rattle.cache_api.proofs.reading.files_at.Goals as goal

pub loop-i-preserved : goal.loop-i-preserved
loop-i-preserved c =
    let here : read_file c.loop-i.rest.now ≡ took c.in-Some-2.file c.in-Some-2.more.now = search rules in
    let grown : c.push.new.self ≡ c.loop-i.files ++ c.in-Some-2.file ∷ [] = search rules in
    c.loop-i.invariant ∙ items_step read_file c.loop-i.files c.push.new.self (c.in-Some.count - c.loop-i.i) (c.in-Some.count - (c.loop-i.i + 1)) c.loop-i.rest.now c.in-Some-2.more.now c.in-Some-2.file (omega arith) here grown

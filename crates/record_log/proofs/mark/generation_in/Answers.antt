use Rattle.std.proofs.Common.{[], sym, ◌∙◌, ap, arith}
use Rattle.std.specs.Int.{w64, from_le_bytes}
use Rattle.std.proofs.lemmas.List.{take_all}
use Rattle.record_log.specs.Kinds.{entry}
use Rattle.record_log.proofs.Heads.{number_was, number_short, generation_is}
use Rattle.record_log.proofs.mark.generation_in.Goals as goal

pub returns-in-Some : goal.returns-in-Some
returns-in-Some c fits =
    let e = entry c.args.kind c.args.key.now [] in
    let len = fits c.if-kind-ne-GENERATION.false in
    let n = number_was w64 c.args.key.now c.in-Some.number c.in-Some.field-0-1.now (sym c.in-Some.ensures.value) in
    n.is ∙ ap (from_le_bytes w64) (take_all 8 c.args.key.now (omega (arith, len))) ∙ sym (generation_is c.args.generation e c.if-kind-ne-GENERATION.false)

pub returns-in-None : goal.returns-in-None
returns-in-None c fits =
    let len = fits c.if-kind-ne-GENERATION.false in
    let short = number_short w64 c.args.key.now (sym c.in-None.ensures.value) in
    absurd (omega (arith, len, short))

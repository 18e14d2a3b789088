use Rattle.std.proofs.Common.{◌++◌, sym, ◌∙◌, ap, subst, arith}
use Rattle.artifact_reader.specs.declared.part.Part.{Part}
use Rattle.artifact_reader.specs.Parts.{IsOf, IsWell, at_span, span_of}
use Rattle.artifact_reader.proofs.SoFar.{one_more, read_is, read_none}
use Rattle.artifact_reader.proofs.reading.bytes.Goals as goal

pub returns-in_default : goal.returns-in_default
returns-in_default c = read_none (λ text. c.loop-left.found.items) _ _ c.args.n c.loop-left.left c.loop-left.invariant (omega (arith, c.loop-left-test.true)) (c.in_default.ensures.none)

pub loop-left-preserved : goal.loop-left-preserved
loop-left-preserved c =
    let taken = c.in-Some.ensures.some in
    let well = subst IsWell c.in-Known.is taken.well in
    let len = ap (λ (p : Part). (span_of p).len) c.in-Known.is in
    one_more (λ text. c.loop-left.found.items) (λ text. _) _ _ c.args.n c.loop-left.left c.in-Some.part _ _ c.loop-left.invariant taken
    (λ low text on. c.in_ok-extend_from_slice.ensures.items ∙ ap (λ l. c.loop-left.found.items ++ l) ((subst (IsOf low text) c.in-Known.is (taken.of_text low text on)).1 ∙ ap (λ (p : Part). at_span text (span_of p)) (sym c.in-Known.is)))
    (omega (arith, well, len, taken.few))

pub returns : goal.returns
returns c = record { goes = c.loop-left.invariant.goes; is = read_is (λ text. c.loop-left.found.items) _ _ c.args.n c.loop-left.left c.loop-left.invariant (omega (arith, c.loop-left-test.false)) }

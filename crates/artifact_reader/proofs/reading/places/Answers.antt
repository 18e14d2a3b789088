use Rattle.std.proofs.Common.{◌≡◌, [], ◌∷◌, ◌+◌, ◌-◌, ◌++◌, sym, ◌∙◌, ap, arith}
use Rattle.rel_path.specs.declared.span.Span.{Span}
use Rattle.artifact_reader.specs.Parts.{span_of, shown}
use Rattle.artifact_reader.proofs.SoFar.{one_more, read_is, read_none}
use Rattle.artifact_reader.proofs.Places.{few_more, shown_push}
use Rattle.artifact_reader.proofs.reading.places.Goals as goal

pub returns-in_default-clause-read : goal.returns-in_default-clause-read
returns-in_default-clause-read c = read_none (λ text. shown text c.loop-left.found) _ _ c.args.n c.loop-left.left c.loop-left.invariant.0 (omega (arith, c.loop-left-test.true)) (c.in_default.ensures.none)

pub loop-left-preserved : goal.loop-left-preserved
loop-left-preserved c =
    let taken = c.in-Some.ensures.some in
    let is : span_of c.in-Some.part ≡ c.span-span.result = sym c.span-span.ensures in
    let pushed : c.push.new.self ≡ c.loop-left.found ++ span_of c.in-Some.part ∷ [] = c.in_ok-push.ensures.pushed ∙ ap (λ (s : Span). c.loop-left.found ++ s ∷ []) (sym is) in
    let less : c.loop-left.left ≡ (span_of c.in-Some.part).len + (c.loop-left.left - c.span-span.result.len) = omega (arith, taken.few, ap (λ (s : Span). s.len) is) in (
      one_more (λ text. shown text c.loop-left.found) (λ text. shown text c.push.new.self) _ _ c.args.n c.loop-left.left c.in-Some.part _ _ c.loop-left.invariant.0 taken
          (λ low text on. shown_push text c.loop-left.found c.push.new.self (span_of c.in-Some.part) pushed) less,
      few_more (λ text. shown text c.loop-left.found) _ c.loop-left.found c.push.new.self _ c.args.n c.loop-left.left _ c.in-Some.part _ c.loop-left.invariant.0 c.loop-left.invariant.1 taken (omega (arith, c.loop-left-test.true)) pushed less,
    )

pub returns-clause-read : goal.returns-clause-read
returns-clause-read c = record { goes = c.loop-left.invariant.0.goes; is = read_is (λ text. shown text c.loop-left.found) _ _ c.args.n c.loop-left.left c.loop-left.invariant.0 (omega (arith, c.loop-left-test.false)) }

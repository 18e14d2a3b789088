use Rattle.std.proofs.Common.{◌≡◌, take, drop, sym, ◌∙◌, ap, subst, arith}
use Rattle.rel_path.specs.declared.span.Span.{Span}
use Rattle.artifact_reader.specs.Parts.{IsOf, LiesIn, at_span}
use Rattle.artifact_reader.proofs.Splits.{halves}
use Rattle.artifact_reader.proofs.part.Part.split.Goals as goal

pub returns-in-Known-clause-both : goal.returns-in-Known-clause-both
returns-in-Known-clause-both c low text short of =
    let here = subst (IsOf low text) c.in-Known.is of in
    let same : c.in-Known.field-1 ≡ c.span-span.result = cc (c.in-Known.is, c.span-span.ensures) in
    let lies : LiesIn low text c.span-span.result = subst (LiesIn low text) same here.0 in
    let h = halves low text c.span-span.result c.args.n c.saturating_add.result short lies (omega (arith, c.requires.inside, ap (λ (s : Span). s.len) c.span-span.ensures)) (omega (arith, c.saturating_add.ensures)) in
    let bytes_are : c.in-Known.bytes.now ≡ at_span text c.span-span.result = here.1 ∙ ap (at_span text) same in (
      (h.front, c.split_at.ensures.front ∙ ap (take c.args.n) bytes_are ∙ sym h.first_is),
      (h.rest, c.split_at.ensures.back ∙ ap (drop c.args.n) bytes_are ∙ sym h.second_is),
      ap (at_span text) (sym c.span-span.ensures) ∙ h.both,
    )

pub returns-in-Unknown-clause-both : goal.returns-in-Unknown-clause-both
returns-in-Unknown-clause-both c low text short of =
    let here = subst (IsOf low text) c.in-Unknown.is of in
    let same : c.in-Unknown.field-0 ≡ c.span-span.result = cc (c.in-Unknown.is, c.span-span.ensures) in
    let h = halves low text c.span-span.result c.args.n c.saturating_add.result short (subst (LiesIn low text) same here) (omega (arith, c.requires.inside, ap (λ (s : Span). s.len) c.span-span.ensures)) (omega (arith, c.saturating_add.ensures)) in
    (h.front, h.rest, ap (at_span text) (sym c.span-span.ensures) ∙ h.both)

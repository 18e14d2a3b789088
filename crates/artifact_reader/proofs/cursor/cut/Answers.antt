use Rattle.std.proofs.Common.{inl, inr, ⊎_elim, ◌++◌, ℕ, List, sym, ◌∙◌, ap, arith, append_assoc}
use Rattle.artifact_reader.specs.Parts.{span_of, spans_of, at_span, shown}
use Rattle.artifact_reader.proofs.cursor.cut.Goals as goal

pub returns : goal.returns
returns c =
    let halves = c.split.ensures in
    record {
      goes = record {
        well = λ w. (halves.well.1, w.1);
        on = λ low text on. (on.0, ((halves.both low text on.0 on.1.0).1, on.1.1));
        unknown = λ u. ⊎_elim (λ bad. inl (sym halves.same.1 ∙ bad)) (λ later. inr later) u;
        few = omega arith;
      };
      well = halves.well.0;
      some = omega (arith, halves.lens.0, c.requires.most);
      few = omega (arith, halves.lens.0);
      unknown = λ bad. inl (sym halves.same.0 ∙ bad);
      count = inr (halves.lens.0, omega arith, omega arith);
      of_text = λ low text on. (halves.both low text on.0 on.1.0).0;
      shows = λ low text on. ap (λ (l : List ℕ). l ++ shown text (spans_of c.args.rest.now)) (halves.both low text on.0 on.1.0).2 ∙ append_assoc (at_span text (span_of c.split.result.0)) (at_span text (span_of c.split.result.1)) (shown text (spans_of c.args.rest.now));
    }

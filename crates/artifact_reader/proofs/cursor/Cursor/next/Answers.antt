use Rattle.std.proofs.Common.{◌∷◌, sym, ap, subst, arith}
use Rattle.artifact_reader.specs.Parts.{AreWell}
use Rattle.artifact_reader.specs.Cursors.{left_in}
use Rattle.artifact_reader.proofs.Passing.{Passes, passes_one, taken_behind}
use Rattle.artifact_reader.proofs.cursor.Cursor.next.Goals as goal

pub returns-then-span-gt0-clause-some : goal.returns-then-span-gt0-clause-some
returns-then-span-gt0-clause-some c =
    taken_behind c.args.most (left_in c.args.self) (c.in-Some.part ∷ c.in-Some.rest.now) c.cut.result.0 (left_in c.cut.result.1)
    (subst (Passes (left_in c.args.self)) c.in-Some.ensures.some c.loop-part.invariant.0)
    (record { goes = c.cut.ensures.goes; well = c.cut.ensures.well; some = c.cut.ensures.some; few = c.cut.ensures.few; unknown = c.cut.ensures.unknown; count = c.cut.ensures.count; of_text = c.cut.ensures.of_text; shows = c.cut.ensures.shows })

pub loop-part-preserved : goal.loop-part-preserved
loop-part-preserved c =
    let before = subst (Passes (left_in c.args.self)) c.in-Some.ensures.some c.loop-part.invariant.0 in
    let well = subst AreWell c.in-Some.ensures.some c.loop-part.invariant.1 in
    let same = sym c.new-cursor.ensures in (
      subst (Passes (left_in c.args.self)) same (passes_one (left_in c.args.self) c.in-Some.part c.in-Some.rest.now before (omega (arith, c.if-span-gt0.false, ap (λ (s : _). s.len) c.span.ensures))),
      subst AreWell same well.1,
    )

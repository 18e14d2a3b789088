use Rattle.std.proofs.Common.{◌∷◌, [], ◌+◌, length, drop, List, sym, ap, subst, arith, length-append}
use Rattle.artifact_reader.specs.declared.part.Part.{Part}
use Rattle.artifact_reader.specs.Parts.{AreWell, HasUnknown}
use Rattle.pair_reader.proofs.Parting.{PartsSoFar, well_push, known_push, parts_next, parts_all}
use Rattle.pair_reader.proofs.parts.known_parts.Goals as goal

pub loop-piece-preserved : goal.loop-piece-preserved
loop-piece-preserved c =
    let pieces = c.args.pieces.now in
    let i = c.loop-piece.piece-index in
    let parts = c.loop-piece.parts.items in
    let part = c.known_part.result.0 in
    let before = c.loop-piece.invariant in
    let pushed = c.in_ok-push.ensures.items in
    record {
      well = subst AreWell (sym pushed) (well_push parts part before.well c.known_part.ensures.well);
      known = subst (λ (l : List Part). HasUnknown l → ⊥) (sym pushed) (known_push parts part before.known c.known_part.ensures.known);
      count = omega (arith, ap length pushed, length-append parts (part ∷ []), before.count);
      shown = λ text contents shows is.
          subst (λ (l : List Part). PartsSoFar text contents pieces (drop (i + 1) pieces) l c.known_part.result.1.now) (sym pushed)
          (parts_next text contents pieces i _ parts part c.loop-piece.left.now c.known_part.result.1.now c.loop-piece-test.true (before.shown text contents shows is)
          (λ tail one begins. c.known_part.ensures.shown text contents tail one begins));
    }

pub returns-clause-shown : goal.returns-clause-shown
returns-clause-shown c text contents shows is =
    parts_all text contents c.args.pieces.now c.loop-piece.piece-index c.loop-piece.parts.items c.loop-piece.left.now c.loop-piece-test.false (c.loop-piece.invariant.shown text contents shows is)

use Rattle.std.proofs.Common.{◌≡◌, ◌++◌, [], false, length}
use Rattle.glob_syntax.specs.Braces.{has_close}
use Rattle.glob_syntax.specs.Pieces.{pieces_of}
use Rattle.glob_syntax.proofs.piece.read_pieces.Given as goal

abbrev pub invariant-loop-token : goal.invariant-loop-token
invariant-loop-token l = record {
  -- the pieces so far, before those of what is left
  pieces : pieces_of false [] [] l.tokens ≡ l.pieces.items ++ pieces_of l.inside l.parts.items l.part l.rest;
  closes : l.closes ≡ false → has_close l.rest ≡ false;
}

abbrev pub decreases-loop-token : goal.decreases-loop-token
decreases-loop-token l = length l.rest

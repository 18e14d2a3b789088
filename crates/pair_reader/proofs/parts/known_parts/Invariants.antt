use Rattle.std.proofs.Common.{◌≡◌, List, ℕ, length, drop}
use Rattle.artifact_reader.specs.Parts.{AreWell, HasUnknown}
use Rattle.pair_reader.specs.Standing.{bytes_of, AllShow}
use Rattle.pair_reader.proofs.Parting.{PartsSoFar}
use Rattle.pair_reader.proofs.parts.known_parts.Given as goal

abbrev pub invariant-loop-piece : goal.invariant-loop-piece
invariant-loop-piece l = record {
  well : AreWell l.parts.items;
  known : HasUnknown l.parts.items → ⊥;
  count : length l.parts.items ≡ l.piece-index;
  shown : (text : List ℕ) (contents : List (List ℕ)) → AllShow text contents l.pieces
      → l.fn.bytes ≡ bytes_of contents l.pieces
      → PartsSoFar text contents l.pieces (drop l.piece-index l.pieces) l.parts.items l.left;
}

use Rattle.std.proofs.Common.{◌≡◌, drop}
use Rattle.glob_syntax.specs.Pieces.{each_then, alternatives_of}
use Rattle.glob_syntax.proofs.expand.expand.Given as goal

-- the lines so far, followed by the alternatives of what is left
abbrev pub invariant-loop-piece : goal.invariant-loop-piece
invariant-loop-piece l = alternatives_of l.pieces ≡ each_then l.lines.items (alternatives_of (drop l.piece-index l.pieces))

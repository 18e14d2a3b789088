use Rattle.std.proofs.Common.{◌≡◌, ◌++◌, drop}
use Rattle.std.specs.List.{filter_map}
use Rattle.glob_syntax.specs.Pieces.{seen}
use Rattle.glob_syntax.specs.Climbs.{components_of}
use Rattle.glob_syntax.specs.Parts.{part_of, parts_of}
use Rattle.glob_syntax.proofs.Components.{with_front}
use Rattle.glob_syntax.proofs.part.read_parts.Given as goal

-- the parts so far, before those of the component that has begun and of what is left
abbrev pub invariant-loop-token : goal.invariant-loop-token
invariant-loop-token l = parts_of (seen l.tokens) ≡ l.parts.items ++ filter_map part_of (with_front l.component (components_of (seen (drop l.token-index l.tokens))))

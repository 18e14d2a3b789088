use Rattle.std.proofs.Common.{◌≡◌, ◌++◌, false, drop}
use Rattle.glob_syntax.specs.Pieces.{seen}
use Rattle.glob_syntax.specs.Parts.{name_from}
use Rattle.glob_syntax.proofs.part.read_name.Given as goal

-- the atoms so far, before those of what is left
abbrev pub invariant-loop-token : goal.invariant-loop-token
invariant-loop-token l = name_from false (seen l.component) ≡ l.atoms.items ++ name_from l.after (seen (drop l.token-index l.component))

use Rattle.std.proofs.Common.{◌≡◌, take}
use Rattle.std.specs.Prelude.{None}
use Rattle.workspaces.specs.Edges.{text_by}
use Rattle.collect.proofs.scripts.text_by.Given as goal

-- none so far has the name
abbrev pub invariant-loop-pair : goal.invariant-loop-pair
invariant-loop-pair l = text_by l.name (take l.pair-index l.pairs) ≡ None

use Rattle.std.proofs.Common.{◌≡◌, ◌++◌, take}
use Rattle.listing.specs.KeyText.{path_text}
use Rattle.listing.proofs.coded.put_text.Given as goal

-- the text of the components so far
abbrev pub invariant-loop-i : goal.invariant-loop-i
invariant-loop-i l = l.to.items ≡ l.initial.to.items ++ path_text (take l.i l.path)

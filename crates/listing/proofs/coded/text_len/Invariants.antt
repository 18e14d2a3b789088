use Rattle.std.proofs.Common.{◌≡◌, length, take}
use Rattle.listing.specs.KeyText.{path_text}
use Rattle.listing.specs.Memory.{capped}
use Rattle.listing.proofs.coded.text_len.Given as goal

-- the text of the components so far
abbrev pub invariant-loop-i : goal.invariant-loop-i
invariant-loop-i l = l.len ≡ capped (length (path_text (take l.i l.path)))

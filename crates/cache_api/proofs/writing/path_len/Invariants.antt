use Rattle.std.proofs.Common.{◌≡◌, length, take}
use Rattle.listing.specs.KeyText.{path_text}
use Rattle.cache_api.specs.Memory.{capped}
use Rattle.cache_api.proofs.writing.path_len.Given as goal

-- the text of the components so far
abbrev pub invariant-loop-i : goal.invariant-loop-i
invariant-loop-i l = l.len ≡ capped (length (path_text (take l.i l.path)))

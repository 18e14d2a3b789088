use Rattle.std.proofs.Common.{◌≡◌, take, string_bytes}
use Rattle.std.specs.List.{join_with_byte}
use Rattle.rel_path.proofs.path.RelPath.text.Given as goal

-- the text of the components so far
abbrev pub invariant-loop-i : goal.invariant-loop-i
invariant-loop-i l = string_bytes l.inner ≡ join_with_byte 47 (take l.i l.path)

use Rattle.std.proofs.Common.{◌≡◌, ◌++◌, ◌∷◌}
use Rattle.std.specs.Prelude.{string_bytes}
use Rattle.json_view.specs.Pointer.{escaped}
use Rattle.json_view.proofs.pointer.pointer_to.Given as goal

abbrev pub invariant-loop-c : goal.invariant-loop-c
invariant-loop-c l = string_bytes l.longer ++ escaped l.c-iterator.rest.now ≡ l.pointer ++ 47 ∷ escaped l.name

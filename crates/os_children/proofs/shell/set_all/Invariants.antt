use Rattle.std.proofs.Common.{◌≡◌, ℕ, List, length, ◌++◌, drop}
use Rattle.std.specs.Process.{command_var, clears_env, SameProgramAndArgs}
use Rattle.os_children.specs.Shell.{set_all_over}
use Rattle.os_children.proofs.shell.set_all.Given as goal

abbrev pub invariant-loop-pair : goal.invariant-loop-pair
invariant-loop-pair l = record {
  whole : l.rest ++ drop (length l.rest) l.pairs ≡ l.pairs;
  set : (name : List ℕ) → command_var l.shell name ≡ set_all_over (command_var l.initial.shell name) (drop (length l.rest) l.pairs) name;
  clears : clears_env l.shell ≡ clears_env l.initial.shell;
  call : SameProgramAndArgs l.initial.shell l.shell;
}

abbrev pub decreases-loop-pair : goal.decreases-loop-pair
decreases-loop-pair l = length l.rest

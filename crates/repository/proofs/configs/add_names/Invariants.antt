use Rattle.std.proofs.Common.{◌≡◌, ◌++◌, take, map, ℕ, List}
use Rattle.repository.proofs.configs.add_names.Given as goal

-- the names of the scripts so far
abbrev pub invariant-loop-script : goal.invariant-loop-script
invariant-loop-script l = l.names ≡ l.initial.names ++ map (λ (script : List ℕ × List ℕ). script.0) (take l.script-index l.scripts)

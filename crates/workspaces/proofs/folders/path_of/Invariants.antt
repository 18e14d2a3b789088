use Rattle.std.proofs.Common.{◌≡◌, ◌++◌, drop}
use Rattle.workspaces.proofs.folders.path_of.Given as goal

abbrev pub invariant-loop-name : goal.invariant-loop-name
invariant-loop-name l = l.path ++ drop l.name-index l.names ≡ l.names

use Rattle.std.proofs.Common.{◌≡◌, ◌++◌, drop}
use Rattle.std.specs.Prelude.{filter}
use Rattle.workspaces.specs.Edges.{is_hard_need, is_soft_need, names_by}
use Rattle.workspaces.proofs.needs.add_needs.Given as goal

-- the names so far, and those of the pairs that are left
abbrev pub invariant-loop-pair : goal.invariant-loop-pair
invariant-loop-pair l = record {
  hard : l.found.hard.items ++ filter (is_hard_need l.packages l.manifest) (names_by (drop l.pair-index l.pair-items)) ≡ l.initial.found.hard.items ++ filter (is_hard_need l.packages l.manifest) (names_by l.pair-items);
  soft : l.found.soft.items ++ filter (is_soft_need l.packages l.manifest) (names_by (drop l.pair-index l.pair-items)) ≡ l.initial.found.soft.items ++ filter (is_soft_need l.packages l.manifest) (names_by l.pair-items);
}

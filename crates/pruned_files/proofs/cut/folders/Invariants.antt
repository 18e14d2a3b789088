use Rattle.std.proofs.Common.{◌≡◌, map, take}
use Rattle.std.specs.List.{join_with_byte}
use Rattle.workspaces.specs.declared.member.Package.{Package}
use Rattle.pruned_files.specs.Calls.{owners_at}
use Rattle.pruned_files.proofs.cut.folders.Given as goal

-- those so far
abbrev pub invariant-loop-number : goal.invariant-loop-number
invariant-loop-number l = l.texts ≡ map (λ (p : Package). join_with_byte 47 p.folder) (owners_at l.packages (take l.number-index l.numbers))

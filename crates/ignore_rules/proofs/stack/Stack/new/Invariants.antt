use Rattle.std.proofs.Common.{◌≡◌, ◌++◌}
use Rattle.std.specs.Vec.Iter.{into_iter_items}
use Rattle.rel_path.specs.Paths.{Path}
use Rattle.ignore_rules.specs.Stacks.{rules_at}
use Rattle.ignore_rules.specs.Entries.{entries_at}
use Rattle.ignore_rules.proofs.stack.Stack.new.Given as goal

-- the rules of each folder so far, before those of the files that are left
abbrev pub invariant-loop-file : goal.invariant-loop-file
invariant-loop-file l = (folder : Path) → rules_at l.fn.files.items folder ≡ entries_at l.all folder ++ rules_at (into_iter_items l.file-iterator) folder

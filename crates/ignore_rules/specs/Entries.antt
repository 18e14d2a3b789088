-- How a stack keeps its files: by the names of their folders.
use Rattle.std.specs.Prelude.{ℕ, List, map, Vec}
use Rattle.std.specs.declared.alloc.Global.{Global}
use Rattle.std.specs.BTreeMap.{BTreeMap}
use Rattle.rel_path.specs.Paths.{Path}
use Rattle.ignore_rules.specs.declared.rule.Rule.{Rule}
use Rattle.ignore_rules.specs.Stacks.{rules_in}

abbrev pub Files : Type 0
Files = BTreeMap (Vec (List ℕ) Global) (Vec Rule Global)

abbrev pub entries_of : Files → List (Path × List Rule)
entries_of files = map (λ entry. (entry.0.items, entry.1.items)) files.entries

abbrev pub entries_at : Files → Path → List Rule
entries_at files folder = rules_in (entries_of files) folder

-- Results that are held back.
use Rattle.std.specs.Prelude.{List, map}
use Rattle.cache_api.specs.Keys.{own_pair}
use Rattle.cache_api.specs.Pairs.{Pair}
use Rattle.held_results.specs.declared.due.Due.{Due}

-- their pairs, in the order in which they were handed over
abbrev pub due_pairs : List Due → List Pair
due_pairs due = map (λ d. own_pair d.key d.artifact) due

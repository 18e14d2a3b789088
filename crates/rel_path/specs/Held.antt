-- A vector that is owned or shared.
use Rattle.std.specs.Prelude.{List}
use Rattle.rel_path.specs.declared.held.Held.{Held}
use Rattle.rel_path.specs.declared.held.Held.TheVariants.{Own, Shared}

-- what it holds
abbrev pub items_of : {T : Type 0} → Held T → List T
items_of (Own items) = items.items
items_of (Shared items) = items.value.items

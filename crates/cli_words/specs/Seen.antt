-- What the references of the code point to.
use Rattle.std.specs.Prelude.{ℕ, List, Option, Some, None, map}
use Rattle.std.specs.Borrow.{Bor}
use Rattle.key_table.specs.declared.row.Row.{Row}
use Rattle.key_table.specs.Entry.{Entry, entry_of}
use Rattle.cli_words.specs.Grammar.{Item, Bare, Used, Extra, Stray}
use Rattle.cli_words.specs.declared.items.Item as code
use Rattle.cli_words.specs.declared.items.Item.TheVariants as item
use Rattle.cli_words.specs.declared.items.Placed.{Placed}

-- the text behind a reference that may be missing
abbrev pub seen : Option (Bor (List ℕ)) → Option (List ℕ)
seen None = None
seen (Some text) = Some text.now

abbrev pub use_seen : Option (Option (Bor (List ℕ))) → Option (Option (List ℕ))
use_seen None = None
use_seen (Some value) = Some (seen value)

abbrev pub option_seen : Option (Row × Option (Bor (List ℕ))) → Option (Entry × Option (List ℕ))
option_seen None = None
option_seen (Some (row, value)) = Some (entry_of row, seen value)

abbrev pub item_seen : code.Item → Item
item_seen (item.Bare name) = Bare name.now
item_seen (item.Used kind place value) = Used kind place (seen value)
item_seen (item.Extra words) = Extra words.now
item_seen item.Stray = Stray

abbrev pub placed_seen : Placed → ℕ × Item
placed_seen placed = (placed.at, item_seen placed.item)

abbrev pub all_seen : List Placed → List (ℕ × Item)
all_seen placed = map placed_seen placed

-- What the names of each entry find, by number.
use Rattle.std.specs.Prelude.{ℕ, List, [], map, Option, is_some, if◌then◌else◌}
use Rattle.lock_entries.specs.declared.entry.Entry.{Entry}
use Rattle.npm_lock.specs.declared.start.Start.{Start}
use Rattle.npm_lock.specs.Lookup.{found_number}

-- nothing is looked up from a link
unfoldable pub found_by : List Entry → Entry → List (Option ℕ)
found_by entries e = if is_some e.link then [] else map (λ n. found_number entries e.location n.text) e.names

-- what a start finds
abbrev pub root_of : List Entry → Start → Option ℕ
root_of entries s = found_number entries s.from s.name

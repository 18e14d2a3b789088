-- Names that have to be found and are not, and the least of them.
use Rattle.std.specs.Prelude.{ℕ, List, [], ◌∷◌, ◌++◌, Bool, ◌&&◌, not, Option, Some, None, is_none, if◌then◌else◌}
use Rattle.std.specs.declared.cmp.Ordering.{Ordering}
use Rattle.std.specs.Ordering.{is_lt, ordering_then}
use Rattle.rel_path.specs.Paths.{name_cmp}
use Rattle.lock_entries.specs.declared.entry.Name.{Name}
use Rattle.lock_entries.specs.declared.entry.Entry.{Entry}
use Rattle.npm_lock.specs.declared.start.Start.{Start}
use Rattle.npm_lock.specs.declared.start.Lack.{Lack}
use Rattle.npm_lock.specs.Lookup.{found_number}
use Rattle.npm_lock.specs.Finds.{root_of}

-- by location, then by name
abbrev pub lack_cmp : Lack → Lack → Ordering
lack_cmp a b = ordering_then (name_cmp a.from b.from) (name_cmp a.name b.name)

abbrev pub lesser : Lack → Option Lack → Lack
lesser a None = a
lesser a (Some b) = if is_lt (lack_cmp b a) then b else a

-- the least of a list and of one that was found before
abbrev pub least_after : List Lack → Option Lack → Option Lack
least_after [] least = least
least_after (a ∷ others) least = least_after others (Some (lesser a least))

abbrev pub with_lack : Bool → Lack → List Lack → List Lack
with_lack lacks a others = if lacks then a ∷ others else others

abbrev pub is_lacking : Bool → Option ℕ → Bool
is_lacking soft found = not soft && is_none found

-- the starts that are not soft and find nothing
abbrev pub start_lacks : List Entry → List Start → List Lack
start_lacks entries [] = []
start_lacks entries (s ∷ starts) = with_lack (is_lacking s.soft (root_of entries s)) (record { from = s.from; name = s.name }) (start_lacks entries starts)

-- the names that are not soft and find nothing, by what each finds
abbrev pub lacks_by : List ℕ → List Name → List (Option ℕ) → List Lack
lacks_by from [] found = []
lacks_by from (n ∷ names) [] = []
lacks_by from (n ∷ names) (o ∷ found) = with_lack (is_lacking n.soft o) (record { from = from; name = n.text }) (lacks_by from names found)

-- the same of the names of an entry from which they are looked up
abbrev pub name_lacks : List Entry → List ℕ → List Name → List Lack
name_lacks entries from [] = []
name_lacks entries from (n ∷ names) = with_lack (is_lacking n.soft (found_number entries from n.text)) (record { from = from; name = n.text }) (name_lacks entries from names)

-- the same of an entry, if it is a member and no link
abbrev pub lacks_of : Bool → Entry → List (Option ℕ) → List Lack
lacks_of is_member e found = if is_member && is_none e.link then lacks_by e.location e.names found else []

-- what is in the one set and not in the base
abbrev pub beyond : (List ℕ → Bool) → (List ℕ → Bool) → List ℕ → Bool
beyond base set location = set location && not (base location)

-- the same of those of some entries that are members and no links
abbrev pub member_lacks : List Entry → (List ℕ → Bool) → List Entry → List Lack
member_lacks entries set [] = []
member_lacks entries set (e ∷ es) = (if set e.location && is_none e.link then name_lacks entries e.location e.names else []) ++ member_lacks entries set es

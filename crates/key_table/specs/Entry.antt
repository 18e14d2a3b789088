-- What the rows of a table say, and the entry of a name.
use Rattle.std.specs.Prelude.{◌&&◌, ℕ, List, [], ◌∷◌, map, Bool, true, not, Option, bytes_eq}
use Rattle.std.specs.List.{list_any, find}
use Rattle.key_table.specs.declared.row.Kind.{Kind}
use Rattle.key_table.specs.declared.row.Row.{Row}

-- a row, with its name as a text
pub record Entry : Type 0 where
  pub name : List ℕ
  pub kind : Kind
  pub place : ℕ

abbrev pub entry_of : Row → Entry
entry_of row = record { name = row.name.now; kind = row.kind; place = row.place }

abbrev pub names_of : List Entry → List (List ℕ)
names_of entries = map (λ e. e.name) entries

-- the entry has the name
abbrev pub is_named : List ℕ → Entry → Bool
is_named name e = bytes_eq e.name name

-- no two entries have one name
abbrev pub are_distinct : List Entry → Bool
are_distinct [] = true
are_distinct (e ∷ entries) = not (list_any (is_named e.name) entries) && are_distinct entries

-- the first entry of the name
abbrev pub entry_named : List ℕ → List Entry → Option Entry
entry_named name entries = find (is_named name) entries

-- What an npm lockfile (npm docs, "package-lock.json", `packages`) says of each location: the names that it depends on, and where a link leads.
use Rattle.std.specs.Prelude.{◌≡◌, ℕ, List, [], ◌∷◌, ◌++◌, Bool, true, false, Option, Some, None, is_some, Result, Ok, Err, map, codes, option_and_then}
use Rattle.serde_json.specs.Data.{Data, Members, no_members, member}
use Rattle.serde_json.specs.Find.{get, as_bool, as_str, as_object}
use Rattle.json_view.specs.declared.error.Shape.{Shape}
use Rattle.json_view.specs.declared.error.Shape.TheVariants.{Text as a_text, Flag as a_flag, Object as an_object}
use Rattle.json_view.specs.declared.error.JsonErr.{JsonErr}
use Rattle.json_view.specs.declared.error.JsonErr.TheVariants.{NotJson, WrongKind, OpenComment, OutOfMemory}
use Rattle.json_view.specs.Pointer.{pointer_to}
use Rattle.json_view.specs.Pairs.{pairs_of}
use Rattle.lock_entries.specs.declared.entry.Name.{Name}
use Rattle.lock_entries.specs.declared.entry.Entry.{Entry}
use Rattle.lock_entries.specs.declared.parts.Wrong.{Wrong}
use Rattle.lock_entries.specs.Least.{least_by}

-- the pointer to the member of `packages` at a location
abbrev pub entry_pointer : List ℕ → List ℕ
entry_pointer location = pointer_to (codes "/packages") location

-- the pointer to the member of an entry
abbrev pub member_pointer : List ℕ → List ℕ → List ℕ
member_pointer location key = pointer_to (entry_pointer location) key

-- the value at a pointer is no object, and the error says so
abbrev pub IsNoObject : List ℕ → Data → JsonErr → Type 0
IsNoObject at d e = (as_object d ≡ None) × (e ≡ WrongKind at an_object)

-- the first, and then what follows from it
abbrev pub then_by : {A B : Type 0} → Result A JsonErr → (A → Result B JsonErr) → Result B JsonErr
then_by (Ok a) f = f a
then_by (Err e) f = Err e

-- what is wanted, or the wrong kind at the pointer
abbrev pub or_wrong : {A : Type 0} → List ℕ → Shape → Option A → Result A JsonErr
or_wrong at shape None = Err (WrongKind at shape)
or_wrong at shape (Some a) = Ok a

-- the pairs of an object of texts; none where nothing stands
abbrev pub pairs_if : List ℕ → Option Data → Result (List (List ℕ × List ℕ)) JsonErr
pairs_if at None = Ok []
pairs_if at (Some d) = pairs_of at d

-- the names, with their texts, in the map of that key
unfoldable pub pairs_under : List ℕ → List ℕ → Data → Result (List (List ℕ × List ℕ)) JsonErr
pairs_under at key d = pairs_if (pointer_to at key) (get key d)

abbrev pub flag_if : List ℕ → Option Data → Result Bool JsonErr
flag_if at None = Ok false
flag_if at (Some d) = or_wrong at a_flag (as_bool d)

-- whether the entry is a link
unfoldable pub is_link : List ℕ → Data → Result Bool JsonErr
is_link at d = flag_if (pointer_to at (codes "link")) (get (codes "link") d)

-- the folder that a link leads to
abbrev pub link_if : Bool → List ℕ → Option Data → Result (Option (List ℕ)) JsonErr
link_if false at resolved = Ok None
link_if true at resolved = then_by (or_wrong at a_text (option_and_then as_str resolved)) (λ folder. Ok (Some folder))

unfoldable pub link_in : Bool → List ℕ → Data → Result (Option (List ℕ)) JsonErr
link_in link at d = link_if link (pointer_to at (codes "resolved")) (get (codes "resolved") d)

-- an optional dependency has this name
abbrev pub is_optional : Data → List ℕ → Bool
is_optional d name = is_some (option_and_then (get name) (get (codes "optionalDependencies") d))

abbrev pub soft_name : List ℕ × List ℕ → Name
soft_name p = record { text = p.0; soft = true }

-- a dependency need not be found where it is optional too
abbrev pub needed_name : Data → List ℕ × List ℕ → Name
needed_name d p = record { text = p.0; soft = is_optional d p.0 }

-- the names of an entry: those of `dependencies`, of `optionalDependencies` and of `peerDependencies`
abbrev pub names_of : Data → List (List ℕ × List ℕ) → List (List ℕ × List ℕ) → List (List ℕ × List ℕ) → List Name
names_of d needed optional peers = map (needed_name d) needed ++ map soft_name optional ++ map soft_name peers

-- where the link leads and the names, of an entry that stands at a pointer; its keys are read in the order of their pointers, so the least wrong one is answered
abbrev pub parts_at : List ℕ → Data → Result (Option (List ℕ) × List Name) JsonErr
parts_at at d =
    then_by (or_wrong at an_object (as_object d)) (λ _.
    then_by (pairs_under at (codes "dependencies") d) (λ needed.
    then_by (is_link at d) (λ link.
    then_by (pairs_under at (codes "optionalDependencies") d) (λ optional.
    then_by (pairs_under at (codes "peerDependencies") d) (λ peers.
    then_by (link_in link at d) (λ folder.
    Ok (folder, names_of d needed optional peers)))))))

abbrev pub entry_with : List ℕ → Result (Option (List ℕ) × List Name) JsonErr → Result Entry JsonErr
entry_with location (Ok parts) = Ok (record { location = location; link = parts.0; names = parts.1 })
entry_with location (Err e) = Err e

abbrev pub entry_at : List ℕ → List ℕ → Data → Result Entry JsonErr
entry_at at location d = entry_with location (parts_at at d)

-- what that member says
unfoldable pub entry_of : List ℕ → Data → Result Entry JsonErr
entry_of location d = entry_at (entry_pointer location) location d

abbrev pub with_entry : Result Entry JsonErr → List Entry → List Entry
with_entry (Ok entry) entries = entry ∷ entries
with_entry (Err e) entries = entries

-- the entries, in the order of the members
abbrev pub entries_of : Members → List Entry
entries_of no_members = []
entries_of (member location d ms) = with_entry (entry_of location d) (entries_of ms)

abbrev pub with_wrong : Result Entry JsonErr → List Wrong → List Wrong
with_wrong (Ok entry) wrongs = wrongs
with_wrong (Err (WrongKind at shape)) wrongs = record { pointer = at; wanted = shape } ∷ wrongs
with_wrong (Err NotJson) wrongs = wrongs
with_wrong (Err (OpenComment at)) wrongs = wrongs
with_wrong (Err OutOfMemory) wrongs = wrongs

-- what is wrong with those that are no entries
abbrev pub wrongs_of : Members → List Wrong
wrongs_of no_members = []
wrongs_of (member location d ms) = with_wrong (entry_of location d) (wrongs_of ms)

unfoldable pub least_wrong : Members → Option Wrong
least_wrong ms = least_by (λ wrong. wrong.pointer) (wrongs_of ms)

-- What names reach in a lockfile: the least set of locations that holds what the starts find and what the names of each member that is no link find.
use Rattle.std.specs.Prelude.{◌≡◌, ◌⊎◌, ◌↔◌, ℕ, List, [], length, map, filter, Bool, true, false, Option, Some, None, unwrap_or, option_and_then, codes, Result, Ok, Err, ⊤}
use Rattle.std.specs.Option.{option_map}
use Rattle.std.specs.Ordering.{is_gt}
use Rattle.std.specs.List.Sorted.{IsStrictlySortedBy}
use Rattle.serde_json.specs.Data.{Data}
use Rattle.serde_json.specs.Find.{get}
use Rattle.serde_json.specs.Written.{compact_text}
use Rattle.rel_path.specs.Paths.{name_cmp}
use Rattle.lock_entries.specs.declared.entry.Name.{Name}
use Rattle.lock_entries.specs.declared.entry.Entry.{Entry}
use Rattle.lock_entries.specs.Lockfile.{entries_in}
use Rattle.npm_lock.specs.declared.start.Start.{Start}
use Rattle.npm_lock.specs.declared.start.Lack.{Lack}
use Rattle.npm_lock.specs.declared.error.ExtErr.{ExtErr}
use Rattle.npm_lock.specs.declared.error.ExtErr.TheVariants.{Missing, OutOfMemory}
use Rattle.npm_lock.specs.Lookup.{found}
use Rattle.npm_lock.specs.Lacks.{lack_cmp}
use Rattle.npm_lock.specs.Reach.{set_of}
use Rattle.npm_lock.specs.Sets.{Has, IsLeast}

-- a name of an entry, looked up from its location
abbrev pub lookup_of : Entry → Name → Start
lookup_of e n = record { from = e.location; name = n.text; soft = n.soft }

-- it is a name of a member that is no link
pub record IsMembers (entries : List Entry) (set : List ℕ → Bool) (s : Start) : Type 0 where
  pub entry : Entry
  pub among : Has entries entry
  pub is_member : set entry.location ≡ true
  pub no_link : entry.link ≡ None
  pub name : Name
  pub named : Has entry.names name
  pub same : lookup_of entry name ≡ s

-- what is looked up: the starts, and the names of each member that is no link
abbrev pub LooksUp : List Entry → List Start → (List ℕ → Bool) → Start → Type 0
LooksUp entries starts set s = Has starts s ⊎ IsMembers entries set s

-- what is looked up and found is a member
unfoldable pub IsClosed : List Entry → List Start → (List ℕ → Bool) → Type 0
IsClosed entries starts set = (s : Start) → LooksUp entries starts set s → (location : List ℕ) → found entries s.from s.name ≡ Some location → set location ≡ true

-- the set of locations that the starts reach
abbrev pub IsExternals : List Entry → List Start → (List ℕ → Bool) → Type 0
IsExternals entries starts set = IsLeast (IsClosed entries starts) set

-- it is looked up, has to be found, and is not
pub record IsMissing (entries : List Entry) (starts : List Start) (set : List ℕ → Bool) (s : Start) : Type 0 where
  pub looked_up : LooksUp entries starts set s
  pub hard : s.soft ≡ false
  pub nothing : found entries s.from s.name ≡ None

abbrev pub lack_of : Start → Lack
lack_of s = record { from = s.from; name = s.name }

-- it is the least that is missing, by location and then by name
pub record IsLeastMissing (entries : List Entry) (starts : List Start) (set : List ℕ → Bool) (from name : List ℕ) : Type 0 where
  pub start : Start
  pub missing : IsMissing entries starts set start
  pub same : lack_of start ≡ record { from = from; name = name }
  pub least : (s : Start) → IsMissing entries starts set s → is_gt (lack_cmp (lack_of start) (lack_of s)) ≡ false

-- nothing is missing, or this is the least that is
abbrev pub IsLeastLack : List Entry → List Start → (List ℕ → Bool) → Option Lack → Type 0
IsLeastLack entries starts set None = (s : Start) → ¬ IsMissing entries starts set s
IsLeastLack entries starts set (Some lack) = IsLeastMissing entries starts set lack.from lack.name

-- some starts, the flags of what they reach, and the least that is missing
pub record Reach : Type 0 where
  pub starts : List Start
  pub set : List Bool
  pub least : Option Lack

-- the flags are those of the entries that the starts reach
pub record IsReachAmong (entries : List Entry) (r : Reach) : Type 0 where
  pub size : length r.set ≡ length entries
  pub externals : IsExternals entries r.starts (set_of entries r.set)
  pub lacking : IsLeastLack entries r.starts (set_of entries r.set) r.least

abbrev pub IsReachIn : Data → Reach → Type 0
IsReachIn d r = IsReachAmong (entries_in d) r

-- the entry at a location of `packages`, as `serde_json` writes it without blanks
unfoldable pub text_in : Option Data → List ℕ → List ℕ
text_in packages location = unwrap_or (option_map compact_text (option_and_then (get location) packages)) []

-- the entries, each so written
abbrev pub texts_in : Option Data → List Entry → List (List ℕ)
texts_in packages entries = map (λ e. text_in packages e.location) entries

abbrev pub entry_text : Data → List ℕ → List ℕ
entry_text d location = text_in (get (codes "packages") d) location

-- the members, ascending, each with its entry
abbrev pub members_in : Data → (List ℕ → Bool) → List (List ℕ × List ℕ)
members_in d set = map (λ e. (e.location, entry_text d e.location)) (filter (λ e. set e.location) (entries_in d))

-- the members that the starts reach in a lockfile where each name that has to be found is, or the least that is not
abbrev pub Externals : Data → List Start → Result (List (List ℕ × List ℕ)) ExtErr → Type 0
Externals d starts (Ok pairs) = (set : List ℕ → Bool) × IsExternals (entries_in d) starts set × ((s : Start) → ¬ IsMissing (entries_in d) starts set s) × (pairs ≡ members_in d set)
Externals d starts (Err (Missing from name)) = (set : List ℕ → Bool) × IsExternals (entries_in d) starts set × IsLeastMissing (entries_in d) starts set from name
Externals d starts (Err OutOfMemory) = ⊤

-- some member is a link that leads to the folder
pub record IsLinked (entries : List Entry) (set : List ℕ → Bool) (folder : List ℕ) : Type 0 where
  pub entry : Entry
  pub among : Has entries entry
  pub is_member : set entry.location ≡ true
  pub leads : entry.link ≡ Some folder

-- the folders that the links in that set lead to, ascending, each once
abbrev pub Links : Data → List Start → Result (List (List ℕ)) ExtErr → Type 0
Links d starts (Ok folders) = (set : List ℕ → Bool) × IsExternals (entries_in d) starts set × IsStrictlySortedBy name_cmp folders × ((folder : List ℕ) → Has folders folder ↔ IsLinked (entries_in d) set folder)
Links d starts (Err (Missing from name)) = ⊥
Links d starts (Err OutOfMemory) = ⊤

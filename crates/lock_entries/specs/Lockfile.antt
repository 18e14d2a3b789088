-- When a JSON value is an npm lockfile of version 3 (npm docs, "package-lock.json"), and the first reason why it is none.
use Rattle.std.specs.Prelude.{ℕ, ℤ, List, [], Option, Some, None, option_and_then, option_map, if◌then◌else◌, codes, map}
use Rattle.std.specs.Option.{option_or}
use Rattle.std.specs.Ordering.{int_eq}
use Rattle.std.specs.List.Sorted.{IsStrictlySortedBy}
use Rattle.serde_json.specs.Data.{Data, Members, no_members}
use Rattle.serde_json.specs.Find.{get, as_number, as_integer, as_object}
use Rattle.json_view.specs.declared.error.Shape.TheVariants.{Whole as a_whole, Object as an_object}
use Rattle.rel_path.specs.Paths.{name_cmp}
use Rattle.lock_entries.specs.declared.lockfile.TheConstants.{LOCKFILE_VERSION}
use Rattle.lock_entries.specs.declared.entry.Entry.{Entry}
use Rattle.lock_entries.specs.declared.error.LockErr.{LockErr}
use Rattle.lock_entries.specs.declared.error.LockErr.TheVariants.{WrongKind, Version, Number}
use Rattle.lock_entries.specs.declared.parts.Wrong.{Wrong}
use Rattle.lock_entries.specs.Entries.{entries_of, least_wrong}
use Rattle.lock_entries.specs.Floats.{least_float}

-- the top is an object
abbrev pub top_refusal : Option Members → Option LockErr
top_refusal None = Some (WrongKind [] an_object)
top_refusal (Some ms) = None

-- `lockfileVersion` is a whole number of 64 bits, and the one that is read
abbrev pub version_if : Option ℤ → Option LockErr
version_if None = Some (WrongKind (codes "/lockfileVersion") a_whole)
version_if (Some n) = if int_eq n LOCKFILE_VERSION then None else Some (Version n)

abbrev pub as_whole : Data → Option ℤ
as_whole d = option_and_then as_integer (as_number d)

unfoldable pub version_refusal : Data → Option LockErr
version_refusal d = version_if (option_and_then as_whole (get (codes "lockfileVersion") d))

-- no number anywhere is a float
unfoldable pub number_refusal : Data → Option LockErr
number_refusal d = option_map Number (least_float d)

abbrev pub wrong_of : Option Wrong → Option LockErr
wrong_of None = None
wrong_of (Some wrong) = Some (WrongKind wrong.pointer wrong.wanted)

abbrev pub packages_if : Option Members → Option LockErr
packages_if None = Some (WrongKind (codes "/packages") an_object)
packages_if (Some ms) = wrong_of (least_wrong ms)

-- the object `packages`
abbrev pub packages_of : Data → Option Members
packages_of d = option_and_then as_object (get (codes "packages") d)

-- `packages` is an object of entries
unfoldable pub packages_refusal : Data → Option LockErr
packages_refusal d = packages_if (packages_of d)

-- the first reason why a value is no lockfile
abbrev pub lock_refusal : Data → Option LockErr
lock_refusal d = option_or (top_refusal (as_object d)) (option_or (version_refusal d) (option_or (number_refusal d) (packages_refusal d)))

abbrev pub or_no_members : Option Members → Members
or_no_members None = no_members
or_no_members (Some ms) = ms

-- the members of `packages`
unfoldable pub packages_in : Data → Members
packages_in d = or_no_members (packages_of d)

-- the entries of a lockfile's value
abbrev pub entries_in : Data → List Entry
entries_in d = entries_of (packages_in d)

abbrev pub locations : List Entry → List (List ℕ)
locations entries = map (λ e. e.location) entries

-- the locations ascend by their bytes, each once
abbrev pub Ascend : List Entry → Type 0
Ascend entries = IsStrictlySortedBy name_cmp (locations entries)

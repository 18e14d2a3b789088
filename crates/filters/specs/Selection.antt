-- Which packages filters select, by what they name and by what edges reach (Turborepo docs, "Filtering packages").
use Rattle.std.specs.Prelude.{ℕ, ◌≡◌, ◌&&◌, ◌||◌, Bool, true, false, not, if◌then◌else◌, List, [], ◌∷◌, length, map, Option, Some, None, bytes_eq, nat_lt}
use Rattle.std.specs.Option.{option_map}
use Rattle.std.specs.List.{list_any, list_all, AllByRecursion}
use Rattle.std.specs.List.Sorted.{IsStrictlySortedBy}
use Rattle.std.specs.Ordering.{nat_cmp}
use Rattle.globs.specs.Match.{matches}
use Rattle.workspaces.specs.declared.member.Package.{Package}
use Rattle.workspaces.specs.Lists.{places}
use Rattle.workspaces.specs.Reach.{is_in, IsReached}
use Rattle.workspaces.specs.Members.{leads, leads_back}
use Rattle.filters.specs.declared.error.FilterErr.{FilterErr}
use Rattle.filters.specs.declared.error.FilterErr.TheVariants.{Unreadable, NoPackage}
use Rattle.filters.specs.declared.filter.Core.{Core}
use Rattle.filters.specs.declared.filter.Core.TheVariants.{Folder, Name, Pattern}
use Rattle.filters.specs.declared.filter.Filter.{Filter}
use Rattle.filters.specs.Names.{spells_name}
use Rattle.filters.specs.Words.{has_dots, leaves_core, filter_of}

-- ---- what a core names

abbrev pub has_name : List ℕ → Package → Bool
has_name name member = bytes_eq member.name name

-- an unscoped name is never that of a scoped package
unfoldable pub is_in_core : Core → Package → Bool
is_in_core (Folder glob) member = matches glob member.folder
is_in_core (Name name) member = has_name name member
is_in_core (Pattern pattern) member = spells_name pattern member.name

-- a plain name that no package has
abbrev pub missing_name : List Package → Core → Option (List ℕ)
missing_name packages (Folder glob) = None
missing_name packages (Name name) = if list_any (has_name name) packages then None else Some name
missing_name packages (Pattern pattern) = None

-- ---- what one filter takes, whether it adds or takes away

-- where it is asked for, what at least one edge reaches from these places, and otherwise nothing
abbrev pub IsReachedIf : Bool → (ℕ → ℕ → Bool) → List ℕ → List ℕ → Type 0
IsReachedIf true leads from found = IsReached leads from found
IsReachedIf false leads from found = found ≡ []

abbrev pub core_in : List Package → Filter → List ℕ
core_in packages filter = places (is_in_core filter.core) packages

-- exactly the places that a filter takes: the core, unless a `^` stands; the dependencies of the core under a back `...`, and its dependents under a front `...`; with both also the dependencies of those dependents, of which a `^` leaves out the core
pub record Takes (packages : List Package) (filter : Filter) (taken : ℕ → Bool) : Type 0 where
  pub below : List ℕ
  pub above : List ℕ
  pub around : List ℕ
  pub below_reached : IsReachedIf (has_dots filter.back) (leads packages) (core_in packages filter) below
  pub above_reached : IsReachedIf (has_dots filter.front) (leads_back packages) (core_in packages filter) above
  pub around_reached : IsReachedIf (has_dots filter.front && has_dots filter.back) (leads packages) above around
  pub exact : (p : ℕ) → taken p ≡ (is_in below p || (is_in above p || (if is_in (core_in packages filter) p then not (leaves_core filter) else is_in around p)))

-- ---- what several filters select

-- a filter with the places that it takes
pub record Taking : Type 0 where
  pub filter : Filter
  pub takes : ℕ → Bool

-- a filter without `!` takes the place, or all filters have a `!`
abbrev pub is_included : List Taking → ℕ → Bool
is_included takings p = list_any (λ taking. not taking.filter.excludes && taking.takes p) takings || list_all (λ taking. taking.filter.excludes) takings

-- a filter with `!` takes the place
abbrev pub is_excluded : List Taking → ℕ → Bool
is_excluded takings p = list_any (λ taking. taking.filter.excludes && taking.takes p) takings

-- the packages that filters select, ascending: the union of what those without `!` take, or all where there is none, minus the union of what those with `!` take
pub record AreSelected (packages : List Package) (filters : List Filter) (found : List ℕ) : Type 0 where
  pub ascend : IsStrictlySortedBy nat_cmp found
  pub takings : List Taking
  pub filters_are : map (λ taking. taking.filter) takings ≡ filters
  pub takes_are : AllByRecursion (λ taking. Takes packages taking.filter taking.takes) takings
  pub exact : (p : ℕ) → is_in found p ≡ (nat_lt p (length packages) && (is_included takings p && not (is_excluded takings p)))

-- ---- refusals

abbrev pub or_name : Option (List ℕ) → Option (List ℕ) → Option (List ℕ)
or_name None later = later
or_name (Some name) later = Some name

-- the first plain name of filters that no package has
abbrev pub first_missing : List Package → List Filter → Option (List ℕ)
first_missing packages [] = None
first_missing packages (filter ∷ filters) = or_name (missing_name packages filter.core) (first_missing packages filters)

-- why a word that writes this filter, or none, cannot be taken
abbrev pub fault_from : List Package → List ℕ → Option Filter → Option FilterErr
fault_from packages word None = Some (Unreadable word)
fault_from packages word (Some filter) = option_map (λ name. NoPackage name) (missing_name packages filter.core)

abbrev pub word_fault : List Package → List ℕ → Option FilterErr
word_fault packages word = fault_from packages word (filter_of word)

abbrev pub or_fault : Option FilterErr → Option FilterErr → Option FilterErr
or_fault None later = later
or_fault (Some fault) later = Some fault

-- the fault of the first word that has one
abbrev pub words_fault : List Package → List (List ℕ) → Option FilterErr
words_fault packages [] = None
words_fault packages (word ∷ words) = or_fault (word_fault packages word) (words_fault packages words)

-- the words write filters, one each, and these select the places
pub record AreSelectedBy (packages : List Package) (words : List (List ℕ)) (found : List ℕ) : Type 0 where
  pub filters : List Filter
  pub written : map filter_of words ≡ map (λ filter. Some filter) filters
  pub selected : AreSelected packages filters found

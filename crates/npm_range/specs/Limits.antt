-- Which versions a range admits: the order of SemVer 2.0.0, section 11, and npm's rule on pre-releases (semver's documentation, "Prerelease Tags").
use Rattle.std.specs.Prelude.{ℕ, Bool, true, false, ◌==◌, ◌&&◌, ◌||◌, List, length}
use Rattle.std.specs.List.{list_all, list_any}
use Rattle.std.specs.Ordering.{nat_cmp, ordering_then}
use Rattle.std.specs.declared.cmp.Ordering.{Ordering}
use Rattle.std.specs.declared.cmp.Ordering.TheVariants.{Less, Equal, Greater}
use Rattle.semver.specs.Order.{pre_cmp}
use Rattle.semver.specs.Identifiers.{pre_text}
use Rattle.semver.specs.declared.Version.{Version}
use Rattle.npm_range.specs.declared.limit.Relation.{Relation}
use Rattle.npm_range.specs.declared.limit.Relation.TheVariants.{Below, UpTo, Exactly, From, Above}

-- the three numbers of a version, and its pre-release, which is empty where it has none
abbrev pub Release : Type 0
Release = ℕ × ℕ × ℕ × List ℕ

abbrev pub release_of : Version → Release
release_of v = (v.major, v.minor, v.patch, pre_text v.pre)

-- precedence, for which build metadata does not count
abbrev pub precedence : Release → Release → Ordering
precedence a b = ordering_then (nat_cmp a.0 b.0) (ordering_then (nat_cmp a.1 b.1) (ordering_then (nat_cmp a.2 b.2) (pre_cmp a.3 b.3)))

-- a release that bounds, and whether it stands in the text with a pre-release of its own
pub record Bound : Type 0 where
  pub relation : Relation
  pub release : Release
  pub tagged : Bool

abbrev pub stands : Relation → Ordering → Bool
stands Below Less = true
stands Below order = false
stands UpTo Greater = false
stands UpTo order = true
stands Exactly Equal = true
stands Exactly order = false
stands From Less = false
stands From order = true
stands Above Greater = true
stands Above order = false

abbrev pub holds : Release → Bound → Bool
holds version bound = stands bound.relation (precedence version bound.release)

abbrev pub same_numbers : Release → Release → Bool
same_numbers a b = a.0 == b.0 && a.1 == b.1 && a.2 == b.2

abbrev pub is_final : Release → Bool
is_final version = length version.3 == 0

-- a comparator is written with a pre-release of the same three numbers
abbrev pub invites : Release → List Bound → Bool
invites version set = list_any (λ bound. bound.tagged && same_numbers bound.release version) set

-- all bounds of the set hold, and a pre-release is asked for by its numbers
unfoldable pub set_admits : Release → List Bound → Bool
set_admits version set = list_all (λ bound. holds version bound) set && (is_final version || invites version set)

-- one of the sets admits the version
unfoldable pub admits : List (List Bound) → Release → Bool
admits sets version = list_any (λ set. set_admits version set) sets

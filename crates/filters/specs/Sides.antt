-- What filters took, those without `!` and those with one, as marks on the packages, and what one of them takes.
use Rattle.std.specs.Prelude.{ℕ, ◌≡◌, ◌&&◌, ◌||◌, Bool, not, if◌then◌else◌, List, length, map, nat_lt}
use Rattle.std.specs.List.{list_any, list_all, AllByRecursion}
use Rattle.workspaces.specs.declared.member.Package.{Package}
use Rattle.workspaces.specs.Marks.{is_marked}
use Rattle.workspaces.specs.Reach.{is_in, AreBelow}
use Rattle.filters.specs.declared.filter.Filter.{Filter}
use Rattle.filters.specs.declared.selection.Sides.{Sides}
use Rattle.filters.specs.Selection.{Taking, Takes, IsReachedIf, core_in, is_excluded}
use Rattle.filters.specs.Words.{has_dots}
use Rattle.filters.specs.declared.taken.Neighbours.{Neighbours}
use Rattle.workspaces.specs.Members.{leads, leads_back}

-- what a filter takes was added to its side
pub record AddsTo (excludes : Bool) (taken : List ℕ) (old new : Sides) : Type 0 where
  pub included_same : length new.included.items ≡ length old.included.items
  pub excluded_same : length new.excluded.items ≡ length old.excluded.items
  pub included : (p : ℕ) → is_marked new.included.items p ≡ (is_marked old.included.items p || (not excludes && is_in taken p))
  pub excluded : (p : ℕ) → is_marked new.excluded.items p ≡ (is_marked old.excluded.items p || (excludes && is_in taken p))
  pub only : new.only_excludes ≡ (old.only_excludes && excludes)

-- the marks are what the filters take
pub record AreSides (packages : List Package) (filters : List Filter) (sides : Sides) : Type 0 where
  pub included_same : length sides.included.items ≡ length packages
  pub excluded_same : length sides.excluded.items ≡ length packages
  pub takings : List Taking
  pub filters_are : map (λ taking. taking.filter) takings ≡ filters
  pub takes_are : AllByRecursion (λ taking. Takes packages taking.filter taking.takes) takings
  pub included : (p : ℕ) → is_marked sides.included.items p ≡ list_any (λ taking. not taking.filter.excludes && taking.takes p) takings
  pub excluded : (p : ℕ) → is_marked sides.excluded.items p ≡ is_excluded takings p
  pub only : sides.only_excludes ≡ list_all (λ taking. taking.filter.excludes) takings

-- the place is one of those marked, or of all
abbrev pub is_included : Bool → List Bool → ℕ → Bool
is_included all marks p = nat_lt p (length marks) && (is_marked marks p || all)

abbrev pub is_chosen : Sides → ℕ → Bool
is_chosen sides p = is_included sides.only_excludes sides.included.items p && not (is_marked sides.excluded.items p)

-- ---- what one filter takes

-- a filter's core, and what edges reach from it, where the filter asks for it
pub record AreNeighbours (packages : List Package) (filter : Filter) (n : Neighbours) : Type 0 where
  pub core_named : n.core ≡ core_in packages filter
  pub below_reached : IsReachedIf (has_dots filter.back) (leads packages) n.core n.below
  pub above_reached : IsReachedIf (has_dots filter.front) (leads_back packages) n.core n.above
  pub around_reached : IsReachedIf (has_dots filter.front && has_dots filter.back) (leads packages) n.above n.around

pub record LieBelow (count : ℕ) (n : Neighbours) : Type 0 where
  pub core_below : AreBelow count n.core
  pub below_below : AreBelow count n.below
  pub above_below : AreBelow count n.above
  pub around_below : AreBelow count n.around

abbrev pub is_taken : Neighbours → Bool → ℕ → Bool
is_taken n keeps p = is_in n.below p || (is_in n.above p || (if is_in n.core p then keeps else is_in n.around p))

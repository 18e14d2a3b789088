-- Names that the lockfile lacks for owners that stay.
use Rattle.std.specs.Prelude.{◌≡◌, ℕ, Bool, not, List, ◌∷◌, ◌++◌, filter}
use Rattle.std.specs.Ordering.{is_lt}
use Rattle.std.specs.List.{AllByRecursion}
use Rattle.rel_path.specs.Paths.{Path, name_cmp}
use Rattle.workspaces.specs.declared.member.Package.{Package}
use Rattle.workspaces.specs.Space.{Space, root_name, root_package}
use Rattle.collect.specs.Parts.{Uses}
use Rattle.collect.specs.Refusals.{IsMissingOf}
use Rattle.repository.specs.Reading.{Contents}

abbrev pub is_before_root : Package → Bool
is_before_root p = is_lt (name_cmp p.name root_name)

-- the packages and the root, in the order of their names
abbrev pub owners_by_name : Space → List Package
owners_by_name space = filter is_before_root space.packages ++ root_package space.root ∷ filter (λ p. not (is_before_root p)) space.packages

abbrev pub FindsAll : Contents → Package → Type 0
FindsAll contents p = (pairs : List (List ℕ × List ℕ)) × Uses contents.space contents.lock p pairs

-- of the owners that stay, in the order of their names, one is the first that misses a name
pub record IsFirstMissing (contents : Contents) (set : Path → Bool) (from name : List ℕ) : Type 0 where
  pub earlier : List Package
  pub member : Package
  pub later : List Package
  pub stands : filter (λ p. set p.folder) (owners_by_name contents.space) ≡ earlier ++ member ∷ later
  pub found : AllByRecursion (FindsAll contents) earlier
  pub misses : IsMissingOf contents.space contents.lock member from name

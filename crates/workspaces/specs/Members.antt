-- What the packages of a workspace are to one another, by their numbers in the order of their names.
use Rattle.std.specs.Prelude.{◌≡◌, ◌<◌, ◌^◌, ℕ, Bool, List, length, map}
use Rattle.std.specs.List.{AllByRecursion}
use Rattle.std.specs.List.Sorted.{IsStrictlySortedBy}
use Rattle.manifest.specs.Manifest.{AreAscending}
use Rattle.rel_path.specs.Paths.{name_cmp}
use Rattle.workspaces.specs.declared.member.Package.{Package}
use Rattle.workspaces.specs.declared.needs.Needs.{Needs}
use Rattle.workspaces.specs.declared.packages.Packages.TheInside.{Inside}
use Rattle.workspaces.specs.Lists.{places, passes_at}
use Rattle.workspaces.specs.Edges.{has_edge, needs_of}
use Rattle.workspaces.specs.Space.{Space, IsProper, root_package}

-- the packages that an owner depends on, and those that depend on a package
unfoldable pub edges_of : List Package → Package → List ℕ
edges_of packages member = places (has_edge member) packages

unfoldable pub users_of : List Package → Package → List ℕ
users_of packages member = places (λ user. has_edge user member) packages

unfoldable pub needs_by : List Package → Package → Needs
needs_by packages member = needs_of packages member.manifest

-- the package of the one number depends on that of the other
unfoldable pub leads : List Package → ℕ → ℕ → Bool
leads packages p q = passes_at (λ member. passes_at (has_edge member) packages q) packages p

abbrev pub leads_back : List Package → ℕ → ℕ → Bool
leads_back packages p q = leads packages q p

-- names ascend, there are as many as a u32 counts, and the manifests' maps ascend
pub record IsFit (packages : List Package) : Type 0 where
  pub names : IsStrictlySortedBy name_cmp (map (λ member. member.name) packages)
  pub few : length packages < 2 ^ 32
  pub maps : AllByRecursion (λ member. AreAscending member.manifest) packages

abbrev pub space_in : Inside → Space
space_in a = record { root = a.root.manifest; packages = a.packages.items }

-- what is kept beside the packages is what they say
pub record IsWhole (a : Inside) : Type 0 where
  pub few : length a.packages.items < 2 ^ 32
  pub proper : IsProper (space_in a)
  pub edges : a.edges.items ≡ map (edges_of a.packages.items) a.packages.items
  pub users : a.users.items ≡ map (users_of a.packages.items) a.packages.items
  pub needs : a.needs.items ≡ map (needs_by a.packages.items) a.packages.items
  pub root : a.root ≡ root_package a.root.manifest
  pub root_edges : a.root_edges ≡ edges_of a.packages.items a.root
  pub root_needs : a.root_needs ≡ needs_by a.packages.items a.root

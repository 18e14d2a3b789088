-- What reading the manifests of folders answers, step by step.
use Rattle.std.specs.Prelude.{◌≡◌, List, [], ◌∷◌, ◌++◌, map, Option, Some, None, Result, Ok, Err}
use Rattle.std.specs.List.Sorted.{IsStrictlySortedBy}
use Rattle.rel_path.specs.Paths.{Path, path_cmp}
use Rattle.manifest.specs.declared.error.ManifestErr.{ManifestErr}
use Rattle.manifest.specs.declared.error.ManifestErr.TheVariants as manifest
use Rattle.manifest.specs.Manifest.{AreAscending}
use Rattle.workspaces.specs.declared.member.Package.{Package}
use Rattle.workspaces.specs.declared.error.SpaceErr.{SpaceErr}
use Rattle.workspaces.specs.declared.error.SpaceErr.TheVariants.{Manifest as BadManifest, OutOfMemory}
use Rattle.workspaces.specs.Lists.{Has}

-- the manifest at the path is none; want of memory is no fault of it
abbrev pub as_fault : Path → ManifestErr → SpaceErr
as_fault path manifest.NotJson = BadManifest path manifest.NotJson
as_fault path manifest.NoName = BadManifest path manifest.NoName
as_fault path (manifest.WrongKind pointer wanted) = BadManifest path (manifest.WrongKind pointer wanted)
as_fault path (manifest.OtherManager text) = BadManifest path (manifest.OtherManager text)
as_fault path manifest.OutOfMemory = OutOfMemory

-- the package was read in the folder
abbrev pub IsReadIn : Path → Package → Type 0
IsReadIn folder member = (member.folder ≡ folder) × AreAscending member.manifest

-- packages with their folders ascending, each among these, and with maps that ascend
pub record AreReadIn (folders : List Path) (packages : List Package) : Type 0 where
  pub ascend : IsStrictlySortedBy path_cmp (map (λ member. member.folder) packages)
  pub among : (member : Package) → Has packages member → Has folders member.folder
  pub maps : (member : Package) → Has packages member → AreAscending member.manifest

abbrev pub with_package : Option Package → List Package
with_package None = []
with_package (Some member) = member ∷ []

-- these packages, and behind them those of the folders that are left
abbrev pub and_then : List Package → Result (List Package) SpaceErr → Result (List Package) SpaceErr
and_then packages (Ok more) = Ok (packages ++ more)
and_then packages (Err fault) = Err fault

-- folders ascend, each once
abbrev pub DifferByFolder : List Package → Type 0
DifferByFolder packages = IsStrictlySortedBy path_cmp (map (λ member. member.folder) packages)

-- The lockfile of a repository that is made of a part of another one: cut to the packages that stay and to what is installed for them (npm docs, "package-lock.json").
use Rattle.std.specs.Prelude.{◌≡◌, ℕ, Bool, List, Option, Some, None, Ok, ⊤, map, filter}
use Rattle.std.specs.List.{flat_map, join_with_byte}
use Rattle.rel_path.specs.Paths.{Path}
use Rattle.serde_json.specs.Data.{Data}
use Rattle.npm_lock.specs.Cut.{cut}
use Rattle.npm_lock.specs.Reading.{lock_of, IsPrinted}
use Rattle.workspaces.specs.declared.member.Package.{Package}
use Rattle.workspaces.specs.Space.{Space, owners}
use Rattle.collect.specs.Listings.{ArePaired}
use Rattle.collect.specs.Parts.{Uses}
use Rattle.repository.specs.Reading.{Contents}

-- the owners whose folders are in the set
abbrev pub kept_owners : Space → (Path → Bool) → List Package
kept_owners space set = filter (λ p. set p.folder) (owners space)

-- the locations of installed packages
abbrev pub locations_in : List (List (List ℕ × List ℕ)) → List (List ℕ)
locations_in uses = flat_map (λ pairs. map (λ pair. pair.0) pairs) uses

-- the lockfile keeps the entries of the owners' folders, the links to these, and what each of the owners uses
pub record IsCutTo (contents : Contents) (set : Path → Bool) (lock value : Data) : Type 0 where
  pub uses : List (List (List ℕ × List ℕ))
  pub each : ArePaired (λ p pairs. Uses contents.space (Some lock) p pairs) (kept_owners contents.space set) uses
  pub is : value ≡ cut (map (λ p. join_with_byte 47 p.folder) (kept_owners contents.space set)) (locations_in uses) lock

-- the text of a lockfile, which reads back as that lockfile
pub record Writes (value : Data) (text : List ℕ) : Type 0 where
  pub back : lock_of text ≡ Ok value
  pub printed : IsPrinted value text

-- the cut lockfile and its text, where there is a lockfile
abbrev pub IsCutLock : Contents → (Path → Bool) → Option Data → Option Data → Option (List ℕ) → Type 0
IsCutLock contents set None None None = ⊤
IsCutLock contents set (Some lock) (Some value) (Some text) = IsCutTo contents set lock value × Writes value text
IsCutLock contents set lock value text = ⊥

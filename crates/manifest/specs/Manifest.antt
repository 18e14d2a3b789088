-- The package.json that bytes write, as a task runner reads it (npm docs, "package.json").
use Rattle.std.specs.Prelude.{ℕ, Bool, List, [], Option, Some, None, MatchResult, ◌≡◌, ◌⊎◌, Result, Ok, Err, codes}
use Rattle.serde_json.specs.Data.{Data}
use Rattle.json_view.specs.declared.error.JsonErr.{JsonErr}
use Rattle.json_view.specs.Reading.{reading}
use Rattle.json_view.specs.Pairs.{AscendByName}
use Rattle.manifest.specs.Parts.{text_part, map_part, workspaces_part, is_object_at}
use Rattle.manifest.specs.Faults.{text_or_none, manifest_fault}
use Rattle.manifest.specs.declared.manifest.Manifest.{Manifest}
use Rattle.manifest.specs.declared.error.ManifestErr.{ManifestErr}
use Rattle.manifest.specs.declared.error.ManifestErr.TheVariants.{NotJson, OutOfMemory}

-- the items of a part, none where it is wrong
abbrev pub or_empty : {A : Type 0} → Result (List A) JsonErr → List A
or_empty (Ok items) = items
or_empty (Err e) = []

-- what stands in the parts
abbrev pub parts_in : Data → Manifest
parts_in d = record {
  name = text_or_none (text_part (codes "/name") d);
  version = text_or_none (text_part (codes "/version") d);
  scripts = or_empty (map_part (codes "/scripts") d);
  deps = or_empty (map_part (codes "/dependencies") d);
  dev = or_empty (map_part (codes "/devDependencies") d);
  optional = or_empty (map_part (codes "/optionalDependencies") d);
  peer = or_empty (map_part (codes "/peerDependencies") d);
  workspaces = or_empty (workspaces_part d);
  object_form = is_object_at (codes "/workspaces") d;
}

abbrev pub unless : Option ManifestErr → Manifest → Result Manifest ManifestErr
unless None manifest = Ok manifest
unless (Some fault) manifest = Err fault

abbrev pub manifest_in : Bool → Option Data → Result Manifest ManifestErr
manifest_in is_root None = Err NotJson
manifest_in is_root (Some d) = unless (manifest_fault is_root d) (parts_in d)

-- the manifest that bytes write, the root's or a package's, or why they write none
unfoldable pub manifest_of : Bool → List ℕ → Result Manifest ManifestErr
manifest_of is_root bytes = manifest_in is_root (reading bytes)

-- a manifest is read as it is meant; want of memory may come at any time
abbrev pub Reads : Result Manifest ManifestErr → Result Manifest ManifestErr → Type 0
Reads meant result = MatchResult result (λ manifest. meant ≡ Ok manifest) (λ e. (e ≡ OutOfMemory) ⊎ (meant ≡ Err e))

-- the names of each map ascend, each once
pub record AreAscending (manifest : Manifest) : Type 0 where
  pub scripts : AscendByName manifest.scripts
  pub deps : AscendByName manifest.deps
  pub dev : AscendByName manifest.dev
  pub optional : AscendByName manifest.optional
  pub peer : AscendByName manifest.peer

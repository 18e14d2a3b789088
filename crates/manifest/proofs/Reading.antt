-- A manifest as it is meant, by what was found of it.
use Rattle.std.proofs.Common.{◌≡◌, ◌⊎◌, inl, inr, ℕ, List, Bool, refl, ap, ◌∙◌}
use Rattle.std.specs.Prelude.{Option, Some, None, Result, Ok, Err}
use Rattle.std.specs.Option.{option_or}
use Rattle.serde_json.specs.Data.{Data}
use Rattle.json_view.specs.declared.error.JsonErr.{JsonErr}
use Rattle.json_view.specs.declared.error.JsonErr.TheVariants as json
use Rattle.json_view.specs.Reading.{reading}
use Rattle.json_view.specs.Answer.{Reads}
use Rattle.manifest.specs.declared.manifest.Manifest.{Manifest}
use Rattle.manifest.specs.declared.error.ManifestErr.{ManifestErr}
use Rattle.manifest.specs.declared.error.ManifestErr.TheVariants.{OutOfMemory}
use Rattle.manifest.specs.Parts.{manager_part}
use Rattle.manifest.specs.Faults.{wrongs, given_fault, last_fault, manifest_fault}
use Rattle.manifest.specs.Manifest.{parts_in, unless, manifest_of}
use Rattle.manifest.specs.Steps.{as_fault, MayFault, first_wrong}
use Rattle.manifest.proofs.Keys.{first_is_least}

abbrev MayRefuse : Result Manifest ManifestErr → ManifestErr → Type 0
MayRefuse meant e = (e ≡ OutOfMemory) ⊎ (meant ≡ Err e)

-- no JSON text is no manifest
pub no_view : (is_root : Bool) (bytes : List ℕ) (e : JsonErr) → Reads (reading bytes) (Err e) → MayRefuse (manifest_of is_root bytes) (as_fault e)
unfolding manifest_of
no_view is_root bytes json.NotJson reads = inr (rw reads refl)
no_view is_root bytes (json.WrongKind pointer wanted) reads = absurd reads
no_view is_root bytes (json.OpenComment at) reads = absurd reads
no_view is_root bytes json.OutOfMemory reads = inl refl

-- what is meant by a text, by its first fault
meant_by : (is_root : Bool) (bytes : List ℕ) (d : Data) → reading bytes ≡ Some d → manifest_of is_root bytes ≡ unless (option_or (first_wrong (wrongs is_root d)) (last_fault is_root d)) (parts_in d)
unfolding manifest_of manifest_fault
meant_by is_root bytes d reads = rw reads (ap (λ wrong. unless (option_or wrong (last_fault is_root d)) (parts_in d)) (first_is_least is_root d))

pub wrong_part : (is_root : Bool) (bytes : List ℕ) (d : Data) (e : ManifestErr) → reading bytes ≡ Some d → MayFault (first_wrong (wrongs is_root d)) e → MayRefuse (manifest_of is_root bytes) e
wrong_part is_root bytes d e reads (inl memory) = inl memory
wrong_part is_root bytes d e reads (inr wrong) = inr (meant_by is_root bytes d reads ∙ rw wrong refl)

pub wrong_text : (is_root : Bool) (bytes : List ℕ) (d : Data) (e : ManifestErr) → reading bytes ≡ Some d → first_wrong (wrongs is_root d) ≡ None → MayFault (last_fault is_root d) e → MayRefuse (manifest_of is_root bytes) e
wrong_text is_root bytes d e reads none (inl memory) = inl memory
wrong_text is_root bytes d e reads none (inr wrong) = inr (meant_by is_root bytes d reads ∙ rw (none, wrong) refl)

pub no_fault : (is_root : Bool) (bytes : List ℕ) (d : Data) → reading bytes ≡ Some d → first_wrong (wrongs is_root d) ≡ None → last_fault is_root d ≡ None → manifest_of is_root bytes ≡ Ok (parts_in d)
no_fault is_root bytes d reads none given = meant_by is_root bytes d reads ∙ rw (none, given) refl

-- the texts that are tried, by what was found
pub given_is : (is_root : Bool) (d : Data) (manifest : Manifest) (manager : Option (List ℕ)) → manifest ≡ parts_in d → manager_part is_root d ≡ Ok manager → given_fault is_root manifest.name manager ≡ last_fault is_root d
given_is is_root d manifest manager found named = rw (found, named) refl

-- Under which text the result of a task is kept, and which results can be kept (Turborepo docs, "Caching": results
-- are kept under a hash of all that they depend on; here the whole text counts and not only its hash).
use Rattle.std.specs.Prelude.{◌≡◌, ℕ, List, slice_get, Some}
use Rattle.listing.specs.KeyText.{key_text}
use Rattle.listing.specs.declared.part.Listing.{Listing}
use Rattle.spawn_dev.specs.declared.effect.Effect.{Effect}
use Rattle.run_laws.specs.Closures.{closure}
use Rattle.run_laws.specs.Effects.{Book}
use Rattle.run_core.specs.declared.states.Mode.{Mode}
use Rattle.run_laws.specs.declared.outcome.Outcome.TheVariants.{Done}
use Rattle.run_laws.specs.Clean.{clean}
use Rattle.cache_api.specs.Artifacts.{Artifact, IsTold}

-- the key text of the task and its ancestors
abbrev pub key_of : Listing → ℕ → List ℕ
key_of l i = key_text (closure l i)

abbrev pub artifact_of : Effect → Artifact
artifact_of effect = (effect.log, effect.files)

-- No command of this run writes a text or list of 2^32 or more bytes or members, nor a path that is none. It speaks of
-- what the commands do here, and not of what they would do with longer inputs.
abbrev pub IsStorable : Mode → Book → Listing → Type 0
IsStorable mode book l = (i : ℕ) (effect : Effect)
    → slice_get (clean mode book l) i ≡ Some (Done effect) → IsTold (artifact_of effect)

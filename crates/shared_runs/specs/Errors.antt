-- Errors of a turn and of an opening as a cache says them.
use Rattle.std.specs.Prelude.{◌≡◌, ◌⊎◌, Bool, true, false, Result, Err}
use Rattle.cache_api.specs.declared.error.CacheErr.{CacheErr}
use Rattle.cache_api.specs.declared.error.CacheErr.TheVariants as cache
use Rattle.artifact_store.specs.declared.error.OpenErr.{OpenErr}
use Rattle.artifact_store.specs.declared.error.OpenErr.TheVariants as store
use Rattle.shared_runs.specs.declared.turn.TurnErr.{TurnErr}
use Rattle.shared_runs.specs.declared.turn.TurnErr.TheVariants.{Failed, OutOfMemory}

abbrev pub of_turn : TurnErr → CacheErr
of_turn Failed = cache.Failed
of_turn OutOfMemory = cache.OutOfMemory

abbrev pub to_open : TurnErr → OpenErr
to_open Failed = store.Failed
to_open OutOfMemory = store.OutOfMemory

-- a file that is no store is a fault
abbrev pub of_opening : OpenErr → CacheErr
of_opening store.OutOfMemory = cache.OutOfMemory
of_opening _ = cache.Failed

-- the file is no store
abbrev pub is_damage : OpenErr → Bool
is_damage store.NotAStore = true
is_damage (store.Damaged at) = true
is_damage _ = false

-- what was answered is answered, or the turn was not ended well
abbrev pub OrFailed : {T : Type 0} → Result T CacheErr → Result T CacheErr → Type 0
OrFailed answer result = (result ≡ answer) ⊎ (result ≡ Err cache.Failed)

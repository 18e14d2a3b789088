-- The lockfile that bytes write.
use Rattle.std.specs.Prelude.{◌≡◌, ◌⊎◌, ℕ, List, [], ◌∷◌, ◌++◌, Option, Some, None, Result, Ok, Err, MatchResult}
use Rattle.serde_json.specs.Data.{Data}
use Rattle.serde_json.specs.View.{view}
use Rattle.json.specs.Layout.{pretty}
use Rattle.json.specs.Lex.{tokens}
use Rattle.serde_json.specs.Written.{IsInOrder}
use Rattle.json_view.specs.Reading.{reading}
use Rattle.lock_entries.specs.declared.error.LockErr.{LockErr}
use Rattle.lock_entries.specs.declared.error.LockErr.TheVariants.{NotJson, OutOfMemory}
use Rattle.lock_entries.specs.Lockfile.{lock_refusal}
use Rattle.npm_lock.specs.declared.lock.Lock.{Lock}
use Rattle.npm_lock.specs.declared.lock.TheConstants.{LINE_FEED}

abbrev pub unless : Data → Option LockErr → Result Data LockErr
unless d None = Ok d
unless d (Some refusal) = Err refusal

abbrev pub lock_in : Option Data → Result Data LockErr
lock_in None = Err NotJson
lock_in (Some d) = unless d (lock_refusal d)

-- the lockfile's value, or the first reason why the bytes write none
abbrev pub lock_of : List ℕ → Result Data LockErr
lock_of bytes = lock_in (reading bytes)

-- read as it is meant; want of memory may come at any time
abbrev pub Reads : Result Data LockErr → Result Lock LockErr → Type 0
Reads meant result = MatchResult result (λ lock. meant ≡ Ok (view lock)) (λ e. (e ≡ OutOfMemory) ⊎ (meant ≡ Err e))

-- the value in `serde_json`'s pretty layout, each member once and in order, with one line feed behind it
pub record IsPrinted (d : Data) (bytes : List ℕ) : Type 0 where
  pub text : List ℕ
  pub line_feed : bytes ≡ text ++ LINE_FEED ∷ []
  pub layout : text ≡ pretty (tokens text)
  pub order : IsInOrder text d

-- The tables of a run, and what its moves make of them.
use Rattle.std.specs.Prelude.{◌≡◌, ℕ, ◌<◌, ◌≤◌, Bool, true, false, List, length, Option, Some}
use Rattle.sha2.specs.Sha256.{sha256}
use Rattle.run_core.specs.declared.states.Next.TheVariants.{Finished}
use Rattle.run_core.specs.Core.{rules, states, has_command}
use Rattle.run_core.specs.Machine.{States, next, is_done, has_failed}
use Rattle.run_core.specs.Moves.{turns_left}
use Rattle.run_laws.specs.Ancestors.{part_at, has_script}
use Rattle.run_laws.specs.Closures.{in_closure}
use Rattle.run_laws.specs.Keys.{key_of}
use Rattle.run_plan.specs.declared.plan.Plan.{Plan}
use Rattle.run_plan.specs.Answers.{IsPrompt}
use Rattle.run_plan.specs.Openings.{rules_of}
use Rattle.run_plan.specs.Reports.{report_in}
use Rattle.run_plan.specs.Stories.{is_settled}
use Rattle.run_board.specs.declared.board.Board.{Board}
use Rattle.run_board.specs.Tables.{flag_in, fingerprint_in}

-- ---- tables

-- The flag of a task tells whether it and all its ancestors came to a good end, once it is done.
pub record IsFlag (plan : Plan) (st : States) (t : ℕ) (flag : Bool) : Type 0 where
  pub good : flag ≡ true → (a : ℕ) → in_closure plan.listing t a ≡ true
      → (is_done (st a) ≡ true) × (has_failed (st a) ≡ false)
  pub bad : flag ≡ false → is_done (st t) ≡ true
      → (a : ℕ) × (in_closure plan.listing t a ≡ true) × (has_failed (st a) ≡ true)

-- where the fingerprint is known, it is that of the task's key
abbrev pub IsKnown : Plan → ℕ → Option (List ℕ) → Type 0
IsKnown plan t known =
    (print : List ℕ) → known ≡ Some print → print ≡ sha256 (key_of plan.listing t)

-- the scheduler is over the plan's tasks, each table has room for all of them, and each flag and
-- fingerprint is right
pub record IsBoard (plan : Plan) (board : Board) : Type 0 where
  pub rules_are : rules board.core ≡ rules_of plan
  pub commands : has_command board.core ≡ (λ t. has_script (part_at plan.listing t))
  pub reports : length board.reports ≡ length plan.listing.parts
  pub logs : length board.logs ≡ length plan.listing.parts
  pub good : length board.good ≡ length plan.listing.parts
  pub fingerprints : length board.fingerprints ≡ length plan.listing.parts
  pub shown : board.shown ≤ length plan.listing.parts
  pub ahead : board.ahead ≤ length plan.listing.parts
  pub flags : (t : ℕ) → IsFlag plan (states board.core) t (flag_in board.good t)
  pub known : (t : ℕ) → IsKnown plan t (fingerprint_in board.fingerprints t)

-- all tasks before the next one to be shown are settled
abbrev pub ShowsSettled : Board → Type 0
ShowsSettled board = (u : ℕ) → u < board.shown → is_settled (states board.core u) ≡ true

-- such a board, of which all that can be shown was shown, and nothing else
pub record IsUpToDate (plan : Plan) (board : Board) : Type 0 where
  pub is_board : IsBoard plan board
  pub settled : ShowsSettled board
  pub prompt : IsPrompt plan (states board.core) board.shown

-- ---- moves

-- what is settled stays as it is, and nothing more is shown
pub record KeepsSettled (old new : Board) : Type 0 where
  pub shown : new.shown ≡ old.shown
  pub states_are : (u : ℕ) → is_settled (states old.core u) ≡ true
      → states new.core u ≡ states old.core u
  pub reports_are : (u : ℕ) → is_settled (states old.core u) ≡ true
      → report_in new.reports u ≡ report_in old.reports u

abbrev pub HasFewerTurns : Plan → Board → Board → Type 0
HasFewerTurns plan old new =
    turns_left (rules_of plan) (states new.core) < turns_left (rules_of plan) (states old.core)

-- one task moved on
pub record IsMove (plan : Plan) (old new : Board) : Type 0 where
  pub is_board : IsBoard plan new
  pub settled : KeepsSettled old new
  pub turns : HasFewerTurns plan old new

abbrev pub IsOver : Plan → Board → Type 0
IsOver plan board = next (rules_of plan) (states board.core) ≡ Finished

-- one task moved on, or the run is over
abbrev pub IsTurn : Plan → Board → Board → Bool → Type 0
IsTurn plan old new true = IsMove plan old new
IsTurn plan old new false = (new ≡ old) × IsOver plan old

-- the same, and all that can be shown was shown
pub record IsRound (plan : Plan) (old new : Board) (more : Bool) : Type 0 where
  pub current : IsUpToDate plan new
  pub turns : more ≡ true → HasFewerTurns plan old new
  pub kept : more ≡ false → states new.core ≡ states old.core
  pub over : more ≡ false → IsOver plan new

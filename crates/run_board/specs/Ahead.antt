-- Keys that are hashed ahead, together with one that is asked for or before one is.
use Rattle.std.specs.Prelude.{◌≡◌, ℕ, ◌<◌, ◌≤◌, Bool, true, false, ◌&&◌, not, List, ◌∷◌, ◌++◌, length, Option, is_none}
use Rattle.std.specs.List.{All, Contains}
use Rattle.run_laws.specs.Ancestors.{part_at, has_script}
use Rattle.run_plan.specs.declared.plan.Plan.{Plan}
use Rattle.run_plan.specs.Plans.{bypasses}
use Rattle.run_board.specs.declared.ahead.TheConstants.{KEYS_AHEAD}
use Rattle.run_board.specs.declared.board.Board.{Board}

-- the task's key will be asked for, and its fingerprint is not known
abbrev pub is_due : Plan → (ℕ → Option (List ℕ)) → ℕ → Bool
is_due plan known t =
    has_script (part_at plan.listing t) && not (bypasses plan t) && is_none (known t)

-- Behind the old places others were added that are due. From one place on, none that is due was left
-- out before the end.
pub record AddsDue (plan : Plan) (known : ℕ → Option (List ℕ)) (from end : ℕ) (old new : List ℕ)
    : Type 0 where
  pub others : List ℕ
  pub places_are : new ≡ old ++ others
  pub due : All (λ t. is_due plan known t ≡ true) others
  pub within : All (λ t. t < length plan.listing.parts) others
  pub all : (t : ℕ) → from ≤ t → t < end → is_due plan known t ≡ true → Contains others t
  pub few : length new ≤ KEYS_AHEAD
  pub behind : from ≤ end
  pub ends : end ≤ length plan.listing.parts

-- the first is the one that is asked for, the others are due, and all are the plan's
pub record ArePlacesAhead (plan : Plan) (known : ℕ → Option (List ℕ)) (place : ℕ)
    (places : List ℕ) : Type 0 where
  pub others : List ℕ
  pub first : places ≡ place ∷ others
  pub due : All (λ t. is_due plan known t ≡ true) others
  pub within : All (λ t. t < length plan.listing.parts) places
  pub few : length places ≤ KEYS_AHEAD

-- the fingerprints of these were learned, and none was forgotten
pub record Learns (old new : ℕ → Option (List ℕ)) (places : List ℕ) : Type 0 where
  pub these : All (λ t. is_none (new t) ≡ false) places
  pub kept : (t : ℕ) → is_none (old t) ≡ false → is_none (new t) ≡ false

-- no more than fingerprints was learned, and keys may be hashed further ahead
pub record HashesAhead (old new : Board) : Type 0 where
  pub core : new.core ≡ old.core
  pub reports : new.reports ≡ old.reports
  pub logs : new.logs ≡ old.logs
  pub good : new.good ≡ old.good
  pub shown : new.shown ≡ old.shown

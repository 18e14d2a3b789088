-- What taking and giving a turn leave of a file that several runs use.
use Rattle.std.specs.Prelude.{◌≡◌, ◌⊎◌, ◌≤◌, ℕ, Bool, true, false, List, Result, Ok, Err}
use Rattle.rel_path.specs.Causes.{Rose}
use Rattle.store_dev.specs.Device.{Only, Within}
use Rattle.store_dev.specs.declared.device.StoreDevice.{Ghosts}
use Rattle.record_log.specs.Kinds.{Entry}
use Rattle.record_log.specs.Frames.{reading, IsSound}
use Rattle.shared_runs.specs.declared.turn.TurnErr.{TurnErr}
use Rattle.shared_runs.specs.declared.turn.TurnErr.TheVariants.{Failed, OutOfMemory}

-- Whether the turn is held; the moment of the file as the last turn was asked for; and the moment
-- and the count of faults that the device of that turn had as it was handed out.
pub record Turn : Type 0 where
  pub held : Bool
  pub began : ℕ
  pub start : ℕ
  pub count : ℕ

-- the file failed, which it counts
abbrev pub is_fault : TurnErr → Bool
is_fault Failed = true
is_fault OutOfMemory = false

-- the turn is held exactly where it was taken
abbrev pub HeldAfter : {D : Type 0} → Result D TurnErr → Turn → Type 0
HeldAfter (Ok device) turn = turn.held ≡ true
HeldAfter (Err e) turn = turn.held ≡ false

-- the turn tells how its device was handed out, whose faults so far the file has counted
pub record IsTurnOf {D : Type 0} (G : Ghosts D) (turn : Turn) (faults : ℕ) (device : D)
    : Type 0 where
  pub start : turn.start ≡ G.moment device
  pub count : turn.count ≡ G.store_faults device
  pub counted : turn.count ≤ faults

-- the device holds what the file holds, and a crash leaves no more of it
pub record HoldsFile {D : Type 0} (G : Ghosts D) (file : List ℕ) (images : List ℕ → Type 0)
    (device : D) : Type 0 where
  pub same : G.content device ≡ file
  pub fewer : Within (G.images device) images

-- The file behind a turn that was taken: where it was sound it is a store of the frames that were
-- to come, and a crash leaves nothing else.
pub record IsTaken (old : List ℕ) (coming : List Entry) (new : List ℕ)
    (images : List ℕ → Type 0) : Type 0 where
  pub frames : IsSound old → reading new ≡ Ok coming
  pub durable : IsSound old → Only new images

-- The file's time goes on, and a crash at any moment of it leaves what has P: what a crash since an
-- earlier moment might have left is what it might have left before, and what it might have left in
-- that time.
pub record GoesOn {H : Type 0} (moment : H → ℕ) (since : H → ℕ → List ℕ → Type 0) (old new : H)
    (P : List ℕ → Type 0) : Type 0 where
  pub later : moment old ≤ moment new
  pub each : (c : List ℕ) → since new (moment old) c → P c
  pub nothing_else : (m : ℕ) (c : List ℕ) → m ≤ moment old → since new m c
      → since old m c ⊎ since new (moment old) c
  pub keeps : (m : ℕ) (c : List ℕ) → m ≤ moment old → since old m c → since new m c

-- the device did not fail from one count of faults to the other
abbrev pub NoFault : ℕ → ℕ → Type 0
NoFault before now = ¬ (Rose before now)

-- a crash during a turn leaves what it could leave as the turn was taken, or leaves of the device
abbrev pub LeftInTurn : (List ℕ → Type 0) → (List ℕ → Type 0) → List ℕ → Type 0
LeftInTurn images since c = images c ⊎ since c

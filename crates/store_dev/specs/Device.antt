-- What the calls of a device do to its bytes, and what a crash may leave between two syncs.
use Rattle.std.specs.Prelude.{◌<◌, ◌≡◌, ◌⊎◌, ℕ, ◌+◌, ◌≤◌, max, List, ◌++◌, length, take, drop, get_or}

abbrev pub AreBytes : List ℕ → Type 0
AreBytes bytes = (i : ℕ) → get_or bytes i 0 < 256

-- the old bytes with others written over them from an offset on, and past the end
abbrev pub put_at : List ℕ → ℕ → List ℕ → List ℕ
put_at old at bytes = take at old ++ bytes ++ drop (at + length bytes) old

-- new is old after the whole write
abbrev pub Holds : List ℕ → ℕ → List ℕ → List ℕ → Type 0
Holds old at bytes new = new ≡ put_at old at bytes

-- What a write of n bytes may leave that a crash or a fault cuts short. Within the old length all bytes outside the
-- range are the old ones. Past it there is any part, from none to what was written, and it may hold anything.
pub record Torn (at n : ℕ) (old new : List ℕ) : Type 0 where
  pub before : take at (take (length old) new) ≡ take at old
  pub after : drop (at + n) (take (length old) new) ≡ drop (at + n) old
  pub no_shorter : length old ≤ length new
  pub no_longer : length new ≤ max (length old) (at + n)

-- each new image comes from an old one by a step
abbrev pub Follows : (List ℕ → List ℕ → Type 0) → (List ℕ → Type 0) → (List ℕ → Type 0) → Type 0
Follows step old new = (c : List ℕ) → new c → (d : List ℕ) × old d × step d c

-- an image of before, after a step
abbrev pub After : (List ℕ → List ℕ → Type 0) → (List ℕ → Type 0) → List ℕ → Type 0
After step old c = (d : List ℕ) × old d × step d c

-- a crash leaves these bytes and nothing else
abbrev pub Only : List ℕ → (List ℕ → Type 0) → Type 0
Only bytes images = (c : List ℕ) → images c → c ≡ bytes

-- each of these images is one of those
abbrev pub Within : (List ℕ → Type 0) → (List ℕ → Type 0) → Type 0
Within new old = (c : List ℕ) → new c → old c

-- nothing changed
pub record SameWith (old new : List ℕ) (before now : List ℕ → Type 0) : Type 0 where
  pub bytes : new ≡ old
  pub images : Within now before

-- Time goes on: what a crash since m might have left is what it might have left before, together with what it may
-- leave now.
pub record Elapses (before now : ℕ) (past since : ℕ → List ℕ → Type 0) (images : List ℕ → Type 0) : Type 0 where
  pub later : before ≤ now
  pub nothing_else : (m : ℕ) (c : List ℕ) → m ≤ before → since m c → past m c ⊎ images c
  pub keeps : (m : ℕ) (c : List ℕ) → m ≤ before → past m c → since m c

-- Calls that only read: what a read gives is as before, and a crash leaves nothing that it could not leave before.
pub record OnlyReads {D : Type 0} (content : D → List ℕ) (images : D → List ℕ → Type 0) (moment : D → ℕ) (images_since : D → ℕ → List ℕ → Type 0) (old new : D) : Type 0 where
  pub same : content new ≡ content old
  pub fewer : Within (images new) (images old)
  pub time : Elapses (moment old) (moment new) (images_since old) (images_since new) (images old)

-- A crash at any moment since old leaves what has P. The parameter X is what a crash leaves: an image, or what an image
-- stands for.
pub record LeavesOnly {D X : Type 0} (moment : D → ℕ) (since : D → ℕ → X → Type 0) (old new : D) (P : X → Type 0) : Type 0 where
  pub later : moment old ≤ moment new
  pub each : (c : X) → since new (moment old) c → P c
  -- for what began earlier
  pub before : (m : ℕ) (c : X) → m ≤ moment old → since new m c → since old m c ⊎ P c

-- The same over any clock: a crash at any moment from start to end leaves what has P, where `past` says what it might
-- have left up to start since each moment, and `since` what it might have left up to end.
pub record LeavesBetween {T X : Type 0} (no_later : T → T → Type 0) (start end : T)
    (past since : T → X → Type 0) (P : X → Type 0) : Type 0 where
  pub later : no_later start end
  pub each : (c : X) → since start c → P c
  -- for what began earlier
  pub before : (m : T) (c : X) → no_later m start → since m c → past m c ⊎ P c

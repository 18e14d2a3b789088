-- What a record of writes and syncs says of a device in memory: how it reads, and what a crash may leave.
use Rattle.std.specs.Prelude.{◌≡◌, ◌⊎◌, ◌==◌, ℕ, zero, suc, ◌+◌, List, [], ◌∷◌, length, take, drop, replicate, if◌then◌else◌}
use Rattle.store_dev.specs.declared.step.Step.{Step}
use Rattle.store_dev.specs.declared.step.Step.TheVariants.{Wrote, Synced}
use Rattle.store_dev.specs.Device.{put_at, Torn, After}

-- how the device reads after a step
abbrev pub next : List ℕ → Step → List ℕ
next bytes (Wrote at w) = put_at bytes at w.items
next bytes Synced = bytes

-- and after several
abbrev pub after : List ℕ → List Step → List ℕ
after bytes [] = bytes
after bytes (s ∷ steps) = after (next bytes s) steps

-- what a crash may leave after a step: a write is torn, and a sync makes the bytes last
abbrev pub next_images : List ℕ → (List ℕ → Type 0) → Step → List ℕ → Type 0
next_images bytes images (Wrote at w) = After (Torn at (length w.items)) images
next_images bytes images Synced = λ c. c ≡ bytes

-- and after several
abbrev pub MayLeave : List ℕ → (List ℕ → Type 0) → List Step → List ℕ → Type 0
MayLeave bytes images [] c = images c
MayLeave bytes images (s ∷ steps) c = MayLeave (next bytes s) (next_images bytes images s) steps c

-- what a crash may leave after that many of the steps, or later
abbrev pub MayLeaveSince : List ℕ → (List ℕ → Type 0) → List Step → ℕ → List ℕ → Type 0
MayLeaveSince bytes images [] m c = images c
MayLeaveSince bytes images (s ∷ steps) zero c = images c ⊎ MayLeaveSince (next bytes s) (next_images bytes images s) steps zero c
MayLeaveSince bytes images (s ∷ steps) (suc m) c = MayLeaveSince (next bytes s) (next_images bytes images s) steps m c

-- the bytes before the first step: those that the device reads as where there is none, else those that were put by
abbrev pub origin : List ℕ → List ℕ → List Step → List ℕ
origin bytes first [] = bytes
origin bytes first (s ∷ steps) = first

-- a device that was synced leaves what it reads as
abbrev pub ImagesFrom : List ℕ → List Step → List ℕ → Type 0
ImagesFrom start steps c = MayLeave start (λ d. d ≡ start) steps c

abbrev pub SinceFrom : List ℕ → List Step → ℕ → List ℕ → Type 0
SinceFrom start steps m c = MayLeaveSince start (λ d. d ≡ start) steps m c

-- 1 for a sync
abbrev pub syncs : Step → ℕ
syncs (Wrote _ _) = 0
syncs Synced = 1

-- how many of the steps there are up to the last sync, that one among them
abbrev pub synced : List Step → ℕ
synced [] = 0
synced (s ∷ steps) = if synced steps == 0 then syncs s else suc (synced steps)

-- the bytes after writes of which nothing but the range is left, each range filled with one byte, and all cut to a length
abbrev pub filled : ℕ → ℕ → List ℕ → List Step → List ℕ
filled fill most bytes [] = bytes
filled fill most bytes (Wrote at w ∷ steps) = filled fill most (take most (put_at bytes at (replicate (length w.items) fill))) steps
filled fill most bytes (Synced ∷ steps) = filled fill most bytes steps

-- the bytes as of the last sync
abbrev pub settled : List ℕ → List Step → List ℕ
settled start steps = after start (take (synced steps) steps)

-- The image of a crash in which each byte that was written since the last sync is `fill`, and so many bytes stand past
-- the synced end, where so many were written.
abbrev pub crash_of : ℕ → ℕ → List ℕ → List Step → List ℕ
crash_of fill keep start steps = filled fill (length (settled start steps) + keep) (settled start steps) (drop (synced steps) steps)

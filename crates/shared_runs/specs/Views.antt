-- What a run sees of a file that others append to: the pairs of its first turn and those that it
-- put itself.
use Rattle.std.specs.List.{All}
use Rattle.std.specs.Prelude.{◌≡◌, ◌⊎◌, ℕ, ◌≤◌, ◌<◌, Bool, false, List, length, Option, Some}
use Rattle.cache_api.specs.Pairs.{Pair}
use Rattle.record_log.specs.Frames.{frames_of, IsSound}
use Rattle.pair_frames.specs.Pairs.{pairs_in}
use Rattle.artifact_store.specs.Pairs.{free_in}
use Rattle.pair_index.specs.declared.seen.SeenPairs.{SeenPairs}
use Rattle.pair_index.specs.Seen.{seen_pairs}
use Rattle.shared_runs.specs.Frames.{HoldsOn, HoldsFirst}

-- the pairs in a file
abbrev pub pairs_at : List ℕ → List Pair
pairs_at bytes = pairs_in (frames_of bytes)

-- those of them that the run sees
abbrev pub view_of : SeenPairs → List ℕ → List Pair
view_of seen bytes = seen_pairs seen (pairs_at bytes)

-- no pair from that number on is seen
pub record SeesBelow (seen : SeenPairs) (n : ℕ) : Type 0 where
  pub first : seen.first ≤ n
  pub own : All (λ k. k < n) seen.own

-- an image stands for a front of the file's frames
abbrev pub IsFrontOf : List ℕ → List ℕ → Type 0
IsFrontOf file image = HoldsFirst 0 (frames_of file) image

-- An image is one that the run leaves: a front of the file; or an image of its last turn in which
-- more stands than in the file, where a call of that turn failed.
abbrev pub IsLeft : Bool → (List ℕ → Type 0) → List ℕ → List ℕ → Type 0
IsLeft whole in_turn file image = IsFrontOf file image
    ⊎ ((whole ≡ false) × (in_turn image × HoldsOn (frames_of file) image))

-- It says the pairs in it that the run sees. What any other image says is not known: what holds of
-- all that images say holds only where each image is one that the run leaves.
abbrev pub Says : Bool → (List ℕ → Type 0) → SeenPairs → List ℕ → List ℕ → Option (List Pair)
    → Type 0
Says whole in_turn seen file image said =
    IsLeft whole in_turn file image → said ≡ Some (view_of seen image)

-- The file is a store, the run sees no more pairs of its first turn than it has, and its frames
-- leave no more room than the run knows.
pub record Sees (seen : SeenPairs) (room : ℕ) (file : List ℕ) : Type 0 where
  pub sound : IsSound file
  pub first : seen.first ≤ length (pairs_at file)
  pub free : free_in file ≤ room

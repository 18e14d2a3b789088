-- What the bytes of a file stand for beside those of the same file at another moment.
use Rattle.std.specs.Prelude.{◌≡◌, ◌⊎◌, ◌≤◌, ℕ, List, ◌++◌, length, take, Ok}
use Rattle.record_log.specs.Kinds.{Entry}
use Rattle.record_log.specs.Frames.{reading, frames_of, IsSound, ReadsAsOneOf}

-- frames follow these ones, none or more
abbrev pub StartWith : List Entry → List Entry → Type 0
StartWith fs all = (more : List Entry) × (all ≡ fs ++ more)

-- the bytes are a store whose frames begin with these
abbrev pub HoldsOn : List Entry → List ℕ → Type 0
HoldsOn fs bytes = (more : List Entry) × (reading bytes ≡ Ok (fs ++ more))

-- the bytes stand for the first of these frames, which are at least so many
abbrev pub HoldsFirst : ℕ → List Entry → List ℕ → Type 0
HoldsFirst least all bytes =
    (n : ℕ) × (least ≤ n) × (n ≤ length all) × (reading bytes ≡ Ok (take n all))

-- The bytes are read as one of these images is, or they stand for the frames of a file that is
-- sound with the first of those behind them.
abbrev pub HoldsOneOrMore : (List ℕ → Type 0) → List ℕ → List Entry → List ℕ → Type 0
HoldsOneOrMore images file all bytes = ReadsAsOneOf images bytes
    ⊎ (IsSound file × HoldsFirst (length (frames_of file)) all bytes)

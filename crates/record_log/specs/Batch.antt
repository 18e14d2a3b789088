-- Frames that are appended together.
use Rattle.std.specs.Prelude.{◌≡◌, ◌<◌, ◌⊎◌, ℕ, ◌^◌, ◌-◌, min, true, List, [], ◌∷◌, ◌++◌, length, map, Ok}
use Rattle.record_log.specs.declared.frame.NewFrame.{NewFrame}
use Rattle.record_log.specs.Kinds.{Entry, entry, is_known, limit_of}
use Rattle.record_log.specs.Frames.{opened, reading}

-- a frame without where its bytes lie in memory
abbrev pub new_entry : NewFrame → Entry
new_entry f = entry f.kind f.key.now f.value.now

abbrev pub new_entries : List NewFrame → List Entry
new_entries frames = map new_entry frames

-- each is of a known kind
abbrev pub AllKnown : List Entry → Type 0
AllKnown [] = Unit {0}
AllKnown (e ∷ es) = (is_known e.kind ≡ true) × AllKnown es

-- key and value of each are as short as its kind asks
abbrev pub EachWithin : List Entry → Type 0
EachWithin [] = Unit {0}
EachWithin (e ∷ es) =
    (length e.key < limit_of e.kind) × (length e.value < limit_of e.kind) × EachWithin es

-- what they take in a store, each with a gate, or 2^64 - 1 where that is more
abbrev pub room_for_all : List Entry → ℕ
room_for_all es = min (length (opened es)) (2 ^ 64 - 1)

-- the bytes stand for these frames, or for these and all the new ones
abbrev pub IsBeforeOrAll : List Entry → List Entry → List ℕ → Type 0
IsBeforeOrAll es all c = (reading c ≡ Ok es) ⊎ (reading c ≡ Ok (es ++ all))

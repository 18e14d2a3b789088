-- What the bytes of a store stand for: eight bytes of magic, and then gates with a frame behind each that is open.
use Rattle.std.specs.Prelude.{◌≡◌, ◌≢◌, ◌⊎◌, ◌<◌, ℕ, zero, suc, ◌+◌, Bool, true, ◌&&◌, ◌==◌, if◌then◌else◌, nat_lt, List, [], ◌∷◌, ◌++◌, length, take, drop, get_or, Some, None, Result, Ok, Err, codes}
use Rattle.std.specs.Str.{bytes_eq}
use Rattle.record_log.specs.Kinds.{Entry, has_form, text, size, frame_at}

-- why bytes are no store
pub data Fault : Type 0 where
  NotAStore : Fault
  -- with the offset of the frame's kind byte
  Damaged : ℕ → Fault

-- Goes over the bytes from an offset on, of which so many are passed by first, and gathers the frames. A gate that is 1
-- is open, and the first one that is not ends the store.
abbrev pub walk : List Entry → ℕ → ℕ → List ℕ → Result (List Entry) Fault
walk before at (suc skip) (_ ∷ rest) = walk before (at + 1) skip rest
walk before at zero (gate ∷ rest) =
    if gate == 1
    then (elim (frame_at before rest) [
      | Some e ↦ walk (before ++ e ∷ []) (at + 1) (size e) rest
      | None ↦ Err (Damaged (at + 1))
    ])
    else Ok before
walk before at skip [] = Ok before

-- how a store begins
abbrev pub magic : List ℕ
magic = codes "TURBSTO1"

-- The frames of a store, or why the bytes are none. At most nine bytes are an empty store, whatever they are.
unfoldable pub reading : List ℕ → Result (List Entry) Fault
reading bytes =
    if nat_lt 9 (length bytes)
    then (if bytes_eq (take 8 bytes) magic then walk [] 8 0 (drop 8 bytes) else Err NotAStore)
    else Ok []

-- the frames that count, and none where the bytes are no store
unfoldable pub frames_of : List ℕ → List Entry
frames_of bytes = elim (reading bytes) [ Ok es ↦ es | Err _ ↦ [] ]

-- frames one after another, each behind an open gate
abbrev pub opened : List Entry → List ℕ
opened [] = []
opened (e ∷ es) = 1 ∷ (text e ++ opened es)

-- each of them has its form behind those before it
abbrev pub all_formed : List Entry → List Entry → Bool
all_formed before [] = true
all_formed before (e ∷ es) = has_form before e && all_formed (before ++ e ∷ []) es

-- the bytes of a store with these frames, without the gate behind them
abbrev pub text_of : List Entry → List ℕ
text_of es = magic ++ opened es

-- where the frames end, with the gate behind them
abbrev pub ends : List Entry → ℕ
ends es = 9 + length (opened es)

-- The bytes are these frames behind open gates, and at that place a gate that is not open. Whatever follows it is
-- nothing.
pub record AtRest (bytes : List ℕ) (es : List Entry) (end : ℕ) : Type 0 where
  pub split : bytes ≡ magic ++ (opened es ++ drop end bytes)
  pub place : end ≡ 8 + length (opened es)
  pub inside : end < length bytes
  pub closed : get_or bytes end 0 ≢ 1
  pub formed : all_formed [] es ≡ true

-- the bytes stand for these frames, or for these and one more
abbrev pub IsBeforeOrAfter : List Entry → Entry → List ℕ → Type 0
IsBeforeOrAfter es e bytes = (reading bytes ≡ Ok es) ⊎ (reading bytes ≡ Ok (es ++ e ∷ []))

-- the bytes stand for what one of these images stands for
abbrev pub ReadsAsOneOf : (List ℕ → Type 0) → List ℕ → Type 0
ReadsAsOneOf images c = (d : List ℕ) × images d × (reading c ≡ reading d)

-- a frame stands at that offset, with a gate behind it
pub record Stands (bytes : List ℕ) (at : ℕ) (e : Entry) : Type 0 where
  pub here : drop at bytes ≡ text e ++ drop (at + size e) bytes
  pub room : at + size e < length bytes

-- the frame with that number
abbrev pub IsAt : List Entry → ℕ → Entry → Type 0
IsAt es number e = (number < length es) × (e ≡ get_or es number e)

-- or for no frames
abbrev pub ReadsAsOneOrNone : (List ℕ → Type 0) → List ℕ → Type 0
ReadsAsOneOrNone images c = ReadsAsOneOf images c ⊎ (reading c ≡ Ok [])

-- the bytes are a store
abbrev pub IsSound : List ℕ → Type 0
IsSound bytes = reading bytes ≡ Ok (frames_of bytes)

-- What a device holds after it was opened as a store: what it held, or an empty store in the place of at most nine bytes.
pub record IsOpenedAs (old new : List ℕ) : Type 0 where
  pub frames : reading old ≡ Ok (frames_of new)
  pub empty : length old < 10 → new ≡ magic ++ 0 ∷ []
  pub same : 9 < length old → new ≡ old

-- Where frames stand in a device.
use Rattle.std.specs.Prelude.{◌≡◌, ◌<◌, ◌≤◌, ℕ, ◌+◌, ◌-◌, ◌^◌, min, true, List, [], ◌∷◌, length, take, drop}
use Rattle.rel_path.specs.declared.span.Span.{Span}
use Rattle.record_log.specs.declared.seat.Seat.{Seat}
use Rattle.record_log.specs.declared.kind.TheConstants.{GATE}
use Rattle.record_log.specs.Kinds.{Entry, head_of, limit_of, lens_fit, size, told}

-- the seat of a frame at that offset
abbrev pub seat_of : ℕ → Entry → Seat
seat_of at e =
    record { kind = e.kind; at = at; key_len = length e.key; value_len = length e.value }

-- the seats of frames one after another, where the first gate is at that place
abbrev pub seats_from : ℕ → List Entry → List Seat
seats_from gate [] = []
seats_from gate (e ∷ es) = seat_of (gate + 1) e ∷ seats_from (gate + 1 + size e) es

-- how many bytes the frame has
abbrev pub seat_size : Seat → ℕ
seat_size seat = head_of seat.kind + (seat.key_len + seat.value_len)

-- a sum in a `u64`, which stops at the last value
abbrev pub capped : ℕ → ℕ → ℕ
capped a b = min (a + b) (2 ^ 64 - 1)

-- where key and value stand
abbrev pub key_span : Seat → Span
key_span seat = record { at = capped seat.at (head_of seat.kind); len = seat.key_len }

abbrev pub value_span : Seat → Span
value_span seat =
    record { at = capped (capped seat.at (head_of seat.kind)) seat.key_len; len = seat.value_len }

-- The seat tells where the parts of the frame stand in these bytes, a gate behind them.
pub record IsSeatOf (bytes : List ℕ) (seat : Seat) (e : Entry) : Type 0 where
  pub is : seat ≡ seat_of seat.at e
  pub key : take (length e.key) (drop (seat.at + head_of e.kind) bytes) ≡ e.key
  pub value : take (length e.value) (drop (seat.at + head_of e.kind + length e.key) bytes)
      ≡ e.value
  pub room : seat.at + (head_of e.kind + (length e.key + length e.value)) < length bytes

-- these bytes, up to their end, begin so at that offset
pub record IsFront (head bytes : List ℕ) (at room : ℕ) : Type 0 where
  pub front : head ≡ take (length head) (drop at bytes)
  pub len : at + room ≡ length bytes

-- the frame that the bytes tell of there fits, and has lengths that its kind may have
pub record IsLaid (bytes : List ℕ) (seat : Seat) : Type 0 where
  pub stands : IsSeatOf bytes seat (told (drop seat.at bytes))
  pub lens : lens_fit seat.kind seat.key_len seat.value_len ≡ true
  pub key : seat.key_len < limit_of seat.kind
  pub value : seat.value_len < limit_of seat.kind

-- a range of the text of frames, behind its first gate
pub record IsWithin (text : List ℕ) (at n : ℕ) : Type 0 where
  pub behind : GATE < at
  pub inside : at + n ≤ length text

-- the range shows these bytes
pub record IsSpanOf (text : List ℕ) (span : Span) (bytes : List ℕ) : Type 0 where
  pub within : IsWithin text span.at span.len
  pub len : span.len ≡ length bytes
  pub shows : take span.len (drop span.at text) ≡ bytes

-- The frames of a store by their kinds, and the bytes of one frame.
use Rattle.std.specs.Prelude.{ℕ, ◌+◌, ◌-◌, ◌^◌, min, Bool, true, ◌&&◌, ◌||◌, ◌==◌, if◌then◌else◌, nat_lt, nat_le, List, [], ◌∷◌, ◌++◌, length, take, drop, Option, Some, None}
use Rattle.std.specs.Int.{Width, w64, byte_len, from_le_bytes, to_le_bytes}
use Rattle.record_log.specs.declared.kind.TheConstants.{PAIR, CONTENT, RECORD, LONG_RECORD, GENERATION, DIGEST_BYTES, GENERATION_BYTES, HEAD, LONG_HEAD}
use Rattle.record_log.specs.Pieces.{width, both_below, record_of}

-- a frame, without where it stands
pub record Entry : Type 0 where
  pub kind : ℕ
  pub key : List ℕ
  pub value : List ℕ

-- the frame with these parts
abbrev pub entry : ℕ → List ℕ → List ℕ → Entry
entry kind key value = record { kind = kind; key = key; value = value }

-- the numbers of a frame of kind 4 have eight bytes, and those of any other kind four
abbrev pub is_long : ℕ → Bool
is_long kind = kind == LONG_RECORD

abbrev pub width_of : ℕ → Width
width_of kind = width (is_long kind)

-- key and value are shorter than this
abbrev pub limit_of : ℕ → ℕ
limit_of kind = if is_long kind then 2 ^ 64 else 2 ^ 32

-- how many bytes tell the kind and the lengths
abbrev pub head_of : ℕ → ℕ
head_of kind = if is_long kind then LONG_HEAD else HEAD

-- the kinds that are written and read
abbrev pub is_known : ℕ → Bool
is_known kind = nat_le PAIR kind && nat_le kind GENERATION

-- the frames of kind 2, which hold contents, and how many of them there are
abbrev pub blobs_in : List Entry → List Entry
blobs_in [] = []
blobs_in (e ∷ es) = if e.kind == CONTENT then e ∷ blobs_in es else blobs_in es

unfoldable pub blobs : List Entry → ℕ
blobs es = length (blobs_in es)

-- how many contents there are behind a frame of that kind, counted in a `u64`
abbrev pub contents_after : ℕ → ℕ → ℕ
contents_after contents kind =
    if kind == CONTENT then min (contents + 1) (2 ^ 64 - 1) else contents

-- the kinds whose value is the pieces of a pair
abbrev pub holds_record : ℕ → Bool
holds_record kind = (kind == RECORD) || (kind == LONG_RECORD)

-- Whether key and value have the lengths that a kind asks for: those of a pair may be any, a content and a record stand
-- behind a digest, and a generation is a number of eight bytes.
abbrev pub lens_fit : ℕ → ℕ → ℕ → Bool
lens_fit kind key value =
    (kind == PAIR)
    || ((((kind == CONTENT) || holds_record kind) && (key == DIGEST_BYTES))
    || ((kind == GENERATION) && ((key == GENERATION_BYTES) && (value == 0))))

-- whether a record's value is one, and names none but the contents before it, of which there are so many
abbrev pub value_fits : ℕ → ℕ → List ℕ → Bool
value_fits contents kind value =
    if holds_record kind then both_below contents (record_of (width_of kind) value) else true

-- whether a frame has its kind's form, where so many contents stand before it
unfoldable pub form : ℕ → Entry → Bool
form contents e =
    lens_fit e.kind (length e.key) (length e.value) && value_fits contents e.kind e.value

-- a frame that may stand behind these
unfoldable pub has_form : List Entry → Entry → Bool
has_form before e =
    form (blobs before) e
    && (nat_lt (length e.key) (limit_of e.kind) && nat_lt (length e.value) (limit_of e.kind))

-- the bytes of a frame whose lengths have that width: kind, both lengths, key and value
abbrev pub text_in : Width → Entry → List ℕ
text_in w e =
    e.kind ∷ (to_le_bytes w (length e.key) ++ (to_le_bytes w (length e.value) ++ (e.key ++ e.value)))

-- how many they are
abbrev pub size_in : Width → Entry → ℕ
size_in w e = 1 + (byte_len w + (byte_len w + (length e.key + length e.value)))

unfoldable pub text : Entry → List ℕ
text e = text_in (width_of e.kind) e

unfoldable pub size : Entry → ℕ
size e = size_in (width_of e.kind) e

-- the generation that a store has, where it had this one before the frame
abbrev pub generation_after : ℕ → Entry → ℕ
generation_after last e = if e.kind == GENERATION then from_le_bytes w64 e.key else last

-- behind such frames it is that of the last frame of kind 5
abbrev pub generation_from : ℕ → List Entry → ℕ
generation_from last [] = last
generation_from last (e ∷ es) = generation_from (generation_after last e) es

-- of a store with these frames, and 0 where none of them tells it
unfoldable pub generation_of : List Entry → ℕ
generation_of es = generation_from 0 es

-- what a frame takes in the store, with the gate behind it, or 2^64 - 1 where that is more
abbrev pub room_for : Entry → ℕ
room_for e = min (size e + 1) (2 ^ 64 - 1)

-- the lengths that stand behind a kind, and what follows them
abbrev pub key_len : Width → List ℕ → ℕ
key_len w tail = from_le_bytes w (take (byte_len w) tail)

abbrev pub value_len : Width → List ℕ → ℕ
value_len w tail = from_le_bytes w (take (byte_len w) (drop (byte_len w) tail))

abbrev pub body : Width → List ℕ → List ℕ
body w tail = drop (byte_len w) (drop (byte_len w) tail)

-- the frame that a kind and what follows it tell of
abbrev pub entry_in : Width → ℕ → List ℕ → Entry
entry_in w kind tail = record {
  kind = kind;
  key = take (key_len w tail) (body w tail);
  value = take (value_len w tail) (drop (key_len w tail) (body w tail));
}

-- the frame that the front of the bytes tells of, whole or not
abbrev pub told : List ℕ → Entry
told [] = entry 0 [] []
told (kind ∷ tail) = entry_in (width_of kind) kind tail

-- it stands there where it is whole, a gate follows it and it has its kind's form
unfoldable pub frame_in : Width → List Entry → ℕ → List ℕ → Option Entry
frame_in w before kind tail =
    if nat_lt (length (body w tail)) (1 + (key_len w tail + value_len w tail))
    then None
    else (if has_form before (entry_in w kind tail) then Some (entry_in w kind tail) else None)

-- the frame at the front of the bytes, behind the frames before it
unfoldable pub frame_at : List Entry → List ℕ → Option Entry
frame_at before [] = None
frame_at before (kind ∷ tail) = frame_in (width_of kind) before kind tail

-- Keys that were read and are not yet hashed.
use Rattle.std.specs.Prelude.{◌≡◌, ◌<◌, ℕ, List, [], ◌∷◌, ◌++◌, map, take, length, get_or, Option, Some, None}
use Rattle.std.specs.List.{flat_map}
use Rattle.cache_api.specs.Pairs.{Pair}
use Rattle.record_log.specs.Kinds.{Entry}
use Rattle.pair_frames.specs.Pairs.{pairs_in}
use Rattle.pair_frames.specs.Reading.{record_places}
use Rattle.pair_reader.specs.declared.wanted.Lengths.{Lengths}
use Rattle.pair_reader.specs.declared.key.KeyText.{KeyText}
use Rattle.pair_reader.specs.Answers.{text_where}
use Rattle.pair_index.specs.declared.batch.Batch.{Batch}
use Rattle.pair_index.specs.Keys.{len_of, is_hashed}

-- what is read of the key of a pair
abbrev pub key_of : Lengths → Pair → KeyText
key_of lengths pair =
    record { len = len_of pair; text = text_where (is_hashed lengths pair) pair.0 }

-- the text that was read of a key, or none
abbrev pub listed_text : Option (List ℕ) → List (List ℕ)
listed_text None = []
listed_text (Some text) = text ∷ []

abbrev pub text_in : KeyText → List (List ℕ)
text_in key = listed_text key.text

-- the texts that were read of keys
abbrev pub texts_of : List KeyText → List (List ℕ)
texts_of keys = flat_map text_in keys

-- the numbers of its frames are below that of the next one
abbrev pub NumbersBelow : Batch → Type 0
NumbersBelow batch =
    (i : ℕ) → i < length batch.numbers.items → get_or batch.numbers.items i 0 < batch.next

-- the pairs of these frames from the first of the batch up to the next one
pub record IsBatchOf (lengths : Lengths) (fs : List Entry) (first : ℕ)
    (batch : Batch) : Type 0 where
  pub pairs : List Pair
  pub places : record_places 0 (take batch.next fs)
      ≡ record_places 0 (take first fs) ++ batch.numbers.items
  pub pairs_are : pairs_in (take batch.next fs) ≡ pairs_in (take first fs) ++ pairs
  pub keys : batch.keys.items ≡ map (key_of lengths) pairs

-- What becomes of pairs that are put.
use Rattle.std.specs.Prelude.{ℕ, Bool, ◌&&◌, if◌then◌else◌, nat_lt, List, map}
use Rattle.std.specs.List.{list_all}
use Rattle.cache_api.specs.declared.puts.Put.{Put}
use Rattle.cache_api.specs.declared.puts.Put.TheVariants.{Stored}
use Rattle.cache_api.specs.Pairs.{Pair}
use Rattle.record_log.specs.Kinds.{Entry}
use Rattle.pair_frames.specs.Puts.{fit}
use Rattle.pair_writer.specs.Putting.{put_of}

-- each byte is below this
abbrev pub byte_limit : ℕ
byte_limit = 256

abbrev pub are_bytes : List ℕ → Bool
are_bytes bytes = list_all (λ byte. nat_lt byte byte_limit) bytes

-- the texts of each pair are bytes, as those of all pairs are that a program has
abbrev pub are_texts : List Pair → Bool
are_texts pairs = list_all (λ pair. are_bytes pair.0 && are_bytes pair.1) pairs

-- Which of them fit, where there is so much room behind these frames. Of what are no texts nothing is
-- said to want room.
unfoldable pub outcomes : ℕ → List Entry → List Pair → List Put
outcomes room fs pairs =
    if are_texts pairs then map put_of (fit room fs pairs) else map (λ pair. Stored) pairs

-- Prints of keys that are found quickly. Equal keys have equal ones, and other keys mostly others.
use Rattle.std.specs.Prelude.{ℕ, ◌+◌, ◌*◌, ◌%◌, ◌/◌, ◌^◌, ◌++◌, List, length, drop, replicate}
use Rattle.std.specs.Int.{w64, rotate_left, from_le_bytes, to_le_bytes}
use Rattle.std.specs.List.{fold}
use Rattle.std.specs.Simd.{first_chunks}
use Rattle.compact.specs.declared.quick.TheConstants.{FACTOR}

-- a print with a number more
abbrev pub mixed : ℕ → ℕ → ℕ
mixed print number = (rotate_left w64 print 5 + number) % 2 ^ 64 * FACTOR % 2 ^ 64

-- the same with more words of eight bytes each, and with more bytes
abbrev pub with_words : ℕ → List (List ℕ) → ℕ
with_words print words = fold (λ p word. mixed p (from_le_bytes w64 word)) print words

abbrev pub with_bytes : ℕ → List ℕ → ℕ
with_bytes print bytes = fold mixed print bytes

-- the length, the words and the bytes behind them
abbrev pub quick_number : List ℕ → ℕ
quick_number key =
    with_bytes (with_words (length key) (first_chunks 8 (length key / 8) key)) (drop (length key / 8 * 8) key)

-- as long as a digest
unfoldable pub quick_print : List ℕ → List ℕ
quick_print key = to_le_bytes w64 (quick_number key) ++ replicate 24 0

-- The digits that are printed of a fingerprint (a form of this project's own).
use Rattle.std.specs.Prelude.{List, ℕ, take}
use Rattle.hex.specs.Hex.{encode_lower}

-- the first 16 of the 64 lower-case hexadecimal digits
unfoldable pub printed : List ℕ → List ℕ
printed print = take 16 (encode_lower print)

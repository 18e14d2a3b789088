-- Words around a character.
use Rattle.std.specs.Prelude.{ℕ, Bool, false, ◌==◌, List, [], ◌∷◌, Option, Some, None, if◌then◌else◌}

abbrev pub dash : ℕ
dash = 45

abbrev pub equals : ℕ
equals = 61

abbrev pub comma : ℕ
comma = 44

abbrev pub zero_digit : ℕ
zero_digit = 48

abbrev pub begins_with : ℕ → List ℕ → Bool
begins_with mark [] = false
begins_with mark (b ∷ rest) = b == mark

-- in front of the first such character
unfoldable pub before : ℕ → List ℕ → List ℕ
before mark [] = []
before mark (b ∷ rest) = if b == mark then [] else b ∷ before mark rest

-- behind it, where there is one
unfoldable pub behind : ℕ → List ℕ → Option (List ℕ)
behind mark [] = None
behind mark (b ∷ rest) = if b == mark then Some rest else behind mark rest

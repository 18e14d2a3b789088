-- Patterns of names of variables, as in Turborepo's `env` and `passThroughEnv`: `*` stands for any run of characters, `\*` and `\!` are the characters. Names and patterns are texts in UTF-8, in which a run of bytes between whole characters is a run of characters.
use Rattle.std.specs.Prelude.{◌≡◌, ◌==◌, ℕ, Bool, true, false, ◌&&◌, ◌||◌, List, [], ◌∷◌, if◌then◌else◌}
use Rattle.wildcards.specs.Bytes.{asterisk, is_star as is_star_byte}
use Rattle.wildcards.specs.Spells.{Spells, spells}
use Rattle.env_select.specs.declared.pattern.Sign.{Sign}
use Rattle.env_select.specs.declared.pattern.Sign.TheVariants.{Star, Byte}

-- ---- reading

abbrev pub exclamation_mark : ℕ
exclamation_mark = 33

abbrev pub backslash : ℕ
backslash = 92

-- `\*` and `\!`
abbrev pub is_quoted : ℕ → ℕ → Bool
is_quoted b c = b == backslash && (c == asterisk || c == exclamation_mark)

abbrev pub sign_of : ℕ → Sign
sign_of b = if is_star_byte b then Star else Byte b

-- the signs that bytes write
abbrev pub signs_of : List ℕ → List Sign
signs_of [] = []
signs_of (b ∷ []) = sign_of b ∷ []
signs_of (b ∷ c ∷ bs) = if is_quoted b c then Byte c ∷ signs_of bs else sign_of b ∷ signs_of (c ∷ bs)

-- ---- matching, as a relation

abbrev pub is_star : Sign → Bool
is_star Star = true
is_star (Byte c) = false

-- the sign takes this one byte
abbrev pub TakesByte : Sign → ℕ → Type 0
TakesByte Star b = ⊥
TakesByte (Byte c) b = b ≡ c

-- the signs take the whole name: a `*` any run of bytes, every other sign one
abbrev pub SpellsName : List Sign → List ℕ → Type 0
SpellsName signs name = Spells is_star TakesByte signs name

-- ---- and as a test

abbrev pub takes_byte : Sign → ℕ → Bool
takes_byte Star b = false
takes_byte (Byte c) b = b == c

abbrev pub spells_name : List Sign → List ℕ → Bool
spells_name signs name = spells is_star takes_byte signs name

-- `*` or `\`
abbrev pub is_wild : ℕ → Bool
is_wild b = is_star_byte b || b == backslash

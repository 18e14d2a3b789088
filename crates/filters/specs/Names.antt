-- Names that a pattern matches: `*` stands for any run of characters, each other character for itself. Names and patterns are texts in UTF-8, in which a run of bytes between whole characters is a run of characters.
use Rattle.std.specs.Prelude.{ℕ, Bool, List}
use Rattle.wildcards.specs.Bytes.{is_star, takes_byte}
use Rattle.wildcards.specs.Spells.{spells}

-- the pattern takes the whole name
abbrev pub spells_name : List ℕ → List ℕ → Bool
spells_name pattern name = spells is_star takes_byte pattern name

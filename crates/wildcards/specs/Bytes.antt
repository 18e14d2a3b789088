-- Patterns whose items are bytes, of which `*` is a run and each other one takes itself (`*` as in POSIX pattern matching notation, Shell Command Language, section 2.13).
use Rattle.std.specs.Prelude.{◌==◌, ℕ, Bool}

-- the byte `*`
abbrev pub asterisk : ℕ
asterisk = 42

abbrev pub is_star : ℕ → Bool
is_star b = b == asterisk

abbrev pub takes_byte : ℕ → ℕ → Bool
takes_byte sign b = b == sign

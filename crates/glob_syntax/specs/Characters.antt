-- The characters that have a meaning in globs and ignore files, by their scalar values and the names that POSIX gives them (Base Definitions, section 6.1).
use Rattle.std.specs.Prelude.{ℕ}

abbrev pub newline : ℕ
newline = 10

abbrev pub carriage_return : ℕ
carriage_return = 13

abbrev pub space : ℕ
space = 32

abbrev pub exclamation_mark : ℕ
exclamation_mark = 33

abbrev pub number_sign : ℕ
number_sign = 35

abbrev pub asterisk : ℕ
asterisk = 42

abbrev pub comma : ℕ
comma = 44

abbrev pub hyphen : ℕ
hyphen = 45

abbrev pub period : ℕ
period = 46

abbrev pub slash : ℕ
slash = 47

abbrev pub question_mark : ℕ
question_mark = 63

abbrev pub open_bracket : ℕ
open_bracket = 91

abbrev pub backslash : ℕ
backslash = 92

abbrev pub close_bracket : ℕ
close_bracket = 93

abbrev pub circumflex : ℕ
circumflex = 94

abbrev pub open_brace : ℕ
open_brace = 123

abbrev pub close_brace : ℕ
close_brace = 125

-- The rules that an ignore file writes (gitignore, "Pattern format").
use Rattle.std.specs.Prelude.{ℕ, Bool, true, false, List, [], ◌∷◌, Option, Some, None, if◌then◌else◌}
use Rattle.std.specs.List.{list_any, filter_map}
use Rattle.std.specs.Str.{chars, is_utf8}
use Rattle.glob_syntax.specs.declared.mark.Mark.{Mark}
use Rattle.glob_syntax.specs.Characters.{exclamation_mark, number_sign, slash}
use Rattle.glob_syntax.specs.Marks.{marks_of, is_plain, is_slash}
use Rattle.ignore_rules.specs.declared.rule.TheConstants.{FIRST_PLACE}
use Rattle.ignore_rules.specs.declared.sign.Sign.{Sign}
use Rattle.ignore_rules.specs.declared.rule.Rule.{Rule}
use Rattle.ignore_rules.specs.Marks.{dangles, ends_in, front_of, trimmed, without_first_slash}
use Rattle.ignore_rules.specs.Lines.{behind_mark, lines_of, without_return}
use Rattle.ignore_rules.specs.Signs.{signs_from}
use Rattle.ignore_rules.specs.Parts.{parts_of}

-- whether the pattern takes folders alone, by a `/` at its end, and the pattern without it; none where a `\` at the end quotes nothing
abbrev pub cut_end : List Mark → Option (Bool × List Mark)
cut_end marks =
    if ends_in dangles marks then None else
    (if ends_in (is_plain slash) marks then Some (true, front_of marks) else Some (false, marks))

-- the rule with these signs; without a sign there is none
abbrev pub rule_with : Bool → Bool → Bool → Option (List Sign) → Option Rule
rule_with again folders_only anchored None = None
rule_with again folders_only anchored (Some []) = None
rule_with again folders_only anchored (Some (s ∷ ss)) = Some (record { again = again; folders_only = folders_only; anchored = anchored; parts = parts_of (s ∷ ss) })

-- a `/` that is left at the front or in the middle anchors the pattern to the folder of the file, and one at the front is dropped
abbrev pub rule_cut : Bool → Option (Bool × List Mark) → Option Rule
rule_cut again None = None
rule_cut again (Some (folders_only, pattern)) = rule_with again folders_only (list_any is_slash pattern) (signs_from None (without_first_slash pattern))

abbrev pub rule_from : Bool → List Mark → Option Rule
rule_from again marks = rule_cut again (cut_end marks)

-- `#` begins a comment, `!` includes again
abbrev pub rule_in : List Mark → Option Rule
rule_in [] = rule_from false []
rule_in (m ∷ ms) =
    if is_plain number_sign m then None else
    (if is_plain exclamation_mark m then rule_from true ms else rule_from false (m ∷ ms))

-- the rule that the characters of a line write
unfoldable pub rule_written : List ℕ → Option Rule
rule_written cs = rule_in (trimmed (marks_of FIRST_PLACE cs))

-- the rule that a line writes, if it writes one
unfoldable pub rule_of : List ℕ → Option Rule
rule_of line = if is_utf8 (without_return line) then rule_written (chars (without_return line)) else None

-- the rules of an ignore file, in the order of its lines
unfoldable pub rules_of : List ℕ → List Rule
rules_of bytes = filter_map rule_of (lines_of (behind_mark bytes))

-- The rule of a line, by whether it is a text, and the rules of lines.
use Rattle.std.proofs.Common.{◌≡◌, ℕ, List, [], refl}
use Rattle.std.specs.Prelude.{Option, Some, None}
use Rattle.std.specs.Option.{option_to_list}
use Rattle.std.specs.List.{cons_option}
use Rattle.std.specs.Str.{chars, is_utf8, IsUtf8}
use Rattle.std.proofs.lemmas.Bool.{false_from_ne_true}
use Rattle.std.proofs.lemmas.Str.{IsUtf8-from_is_utf8, is_utf8-from_IsUtf8}
use Rattle.ignore_rules.specs.declared.rule.Rule.{Rule}
use Rattle.ignore_rules.specs.Lines.{without_return}
use Rattle.ignore_rules.specs.Rules.{rule_written, rule_of}

pub rule_of-text : (line : List ℕ) → IsUtf8 (without_return line) → rule_of line ≡ rule_written (chars (without_return line))
unfolding rule_of
rule_of-text line u = rw (is_utf8-from_IsUtf8 (without_return line) u) refl

pub rule_of-none : (line : List ℕ) → ¬ (IsUtf8 (without_return line)) → rule_of line ≡ None
unfolding rule_of
rule_of-none line never = rw (false_from_ne_true (is_utf8 (without_return line)) (λ t. never (IsUtf8-from_is_utf8 (without_return line) t))) refl

pub one_rule : (rule : Option Rule) → cons_option rule [] ≡ option_to_list rule
one_rule None = refl
one_rule (Some rule) = refl

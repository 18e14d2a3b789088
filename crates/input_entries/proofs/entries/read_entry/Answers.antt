use Rattle.std.proofs.Common.{◌≡◌, ◌∙◌, sym, ap, false, true, drop, eqb}
use Rattle.std.specs.Prelude.{codes}
use Rattle.std.specs.List.{starts_with}
use Rattle.input_entries.specs.Entries.{entry_of, is_default_entry}
use Rattle.input_entries.proofs.Prefixes.{no_prefix, marked}
use Rattle.input_entries.proofs.entries.read_entry.Goals as goal

pub returns-in-Some-strip_prefix-2-clause-value : goal.returns-in-Some-strip_prefix-2-clause-value
unfolding entry_of
returns-in-Some-strip_prefix-2-clause-value c =
    let text = c.args.text.now in
    let cut = c.in-Some-strip_prefix-2.ensures.cases in
    let other : is_default_entry text ≡ false = sym c.is_default_entry.ensures ∙ c.if-is_default_entry.false in
    let no_root = no_prefix text (codes "$TURBO_ROOT$/") c.in_default.ensures.cases in
    let no_excluded = no_prefix text (codes "!$TURBO_ROOT$/") c.in_default-strip_prefix.ensures.cases in
    let mark : starts_with eqb text (codes "!") ≡ true = marked text (drop cut.0 text) cut.1.1 in
    let behind : c.in-Some-strip_prefix-2.glob.now ≡ drop 1 text = cut.2 ∙ ap (λ n. drop n text) cut.1.0 in
    rw (other, no_root, no_excluded, mark, ← behind) c.input_glob-in-Some-strip_prefix-2.ensures.value

pub returns-clause-value : goal.returns-clause-value
unfolding entry_of
returns-clause-value c =
    let text = c.args.text.now in
    let other : is_default_entry text ≡ false = sym c.is_default_entry.ensures ∙ c.if-is_default_entry.false in
    let no_root = no_prefix text (codes "$TURBO_ROOT$/") c.in_default.ensures.cases in
    let no_excluded = no_prefix text (codes "!$TURBO_ROOT$/") c.in_default-strip_prefix.ensures.cases in
    let no_mark = no_prefix text (codes "!") c.in_default-strip_prefix-2.ensures.cases in
    rw (other, no_root, no_excluded, no_mark) c.input_glob-2.ensures.value

use Rattle.std.proofs.Common.{◌≡◌, ◌∙◌, sym, false}
use Rattle.std.specs.Prelude.{codes, bytes_eq}
use Rattle.turbo_config.specs.Globs.{input_fault, glob_fault}
use Rattle.turbo_config.proofs.Prefixes.{no_prefix}
use Rattle.turbo_config.proofs.glob_fault.input_fault.Goals as goal

pub returns : goal.returns
unfolding input_fault glob_fault
returns c =
    let text = c.args.text.now in
    let other : bytes_eq text (codes "$TURBO_DEFAULT$") ≡ false = sym c.eq.ensures ∙ c.if-eq.false in
    let no_root = no_prefix text (codes "$TURBO_ROOT$/") c.in_default.ensures.cases in
    let no_excluded = no_prefix text (codes "!$TURBO_ROOT$/") c.in_default-strip_prefix.ensures.cases in
    rw (other, no_root, no_excluded) c.glob_fault.ensures

use Rattle.std.proofs.Common.{◌≡◌, [], ◌∷◌, ◌+◌, drop, ap, sym, ◌∙◌}
use Rattle.std.proofs.lemmas.List.{drop_more}
use Rattle.rel_path.specs.Files.{file_at}
use Rattle.spawn_dev.specs.Books.{pieces_bytes, with_writes, effect_of}
use Rattle.spawn_dev.specs.Effects.{seen_by}
use Rattle.spawn_dev.proofs.Ends.{first_rule}
use Rattle.spawn_dev.proofs.evaluate.effect_of.Goals as goal

pub returns-then-is_for-clause-effect : goal.returns-then-is_for-clause-effect
returns-then-is_for-clause-effect c =
    let seen = seen_by c.args.command.now (file_at c.args.files.now) in
    let rule = c.rule-item.result in
    let more = drop (c.loop-rule.rule-index + 1) c.args.rules.now in
    let this : drop c.loop-rule.rule-index c.args.rules.now ≡ rule ∷ more = drop_more c.args.rules.now c.loop-rule.rule-index rule c.loop-rule-test.true ∙ ap (λ r. r ∷ more) (sym c.rule-item.is) in
    first_rule rule more seen c.in_ok-log.log c.status_of-status.result c.in_ok-files.files (sym c.is_for.ensures ∙ c.if-is_for.true)
    (c.in_ok-log.ensures.bytes ∙ ap (pieces_bytes seen) c.as_slice.ensures) c.status_of-status.ensures (c.in_ok-files.ensures.files ∙ ap (with_writes seen []) c.as_slice-then-is_for.ensures)
    ∙ sym (c.loop-rule.invariant ∙ ap (λ rules. effect_of rules seen) this)

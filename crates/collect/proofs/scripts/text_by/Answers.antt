use Rattle.std.proofs.Common.{ap, sym, ◌∙◌}
use Rattle.std.specs.Prelude.{bytes_eq}
use Rattle.collect.proofs.Texts.{text_at, text_after}
use Rattle.collect.proofs.scripts.text_by.Goals as goal

pub returns-then-eq : goal.returns-then-eq
returns-then-eq c =
    text_at c.args.name.now c.args.pairs.now c.loop-pair.pair-index c.pair-item.result c.loop-pair-test.true c.pair-item.is c.loop-pair.invariant
    (ap (λ n. bytes_eq n c.args.name.now) (sym c.as_str.ensures) ∙ sym c.eq.ensures ∙ c.if-eq.true)

pub loop-pair-preserved : goal.loop-pair-preserved
loop-pair-preserved c =
    text_after c.args.name.now c.args.pairs.now c.loop-pair.pair-index c.pair-item.result c.loop-pair-test.true c.pair-item.is c.loop-pair.invariant
    (ap (λ n. bytes_eq n c.args.name.now) (sym c.as_str.ensures) ∙ sym c.eq.ensures ∙ c.if-eq.false)

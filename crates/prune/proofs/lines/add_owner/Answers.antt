use Rattle.std.proofs.Common.{◌≡◌, ◌++◌, ◌∙◌, ℕ, List, sym, ap, subst, arith}
use Rattle.std.specs.Prelude.{string_bytes, OnOk}
use Rattle.prune.proofs.Printing.{one_line, no_line, append_none}
use Rattle.prune.proofs.lines.add_owner.Goals as goal

pub returns-then-number-count-clause-added : goal.returns-then-number-count-clause-added
returns-then-number-count-clause-added c =
    subst (λ (line : List ℕ). OnOk c.add_line.result (string_bytes c.add_line.new.text ≡ string_bytes c.args.text.now ++ line))
    (one_line c.args.packages.now c.args.number c.name.result.now (omega (arith, c.if-number-count.true, c.count.ensures.value)) c.name.ensures) c.add_line.ensures.added

pub returns-else-number-count-clause-added : goal.returns-else-number-count-clause-added
returns-else-number-count-clause-added c =
    let bytes = string_bytes c.args.text.now in
    sym (ap (λ (line : List ℕ). bytes ++ line) (no_line c.args.packages.now c.args.number (omega (arith, c.if-number-count.false, c.count.ensures.value))) ∙ append_none bytes)

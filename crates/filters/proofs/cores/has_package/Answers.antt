use Rattle.std.proofs.Common.{◌∙◌, ◌<◌, sym, arith, length}
use Rattle.filters.specs.Selection.{has_name}
use Rattle.filters.proofs.Places.{any_at, any_next}
use Rattle.filters.proofs.cores.has_package.Goals as goal

pub returns-then-is_named : goal.returns-then-is_named
returns-then-is_named c = sym (any_at (has_name c.args.name.now) c.args.packages.now.packages c.loop-p.p (sym c.is_named.ensures ∙ c.if-is_named.true))

pub loop-p-preserved : goal.loop-p-preserved
loop-p-preserved c =
    let members = c.args.packages.now.packages in
    let less : c.loop-p.p < length members = omega (arith, c.loop-p-test.true, c.count-p-end.ensures.value) in
    any_next (has_name c.args.name.now) members c.loop-p.p less c.loop-p.invariant (sym c.is_named.ensures ∙ c.if-is_named.false)

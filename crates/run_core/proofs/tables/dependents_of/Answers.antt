use Rattle.std.proofs.Common.{◌≡◌, ◌∙◌, sym, ap, arith, length}
use Rattle.std.proofs.lemmas.List.{get_or_read}
use Rattle.run_core.specs.Tables.{is_in, list_at}
use Rattle.run_core.proofs.tables.dependents_of.Goals as goal

pub add_dependent-requires : goal.add_dependent-requires
add_dependent-requires c =
    let list : c.as_slice.result.now ≡ list_at c.args.deps.now c.loop-t.t = c.as_slice.ensures ∙ get_or_read c.args.deps.now c.loop-t.t _ c.loop-t-test.true c.index-deps-t.is _ in
    λ d h. let lower = c.requires.lower c.loop-t.t d (sym (ap (is_in d) list) ∙ h) in omega (arith, lower, c.loop-t.invariant.count, ap length c.deref_mut.ensures.value)

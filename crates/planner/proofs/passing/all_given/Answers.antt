use Rattle.std.proofs.Common.{◌∙◌, ◌+◌, ap, arith}
use Rattle.std.proofs.lemmas.List.{length_push}
use Rattle.std.proofs.lemmas.Option.{slice_get_within}
use Rattle.planner.proofs.Handing.{given_more}
use Rattle.planner.proofs.passing.all_given.Goals as goal

pub loop-place-preserved : goal.loop-place-preserved
loop-place-preserved c =
    let lists = c.loop-place.lists in
    rw c.in-Ok.ensures.pushed (record {
      count = length_push lists c.in_ok-given_for.field-0 ∙ ap (λ n. n + 1) c.loop-place.invariant.count;
      so_far = given_more c.args.mode c.args.global.now c.args.env.now c.args.defs.now c.args.parts.now c.loop-place.place lists c.loop-place.invariant.count c.loop-place.invariant.so_far c.index-defs-place.result c.index-parts-place.result c.in_ok-given_for.field-0
          c.loop-place-test.true (omega (arith, c.loop-place-test.true, c.requires)) c.index-defs-place.is c.index-parts-place.is c.in_ok-given_for.ensures.value;
    })

pub returns-clause-value : goal.returns-clause-value
returns-clause-value c t def at = c.loop-place.invariant.so_far t def (omega (arith, slice_get_within c.args.defs.now t def at, c.loop-place-test.false)) at

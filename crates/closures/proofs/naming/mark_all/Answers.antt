use Rattle.std.proofs.Common.{◌||◌, ◌∙◌, arith, take}
use Rattle.rel_path.specs.Paths.{is_among}
use Rattle.closures.proofs.Lookup.{one_more}
use Rattle.closures.proofs.naming.mark_all.Goals as goal

pub loop-path-preserved : goal.loop-path-preserved
loop-path-preserved c =
    let paths = c.args.paths.now in
    let i = c.loop-path.path-index in
    record {
      size = omega (arith, c.mark.ensures.size, c.loop-path.invariant.size);
      marked = λ passes old.
          c.mark.ensures.marked (λ p. is_among (take i paths) p || passes p) (c.loop-path.invariant.marked passes old)
          ∙ one_more passes paths i c.path-item.result c.args.files.now c.loop-path-test.true c.path-item.is;
    }

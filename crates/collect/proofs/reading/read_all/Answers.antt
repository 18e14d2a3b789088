use Rattle.std.proofs.Common.{ap, ◌∙◌, arith, subst, rules}
use Rattle.std.specs.Prelude.{Err, None}
use Rattle.std.proofs.lemmas.List.{take_all}
use Rattle.rel_path.specs.Files.{FileMap}
use Rattle.collect.specs.Listings.{with_bytes}
use Rattle.collect.specs.Refusals.{is_large}
use Rattle.collect.specs.Steps.{ReadsOne}
use Rattle.collect.proofs.Paths.{among_at}
use Rattle.collect.proofs.Readings.{reads_next, reads_stop}
use Rattle.collect.proofs.Found.{read_more}
use Rattle.collect.proofs.reading.read_all.Goals as goal

pub read_one-requires : goal.read_one-requires
read_one-requires g c = record {
  free = ap (λ h. h c.path-item.result) c.loop-path.invariant.looks.held ∙ c.requires.free c.path-item.result (among_at c.args.paths.now c.loop-path.path-index c.path-item.result c.loop-path-test.true c.path-item.is);
}

pub returns-in-Err-clause-reads : goal.returns-in-Err-clause-reads
returns-in-Err-clause-reads g c =
    λ told. reads_stop (g.T.Tree.state c.args.tree.now).files c.args.paths.now c.loop-path.path-index c.path-item.result c.loop-path.files c.in-Err.e c.loop-path-test.true c.path-item.is (c.loop-path.invariant.told told)
    (subst (λ (files : FileMap). ReadsOne (files c.path-item.result) (is_large (files c.path-item.result)) c.path-item.result (Err c.in-Err.e)) c.loop-path.invariant.looks.files (c.in-Err.ensures.reads told))

pub loop-path-preserved : goal.loop-path-preserved
loop-path-preserved g c =
    let looks = c.loop-path.invariant.looks in let more = c.in-Ok.ensures.looks in
    record {
      looks = record { files = more.files ∙ looks.files; rest = more.rest ∙ looks.rest; held = more.held ∙ looks.held; reach = more.reach ∙ looks.reach; faults = omega (arith, more.faults, looks.faults) };
      faults = c.in-Ok.ensures.cause.counted ∙ c.loop-path.invariant.faults;
      some = read_more c.args.paths.now c.loop-path.path-index c.path-item.result c.loop-path.files c.add_file.new.files c.in-Ok.now c.requires.ascend c.loop-path-test.true c.path-item.is c.in-Ok-add_file.ensures.added c.loop-path.invariant.some;
      told = λ told. reads_next (g.T.Tree.state c.args.tree.now).files c.args.paths.now c.loop-path.path-index c.path-item.result c.loop-path.files c.add_file.new.files c.in-Ok.now c.loop-path-test.true (c.loop-path.invariant.told told)
          (rw (← c.path-item.is, ← looks.files) (c.in-Ok.ensures.reads told)) (rw (← c.path-item.is) c.in-Ok-add_file.ensures.added);
    }

pub loop-path-init : goal.loop-path-init
loop-path-init g c = record { looks = search rules; faults = search rules; some = (λ path. None, search rules); told = search rules }

pub returns-clause-some : goal.returns-clause-some
returns-clause-some g c = let s = c.loop-path.invariant.some in (s.0, s.1 ∙ ap (with_bytes s.0) (take_all c.loop-path.path-index c.args.paths.now (omega (arith, c.loop-path-test.false))))

use Rattle.std.proofs.Common.{◌∷◌, [], length, false, get_or, ap, ◌∙◌, subst, arith, rules}
use Rattle.std.specs.Prelude.{Ok, Err, None, zip, is_some}
use Rattle.std.proofs.lemmas.List.{length-append}
use Rattle.std.proofs.lemmas.List.{take_all}
use Rattle.rel_path.specs.Files.{FileMap}
use Rattle.collect.specs.Steps.{GathersAll, ReadsOne, known, known_if, is_large_at, never}
use Rattle.collect.proofs.Lists.{length_zip}
use Rattle.collect.proofs.Paths.{among_at}
use Rattle.collect.proofs.Readings.{gathers_next, gathers_stop, marked_at, zip_long}
use Rattle.collect.proofs.Found.{gather_more}
use Rattle.collect.proofs.reading.gather.Goals as goal

pub look_marked-requires : goal.look_marked-requires
look_marked-requires g c = record {
  free = ap (λ h. h c.index-walk-place.result) c.loop-place.invariant.looks.held ∙ c.requires.free c.index-walk-place.result (among_at c.args.walk.now c.loop-place.place c.index-walk-place.result c.loop-place-test.true c.index-walk-place.is);
}

pub returns-in-Err-clause-reads : goal.returns-in-Err-clause-reads
returns-in-Err-clause-reads g c =
    λ told. gathers_stop (known c.args.ignores.now (g.T.Tree.state c.args.tree.now).files) (is_large_at (g.T.Tree.state c.args.tree.now).files) (zip c.args.marks.now c.args.walk.now) c.loop-place.place (get_or c.args.marks.now c.loop-place.place false, c.index-walk-place.result) c.loop-place.gathered c.in-Err.e
    (zip_long c.args.marks.now c.args.walk.now c.loop-place.place c.requires.same c.loop-place-test.true) (marked_at c.args.marks.now c.args.walk.now c.loop-place.place c.index-walk-place.result c.requires.same c.loop-place-test.true c.index-walk-place.is) (c.loop-place.invariant.told told)
    (subst (λ (files : FileMap). ReadsOne (known_if (known c.args.ignores.now files) (get_or c.args.marks.now c.loop-place.place false, c.index-walk-place.result)) (is_large_at files (get_or c.args.marks.now c.loop-place.place false, c.index-walk-place.result)) c.index-walk-place.result (Err c.in-Err.e))
    c.loop-place.invariant.looks.files (c.in-Err.ensures.reads told))

pub loop-place-preserved : goal.loop-place-preserved
loop-place-preserved g c =
    let looks = c.loop-place.invariant.looks in let more = c.in-Ok.ensures.looks in
    record {
      looks = record { files = more.files ∙ looks.files; rest = more.rest ∙ looks.rest; held = more.held ∙ looks.held; reach = more.reach ∙ looks.reach; faults = omega (arith, more.faults, looks.faults) };
      faults = c.in-Ok.ensures.cause.counted ∙ c.loop-place.invariant.faults;
      same = ap length c.in-Ok-add.ensures.added.found ∙ length-append c.loop-place.gathered.found.items (is_some c.in-Ok.now ∷ []) ∙ omega (arith, c.loop-place.invariant.same);
      some = gather_more c.args.ignores.now c.args.marks.now c.args.walk.now c.loop-place.place c.index-walk-place.result c.loop-place.gathered c.add.new.gathered c.in-Ok.now c.requires.same c.requires.ascend c.loop-place-test.true c.index-walk-place.is c.loop-place.invariant.some c.in-Ok.ensures.some c.in-Ok-add.ensures.added;
      told = λ told. gathers_next (known c.args.ignores.now (g.T.Tree.state c.args.tree.now).files) (is_large_at (g.T.Tree.state c.args.tree.now).files) (zip c.args.marks.now c.args.walk.now) c.loop-place.place (get_or c.args.marks.now c.loop-place.place false, c.index-walk-place.result) c.loop-place.gathered c.add.new.gathered c.in-Ok.now
          (zip_long c.args.marks.now c.args.walk.now c.loop-place.place c.requires.same c.loop-place-test.true) (marked_at c.args.marks.now c.args.walk.now c.loop-place.place c.index-walk-place.result c.requires.same c.loop-place-test.true c.index-walk-place.is) (c.loop-place.invariant.told told)
          (subst (λ (files : FileMap). ReadsOne (known_if (known c.args.ignores.now files) (get_or c.args.marks.now c.loop-place.place false, c.index-walk-place.result)) (is_large_at files (get_or c.args.marks.now c.loop-place.place false, c.index-walk-place.result)) c.index-walk-place.result (Ok c.in-Ok.now))
          c.loop-place.invariant.looks.files (c.in-Ok.ensures.reads told))
          c.in-Ok-add.ensures.added;
    }

pub returns-clause-reads : goal.returns-clause-reads
returns-clause-reads g c =
    λ told. subst (λ ms. GathersAll (known c.args.ignores.now (g.T.Tree.state c.args.tree.now).files) (is_large_at (g.T.Tree.state c.args.tree.now).files) ms c.loop-place.gathered)
    (take_all c.loop-place.place (zip c.args.marks.now c.args.walk.now) (let l = length_zip c.args.marks.now c.args.walk.now c.requires.same in omega (arith, l, c.loop-place-test.false))) (c.loop-place.invariant.told told)

pub loop-place-init : goal.loop-place-init
loop-place-init g c = record { looks = search rules; faults = search rules; same = search rules; some = (λ path. None, record { found = search rules; total = search rules; files_are = search rules; small = search rules }); told = search rules }

pub returns-clause-some : goal.returns-clause-some
returns-clause-some g c = let s = c.loop-place.invariant.some in (
  s.0,
  subst (λ ms. GathersAll (known c.args.ignores.now s.0) never ms c.loop-place.gathered) (take_all c.loop-place.place (zip c.args.marks.now c.args.walk.now) (let l = length_zip c.args.marks.now c.args.walk.now c.requires.same in omega (arith, l, c.loop-place-test.false))) s.1,
)

use Rattle.std.proofs.Common.{◌≡◌, ◌∙◌, ℕ, subst, ap, arith}
use Rattle.std.specs.Prelude.{Err}
use Rattle.std.specs.Option.{option_map}
use Rattle.prune.specs.Cause.{HasCause, counts_of}
use Rattle.prune.proofs.Turns.{so_far, still, next, stops}
use Rattle.prune.proofs.copying.copy_all.Goals as goal

pub returns-in-Err-clause-elsewhere : goal.returns-in-Err-clause-elsewhere
returns-in-Err-clause-elsewhere g c = λ told.
    let old = (g.T.Tree.state c.args.tree.now).files in
    still (option_map (λ b. b.now) c.args.text) c.args.folder.now c.args.paths.now old c.requires.out c.requires.outside c.loop-path.path-index c.path-item.result (g.T.Tree.state c.loop-path.tree).files (g.T.Tree.state c.copy_one.new.tree).files c.loop-path-test.true c.path-item.is (c.loop-path.invariant.told told) (c.in-Err.ensures.others told)

pub returns-in-Err-clause-copies : goal.returns-in-Err-clause-copies
returns-in-Err-clause-copies g c = λ told.
    let old = (g.T.Tree.state c.args.tree.now).files in
    stops (option_map (λ b. b.now) c.args.text) c.args.folder.now c.args.paths.now old c.requires.out c.requires.outside c.loop-path.path-index c.path-item.result (g.T.Tree.state c.loop-path.tree).files (g.T.Tree.state c.copy_one.new.tree).files c.loop-path-test.true c.path-item.is (c.loop-path.invariant.told told)
    c.in-Err.e c.requires.ascend (c.loop-path.invariant.small told) (c.in-Err.ensures.copies told)

pub returns-in-Err-clause-cause : goal.returns-in-Err-clause-cause
returns-in-Err-clause-cause g c = λ sink. subst (λ (n : ℕ). HasCause (counts_of n sink) (counts_of (g.T.Tree.state c.copy_one.new.tree).faults sink) (Err c.in-Err.e)) c.loop-path.invariant.faults (c.in-Err.ensures.cause sink)

pub loop-path-preserved : goal.loop-path-preserved
loop-path-preserved g c =
    let old = (g.T.Tree.state c.args.tree.now).files in
    let keeps = c.loop-path.invariant.keeps in let more = c.in-Ok.ensures.keeps in
    let same : (g.T.Tree.state c.copy_one.new.tree).faults ≡ (g.T.Tree.state c.loop-path.tree).faults = ap (λ n. n.tree) (c.in-Ok.ensures.cause 0) in
    record {
      keeps = record { rest = more.rest ∙ keeps.rest; held = more.held ∙ keeps.held; faults = omega (arith, more.faults, keeps.faults) };
      faults = same ∙ c.loop-path.invariant.faults;
      small = λ told. (next (option_map (λ b. b.now) c.args.text) c.args.folder.now c.args.paths.now old c.requires.out c.requires.outside c.loop-path.path-index c.path-item.result (g.T.Tree.state c.loop-path.tree).files (g.T.Tree.state c.copy_one.new.tree).files c.loop-path-test.true c.path-item.is (c.loop-path.invariant.told told)
          (c.loop-path.invariant.small told) (c.in-Ok.ensures.copies told)).0;
      told = λ told. (next (option_map (λ b. b.now) c.args.text) c.args.folder.now c.args.paths.now old c.requires.out c.requires.outside c.loop-path.path-index c.path-item.result (g.T.Tree.state c.loop-path.tree).files (g.T.Tree.state c.copy_one.new.tree).files c.loop-path-test.true c.path-item.is (c.loop-path.invariant.told told)
          (c.loop-path.invariant.small told) (c.in-Ok.ensures.copies told)).1;
    }

pub returns-clause-elsewhere : goal.returns-clause-elsewhere
returns-clause-elsewhere g c = λ told.
    let old = (g.T.Tree.state c.args.tree.now).files in
    so_far (option_map (λ b. b.now) c.args.text) c.args.folder.now c.args.paths.now old c.requires.out c.requires.outside c.loop-path.path-index (g.T.Tree.state c.loop-path.tree).files (c.loop-path.invariant.told told)

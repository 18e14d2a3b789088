use Rattle.std.proofs.Common.{◌≡◌, true, false, ◌∙◌, ap, sym, arith, get_or}
use Rattle.rel_path.specs.Paths.{is_among}
use Rattle.capture.specs.Kept.{paths_in}
use Rattle.capture.proofs.Owns.{at_place, same_at}
use Rattle.capture.proofs.Leavings.{without_kept, without_removed, without_others, kept_after, goes}
use Rattle.capture.proofs.lacking.remove_lacking.Goals as goal
use Rattle.capture.proofs.lacking.remove_lacking.Goals.{then-not-is_in+in_ok-remove, else-not-is_in}

pub remove-requires : goal.remove-requires
remove-requires g c =
    let listed = c.args.listed.now in
    let path = c.path-item.result in
    ap (λ held. held path) c.loop-path.invariant.keeps.held
    ∙ c.requires.free path
    (ap (is_among listed) c.path-item.is ∙ at_place listed c.loop-path.path-index path c.loop-path-test.true)

pub returns-in_err-remove-clause-others : goal.returns-in_err-remove-clause-others
returns-in_err-remove-clause-others g c told p out =
    let listed = c.args.listed.now in
    let kept = paths_in c.args.files.now in
    let i = c.loop-path.path-index in
    let path = c.path-item.result in
    let old = c.loop-path.invariant in
    let away : is_among kept path ≡ false = sym c.is_in.ensures ∙ c.if-not-is_in.true in
    let before = (g.T.Tree.state c.args.tree.now).files in
    let mid = (g.T.Tree.state c.loop-path.tree).files in
    kept_after listed kept i path c.loop-path-test.true before mid (g.T.Tree.state c.remove.new.self).files
    (ap (is_among kept) (sym c.path-item.is) ∙ away)
    (same_at _ _ _ _ c.path-item.is (c.remove.ensures.others told)) p out
    (without_others listed kept i before mid (old.removed told) p out)

pub returns-in_err-remove-clause-same : goal.returns-in_err-remove-clause-same
returns-in_err-remove-clause-same g c all =
    let listed = c.args.listed.now in
    let kept = paths_in c.args.files.now in
    let i = c.loop-path.path-index in
    let path = c.path-item.result in
    let away : is_among kept path ≡ false = sym c.is_in.ensures ∙ c.if-not-is_in.true in
    absurd (let w : true ≡ false =
    sym (goes listed kept i path c.loop-path-test.true (ap (is_among kept) (sym c.path-item.is) ∙ away))
    ∙ all (get_or listed i path) in cc)

pub loop-path-preserved : goal.loop-path-preserved
loop-path-preserved g c =
    let listed = c.args.listed.now in
    let kept = paths_in c.args.files.now in
    let i = c.loop-path.path-index in
    let path = c.path-item.result in
    let lt = c.loop-path-test.true in
    let old = c.loop-path.invariant in
    elim c.if-not-is_in.branch [
      | then-not-is_in+in_ok-remove w ↦
          let more = w.in_ok-remove.ensures in
          let away = ap (is_among kept) (sym c.path-item.is) ∙ sym c.is_in.ensures ∙ w.if-not-is_in.true in
          rw w.tree-is (record {
            keeps = record { rest = more.keeps.rest ∙ old.keeps.rest; held = more.keeps.held ∙ old.keeps.held; faults = omega (arith, more.keeps.faults, old.keeps.faults) };
            faults = more.cause.counted ∙ old.faults;
            removed = λ told. without_removed listed kept i path lt _ _ _ away (old.removed told)
                (same_at _ _ _ _ c.path-item.is (more.others told))
                (ap (g.T.Tree.state w.remove.new.self).files (sym c.path-item.is) ∙ more.removed told);
            same = λ all. absurd (let e : true ≡ false = sym (goes listed kept i path lt away) ∙ all (get_or listed i path) in cc);
          })
      | else-not-is_in w ↦
          let stays = ap (is_among kept) (sym c.path-item.is) ∙ sym c.is_in.ensures ∙ w.if-not-is_in.false in
          rw w.tree-is (record {
            keeps = old.keeps;
            faults = old.faults;
            removed = λ told. without_kept listed kept i path lt _ _ stays (old.removed told);
            same = old.same;
          })
    ]

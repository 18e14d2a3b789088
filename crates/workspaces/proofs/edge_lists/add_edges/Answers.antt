use Rattle.std.proofs.Common.{◌≡◌, ◌∙◌, ◌+◌, ◌++◌, ◌∷◌, [], take, get_or, sym, ap, subst}
use Rattle.std.specs.Prelude.{MatchOption}
use Rattle.std.proofs.lemmas.List.{take_more}
use Rattle.workspaces.specs.Edges.{edge_from}
use Rattle.workspaces.specs.Steps.{IsNoName, IsNamedAt}
use Rattle.workspaces.proofs.EdgeLists.{pair_of_none, pair_of_other, pair_of_edge}
use Rattle.workspaces.proofs.edge_lists.add_edges.Goals as goal
use Rattle.workspaces.proofs.edge_lists.add_edges.Goals.{in-Some+in_ok-has_edge+then-branch+in_ok-push, in-Some+in_ok-has_edge+else-branch, in_default}

pub loop-pair-preserved : goal.loop-pair-preserved
loop-pair-preserved c =
    let pairs = c.as_slice-pair-items.result.now in
    let packages = c.args.packages.now in
    let own = c.args.own.now in
    let m = c.args.manifest.now in
    let p = c.pair-item.result in
    let done = take c.loop-pair.pair-index pairs in
    let next : take (c.loop-pair.pair-index + 1) pairs ≡ done ++ p ∷ [] = take_more pairs c.loop-pair.pair-index p c.loop-pair-test.true ∙ ap (λ x. done ++ x ∷ []) (sym c.pair-item.is) in
    let old = c.args.found.now.items in
    let new = c.loop-pair.found.items in
    rw next (elim c.match-package_by.branch [
      | in-Some+in_ok-has_edge+then-branch+in_ok-push w ↦
          let d = w.index-packages-place.result in
          let at = w.in-Some.place in
          let tells : w.in_ok-has_edge.field-0 ≡ edge_from own m (get_or packages at d) = rw w.index-packages-place.is at w.in_ok-has_edge.ensures.value in
          rw (w.found-is, w.in_ok-push.ensures.items) (pair_of_edge packages own m done p old new c.loop-pair.invariant at d c.requires.packages w.in-Some.ensures.0 (w.in-Some.ensures.1 d) (sym tells ∙ w.if-branch.true))
      | in-Some+in_ok-has_edge+else-branch w ↦
          let d = w.index-packages-place.result in
          let at = w.in-Some.place in
          let tells : w.in_ok-has_edge.field-0 ≡ edge_from own m (get_or packages at d) = rw w.index-packages-place.is at w.in_ok-has_edge.ensures.value in
          rw w.found-is (pair_of_other packages own m done p old new c.loop-pair.invariant at d c.requires.packages w.in-Some.ensures.0 (w.in-Some.ensures.1 d) (sym tells ∙ w.if-branch.false))
      | in_default w ↦
          let none : IsNoName packages p.0 = subst (λ r. MatchOption r (IsNoName packages p.0) (IsNamedAt packages p.0)) w.in_default.is c.package_by.ensures in
          rw w.found-is (pair_of_none packages own m done p old new c.loop-pair.invariant none)
    ])

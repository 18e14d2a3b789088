use Rattle.std.proofs.Common.{ℕ, ◌<◌, ◌++◌, ◌∷◌, [], List, length, arith}
use Rattle.workspaces.specs.Reach.{AreBelow}
use Rattle.repository_cases.proofs.graph_section.selected.Goals as goal
use Rattle.repository_cases.proofs.graph_section.selected.Goals.{then-contains+in_ok-push, else-contains}

below-more : (n : ℕ) (xs : List ℕ) (x : ℕ) → AreBelow n xs → x < n → AreBelow n (xs ++ x ∷ [])
below-more n [] x below less = (less, tt)
below-more n (y ∷ xs) x below less = (below.0, below-more n xs x below.1 less)

pub loop-p-preserved : goal.loop-p-preserved
loop-p-preserved c =
    let count = length c.args.packages.now.packages in
    elim c.if-contains.branch [
      | then-contains+in_ok-push w ↦ rw (w.places-is, w.in_ok-push.ensures.pushed) (below-more count c.loop-p.places c.loop-p.p c.loop-p.invariant (omega arith))
      | else-contains w ↦ rw w.places-is c.loop-p.invariant
    ]

use Rattle.std.proofs.Common.{◌≡◌, ◌∙◌, ◌+◌, ◌++◌, ◌∷◌, [], false, sym, ap, refl, arith, length, take, append-nil}
use Rattle.workspaces.specs.Lists.{places}
use Rattle.workspaces.specs.Marks.{itself}
use Rattle.workspaces.proofs.Owners.{owners_count}
use Rattle.kept_packages.proofs.Staying.{places_last}
use Rattle.kept_packages.proofs.keeping.numbers_of.Goals as goal
use Rattle.kept_packages.proofs.keeping.numbers_of.Goals.{then-marks-root+in_ok-push, else-marks-root}

pub returns-clause-value : goal.returns-clause-value
returns-clause-value c =
    let marks = c.args.marks.now in
    let n = c.count-root.result in
    let size : length marks ≡ n + 1 = omega (arith, c.requires, c.count-root.ensures.value, owners_count c.args.packages.now) in
    let front : c.in_ok-numbers.numbers ≡ places itself (take n marks) = c.in_ok-numbers.ensures.value in
    let whole = places_last marks n false size in
    elim c.if-marks-root.branch [
      | then-marks-root+in_ok-push w ↦ w.numbers-is ∙ (w.in_ok-push.ensures.pushed ∙ (ap (λ ns. ns ++ n ∷ []) front ∙ sym (whole ∙ rw (w.if-marks-root.true) refl)))
      | else-marks-root w ↦ w.numbers-is ∙ (front ∙ sym (whole ∙ rw (w.if-marks-root.false, append-nil) refl))
    ]

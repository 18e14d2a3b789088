use Rattle.std.proofs.Common.{◌≡◌, ◌∙◌, ◌++◌, ◌∷◌, [], sym, ap, subst, length, arith, List, ℕ}
use Rattle.std.proofs.Math.ListN.{length-append}
use Rattle.task_inputs.specs.Facts.{AreNear}
use Rattle.task_inputs.proofs.Places.{near_row}
use Rattle.task_inputs.proofs.files.empty_rows.Goals as goal

pub loop-row-preserved : goal.loop-row-preserved
loop-row-preserved c =
    let rows = c.loop-row.rows.items in
    let items : c.push.new.self.items ≡ rows ++ [] ∷ [] = c.in_ok-push.ensures.items ∙ ap (λ row. rows ++ row ∷ []) c.new.ensures in
    record {
      count = omega (arith, ap length items, length-append rows ([] ∷ []), c.loop-row.invariant.count);
      near = subst (λ (rs : List (List ℕ)). AreNear [] rs) (sym items) (near_row rows c.loop-row.invariant.near);
    }

use Rattle.std.proofs.Common.{◌≡◌, ◌∙◌, ℕ, refl, subst}
use Rattle.sample.specs.Runs.{IsTold}
use Rattle.sample.specs.Stages.{state_in}
use Rattle.sample.specs.States.{State}
use Rattle.sample.proofs.printing.four_runs.Goals as goal

-- a run that is told of these packages and of this state
told_as : (n m run : ℕ) (old first new : State) → m ≡ n → old ≡ first → IsTold m run old new
    → IsTold n run first new
told_as n m run old first new same begins told =
    let P : ℕ → Type 0 = λ k. IsTold k run old new in
    let Q : State → Type 0 = λ state. IsTold n run state new in
    subst Q begins (subst P same told)

pub returns-clause-runs : goal.returns-clause-runs
returns-clause-runs c =
    let n = c.args.n in
    let of_new = c.in_ok-new.ensures.size in
    let of_built = c.in_ok-built.ensures.size ∙ of_new in
    let of_rebuilt = c.in_ok-rebuilt.ensures.size ∙ of_built in
    let of_change = c.in_ok-change.ensures.size ∙ of_rebuilt in
    let of_last = c.in_ok-last_changed.ensures.size ∙ of_change in
    let of_change_again = c.in_ok-change-2.ensures.size ∙ of_last in
    record {
      built = state_in c.in_ok-built.built;
      rebuilt = state_in c.in_ok-rebuilt.rebuilt;
      changed_last = state_in c.in_ok-last_changed.last_changed;
      first_run = told_as n _ 1 _ _ _ of_new c.in_ok-new.ensures.first c.in_ok-built.ensures.told;
      second_run = told_as n _ 2 _ _ _ of_built refl c.in_ok-rebuilt.ensures.told;
      third_run = told_as n _ 3 _ _ _ of_change c.in_ok-change.ensures.changed
          c.in_ok-last_changed.ensures.told;
      fourth_run = told_as n _ 4 _ _ _ of_change_again c.in_ok-change-2.ensures.changed
          c.in_ok-all_changed.ensures.told;
    }

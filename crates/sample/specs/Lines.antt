-- What a sample prints.
use Rattle.std.specs.Prelude.{◌≡◌, ℕ, ◌-◌, List, ◌++◌, take}
use Rattle.page.specs.declared.error.PageErr.{PageErr}
use Rattle.page.specs.declared.error.PageErr.TheVariants.{SinkFault, OutOfMemory}
use Rattle.sample.specs.RunLines.{pages_line}
use Rattle.sample.specs.Runs.{IsTold, changed, first_state}
use Rattle.sample.specs.States.{State}

-- Four runs over the same stores, of n packages: the first over empty ones; the second over what
-- that one left; the third once the source of the last package begins with `!`; the fourth once
-- that of the first package, which all others need, begins with `?`.
pub record FourRuns (n : ℕ) (last : State) : Type 0 where
  pub built : State
  pub rebuilt : State
  pub changed_last : State
  pub first_run : IsTold n 1 (first_state n) built
  pub second_run : IsTold n 2 built rebuilt
  pub third_run : IsTold n 3 (changed (n - 1) 33 rebuilt) changed_last
  pub fourth_run : IsTold n 4 (changed 0 63 changed_last) last

-- the lines of a state, and behind them the digits of all that its runs printed
abbrev pub text_in : State → List ℕ
text_in state = state.lines ++ pages_line state.printed

-- the text of such runs
abbrev pub IsSampleText : ℕ → List ℕ → Type 0
IsSampleText n text = (last : State) × FourRuns n last × (text ≡ text_in last)

-- such a text was put behind what stood there
abbrev pub PutsSample : ℕ → List ℕ → List ℕ → Type 0
PutsSample n old new = (text : List ℕ) × IsSampleText n text × (new ≡ old ++ text)

-- where the output failed, some first part of such a text; where memory was wanting, nothing
abbrev pub CutsSample : ℕ → List ℕ → List ℕ → PageErr → Type 0
CutsSample n old new SinkFault =
    (text : List ℕ) × IsSampleText n text × (count : ℕ) × (new ≡ old ++ take count text)
CutsSample n old new OutOfMemory = new ≡ old

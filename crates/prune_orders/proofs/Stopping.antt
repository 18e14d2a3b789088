-- What an order to prune has printed that was stopped.
use Rattle.std.proofs.Common.{◌≡◌, List, ℕ, inl, inr, sym, ap, subst, ◌∙◌}
use Rattle.std.specs.Prelude.{Ok, Err}
use Rattle.rel_path.specs.Files.{FileMap}
use Rattle.refusals.specs.declared.refusal.Refusal.{Refusal}
use Rattle.repository.specs.Reading.{Contents, Means}
use Rattle.run_plan.specs.Answers.{Cause}
use Rattle.run_plan.specs.Answers.Cause.{Device, Output, Memory}
use Rattle.prune.specs.declared.error.PruneErr.{PruneErr}
use Rattle.prune.specs.declared.error.PruneErr.TheVariants.{NoPackage, OutTaken, Missing, TooLarge, TreeFailed, SinkFailed, OutOfMemory}
use Rattle.prune.specs.Printed.{Prints}
use Rattle.prune.specs.Cause as prune
use Rattle.prune.specs.Cause.{Counts}
use Rattle.answers.specs.declared.answer.Answer.{Answer}
use Rattle.answers.specs.declared.answer.Answer.TheVariants as answer
use Rattle.answers.specs.declared.answer.Answer.TheVariants.{Done, Refused, TreeFault, StoreFault, StartFault, SinkFault}
use Rattle.answers.specs.Answers.{HasCauseIn, IfRefused, counts_of}
use Rattle.answers.specs.Stops.{StopsEarly}
use Rattle.prune_orders.specs.Asking.{IsRefusedPrune}
use Rattle.prune_orders.specs.Steps.{IsRefusalOf, StopsAs}
use Rattle.prune_orders.specs.Stops.{StoppedPrune}

-- the counts stand as they did before the line of a refusal
pub same_counts : (tree before after start sink now later : ℕ) (answer : Answer) → prune.counts_of after now ≡ prune.counts_of tree sink
    → HasCauseIn (counts_of tree before start now) (counts_of tree before start later) answer
    → HasCauseIn (counts_of tree before start sink) (counts_of after before start later) answer
same_counts tree before after start sink now later answer same cause =
    let trees : tree ≡ after = sym (ap (λ (c : Counts). c.tree) same) in
    let sinks : now ≡ sink = ap (λ (c : Counts). c.sink) same in
    subst (λ n. HasCauseIn (counts_of tree before start sink) (counts_of n before start later) answer) trees
    (subst (λ n. HasCauseIn (counts_of tree before start n) (counts_of tree before start later) answer) sinks cause)

-- what holds of a refusal for two reasons
pub both_refused : (answer : Answer) (P Q R : Refusal → Type 0) → ((reason : Refusal) → P reason → Q reason → R reason) → IfRefused answer P → IfRefused answer Q → IfRefused answer R
both_refused (Done status) P Q R more p q = tt
both_refused (Refused reason) P Q R more p q = more reason p q
both_refused TreeFault P Q R more p q = tt
both_refused StoreFault P Q R more p q = tt
both_refused StartFault P Q R more p q = tt
both_refused SinkFault P Q R more p q = tt
both_refused answer.OutOfMemory P Q R more p q = tt

-- where pruning was refused it printed nothing
pub refused_silent : (contents : Contents) (targets : List (List ℕ)) (fault : PruneErr) (before now : List ℕ) → Prints contents targets before now (Err fault)
    → (reason : Refusal) → IsRefusalOf fault reason → now ≡ before
refused_silent contents targets (NoPackage name) before now same reason is = same
refused_silent contents targets (OutTaken path) before now same reason is = same
refused_silent contents targets (Missing from name) before now same reason is = same
refused_silent contents targets (TooLarge path) before now same reason is = same
refused_silent contents targets TreeFailed before now same reason is = same
refused_silent contents targets SinkFailed before now prints reason is = absurd is
refused_silent contents targets OutOfMemory before now same reason is = same

module _ (targets : List (List ℕ)) (files : FileMap) where
  -- nothing was printed but the line of a fault, or of a refusal
  pub early_prune : (R : Refusal → Type 0) → ((reason : Refusal) → R reason → IsRefusedPrune targets files reason) → (before after : List ℕ)
      (cause : Cause) (line : List ℕ) → StopsEarly R before after cause line → StoppedPrune targets files before after cause line
  early_prune R more before after Device line told = told
  early_prune R more before after Output line cut = inl (cut.0, more cut.0 cut.1, cut.2)
  early_prune R more before after Memory line none = none

  module _ (contents : Contents) (means : Means files (Ok contents)) where
    by_early : (fault : PruneErr) → ((reason : Refusal) → IsRefusalOf fault reason → IsRefusedPrune targets files reason)
        → (before now after : List ℕ) → now ≡ before → (cause : Cause) (line : List ℕ)
        → StopsEarly (IsRefusalOf fault) now after cause line → StoppedPrune targets files before after cause line
    by_early fault more before now after same cause line early =
        early_prune (IsRefusalOf fault) more before after cause line (subst (λ l. StopsEarly (IsRefusalOf fault) l after cause line) same early)

    -- what was printed behind an error of pruning
    pub fault_prune : (fault : PruneErr) → ((reason : Refusal) → IsRefusalOf fault reason → IsRefusedPrune targets files reason)
        → (before now after : List ℕ) → Prints contents targets before now (Err fault) → (cause : Cause) (line : List ℕ)
        → StopsAs fault now after cause line → StoppedPrune targets files before after cause line
    fault_prune (NoPackage name) more before now after same cause line told = by_early (NoPackage name) more before now after same cause line told
    fault_prune (OutTaken path) more before now after same cause line told = by_early (OutTaken path) more before now after same cause line told
    fault_prune (Missing from name) more before now after same cause line told = by_early (Missing from name) more before now after same cause line told
    fault_prune (TooLarge path) more before now after same cause line told = by_early (TooLarge path) more before now after same cause line told
    fault_prune TreeFailed more before now after same cause line told = by_early TreeFailed more before now after same cause line told
    fault_prune OutOfMemory more before now after same cause line told = by_early OutOfMemory more before now after same cause line told
    fault_prune SinkFailed more before now after prints cause line silent =
        subst (λ c. StoppedPrune targets files before after c line) (sym silent.output)
        (inr (contents, means, (prints.0, prints.1, (prints.2.0, silent.same ∙ prints.2.1))))

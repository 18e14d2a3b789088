-- What the counts of faults say of an answer.
use Rattle.std.proofs.Common.{◌≡◌, ◌∙◌, ℕ, ◌+◌, ap, sym, subst, arith}
use Rattle.rel_path.specs.Causes.{Rose}
use Rattle.answers.specs.declared.answer.Answer.{Answer}
use Rattle.answers.specs.declared.answer.Answer.TheVariants.{Done, Refused, TreeFault, StoreFault}
use Rattle.answers.specs.declared.answer.Answer.TheVariants.{StartFault, SinkFault, OutOfMemory}
use Rattle.answers.specs.Answers.{FaultCounts, HasCauseIn, HasRunCause, IsNoFault, IsQuiet}
use Rattle.answers.specs.Answers.{counts_of}
use Rattle.answers.specs.Facts.{no_run_fault}
use Rattle.file_runs.specs.Causes.{HasCauseOver}
use Rattle.run_orders.specs.Causes.{HasCauseBy}
use Rattle.run_orders.proofs.Causes.{cause_by}
use Rattle.run_orders.specs.declared.uses.Uses.{Uses}
use Rattle.run_orders.specs.declared.uses.Uses.TheVariants.{Current, Second, Shared}
use Rattle.std.specs.Prelude.{Result, Ok, Err}
use Rattle.cli_words.specs.declared.order.Order.{Order}
use Rattle.cli_words.specs.declared.order.Order.TheVariants.{Run, Prune, Sample, Compact, Help}
use Rattle.cli_words.specs.declared.error.WordsErr.{WordsErr}
use Rattle.cli_words.specs.declared.order.RunOrder.{RunOrder}
use Rattle.run_orders.specs.Uses.{uses_of}
use Rattle.turbo_app.specs.Causes.{IsCaused, IsQuietBy, IsQuietOver}

-- the count of the stores with more that stay
abbrev with_more : ℕ → FaultCounts → FaultCounts
with_more n c = counts_of c.tree (c.store + n) c.start c.sink

pub cause_with : (n : ℕ) (tree store start sink tree_now store_now start_now sink_now : ℕ)
    (answer : Answer)
    → HasCauseIn (counts_of tree store start sink)
    (counts_of tree_now store_now start_now sink_now) answer
    → HasCauseIn (counts_of tree (store + n) start sink)
    (counts_of tree_now (store_now + n) start_now sink_now) answer
cause_with n tree store start sink tree_now store_now start_now sink_now (Done status) h =
    ap (with_more n) h
cause_with n tree store start sink tree_now store_now start_now sink_now (Refused reason) h =
    ap (with_more n) h
cause_with n tree store start sink tree_now store_now start_now sink_now TreeFault h =
    (h.0, ap (λ s. s + n) h.1, h.2, h.3)
cause_with n tree store start sink tree_now store_now start_now sink_now StoreFault h =
    let rose : Rose (store + n) (store_now + n) = omega (arith, h.0) in
    (rose, h.1, h.2, h.3)
cause_with n tree store start sink tree_now store_now start_now sink_now StartFault h =
    (h.0, h.1, ap (λ s. s + n) h.2, h.3)
cause_with n tree store start sink tree_now store_now start_now sink_now SinkFault h =
    (h.0, h.1, ap (λ s. s + n) h.2, h.3)
cause_with n tree store start sink tree_now store_now start_now sink_now OutOfMemory h =
    (h.0, ap (λ s. s + n) h.1, h.2, h.3)

-- of a file that is told nothing is added
over_told : (told : Type 0) (old new : FaultCounts) (answer : Answer) → told
    → HasCauseOver told old new answer → HasRunCause old new answer
over_told told old new answer is x =
    let none : new.store + 0 ≡ new.store = omega arith in
    subst (λ (n : ℕ). HasRunCause old (record new { store = n }) answer)
    (ap (λ (n : ℕ). new.store + n) (x.never is) ∙ none) x.cause

pub cause_told : (uses : Uses) (told : Type 0) (old new : FaultCounts) (answer : Answer) → told
    → HasCauseBy uses told old new answer → HasRunCause old new answer
cause_told Current told old new answer is x = x
cause_told Second told old new answer is x = x
cause_told Shared told old new answer is x = over_told told old new answer is x

quiet_by : (uses : Uses) (told : Type 0) (old new : FaultCounts) (answer : Answer)
    → HasCauseBy uses told old new answer → IsQuietOver uses told old new → IsNoFault answer
quiet_by Current told old new answer x quiet = no_run_fault old new answer x quiet
quiet_by Second told old new answer x quiet = no_run_fault old new answer x quiet
quiet_by Shared told old new answer x (is, quiet) =
    no_run_fault old new answer (over_told told old new answer is x) quiet

-- ---- of a call that used no shared file

pub caused_alone : (asked : Result Order WordsErr) (told : Type 0) (old new : FaultCounts)
    (answer : Answer) → HasCauseIn old new answer → IsCaused asked told old new answer
caused_alone (Ok (Run order)) told old new answer x = cause_by (uses_of order) told old new answer x
caused_alone (Ok (Compact keep)) told old new answer x = x
caused_alone (Ok (Prune targets docker)) told old new answer x = x
caused_alone (Ok (Sample size)) told old new answer x = x
caused_alone (Ok Help) told old new answer x = x
caused_alone (Err fault) told old new answer x = x

quiet_over : (uses : Uses) (told : Type 0) (old new : FaultCounts)
    → IsQuietOver uses told old new → IsQuiet old new
quiet_over Current told old new quiet = quiet
quiet_over Second told old new quiet = quiet
quiet_over Shared told old new quiet = quiet.1

pub quiet_alone : (asked : Result Order WordsErr) (told : Type 0) (old new : FaultCounts)
    → IsQuietBy asked told old new → IsQuiet old new
quiet_alone (Ok (Run order)) told old new quiet = quiet_over (uses_of order) told old new quiet
quiet_alone (Ok (Compact keep)) told old new quiet = quiet
quiet_alone (Ok (Prune targets docker)) told old new quiet = quiet
quiet_alone (Ok (Sample size)) told old new quiet = quiet
quiet_alone (Ok Help) told old new quiet = quiet
quiet_alone (Err fault) told old new quiet = quiet

-- two devices more, which stay
pub compact_cause : (tree store start sink tree_now store_now start_now sink_now n m : ℕ)
    (answer : Answer)
    → HasCauseIn (counts_of tree store start sink)
    (counts_of tree_now store_now start_now sink_now) answer
    → HasCauseIn (counts_of tree (store + n + m) start sink)
    (counts_of tree_now (store_now + n + m) start_now sink_now) answer
compact_cause tree store start sink tree_now store_now start_now sink_now n m answer x =
    cause_with m tree (store + n) start sink tree_now (store_now + n) start_now sink_now answer
    (cause_with n tree store start sink tree_now store_now start_now sink_now answer x)

-- ---- of an order to run

pub caused_run : (asked : Result Order WordsErr) (order : RunOrder) (told : Type 0)
    (old new : FaultCounts) (answer : Answer) → asked ≡ Ok (Run order)
    → HasCauseBy (uses_of order) told old new answer → IsCaused asked told old new answer
caused_run asked order told old new answer is x =
    subst (λ (o : Result Order WordsErr). IsCaused o told old new answer) (sym is) x

pub quiet_run : (asked : Result Order WordsErr) (order : RunOrder) (told : Type 0)
    (old new : FaultCounts) (answer : Answer) → asked ≡ Ok (Run order)
    → HasCauseBy (uses_of order) told old new answer → IsQuietBy asked told old new
    → IsNoFault answer
quiet_run asked order told old new answer is x quiet =
    quiet_by (uses_of order) told old new answer x
    (subst (λ (o : Result Order WordsErr). IsQuietBy o told old new) is quiet)

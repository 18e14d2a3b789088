-- What a call that came to its end leaves.
use Rattle.std.specs.Prelude.{◌≡◌, ℕ, Bool, List, ◌++◌, Option, Some, Result, Ok, Err, codes, ⊤}
use Rattle.store_dev.specs.declared.device.StoreDevice.{Ghosts}
use Rattle.rel_path.specs.Files.{FileMap}
use Rattle.cli_words.specs.declared.order.Order.{Order}
use Rattle.cli_words.specs.declared.order.Order.TheVariants.{Run, Prune, Sample, Compact, Help}
use Rattle.cli_words.specs.declared.error.WordsErr.{WordsErr}
use Rattle.cli_words.specs.Orders.{order_of}
use Rattle.refusals.specs.declared.refusal.Refusal.{Refusal}
use Rattle.refusals.specs.declared.refusal.Refusal.TheVariants as refusal
use Rattle.run_laws.specs.Effects.{Book}
use Rattle.answers.specs.declared.answer.Answer.{Answer}
use Rattle.answers.specs.Answers.{IfDone, IfRefused}
use Rattle.run_orders.specs.Moments.{OrderMoment}
use Rattle.run_orders.specs.Outcomes.{RanOrder, MayChangeRun}
use Rattle.run_orders.specs.Outcomes as runs
use Rattle.run_orders.specs.Uses.{uses_of}
use Rattle.prune_orders.specs.Outcomes.{PrunedAll, SameOutside}
use Rattle.prune_orders.specs.Outcomes as prunes
use Rattle.compact_orders.specs.Asking.{kept_pairs}
use Rattle.compact_orders.specs.Outcomes.{Compacted}
use Rattle.compact_orders.specs.Left.{AreReread, LeavesRefused}
use Rattle.store_answers.specs.Stores.{held_in}
use Rattle.sample.specs.Lines.{PutsSample}

abbrev pub usage : List ℕ
usage = codes "usage: turbo [run] <task>... [options] [-- words]\n"

-- help: nothing but the line of usage
pub record Helped (Heard : Type 0) (old new : OrderMoment) (status : ℕ) : Type 0 where
  pub files : new.files ≡ old.files
  pub steps : new.steps ≡ old.steps
  pub page_is : Heard → new.printed ≡ old.printed ++ usage
  pub status_is : status ≡ 0

-- a sample: nothing but its lines
pub record Sampled (size : ℕ) (Heard : Type 0) (old new : OrderMoment) (status : ℕ) : Type 0 where
  pub files : new.files ≡ old.files
  pub steps : new.steps ≡ old.steps
  pub page_is : Heard → PutsSample size old.printed new.printed
  pub status_is : status ≡ 0

-- pruning: the files and what was printed, and nothing else
pub record Pruned (docker : Bool) (targets : List (List ℕ)) (Heard : Type 0) (old new : OrderMoment)
    (status : ℕ) : Type 0 where
  pub all : PrunedAll docker targets Heard old.files new.files old.printed new.printed status
  pub steps : new.steps ≡ old.steps

-- compaction: the current one of the store and the spare one has what is kept of it, and the line
-- was printed
pub record MadeSmaller (keep : Option ℕ) (Heard : Type 0) (old new : OrderMoment) (status : ℕ)
    : Type 0 where
  pub files : new.files ≡ old.files
  pub steps : new.steps ≡ old.steps
  pub pairs : (held_in new.held.local).pairs ≡ Some (kept_pairs keep old.held.local)
  pub made : Compacted keep Heard old.held.local old.printed new.printed status

-- what an order did
abbrev pub DidOrder : Result Order WordsErr → Book → List (List ℕ × List ℕ) → Type 0
    → OrderMoment → OrderMoment → ℕ → Type 0
DidOrder (Err fault) book env Heard old new status = ⊥
DidOrder (Ok Help) book env Heard old new status = Helped Heard old new status
DidOrder (Ok (Prune targets docker)) book env Heard old new status =
    Pruned docker targets Heard old new status
DidOrder (Ok (Sample size)) book env Heard old new status = Sampled size Heard old new status
DidOrder (Ok (Compact keep)) book env Heard old new status = MadeSmaller keep Heard old new status
DidOrder (Ok (Run order)) book env Heard old new status =
    RanOrder book order env Heard old new status

-- what the words ask for was done
abbrev pub Did : List (List ℕ) → Book → List (List ℕ × List ℕ) → Type 0 → OrderMoment
    → OrderMoment → ℕ → Type 0
Did words book env Heard old new status = DidOrder (order_of words) book env Heard old new status

-- ---- what no device has a say in

-- Words that are no order are refused, help prints the line of usage, and a sample its lines,
-- whatever the files, the stores and the environment are.
abbrev pub AnsweredAlone : Result Order WordsErr → Type 0 → List ℕ → List ℕ → Answer → Type 0
AnsweredAlone (Err fault) Heard before after answer =
    IfDone answer (λ _. ⊥) × IfRefused answer (λ reason. reason ≡ refusal.Words fault)
AnsweredAlone (Ok Help) Heard before after answer =
    IfDone answer (λ status. (status ≡ 0) × (Heard → after ≡ before ++ usage))
    × IfRefused answer (λ _. ⊥)
AnsweredAlone (Ok (Sample size)) Heard before after answer =
    IfDone answer (λ status. (status ≡ 0) × (Heard → PutsSample size before after))
    × IfRefused answer (λ _. ⊥)
AnsweredAlone (Ok (Compact keep)) Heard before after answer = ⊤
AnsweredAlone (Ok (Prune targets docker)) Heard before after answer = ⊤
AnsweredAlone (Ok (Run order)) Heard before after answer = ⊤

-- An order to run keeps the stores that it does not use, and one to compact uses the store and the
-- spare one. No other order uses any.
abbrev pub KeepsStore : {D : Type 0} → Result Order WordsErr → D → D → Type 0
KeepsStore (Ok (Run order)) old new = runs.KeepsLocal (uses_of order) order.access old new
KeepsStore (Ok (Compact keep)) old new = ⊤
KeepsStore (Ok (Prune targets docker)) old new = new ≡ old
KeepsStore (Ok (Sample size)) old new = new ≡ old
KeepsStore (Ok Help) old new = new ≡ old
KeepsStore (Err fault) old new = new ≡ old

-- the second store
abbrev pub KeepsSecond : {D : Type 0} → Result Order WordsErr → D → D → Type 0
KeepsSecond (Ok (Run order)) old new = runs.KeepsSecond (uses_of order) old new
KeepsSecond (Ok (Compact keep)) old new = new ≡ old
KeepsSecond (Ok (Prune targets docker)) old new = new ≡ old
KeepsSecond (Ok (Sample size)) old new = new ≡ old
KeepsSecond (Ok Help) old new = new ≡ old
KeepsSecond (Err fault) old new = new ≡ old

-- the shared file
abbrev pub KeepsShared : {D : Type 0} → Result Order WordsErr → D → D → Type 0
KeepsShared (Ok (Run order)) old new = runs.KeepsShared (uses_of order) old new
KeepsShared (Ok (Compact keep)) old new = new ≡ old
KeepsShared (Ok (Prune targets docker)) old new = new ≡ old
KeepsShared (Ok (Sample size)) old new = new ≡ old
KeepsShared (Ok Help) old new = new ≡ old
KeepsShared (Err fault) old new = new ≡ old

-- ---- what is refused

-- What a refusal leaves of both stores: they were at most opened again; and where the current one
-- could not be compacted, it has its pairs.
abbrev pub RefusedStores : {S P : Type 0} → Ghosts S → Ghosts P → Result Order WordsErr → S → S
    → P → P → Refusal → Type 0
RefusedStores G H (Ok (Compact keep)) old new spare then reason =
    LeavesRefused G H old new spare then reason
RefusedStores G H (Ok (Run order)) old new spare then reason = AreReread G H old new spare then
RefusedStores G H (Ok (Prune targets docker)) old new spare then reason =
    AreReread G H old new spare then
RefusedStores G H (Ok (Sample size)) old new spare then reason = AreReread G H old new spare then
RefusedStores G H (Ok Help) old new spare then reason = AreReread G H old new spare then
RefusedStores G H (Err fault) old new spare then reason = AreReread G H old new spare then

-- ---- whatever is answered

-- What a refusal leaves of the files: all of them as they were; and, where the tree tells its
-- files, an order to prune that is refused for a file that is too large leaves those in front of
-- it.
abbrev pub LeavesAsRefused : Type 0 → Result Order WordsErr → FileMap → FileMap → Refusal → Type 0
LeavesAsRefused tells (Ok (Prune targets docker)) old new reason =
    tells → prunes.LeavesRefused docker targets old new reason
LeavesAsRefused tells (Err fault) old new reason = new ≡ old
LeavesAsRefused tells (Ok Help) old new reason = new ≡ old
LeavesAsRefused tells (Ok (Sample size)) old new reason = new ≡ old
LeavesAsRefused tells (Ok (Compact keep)) old new reason = new ≡ old
LeavesAsRefused tells (Ok (Run order)) old new reason = new ≡ old

abbrev pub MayChangeBy : Result Order WordsErr → List (List ℕ × List ℕ) → FileMap → FileMap
    → Type 0
MayChangeBy (Err fault) env old new = new ≡ old
MayChangeBy (Ok Help) env old new = new ≡ old
MayChangeBy (Ok (Prune targets docker)) env old new = SameOutside old new
MayChangeBy (Ok (Sample size)) env old new = new ≡ old
MayChangeBy (Ok (Compact keep)) env old new = new ≡ old
MayChangeBy (Ok (Run order)) env old new = MayChangeRun order env old new

-- what a call may leave of the files, whatever it answers
abbrev pub MayChange : List (List ℕ) → List (List ℕ × List ℕ) → FileMap → FileMap → Type 0
MayChange words env old new = MayChangeBy (order_of words) env old new

-- What words ask for, over the files of a repository and its stores, and why they are refused.
use Rattle.std.specs.Prelude.{◌≡◌, ℕ, List, Result, Ok, Err}
use Rattle.rel_path.specs.Files.{FileMap}
use Rattle.cli_words.specs.declared.order.Order.{Order}
use Rattle.cli_words.specs.declared.order.Order.TheVariants.{Run, Prune, Sample, Compact, Help}
use Rattle.cli_words.specs.declared.error.WordsErr.{WordsErr}
use Rattle.cli_words.specs.Orders.{order_of}
use Rattle.refusals.specs.declared.refusal.Refusal.{Refusal}
use Rattle.refusals.specs.declared.refusal.Refusal.TheVariants as refusal
use Rattle.answers.specs.declared.answer.Answer.{Answer}
use Rattle.answers.specs.Answers.{IsNothingBut}
use Rattle.run_orders.specs.Moments.{StoreFiles}
use Rattle.run_orders.specs.Asking.{IsRefusedRunOrder}
use Rattle.prune_orders.specs.Asking.{IsRefusedPrune}
use Rattle.compact_orders.specs.Asking.{IsRefusedCompact}

-- why an order, or what is none, is refused
abbrev pub IsRefusedOrder :
    Result Order WordsErr → List (List ℕ × List ℕ) → FileMap → StoreFiles → Refusal → Type 0
IsRefusedOrder (Err fault) env files stores reason = reason ≡ refusal.Words fault
IsRefusedOrder (Ok (Run order)) env files stores reason =
    IsRefusedRunOrder order env files stores reason
IsRefusedOrder (Ok (Prune targets docker)) env files stores reason =
    IsRefusedPrune targets files reason
IsRefusedOrder (Ok (Compact keep)) env files stores reason =
    IsRefusedCompact keep stores.local reason
IsRefusedOrder (Ok (Sample size)) env files stores reason = ⊥
IsRefusedOrder (Ok Help) env files stores reason = ⊥

-- why words are refused
abbrev pub IsRefused :
    List (List ℕ) → List (List ℕ × List ℕ) → FileMap → StoreFiles → Refusal → Type 0
IsRefused words env files stores reason = IsRefusedOrder (order_of words) env files stores reason

-- where there is a reason to refuse the words, nothing is answered but that refusal, a fault of a
-- device or want of memory
abbrev pub HasNoOtherBy :
    Result Order WordsErr → List (List ℕ × List ℕ) → FileMap → StoreFiles → Answer → Type 0
HasNoOtherBy asked env files stores answer =
    (reason : Refusal) → IsRefusedOrder asked env files stores reason → IsNothingBut reason answer

abbrev pub HasNoOther :
    List (List ℕ) → List (List ℕ × List ℕ) → FileMap → StoreFiles → Answer → Type 0
HasNoOther words env files stores answer = HasNoOtherBy (order_of words) env files stores answer

-- Why a run over two stores is refused.
use Rattle.std.specs.Prelude.{◌≡◌, ◌⊎◌, true, List, ℕ}
use Rattle.record_log.specs.Frames.{IsSound}
use Rattle.cli_words.specs.declared.order.Access.{Access}
use Rattle.refusals.specs.declared.refusal.Refusal.{Refusal}
use Rattle.refusals.specs.declared.refusal.StoreFile.{StoreFile}
use Rattle.refusals.specs.declared.refusal.StoreFile.TheVariants.{Second}
use Rattle.answers.specs.declared.answer.Answer.{Answer}
use Rattle.answers.specs.Answers.{IsNothingBut}
use Rattle.store_answers.specs.Stores.{Stores}
use Rattle.store_answers.specs.Refused.{IsNoStore, IsNoStores}

-- of a local store in that file and the second one: the local one is none, or it is one and the
-- second one is none
abbrev pub IsNoneBehind : StoreFile → List ℕ → List ℕ → Refusal → Type 0
IsNoneBehind file local second reason = IsNoStore file local reason
    ⊎ (IsSound local × IsNoStore Second second reason)

-- both files of the local store are stores, where it is read
abbrev pub IsLocalSound : Access → Stores → Type 0
IsLocalSound access stores =
    access.local_reads ≡ true → IsSound stores.store × IsSound stores.spare

-- A file that is read is no store: the store or behind it the spare one, where the local store is
-- read; or these are stores, and the second one is none.
abbrev pub IsNoneRead : Access → Stores → List ℕ → Refusal → Type 0
IsNoneRead access stores second reason =
    ((access.local_reads ≡ true) × IsNoStores stores reason)
    ⊎ (IsLocalSound access stores × IsNoStore Second second reason)

-- where there is such a reason, nothing is answered but that refusal, a fault of a device or want
-- of memory
abbrev pub HasNoOther : Access → Stores → List ℕ → Answer → Type 0
HasNoOther access stores second answer =
    (reason : Refusal) → IsNoneRead access stores second reason → IsNothingBut reason answer

-- What the program's answers say of its devices.
use Rattle.std.specs.Prelude.{◌≡◌, ℕ, ◌≤◌, ◌<◌, ◌-◌, ◌^◌, ⊤}
use Rattle.rel_path.specs.Causes.{Rose}
use Rattle.tree_dev.specs.Tree.{TreeState}
use Rattle.spawn_dev.specs.Spawn.{Runs}
use Rattle.refusals.specs.declared.refusal.Refusal.{Refusal}
use Rattle.answers.specs.declared.answer.Answer.{Answer}
use Rattle.answers.specs.declared.answer.Answer.TheVariants.{Done, Refused, TreeFault, StoreFault}
use Rattle.answers.specs.declared.answer.Answer.TheVariants.{StartFault, SinkFault, OutOfMemory}

-- the status of a run that ended, and 1 otherwise
abbrev pub exit_status : Answer → ℕ
exit_status (Done status) = status
exit_status (Refused refusal) = 1
exit_status TreeFault = 1
exit_status StoreFault = 1
exit_status StartFault = 1
exit_status SinkFault = 1
exit_status OutOfMemory = 1

-- what holds of the status of a call that came to its end
abbrev pub IfDone : Answer → (ℕ → Type 0) → Type 0
IfDone (Done status) P = P status
IfDone (Refused refusal) P = ⊤
IfDone TreeFault P = ⊤
IfDone StoreFault P = ⊤
IfDone StartFault P = ⊤
IfDone SinkFault P = ⊤
IfDone OutOfMemory P = ⊤

-- what holds of a refusal
abbrev pub IfRefused : Answer → (Refusal → Type 0) → Type 0
IfRefused (Done status) P = ⊤
IfRefused (Refused refusal) P = P refusal
IfRefused TreeFault P = ⊤
IfRefused StoreFault P = ⊤
IfRefused StartFault P = ⊤
IfRefused SinkFault P = ⊤
IfRefused OutOfMemory P = ⊤

-- nothing is answered but this refusal, a fault of a device or want of memory
abbrev pub IsNothingBut : Refusal → Answer → Type 0
IsNothingBut reason answer = IfDone answer (λ _. ⊥) × IfRefused answer (λ other. other ≡ reason)

-- The counts of faults of the tree, of the store, of starting commands and of the sink.
pub record FaultCounts : Type 0 where
  pub tree : ℕ
  pub store : ℕ
  pub start : ℕ
  pub sink : ℕ

abbrev pub counts_of : ℕ → ℕ → ℕ → ℕ → FaultCounts
counts_of tree store start sink = record { tree = tree; store = store; start = start; sink = sink }

-- the counts of a world, of a store and of an output
abbrev pub counts_at : {B R : Type 0} → TreeState R → Runs B → ℕ → ℕ → FaultCounts
counts_at tree runs store sink = counts_of tree.faults store runs.faults sink

-- A fault is answered only where the device's own count rose, and none that goes before it did.
-- What came to its end, or was refused, leaves all counts; after want of memory none rose but that
-- of starting commands, where running ones were waited for. No count falls.
abbrev pub HasCauseIn : FaultCounts → FaultCounts → Answer → Type 0
HasCauseIn old new (Done status) = new ≡ old
HasCauseIn old new (Refused refusal) = new ≡ old
HasCauseIn old new TreeFault =
    Rose old.tree new.tree × (new.store ≡ old.store) × (old.start ≤ new.start)
    × (old.sink ≤ new.sink)
HasCauseIn old new StoreFault =
    Rose old.store new.store × (new.tree ≡ old.tree) × (old.start ≤ new.start)
    × (old.sink ≤ new.sink)
HasCauseIn old new StartFault =
    Rose old.start new.start × (new.tree ≡ old.tree) × (new.store ≡ old.store)
    × (old.sink ≤ new.sink)
HasCauseIn old new SinkFault =
    Rose old.sink new.sink × (new.tree ≡ old.tree) × (new.store ≡ old.store)
    × (old.start ≤ new.start)
HasCauseIn old new OutOfMemory =
    (new.tree ≡ old.tree) × (new.store ≡ old.store) × (old.start ≤ new.start)
    × (new.sink ≡ old.sink)

-- The same of a run. It puts results that are due also after a fault, and then the store's count may
-- have risen beside.
abbrev pub HasRunCause : FaultCounts → FaultCounts → Answer → Type 0
HasRunCause old new (Done status) = new ≡ old
HasRunCause old new (Refused refusal) = new ≡ old
HasRunCause old new TreeFault =
    Rose old.tree new.tree × (old.store ≤ new.store) × (old.start ≤ new.start)
    × (old.sink ≤ new.sink)
HasRunCause old new StoreFault =
    Rose old.store new.store × (new.tree ≡ old.tree) × (old.start ≤ new.start)
    × (old.sink ≤ new.sink)
HasRunCause old new StartFault =
    Rose old.start new.start × (new.tree ≡ old.tree) × (old.store ≤ new.store)
    × (old.sink ≤ new.sink)
HasRunCause old new SinkFault =
    Rose old.sink new.sink × (new.tree ≡ old.tree) × (old.store ≤ new.store)
    × (old.start ≤ new.start)
HasRunCause old new OutOfMemory =
    (new.tree ≡ old.tree) × (old.store ≤ new.store) × (old.start ≤ new.start)
    × (new.sink ≡ old.sink)

-- no count rose, and none stood at the last value of a u64
pub record IsQuiet (old new : FaultCounts) : Type 0 where
  pub tree : (new.tree ≤ old.tree) × (old.tree < 2 ^ 64 - 1)
  pub store : (new.store ≤ old.store) × (old.store < 2 ^ 64 - 1)
  pub start : (new.start ≤ old.start) × (old.start < 2 ^ 64 - 1)
  pub sink : (new.sink ≤ old.sink) × (old.sink < 2 ^ 64 - 1)

-- the answer is no fault of a device
abbrev pub IsNoFault : Answer → Type 0
IsNoFault (Done status) = ⊤
IsNoFault (Refused refusal) = ⊤
IsNoFault TreeFault = ⊥
IsNoFault StoreFault = ⊥
IsNoFault StartFault = ⊥
IsNoFault SinkFault = ⊥
IsNoFault OutOfMemory = ⊤

-- it came to its end, or memory was wanting
abbrev pub IsDoneOrMemory : Answer → Type 0
IsDoneOrMemory (Done status) = ⊤
IsDoneOrMemory (Refused refusal) = ⊥
IsDoneOrMemory TreeFault = ⊥
IsDoneOrMemory StoreFault = ⊥
IsDoneOrMemory StartFault = ⊥
IsDoneOrMemory SinkFault = ⊥
IsDoneOrMemory OutOfMemory = ⊤

-- where no count rose and nothing is a reason to refuse, the call comes to its end, or memory is
-- wanting
abbrev pub Completes : FaultCounts → FaultCounts → (Refusal → Type 0) → Answer → Type 0
Completes old new Reason answer =
    IsQuiet old new → ((reason : Refusal) → Reason reason → ⊥) → IsDoneOrMemory answer

-- Why a run did not come to its end, by the counts of faults of its four devices.
use Rattle.std.specs.Prelude.{◌≡◌, ℕ, ◌≤◌, Bool, true, false, Result, Ok, Err, IfErr}
use Rattle.rel_path.specs.Causes.{Rose}
use Rattle.task_devices.specs.declared.error.RunErr.{RunErr}
use Rattle.task_devices.specs.declared.error.RunErr.TheVariants.{TreeFault, StoreFault, StartFault, SinkFault, OutOfMemory}

-- the output failed
abbrev pub is_sink_fault : RunErr → Bool
is_sink_fault SinkFault = true
is_sink_fault _ = false

-- no error but want of memory, which may come at any time
abbrev pub OnlyMemory : {T : Type 0} → Result T RunErr → Type 0
OnlyMemory result = IfErr result (λ e. e ≡ OutOfMemory)

-- the counts of faults: of the tree, of the cache, of starts and waits, and of the sink
pub record Faults : Type 0 where
  pub tree : ℕ
  pub store : ℕ
  pub start : ℕ
  pub sink : ℕ

-- a fault comes only where its own count rose and no other did; every other answer leaves all of
-- them as they are
abbrev pub StopsBy : {T : Type 0} → Faults → Faults → Result T RunErr → Type 0
StopsBy old new (Ok _) = new ≡ old
StopsBy old new (Err TreeFault) =
    Rose old.tree new.tree × (new.store ≡ old.store) × (new.start ≡ old.start)
    × (new.sink ≡ old.sink)
StopsBy old new (Err StoreFault) =
    Rose old.store new.store × (new.tree ≡ old.tree) × (new.start ≡ old.start)
    × (new.sink ≡ old.sink)
StopsBy old new (Err StartFault) =
    Rose old.start new.start × (new.tree ≡ old.tree) × (new.store ≡ old.store)
    × (new.sink ≡ old.sink)
StopsBy old new (Err SinkFault) =
    Rose old.sink new.sink × (new.tree ≡ old.tree) × (new.store ≡ old.store)
    × (new.start ≡ old.start)
StopsBy old new (Err OutOfMemory) = new ≡ old

-- The same after what was due was put and all running commands were waited for, either of which may
-- fail too: then the counts of the cache and of starts and waits may have risen as well.
abbrev pub EndsBy : {T : Type 0} → Faults → Faults → Result T RunErr → Type 0
EndsBy old new (Ok _) = new ≡ old
EndsBy old new (Err TreeFault) =
    Rose old.tree new.tree × (old.store ≤ new.store) × (old.start ≤ new.start)
    × (new.sink ≡ old.sink)
EndsBy old new (Err StoreFault) =
    Rose old.store new.store × (new.tree ≡ old.tree) × (old.start ≤ new.start)
    × (new.sink ≡ old.sink)
EndsBy old new (Err StartFault) =
    Rose old.start new.start × (new.tree ≡ old.tree) × (old.store ≤ new.store)
    × (new.sink ≡ old.sink)
EndsBy old new (Err SinkFault) =
    Rose old.sink new.sink × (new.tree ≡ old.tree) × (old.store ≤ new.store)
    × (old.start ≤ new.start)
EndsBy old new (Err OutOfMemory) =
    (new.tree ≡ old.tree) × (old.store ≤ new.store) × (old.start ≤ new.start)
    × (new.sink ≡ old.sink)

abbrev pub faults_of : ℕ → ℕ → ℕ → ℕ → Faults
faults_of tree store start sink = record { tree = tree; store = store; start = start; sink = sink }

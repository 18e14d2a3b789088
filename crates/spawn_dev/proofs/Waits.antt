-- A wait of a world in memory, by the command that it takes.
use Rattle.std.proofs.Common.{◌≡◌, ⊎_elim, ℕ, suc, ◌+◌, ◌-◌, ◌^◌, ◌<◌, min, List, ◌++◌, length, get_or, take, drop, sym, ap, ◌∙◌, subst}
use Rattle.std.specs.Prelude.{◌↔◌, ◌⊎◌, Result, Ok, Err, IfOk, IsErrOf}
use Rattle.std.specs.Result.{IsErrAnd}
use Rattle.std.specs.List.{remove, take-map, drop-map}
use Rattle.std.proofs.lemmas.List.{get_or-map, length-map, map-append}
use Rattle.rel_path.specs.Limits.{log_limit}
use Rattle.tree_dev.specs.Turns.{FailsNext, after}
use Rattle.tree_dev.specs.declared.error.DevErr.{DevErr}
use Rattle.tree_dev.specs.declared.error.DevErr.TheVariants.{Failed, OutOfMemory}
use Rattle.spawn_dev.specs.MemWorld.{ends_of, next_end, next_index, state_of, turns_of, waits_of, WaitsAsTold}
use Rattle.spawn_dev.specs.Progress.{places_in, will_at}
use Rattle.spawn_dev.specs.World.{ends_at}
use Rattle.spawn_dev.specs.declared.command.Ended.{Ended}
use Rattle.spawn_dev.specs.declared.effect.Effect.{Effect}
use Rattle.spawn_dev.specs.declared.effect.Running.{Running}
use Rattle.spawn_dev.specs.declared.world.MemWorld.{MemWorld}

abbrev place_of : Running → ℕ
place_of run = run.command.place

remove_places : (running : List Running) (i : ℕ) → places_in (remove running i) ≡ remove (places_in running) i
remove_places running i =
    map-append place_of (take i running) (drop (suc i) running)
    ∙ (λ j. sym (take-map place_of i running) j ++ sym (drop-map place_of (suc i) running) j)

-- the command is the one that is told
pub record IsTaken (world : MemWorld) (run : Running) (index : ℕ) : Type 0 where
  pub turn : index ≡ next_index world
  pub place : run.command.place ≡ next_end world

pub is_taken : (world : MemWorld) (run : Running) (index : ℕ) → index < length world.progress.running.items
    → index ≡ ends_at (ends_of world) (waits_of world) (length world.progress.running.items)
    → run ≡ get_or world.progress.running.items index run → IsTaken world run index
is_taken world run index lt is here = record { turn = turn; place = place }
  where
    running : List Running
    running = world.progress.running.items

    turn : index ≡ next_index world
    turn = is ∙ ap (ends_at (ends_of world) (waits_of world)) (sym (length-map running place_of))

    place : run.command.place ≡ next_end world
    place = ap place_of here ∙ sym (get_or-map place_of running index run 0 lt) ∙ ap (λ i. get_or (places_in running) i 0) turn

-- it fails neither by its number nor by its log
pub fails_not : {turn long : Type 0} (result : Result Ended DevErr) → (IsErrOf result Failed → ⊥) → (turn → ⊥) → (long → ⊥) → IsErrOf result Failed ↔ (turn ⊎ long)
fails_not result other no_turn short = (λ e. absurd (other e), λ so. absurd (⊎_elim no_turn short so))

-- want of memory is no failure, and gives no end
pub only_memory : {A : Type 0} (result : Result A DevErr) (e : DevErr) → IsErrAnd result (λ x. x ≡ e) → e ≡ OutOfMemory → IsErrOf result Failed → ⊥
only_memory (Ok a) e is memory failed = absurd is
only_memory (Err x) e is memory failed = cc

pub no_end : {A : Type 0} (P : A → Type 0) (result : Result A DevErr) (e : DevErr) → IsErrAnd result (λ x. x ≡ e) → IfOk result P
no_end P (Ok a) e is = absurd is
no_end P (Err x) e is = tt

pub is_done : {A : Type 0} (a : A) → IsErrOf (Ok a) Failed → ⊥
is_done a failed = cc

pub waits_told : (old new : MemWorld) (result : Result Ended DevErr) (run : Running) (index : ℕ) → IsTaken old run index
    → will_at old.progress.running.items run.command.place ≡ run.effect
    → new.progress.running.items ≡ remove old.progress.running.items index
    → turns_of new ≡ after (turns_of old)
    → waits_of new ≡ min (waits_of old + 1) (2 ^ 64 - 1)
    → ends_of new ≡ ends_of old
    → (IsErrOf result Failed ↔ (FailsNext (turns_of old) ⊎ (log_limit < length run.effect.log)))
    → IfOk result (λ ended. ended.place ≡ run.command.place)
    → (IsErrOf result Failed → (state_of new).files ≡ (state_of old).files)
    → WaitsAsTold old new result
waits_told old new result run index taken will left turns waits ends fails place unwritten = record {
  fails = subst (λ p. IsErrOf result Failed ↔ (FailsNext (turns_of old) ⊎ (log_limit < length (will_at old.progress.running.items p).log))) taken.place
      (subst (λ (e : Effect). IsErrOf result Failed ↔ (FailsNext (turns_of old) ⊎ (log_limit < length e.log))) (sym will) fails);
  counted = turns;
  ends = subst (λ p. IfOk result (λ ended. ended.place ≡ p)) taken.place place;
  left = ap places_in left ∙ remove_places old.progress.running.items index ∙ ap (remove (places_in old.progress.running.items)) taken.turn;
  waited = waits;
  told = ends;
  unwritten = unwritten;
}

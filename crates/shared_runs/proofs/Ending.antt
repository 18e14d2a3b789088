-- The end of a turn.
use Rattle.std.proofs.Common.{◌≡◌, inl, inr, ⊎_elim, ℕ, ◌+◌, ◌-◌, ◌≤◌, false, List, ◌++◌, length}
use Rattle.std.proofs.Common.{min, Option, Some, None, Result, Ok, refl, sym, ◌∙◌, ap, subst, arith}
use Rattle.std.specs.Prelude.{is_some, IsTrue, IfOk}
use Rattle.store_dev.specs.Device.{OnlyReads}
use Rattle.store_dev.specs.declared.device.StoreDevice.{Ghosts as DeviceGhosts}
use Rattle.record_log.specs.Kinds.{Entry}
use Rattle.record_log.specs.Frames.{reading, frames_of, ends, IsSound}
use Rattle.record_log.specs.Texts.{ends_append}
use Rattle.artifact_store.specs.declared.mark.StoreMark.{StoreMark}
use Rattle.artifact_store.specs.Pairs.{free_in}
use Rattle.shared_runs.specs.declared.turns.Turns.{Turns}
use Rattle.shared_runs.specs.Marked.{IsMarked}
use Rattle.shared_runs.specs.Passes.{PassesTurn}
use Rattle.artifact_store.specs.declared.store.Store.{Store}
use Rattle.artifact_store.specs.Store as store
use Rattle.shared_runs.specs.declared.turn.Shared.{Ghosts}
use Rattle.shared_runs.specs.Frames.{StartWith, HoldsFirst}
use Rattle.shared_runs.specs.Passing.{IsInTurn, BeginsTurn, LeavesFirst}
use Rattle.shared_runs.specs.Turns.{GoesOn, LeftInTurn}
use Rattle.shared_runs.proofs.Fronts.{first_all, starts_few, holds_first}
use Rattle.shared_runs.proofs.Appending.{room_is}
use Rattle.shared_runs.proofs.MemTurns.{frames_is}
use Rattle.shared_runs.proofs.Turning.{goes_then, reads_since}
use Rattle.rel_path.specs.Causes.{Counts}
use Rattle.cache_api.specs.declared.error.CacheErr.{CacheErr}
use Rattle.cache_api.specs.Cache.{is_fault}
use Rattle.shared_runs.specs.Errors.{OrFailed}

-- a call that did not fail leaves the counts
pub counts_same : {T : Type 0} (x : T) (count f start end : ℕ)
    → Counts {T = T} is_fault count f (Ok x)
    → end ≡ start + (f - count) → Counts {T = T} is_fault start end (Ok x)
counts_same x count f start end cause is =
    let same : f ≡ count = cause.counted in
    record { later = omega (arith, same, is); counted = omega (arith, same, is) }

-- ---- a turn that was taken, and ended with a device that was only read

module _ {H D : Type 0} (G : Ghosts H D) (K : DeviceGhosts D) (old new : H) (s : Store D K)
    (device : D)
    (begins : BeginsTurn G K old new s)
    (reads : OnlyReads K.content K.images K.moment K.images_since (store.device_of s) device)
    (later : K.store_faults (store.device_of s) ≤ K.store_faults device)
    (counts : (m : ℕ) (c : List ℕ) → m ≤ K.moment (store.device_of s)
    → K.images (store.device_of s) c
    → K.images_since (store.device_of s) m c) where
  left_read : K.tells → (c : List ℕ) → K.images_since device (G.turn new).start c
      → K.images_since (store.device_of s) (G.turn new).start c
  left_read told c left =
      reads_since K.content K.images K.moment K.images_since (store.device_of s) device
      (G.turn new).start
      (begins.turn.start told) (λ x now. counts (G.turn new).start x (begins.turn.start told) now)
      reads c left

  pub reads_in_turn : IsInTurn G K new device
  reads_in_turn = record {
    held = begins.turn.held;
    count = omega (arith, begins.turn.count, later);
    counted = begins.turn.counted;
    start = λ told. omega (arith, begins.turn.start told, reads.time.later);
    kept = λ told sound c left. begins.turn.kept told sound c (left_read told c left);
  }

  -- and given back
  module _ (end : H) (told : K.tells) (sound : IsSound (G.content old))
      (starts : StartWith (frames_of (G.content old)) (G.coming old))
      (first : LeavesFirst G old new) (given : G.content end ≡ K.content device)
      (goes : GoesOn G.moment G.images_since new end
      (LeftInTurn (G.images new) (K.images_since device (G.turn new).start)))
      (earlier : (m n : ℕ) (c : List ℕ) → m ≤ n → n ≤ G.moment end → G.images_since end n c
      → G.images_since end m c) where
    pub reads_ended : reading (G.content end) ≡ Ok (G.coming old)
    reads_ended = ap reading (given ∙ reads.same)
        ∙ (s.log.kept begins.whole told).read ∙ ap (λ (l : List Entry). Ok l)
        (begins.frames told sound)

    all_of : (c : List ℕ) → reading c ≡ Ok (G.coming old)
        → HoldsFirst (length (frames_of (G.content old))) (G.coming old) c
    all_of c is = first_all (length (frames_of (G.content old))) (G.coming old) c
        (starts_few (frames_of (G.content old)) (G.coming old) starts) is

    pub reads_first : LeavesFirst G old end
    reads_first = record {
      file = all_of (G.content end) reads_ended;
      goes = goes_then G.moment G.images_since old new end
          (HoldsFirst (length (frames_of (G.content old))) (G.coming old))
          (LeftInTurn (G.images new) (K.images_since device (G.turn new).start))
          (HoldsFirst (length (frames_of (G.content old))) (G.coming old)) earlier first.goes goes
          (λ c p. p)
          (λ c. ⊎_elim
          (λ was. all_of c (ap reading (begins.durable told sound c was) ∙ begins.read told sound))
          (λ now. all_of c (begins.left told sound c (left_read told c now))));
    }

-- ---- what is known of the file behind a turn

pub some_of : {A : Type 0} (o : Option A) → IsTrue (is_some o) → (a : A) × (o ≡ Some a)
some_of (Some a) is = (a, refl)
some_of None is = absurd cc

none_some : {A : Type 0} (o : Option A) (a : A) → o ≡ None → o ≡ Some a → ⊥
none_some (Some b) a none some = absurd cc
none_some None a none some = absurd cc

pub free_less : (fs all : List Entry) (old new : List ℕ) → frames_of old ≡ fs → StartWith fs all
    → HoldsFirst (length fs) all new → free_in new ≤ free_in old
free_less fs all old new was starts first =
    let (more, is) = holds_first fs all starts new first in
    omega (arith, ap ends was, ap ends (frames_is new (fs ++ more) is), ends_append fs more)

module _ {H D : Type 0} (G : Ghosts H D) (K : DeviceGhosts D) (old mid : Turns H)
    (began : (G.turn mid.shared).began ≡ G.moment old.shared)
    (first : K.tells → LeavesFirst G old.shared mid.shared)
    (starts : K.tells → StartWith (frames_of (G.content old.shared)) (G.coming old.shared))
    (grows : ends (G.coming old.shared) ≤ ends (G.coming mid.shared)) where
  -- a turn that was not taken
  pub passes_err : (G.turn mid.shared).held ≡ false → mid.mark ≡ None → mid.room ≡ old.room
      → mid.reads ≡ old.reads → (K.tells → mid.damaged ≡ old.damaged) → PassesTurn G K old mid
  passes_err held none room reads undamaged = record {
    held = held;
    began = began;
    first = first;
    ended = inl (ap is_some none);
    undamaged = undamaged;
    grows = grows;
    known = λ m is told. absurd (none_some mid.mark m none is);
    free = λ told free. omega (
      arith,
      free,
      room,
      free_less (frames_of (G.content old.shared)) (G.coming old.shared)
          (G.content old.shared) (G.content mid.shared) refl (starts told) (first told).file,
    );
    reads = omega (arith, reads);
  }

  -- one whose device was only read
  pub passes_reads : (new : Turns H) (s : Store D K) (device : D)
      → BeginsTurn G K old.shared mid.shared s
      → OnlyReads K.content K.images K.moment K.images_since (store.device_of s) device
      → K.store_faults (store.device_of s) ≤ K.store_faults device
      → ((m : ℕ) (c : List ℕ) → m ≤ K.moment (store.device_of s) → K.images (store.device_of s) c
      → K.images_since (store.device_of s) m c)
      → (K.tells → IsSound (G.content old.shared))
      → (G.turn new.shared).held ≡ false → (G.turn new.shared).began ≡ (G.turn mid.shared).began
      → (K.tells → G.content new.shared ≡ K.content device)
      → ((m : StoreMark) → new.mark ≡ Some m → K.tells
      → IsMarked m (G.content new.shared) (G.images new.shared))
      → (K.tells → GoesOn G.moment G.images_since mid.shared new.shared
      (LeftInTurn (G.images mid.shared) (K.images_since device (G.turn mid.shared).start)))
      → ((m n : ℕ) (c : List ℕ) → m ≤ n → n ≤ G.moment new.shared → G.images_since new.shared n c
      → G.images_since new.shared m c)
      → ends (G.coming mid.shared) ≤ ends (G.coming new.shared)
      → mid.room ≡ min old.room (store.state_of s).room → new.room ≡ mid.room
      → old.reads ≤ new.reads → (K.tells → new.damaged ≡ old.damaged) → PassesTurn G K old new
  passes_reads new s device begins reads later counts sound held same given known goes back m r k n
      undamaged =
      let then : K.tells → LeavesFirst G old.shared new.shared =
      λ told. reads_first G K old.shared mid.shared s device begins reads later counts new.shared
      told (sound told)
      (starts told) (first told) (given told) (goes told) back in
      let read : K.tells → reading (G.content new.shared) ≡ Ok (G.coming old.shared) =
      λ told. reads_ended G K old.shared mid.shared s device begins reads later counts new.shared
      told (sound told)
      (starts told) (first told) (given told) (goes told) back in
      record {
        held = held;
        began = same ∙ began;
        first = then;
        ended = inr read;
        undamaged = undamaged;
        grows = omega (arith, grows, m);
        known = known;
        free = λ told free.
            let less = free_less (frames_of (G.content old.shared)) (G.coming old.shared)
            (G.content old.shared) (G.content new.shared) refl (starts told) (then told).file in
            omega (
              arith,
              free,
              less,
              r,
              k,
              room_is s begins.whole told,
              ap ends (begins.frames told (sound told)),
              ap ends (frames_is (G.content new.shared) (G.coming old.shared) (read told)),
            );
        reads = n;
      }

-- ---- what is answered

pub or_failed : {T : Type 0} (answer result : Result T CacheErr) (P : T → Type 0)
    → OrFailed answer result
    → IfOk answer P → IfOk result P
or_failed {T = T} answer result P (inl is) p =
    subst (λ (r : Result T CacheErr). IfOk r P) (sym is) p
or_failed {T = T} answer result P (inr is) p =
    subst (λ (r : Result T CacheErr). IfOk r P) (sym is) tt

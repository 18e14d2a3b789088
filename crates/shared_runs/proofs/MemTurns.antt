-- Turns of a shared file in memory.
use Rattle.std.proofs.Common.{◌≡◌, inl, inr, ⊎_elim, ℕ, ◌+◌, ◌-◌, ◌≤◌, List, [], ◌∷◌, ◌++◌, length}
use Rattle.std.proofs.Common.{Result, Ok, Err, refl, sym, ◌∙◌, ap, subst, arith, length-append}
use Rattle.std.proofs.lemmas.List.{append-nil}
use Rattle.rel_path.specs.Causes.{Counts, Rose}
use Rattle.rel_path.specs.Limits.{store_limit}
use Rattle.store_dev.specs.declared.memory.MemStore.{MemStore}
use Rattle.store_dev.specs.declared.step.Step.{Step}
use Rattle.store_dev.specs.MemStore as device
use Rattle.store_dev.specs.Memory.{origin, ImagesFrom}
use Rattle.store_dev.specs.Record.{counts, reads_as_one}
use Rattle.cache_api.specs.Pairs.{Pair}
use Rattle.record_log.specs.Kinds.{Entry}
use Rattle.record_log.specs.Frames.{reading, frames_of, ends, IsSound, Fault}
use Rattle.record_log.specs.Texts.{ends_append}
use Rattle.pair_frames.specs.Puts.{added}
use Rattle.shared_runs.specs.declared.memory.MemShared.{MemShared}
use Rattle.shared_runs.specs.declared.turn.TurnErr.TheVariants.{Failed}
use Rattle.shared_runs.specs.Appended.{IsFresh}
use Rattle.shared_runs.specs.Frames.{HoldsOn, HoldsOneOrMore}
use Rattle.shared_runs.specs.History.{LeftSince, faults_among}
use Rattle.shared_runs.specs.HistoryLaws.{left_last, left_split, left_more, left_kept}
use Rattle.shared_runs.specs.MemShared.{images_of, images_since_of, moment_of, devices_of}
use Rattle.shared_runs.specs.MemShared.{faults_of}
use Rattle.shared_runs.specs.MemLaws.{frames_with_is}
use Rattle.shared_runs.specs.Others.{with_pairs, frames_with}
use Rattle.shared_runs.specs.Turns.{GoesOn, is_fault}

-- ---- the file's time

-- a call that leaves the devices
pub goes_none : (old new : MemShared) (P : List ℕ → Type 0) → moment_of new ≡ moment_of old
    → ((m : ℕ) (c : List ℕ) → images_since_of new m c → images_since_of old m c)
    → ((m : ℕ) (c : List ℕ) → images_since_of old m c → images_since_of new m c)
    → ((c : List ℕ) → images_of old c → P c)
    → GoesOn moment_of images_since_of old new P
goes_none old new P same to from here = record {
  later = omega (arith, same);
  each = λ c left. here c (left_last old.past.items old.file c (to (moment_of old) c left));
  nothing_else = λ m c le left. inl (to m c left);
  keeps = λ m c le left. from m c left;
}

-- one that puts a device behind them
pub goes_next : (old new : MemShared) (d : MemStore) (P : List ℕ → Type 0)
    → new.past.items ≡ old.past.items ++ old.file ∷ [] → new.file ≡ d
    → ((c : List ℕ) → images_of old c → P c) → ((c : List ℕ) → device.images_since_of d 0 c → P c)
    → GoesOn moment_of images_since_of old new P
goes_next old new d P past file here there =
    let all = devices_of old in
    let are : devices_of new ≡ all ++ d ∷ [] = λ i. past i ++ file i ∷ [] in
    let to : (m : ℕ) (c : List ℕ) → images_since_of new m c → LeftSince (all ++ d ∷ []) m c =
    λ m c left. subst (λ (l : List MemStore). LeftSince l m c) are left in
    let from : (m : ℕ) (c : List ℕ) → LeftSince (all ++ d ∷ []) m c → images_since_of new m c =
    λ m c left. subst (λ (l : List MemStore). LeftSince l m c) (sym are) left in
    record {
      later = omega (arith, ap length past, length-append old.past.items (old.file ∷ []));
      each = λ c left. ⊎_elim (λ was. here c was) (λ now. there c now)
          (left_more old.past.items old.file d c (to (moment_of old) c left));
      nothing_else = λ m c le left. ⊎_elim (λ was. inl was)
          (λ now. inr (from (moment_of old) c now))
          (left_split old.past.items old.file d m c le (to m c left));
      keeps = λ m c le left. from m c (left_kept all d m c left);
    }

-- ---- counts of faults

among_more : (ds : List MemStore) (d : MemStore)
    → faults_among (ds ++ d ∷ []) ≡ faults_among ds + device.faults_of d
among_more [] d = omega arith
among_more (x ∷ ds) d = omega (arith, among_more ds d)

-- with a device more
module _ (old : MemShared) (d : MemStore) (items : List MemStore) (file : MemStore) (faults : ℕ)
    (past : items ≡ old.past.items ++ old.file ∷ []) (is : file ≡ d) where
  pub faults_more : faults + faults_among (items ++ file ∷ [])
      ≡ faults + faults_among (devices_of old) + device.faults_of d
  faults_more =
      let are : items ++ file ∷ [] ≡ devices_of old ++ d ∷ [] = λ i. past i ++ is i ∷ [] in
      omega (arith, ap faults_among are, among_more (devices_of old) d)

  pub counts_failed : Rose old.faults faults → old.faults ≤ faults
      → Counts {T = Unit {0}} is_fault (faults_of old + (device.faults_of d - 0))
      (faults + faults_among (items ++ file ∷ [])) (Err Failed)
  counts_failed rose later = record {
    later = omega (arith, faults_more, later);
    counted = omega (arith, faults_more, rose, later);
  }

  pub counts_given : {T : Type 0} (value : T) → faults ≡ old.faults
      → Counts {T = T} is_fault (faults_of old + (device.faults_of d - 0))
      (faults + faults_among (items ++ file ∷ [])) (Ok value)
  counts_given value same =
      record {
        later = omega (arith, faults_more, same);
        counted = omega
            (arith, faults_more, same);
      }

  pub counts_taken : {T : Type 0} (value : T) → faults ≡ old.faults → device.faults_of d ≡ 0
      → Counts {T = T} is_fault (faults_of old) (faults + faults_among (items ++ file ∷ []))
      (Ok value)
  counts_taken value same none =
      record {
        later = omega (arith, faults_more, same, none);
        counted = omega
            (arith, faults_more, same, none);
      }

-- ---- the frames of a file

pub frames_with_none : (bytes : List ℕ) (pairs : List Pair) (fault : Fault) → reading bytes
    ≡ Err fault
    → frames_with bytes pairs ≡ []
unfolding frames_with
frames_with_none bytes pairs fault is = rw (is, frames_with) refl

pub frames_is : (bytes : List ℕ) (es : List Entry) → reading bytes ≡ Ok es → frames_of bytes ≡ es
unfolding frames_of
frames_is bytes es is = rw (is, frames_of) refl

pub sound_is : (bytes : List ℕ) (es : List Entry) → reading bytes ≡ Ok es → IsSound bytes
sound_is bytes es is = is ∙ ap (λ (l : List Entry). Ok l) (sym (frames_is bytes es is))

ends_none : (es : List Entry) → ends [] ≤ ends es
ends_none es = omega arith

ends_with : (es : List Entry) (pairs : List Pair) → ends es ≤ ends (with_pairs es pairs)
ends_with es pairs =
    omega (arith, ends_append es (added (store_limit - ends es) es pairs))

-- the frames of a file are no fewer once more were put
pub ends_more : (old : List ℕ) (all : List Entry) (new : List ℕ) (pairs : List Pair)
    → reading new ≡ Ok all → ends (frames_with old []) ≤ ends all
    → ends (frames_with old []) ≤ ends (frames_with new pairs)
ends_more old all new pairs is le =
    omega (arith, le, ends_with all pairs, ap ends (frames_with_is new all pairs is))

module _ (old : List ℕ) (pairs : List Pair) (new : List ℕ) where
  -- while a turn is held the file has the frames with which it began
  grows_by : (read : Result (List Entry) Fault) → reading old ≡ read
      → (IsSound old → reading new ≡ Ok (frames_with old pairs))
      → ends (frames_with old pairs) ≤ ends (frames_with new [])
  grows_by (Ok es) is to =
      let all = frames_with old pairs in
      omega (arith, ends_with all [], ap ends (frames_with_is new all [] (to (sound_is old es is))))
  grows_by (Err fault) is to =
      omega (arith, ap ends (frames_with_none old pairs fault is), ends_none (frames_with new []))

  pub grows_taken : (IsSound old → reading new ≡ Ok (frames_with old pairs))
      → ends (frames_with old pairs) ≤ ends (frames_with new [])
  grows_taken to = grows_by (reading old) refl to

module _ (old : List ℕ) (new : List ℕ) (pairs : List Pair) where
  given_by : (read : Result (List Entry) Fault) → reading old ≡ read
      → (IsSound old → HoldsOn (frames_of old) new)
      → ends (frames_with old []) ≤ ends (frames_with new pairs)
  given_by (Ok es) is to =
      let (more, now) = to (sound_is old es is) in
      let same : frames_of old ≡ es = frames_is old es is in
      let all = frames_of old ++ more in
      omega (
        arith,
        ap ends (frames_with_is old es [] is),
        ap ends (append-nil es),
        ap ends same,
        ends_append (frames_of old) more,
        ends_with all pairs,
        ap ends (frames_with_is new all pairs now),
      )
  given_by (Err fault) is to =
      omega (arith, ap ends (frames_with_none old [] fault is), ends_none (frames_with new pairs))

  -- and no fewer once it is given back
  pub grows_given : (IsSound old → HoldsOn (frames_of old) new)
      → ends (frames_with old []) ≤ ends (frames_with new pairs)
  grows_given to = given_by (reading old) refl to

-- ---- images

-- of a file that is one of its images
pub one_is : (images : List ℕ → Type 0) (bytes : List ℕ) → images bytes
    → (all : List Entry) (c : List ℕ)
    → HoldsOneOrMore (λ b. b ≡ bytes) bytes all c → HoldsOneOrMore images bytes all c
one_is images bytes now all c (inl (d, is, same)) = inl (bytes, now, same ∙ ap reading is)
one_is images bytes now all c (inr more) = inr more

-- of a device that was not called yet there is but one
pub fresh_images : (bytes : List ℕ) (d : MemStore) → IsFresh bytes d → (c : List ℕ)
    → device.images_of d c
    → c ≡ bytes
fresh_images bytes d fresh c now =
    let is : c ≡ d.bytes.items =
    subst (λ (l : List Step). ImagesFrom (origin d.bytes.items d.first.items l) l c) fresh.steps
    now in
    is ∙ fresh.bytes_are

pub reads_as : (d : MemStore) → device.images_of d (device.bytes_of d)
reads_as d = reads_as_one (device.bytes_of d) (device.start_of d) (device.steps_of d) d.replayed

pub left_as : (d : MemStore) → device.images_since_of d 0 (device.bytes_of d)
left_as d = counts (device.start_of d) (device.steps_of d) 0 (device.bytes_of d) (omega arith)
    (reads_as d)

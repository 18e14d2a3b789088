-- From images to what they stand for.
use Rattle.std.proofs.Common.{◌≡◌, inl, inr, ⊎_elim, ℕ, ◌≤◌, List, Option, Result, refl, sym, ◌∙◌, subst, arith}
use Rattle.store_dev.specs.Device.{LeavesOnly, OnlyReads}
use Rattle.store_dev.specs.Moments.{reads_leave, leaves_then}
use Rattle.store_dev.specs.declared.device.StoreDevice.{Ghosts}
use Rattle.cache_api.specs.Moments.{Leaves}
use Rattle.cache_api.specs.Pairs.{Pair}
use Rattle.record_log.specs.Frames.{reading, Fault, ReadsAsOneOf}
use Rattle.artifact_store.specs.declared.error.OpenErr.{OpenErr}
use Rattle.artifact_store.specs.declared.error.OpenErr.TheVariants.{NotAStore, Damaged, Failed, OutOfMemory}
use Rattle.artifact_store.specs.declared.store.Store.{Store}
use Rattle.artifact_store.specs.Answers.{IsFaultOf, IsIndexErr}
use Rattle.artifact_store.specs.Pairs.{stands_for, LeftOf, IsOneOf}
use Rattle.blob_pool.specs.Laws.{reads_log_both}
use Rattle.artifact_store.specs.Store.{device_of, moment_of, left_of, OnlyReadsStore}

same_reading : (x y : List ℕ) → reading x ≡ reading y → stands_for x ≡ stands_for y
unfolding stands_for
same_reading x y e = rw (e, stands_for) refl

pub one_of : (images : List ℕ → Type 0) (c : List ℕ) → ReadsAsOneOf images c
    → IsOneOf images (stands_for c)
one_of images c (d, now, same) = (d, now, same_reading c d same)

-- of devices, from what a crash leaves to what that stands for
pub stand_leaves : {D : Type 0} (moment : D → ℕ) (since : D → ℕ → List ℕ → Type 0) (a b : D)
    (P : List ℕ → Type 0) (Q : Option (List Pair) → Type 0) → LeavesOnly moment since a b P
    → ((c : List ℕ) → P c → Q (stands_for c)) → LeavesOnly moment (LeftOf since) a b Q
stand_leaves moment since a b P Q x to = record {
  later = x.later;
  each = λ o (c, left, is). subst Q (sym is) (to c (x.each c left));
  before = λ m o le (c, left, is).
      ⊎_elim (λ was. inl (c, was, is)) (λ now. inr (subst Q (sym is) (to c now))) (x.before m c le left);
}

-- of a store, by its device
pub store_leaves : {S : Type 0} {G : Ghosts S} (a b : Store S G) (P Q : List ℕ → Type 0)
    → LeavesOnly G.moment G.images_since (device_of a) (device_of b) P
    → ((c : List ℕ) → P c → Q c) → Leaves moment_of left_of a b Q
store_leaves a b P Q x to = record {
  later = record { first = x.later; second = omega arith };
  each = λ c left. to c (x.each c left);
  before = λ m c le left.
      ⊎_elim (λ was. inl was) (λ p. inr (to c p)) (x.before m.first c le.first left);
}

-- a device that was opened, and then read
module _ {D : Type 0} (content : D → List ℕ) (images : D → List ℕ → Type 0) (moment : D → ℕ)
    (since : D → ℕ → List ℕ → Type 0) where
  pub then_read : (old mid new : D) (P : List ℕ → Type 0) → LeavesOnly moment since old mid P
      → OnlyReads content images moment since mid new
      → ((c : List ℕ) → since mid (moment mid) c → images mid c)
      → ((m : ℕ) (c : List ℕ) → m ≤ moment mid → images mid c → since mid m c)
      → LeavesOnly moment since old new P
  then_read old mid new P x reads only counts =
      leaves_then moment since old mid new P P P x
      (reads_leave content images moment since mid new P reads only (λ c now. x.each c (counts (moment old) c x.later now)))
      (λ c p. p) (λ c p. p)

-- the errors behind the opening of a log say nothing of its bytes
pub index_fault : {A : Type 0} (fault : OpenErr) (read : Result A Fault) → IsIndexErr fault
    → IsFaultOf fault read
index_fault NotAStore read is = absurd is
index_fault (Damaged at) read is = absurd is
index_fault Failed read is = tt
index_fault OutOfMemory read is = tt

-- ---- calls that only read a store

pub reads_both : {S : Type 0} {G : Ghosts S} (a b d : Store S G) → OnlyReadsStore a b
    → OnlyReadsStore b d → OnlyReadsStore a d
reads_both a b d x y = record {
  log = reads_log_both a.log b.log d.log x.log y.log;
  index = y.index ∙ x.index;
  generation = y.generation ∙ x.generation;
}

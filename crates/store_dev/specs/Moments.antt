-- How a run of device calls goes on, in what it leaves to a crash.
use Rattle.std.proofs.Common.{inl, inr, ⊎_elim, ℕ, List, refl, ◌∙◌, arith}
use Rattle.store_dev.specs.Device.{Elapses, LeavesOnly, OnlyReads}

-- of what a crash leaves, an image or what one stands for
module _ {D X : Type 0} (moment : D → ℕ) (since : D → ℕ → X → Type 0) where
  -- before the first call
  pub started : (old : D) (P : X → Type 0) → ((c : X) → since old (moment old) c → P c) → LeavesOnly moment since old old P
  started old P here = record { later = omega arith; each = here; before = λ m c le left. inl left }

  -- what is left may be said more weakly
  pub leaves_more : (a b : D) (P Q : X → Type 0) → LeavesOnly moment since a b P → ((c : X) → P c → Q c) → LeavesOnly moment since a b Q
  leaves_more a b P Q x to = record {
    later = x.later;
    each = λ c left. to c (x.each c left);
    before = λ m c le left. ⊎_elim (λ was. inl was) (λ now. inr (to c now)) (x.before m c le left);
  }

  -- one run and then another
  pub leaves_then : (a b d : D) (P Q R : X → Type 0) → LeavesOnly moment since a b P → LeavesOnly moment since b d Q → ((c : X) → P c → R c) → ((c : X) → Q c → R c) → LeavesOnly moment since a d R
  leaves_then a b d P Q R x y left right = record {
    later = omega (arith, x.later, y.later);
    each = λ c was. ⊎_elim (λ old. left c (x.each c old)) (λ now. right c now) (y.before (moment a) c x.later was);
    before = λ m c le was. ⊎_elim (λ old. ⊎_elim (λ older. inl older) (λ now. inr (left c now)) (x.before m c le old)) (λ now. inr (right c now)) (y.before m c (omega (arith, le, x.later)) was);
  }

module _ {D : Type 0} (moment : D → ℕ) (images_since : D → ℕ → List ℕ → Type 0) where
  -- one call more, after which a crash leaves what has P
  pub goes_on : (old mid new : D) (P images : List ℕ → Type 0) → LeavesOnly moment images_since old mid P → Elapses (moment mid) (moment new) (images_since mid) (images_since new) images
      → ((c : List ℕ) → images c → P c) → LeavesOnly moment images_since old new P
  goes_on old mid new P images so_far time here = record {
    later = omega (arith, so_far.later, time.later);
    each = λ c left. ⊎_elim (so_far.each c) (here c) (time.nothing_else (moment old) c so_far.later left);
    before = λ m c le left. ⊎_elim (so_far.before m c le) (λ now. inr (here c now)) (time.nothing_else m c (omega (arith, le, so_far.later)) left);
  }

-- calls that only read
module _ {D : Type 0} (content : D → List ℕ) (images : D → List ℕ → Type 0) (moment : D → ℕ) (images_since : D → ℕ → List ℕ → Type 0) where
  pub reads_none : (d : D) → OnlyReads content images moment images_since d d
  reads_none d = record { same = refl; fewer = λ c now. now; time = record { later = omega arith; nothing_else = λ m c le left. inl left; keeps = λ m c le left. left } }

  pub reads_both : (a b d : D) → OnlyReads content images moment images_since a b → OnlyReads content images moment images_since b d → OnlyReads content images moment images_since a d
  reads_both a b d p q = record {
    same = q.same ∙ p.same;
    fewer = λ c now. p.fewer c (q.fewer c now);
    time = record {
      later = omega (arith, p.time.later, q.time.later);
      nothing_else = λ m c le left. ⊎_elim (p.time.nothing_else m c le) (λ now. inr (p.fewer c now)) (q.time.nothing_else m c (omega (arith, le, p.time.later)) left);
      keeps = λ m c le left. q.time.keeps m c (omega (arith, le, p.time.later)) (p.time.keeps m c le left);
    };
  }

  -- they leave what was left before
  pub reads_leave : (a b : D) (P : List ℕ → Type 0) → OnlyReads content images moment images_since a b → ((c : List ℕ) → images_since a (moment a) c → images a c) → ((c : List ℕ) → images a c → P c) → LeavesOnly moment images_since a b P
  reads_leave a b P x only here = record {
    later = x.time.later;
    each = λ c left. ⊎_elim (λ was. here c (only c was)) (λ now. here c now) (x.time.nothing_else (moment a) c (omega arith) left);
    before = λ m c le left. ⊎_elim (λ was. inl was) (λ now. inr (here c now)) (x.time.nothing_else m c le left);
  }

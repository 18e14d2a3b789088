-- A run of calls that goes on, over any clock, in what it leaves to a crash.
use Rattle.std.proofs.Common.{inl, inr, ⊎_elim, ℕ, ◌≤◌}
use Rattle.store_dev.specs.Device.{LeavesBetween, LeavesOnly}

-- of what a crash leaves, an image or what one stands for
module _ {T X : Type 0} (no_later : T → T → Type 0) where
  -- before the first call
  pub started : (now : T) (past : T → X → Type 0) (P : X → Type 0) → no_later now now
      → ((c : X) → past now c → P c) → LeavesBetween no_later now now past past P
  started now past P same here =
      record { later = same; each = here; before = λ m c le left. inl left }

  -- what is left may be said more weakly
  pub leaves_more : (start end : T) (past since : T → X → Type 0) (P Q : X → Type 0)
      → LeavesBetween no_later start end past since P → ((c : X) → P c → Q c)
      → LeavesBetween no_later start end past since Q
  leaves_more start end past since P Q x to = record {
    later = x.later;
    each = λ c left. to c (x.each c left);
    before = λ m c le left. ⊎_elim (λ was. inl was) (λ now. inr (to c now)) (x.before m c le left);
  }

  -- one run and then another
  pub leaves_then : (start mid end : T) (past half since : T → X → Type 0) (P Q R : X → Type 0)
      → ((a b d : T) → no_later a b → no_later b d → no_later a d)
      → LeavesBetween no_later start mid past half P → LeavesBetween no_later mid end half since Q
      → ((c : X) → P c → R c) → ((c : X) → Q c → R c)
      → LeavesBetween no_later start end past since R
  leaves_then start mid end past half since P Q R trans x y left right = record {
    later = trans start mid end x.later y.later;
    each = λ c was. ⊎_elim (λ old. left c (x.each c old)) (λ now. right c now) (y.before start c x.later was);
    before = λ m c le was.
        ⊎_elim (λ old. ⊎_elim (λ older. inl older) (λ now. inr (left c now)) (x.before m c le old)) (λ now. inr (right c now))
        (y.before m c (trans m start mid le x.later) was);
  }

-- the clock of one device
module _ {D X : Type 0} (moment : D → ℕ) (since : D → ℕ → X → Type 0) where
  pub only_between : (old new : D) (P : X → Type 0) → LeavesOnly moment since old new P
      → LeavesBetween (λ m n. m ≤ n) (moment old) (moment new) (since old) (since new) P
  only_between old new P x = record { later = x.later; each = x.each; before = x.before }

  pub between_only : (old new : D) (P : X → Type 0)
      → LeavesBetween (λ m n. m ≤ n) (moment old) (moment new) (since old) (since new) P
      → LeavesOnly moment since old new P
  between_only old new P x = record { later = x.later; each = x.each; before = x.before }

-- How the time of a file goes on over a turn.
use Rattle.std.proofs.Common.{inl, inr, ⊎_elim, ℕ, ◌≤◌, List, arith}
use Rattle.store_dev.specs.Device.{OnlyReads}
use Rattle.shared_runs.specs.Turns.{GoesOn}

module _ {H : Type 0} (moment : H → ℕ) (since : H → ℕ → List ℕ → Type 0) where
  -- what is left may be said more weakly
  pub goes_more : (old new : H) (P Q : List ℕ → Type 0) → GoesOn moment since old new P
      → ((c : List ℕ) → P c → Q c) → GoesOn moment since old new Q
  goes_more old new P Q x to = record {
    later = x.later;
    each = λ c left. to c (x.each c left);
    nothing_else = x.nothing_else;
    keeps = x.keeps;
  }

  -- one call and then another, where what is left since a moment is left since each earlier one
  pub goes_then : (a b d : H) (P Q R : List ℕ → Type 0)
      → ((m n : ℕ) (c : List ℕ) → m ≤ n → n ≤ moment d → since d n c → since d m c)
      → GoesOn moment since a b P → GoesOn moment since b d Q
      → ((c : List ℕ) → P c → R c) → ((c : List ℕ) → Q c → R c) → GoesOn moment since a d R
  goes_then a b d P Q R earlier x y first second = record {
    later = omega (arith, x.later, y.later);
    each = λ c left. ⊎_elim (λ was. first c (x.each c was)) (λ now. second c (y.each c now))
        (y.nothing_else (moment a) c x.later left);
    nothing_else = λ m c le left. ⊎_elim
        (λ was. ⊎_elim (λ older. inl older) (λ now. inr (y.keeps (moment a) c x.later now))
        (x.nothing_else m c le was))
        (λ now. inr (earlier (moment a) (moment b) c x.later y.later now))
        (y.nothing_else m c (omega (arith, le, x.later)) left);
    keeps = λ m c le left. y.keeps m c (omega (arith, le, x.later)) (x.keeps m c le left);
  }

-- a device that is only read leaves since a moment what it might have left since then
pub reads_since : {D : Type 0} (content : D → List ℕ) (images : D → List ℕ → Type 0)
    (moment : D → ℕ)
    (since : D → ℕ → List ℕ → Type 0) (old new : D) (start : ℕ) → start ≤ moment old
    → ((c : List ℕ) → images old c → since old start c)
    → OnlyReads content images moment since old new
    → (c : List ℕ) → since new start c → since old start c
reads_since content images moment since old new start le counts x c left =
    ⊎_elim (λ was. was) (λ now. counts c now) (x.time.nothing_else start c le left)

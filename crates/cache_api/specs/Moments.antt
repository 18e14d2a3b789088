-- The clock of a cache: the clocks of its devices, of which there are at most two.
use Rattle.std.specs.Prelude.{ℕ, ◌≤◌}
use Rattle.std.proofs.Common.{arith}
use Rattle.store_dev.specs.Device.{LeavesBetween}
use Rattle.store_dev.specs.Clocks as clocks

-- a cache over one device leaves the second at 0
pub record Moment : Type 0 where
  pub first : ℕ
  pub second : ℕ

pub record NoLater (a b : Moment) : Type 0 where
  pub first : a.first ≤ b.first
  pub second : a.second ≤ b.second

-- A crash at any moment from old to new leaves what has P. X is what a crash leaves, S a cache.
abbrev pub Leaves : {S X : Type 0} → (S → Moment) → (S → Moment → X → Type 0) → S → S
    → (X → Type 0) → Type 0
Leaves moment left old new P =
    LeavesBetween NoLater (moment old) (moment new) (left old) (left new) P

pub no_later_self : (m : Moment) → NoLater m m
no_later_self m = record { first = omega arith; second = omega arith }

pub no_later_then : (a b d : Moment) → NoLater a b → NoLater b d → NoLater a d
no_later_then a b d x y =
    record { first = omega (arith, x.first, y.first); second = omega (arith, x.second, y.second) }

module _ {S X : Type 0} (moment : S → Moment) (left : S → Moment → X → Type 0) where
  -- before the first call
  pub started : (now : S) (P : X → Type 0) → ((c : X) → left now (moment now) c → P c)
      → Leaves moment left now now P
  started now P here =
      clocks.started NoLater (moment now) (left now) P (no_later_self (moment now)) here

  -- what is left may be said more weakly
  pub leaves_more : (old new : S) (P Q : X → Type 0) → Leaves moment left old new P
      → ((c : X) → P c → Q c) → Leaves moment left old new Q
  leaves_more old new P Q x to =
      clocks.leaves_more NoLater (moment old) (moment new) (left old) (left new) P Q x to

  -- one run and then another
  pub leaves_then : (old mid new : S) (P Q R : X → Type 0) → Leaves moment left old mid P
      → Leaves moment left mid new Q → ((c : X) → P c → R c) → ((c : X) → Q c → R c)
      → Leaves moment left old new R
  leaves_then old mid new P Q R x y first second =
      clocks.leaves_then NoLater (moment old) (moment mid) (moment new)
      (left old) (left mid) (left new) P Q R no_later_then x y first second

-- Nodes of a complete binary tree of flags.
use Rattle.std.proofs.Common.{◌≡◌, ◌≢◌, ℕ, zero, suc, ◌+◌, ◌*◌, ◌/◌, ◌%◌, ◌^◌, ◌<◌, ◌≤◌, Bool, true, false, ◌||◌, List, length, set, get_or-set_same, get_or-set_other, refl, sym, ap, ◌∙◌, subst, arith, inl, inr}
use Rattle.std.proofs.Math.Nat.{pow-succ', mul-one, mul_assoc, mul_comm, mul-le-mul_left}
use Rattle.std.proofs.Common.{◌-◌}
use Rattle.std.proofs.lemmas.Bool.{cases_eq, cases_lt, or_left, or_right, true≢false, false_from_ne_true}
use Rattle.std.proofs.Common.{[], ◌∷◌, drop}
use Rattle.std.proofs.lemmas.List.{get_or-drop}
use Rattle.run_core.specs.Sets.{has, IsLeast}
use Rattle.run_core.specs.Trees.{flag, IsRight, AreRight, IsPower}

pub half-le : (i : ℕ) → 2 * (i / 2) ≤ i
half-le i = omega arith

pub half-ge : (i : ℕ) → i ≤ 2 * (i / 2) + 1
half-ge i = omega arith

pub half-below : (i n : ℕ) → n % 2 ≡ 0 → i < n → 2 * (i / 2) + 1 < n
half-below i n even l = omega arith

pub mended : (flags : List Bool) (h : ℕ) (b : Bool) → 1 ≤ h → h < length flags → b ≡ (flag flags (2 * h) || flag flags (2 * h + 1)) → ((i : ℕ) → 1 ≤ i → 2 * i < length flags → i ≢ h → IsRight flags i)
    → (i : ℕ) → 1 ≤ i → 2 * i < length flags → i ≢ h / 2 → IsRight (set flags h b) i
mended flags h b one l is others i low below apart =
    elim (cases_eq i h) [
      | inl e ↦
          let left : 2 * h ≢ h = omega arith in
          let right : 2 * h + 1 ≢ h = omega arith in
          subst (λ j. flag (set flags h b) j ≡ (flag (set flags h b) (2 * j) || flag (set flags h b) (2 * j + 1))) (sym e)
          (get_or-set_same flags h b false l ∙ is
          ∙ sym (ap (λ x. x || flag (set flags h b) (2 * h + 1)) (get_or-set_other flags h (2 * h) b false left) ∙ ap (λ x. flag flags (2 * h) || x) (get_or-set_other flags h (2 * h + 1) b false right)))
      | inr d ↦
          let left : 2 * i ≢ h = omega (arith, half-le h, half-ge h) in
          let right : 2 * i + 1 ≢ h = omega (arith, half-le h, half-ge h) in
          get_or-set_other flags h i b false d ∙ others i low below d
          ∙ sym (ap (λ x. x || flag (set flags h b) (2 * i + 1)) (get_or-set_other flags h (2 * i) b false left) ∙ ap (λ x. flag flags (2 * i) || x) (get_or-set_other flags h (2 * i + 1) b false right))
    ]

-- a set node has a set parent
pub parent : (flags : List Bool) → AreRight flags → (i : ℕ) → 2 ≤ i → i < length flags → flag flags i ≡ true → flag flags (i / 2) ≡ true
parent flags right i two l h =
    let is = right (i / 2) (omega (arith, half-ge i)) (omega (arith, half-le i)) in
    is ∙ elim (cases_eq i (2 * (i / 2))) [
      | inl e ↦ or_left (flag flags (2 * (i / 2))) (flag flags (2 * (i / 2) + 1)) (ap (flag flags) (sym e) ∙ h)
      | inr d ↦ let e : i ≡ 2 * (i / 2) + 1 = omega (arith, half-le i, half-ge i) in or_right (flag flags (2 * (i / 2))) (flag flags (2 * (i / 2) + 1)) (ap (flag flags) (sym e) ∙ h)
    ]

-- so where the root is not set, no node is
pub none-set : (flags : List Bool) → AreRight flags → flag flags 1 ≡ false → (fuel i : ℕ) → i ≤ fuel → 1 ≤ i → i < length flags → flag flags i ≡ false
none-set flags right root zero i f one l = absurd (omega arith)
none-set flags right root (suc fuel) i f one l =
    elim (cases_lt i 2) [
      | inl b ↦ let e : i ≡ 1 = omega arith in ap (flag flags) e ∙ root
      | inr two ↦ false_from_ne_true _ (λ h. true≢false (sym (parent flags right i two l h) ∙ none-set flags right root fuel (i / 2) (omega (arith, half-le i)) (omega (arith, half-ge i)) (omega (arith, half-le i))))
    ]

-- the leftmost set node of a row: nothing in the row before it is set
pub record IsFirst (flags : List Bool) (leaves node : ℕ) : Type 0 where
  pub first : ℕ
  pub rows : ℕ
  pub row : leaves ≡ first * 2 ^ rows
  pub from : first ≤ node
  pub to : node < 2 * first
  pub here : flag flags node ≡ true
  pub before : (i : ℕ) → first ≤ i → i < node → flag flags i ≡ false

pub root-first : (flags : List Bool) (leaves : ℕ) → IsPower leaves → flag flags 1 ≡ true → IsFirst flags leaves 1
root-first flags leaves power h = record { first = 1; rows = power.0; row = power.1 ∙ omega arith; from = omega arith; to = omega arith; here = h; before = λ i l m. absurd (omega arith) }

-- the first set node of the next row is the first set child of this one
pub first-child : (flags : List Bool) (leaves node child : ℕ) → length flags ≡ 2 * leaves → AreRight flags → 1 ≤ node → node < leaves → IsFirst flags leaves node
    → (2 * node ≤ child) → (child ≤ 2 * node + 1) → flag flags child ≡ true → ((child ≡ 2 * node + 1) → flag flags (2 * node) ≡ false) → IsFirst flags leaves child
first-child flags leaves node child nodes right one l f low high here missing =
    elim (cases_eq f.rows 0) [
      | inl e ↦ absurd (let k : leaves ≡ f.first = f.row ∙ ap (λ r. f.first * 2 ^ r) e ∙ mul-one f.first in omega (arith, f.from))
      | inr d ↦
          let r = f.rows - 1 in
          let more : f.rows ≡ suc r = omega arith in
          record {
            first = 2 * f.first;
            rows = r;
            row = f.row ∙ ap (λ n. f.first * 2 ^ n) more ∙ ap (λ n. f.first * n) (pow-succ' 2 r) ∙ sym (mul_assoc f.first 2 (2 ^ r)) ∙ ap (λ n. n * 2 ^ r) (mul_comm f.first 2);
            from = omega (arith, f.from);
            to = omega (arith, f.to);
            here = here;
            before = λ i from to. before i from to;
          }
    ]
  where
    before : (i : ℕ) → 2 * f.first ≤ i → i < child → flag flags i ≡ false
    before i from to =
        elim (cases_lt i (2 * node)) [
          | inl b ↦ false_from_ne_true _ (λ h.
              true≢false (sym (parent flags right i (omega arith) (omega arith) h) ∙ f.before (i / 2) (omega (arith, half-ge i)) (omega (arith, half-le i))))
          | inr a ↦ let e : i ≡ 2 * node = omega arith in let c : child ≡ 2 * node + 1 = omega arith in ap (flag flags) e ∙ missing c
        ]

-- where the left child isn't set, the right one is
pub right-child : (flags : List Bool) (node : ℕ) → AreRight flags → 1 ≤ node → 2 * node < length flags → flag flags node ≡ true → flag flags (2 * node) ≡ false → flag flags (2 * node + 1) ≡ true
right-child flags node right one l here missing = sym (ap (λ b. b || flag flags (2 * node + 1)) missing) ∙ sym (right node one l) ∙ here

one-le-pow : (r : ℕ) → 1 ≤ 2 ^ r
one-le-pow zero = omega arith
one-le-pow (suc r) = rw (pow-succ' 2 r) (omega (arith, one-le-pow r))

-- a node past the inner rows is in the row of leaves
pub last-row : (flags : List Bool) (leaves node : ℕ) → leaves ≤ node → (f : IsFirst flags leaves node) → f.first ≡ leaves
last-row flags leaves node l f =
    elim (cases_eq f.rows 0) [
      | inl e ↦ sym (f.row ∙ ap (λ r. f.first * 2 ^ r) e ∙ mul-one f.first)
      | inr d ↦ absurd (
          let r = f.rows - 1 in
          let more : f.rows ≡ suc r = omega arith in
          let row : leaves ≡ f.first * 2 * 2 ^ r = f.row ∙ ap (λ n. f.first * 2 ^ n) more ∙ ap (λ n. f.first * n) (pow-succ' 2 r) ∙ sym (mul_assoc f.first 2 (2 ^ r)) in
          let least : f.first * 2 * 1 ≤ f.first * 2 * 2 ^ r = mul-le-mul_left (f.first * 2) (one-le-pow r) in
          omega (arith, f.to))
    ]

past : (flags : List Bool) (i : ℕ) → length flags ≤ i → flag flags i ≡ false
past [] i l = refl
past (x ∷ flags) zero l = absurd (omega arith)
past (x ∷ flags) (suc i) l = past flags i (omega arith)

-- where the root is not set, there is no member
pub no-member : (flags : List Bool) (leaves : ℕ) → 1 ≤ leaves → AreRight flags → flag flags 1 ≡ false → (p : ℕ) → has (drop leaves flags) p ≡ false
no-member flags leaves one right root p =
    get_or-drop leaves flags p false
    ∙ elim (cases_lt (leaves + p) (length flags)) [
      | inl b ↦ none-set flags right root (leaves + p) (leaves + p) (omega arith) (omega arith) b
      | inr o ↦ past flags (leaves + p) o
    ]

-- the first set leaf is the least member
pub least-member : (flags : List Bool) (leaves node : ℕ) → leaves ≤ node → IsFirst flags leaves node → IsLeast (drop leaves flags) (node - leaves)
least-member flags leaves node l f =
    let row = last-row flags leaves node l f in
    record {
      member = get_or-drop leaves flags (node - leaves) false ∙ ap (flag flags) (omega arith) ∙ f.here;
      lowest = λ q b. get_or-drop leaves flags q false ∙ f.before (leaves + q) (omega (arith, row)) (omega arith);
    }

pub one-power : (n : ℕ) → IsPower n → 1 ≤ n
one-power n (h, e) = rw e (one-le-pow h)

-- Leaving what stands above a task, dependent by dependent.
use Rattle.std.proofs.Common.{◌≡◌, ℕ, zero, suc, ◌-◌, ◌<◌, ◌≤◌, ◌==◌, Bool, true, false, cond, not, ◌&&◌, ◌||◌, List, [], ◌∷◌, length, refl, sym, ap, ◌∙◌, subst, arith, inl, inr, ◌⊎◌}
use Rattle.std.proofs.lemmas.Bool.{cases_Bool, cases_eq, or_cases, or_left, or_right, and_parts, false≢true, true≢false, false_from_ne_true, eqb-true, eq-eqb, ne_eqb}
use Rattle.run_core.specs.declared.states.State.{State}
use Rattle.run_core.specs.declared.states.State.TheVariants.{Waiting, Missed, Running, Passed, Ended, Left}
use Rattle.run_core.specs.Greedy.{Rules, AreLower}
use Rattle.run_core.specs.Machine.{States, is_above}
use Rattle.run_core.specs.Sets.{has, IsLeast}
use Rattle.run_core.specs.Tables.{is_in, list_at, is_left, Mirrors, IsClosed}
use Rattle.run_core.proofs.Above.{above-deps}
use Rattle.run_core.proofs.Members.{in-times, times-in, any-member, member-any, member-all}

pub left-is : (s : State) → is_left s ≡ true → s ≡ Left
left-is Waiting h = absurd (false≢true h)
left-is Missed h = absurd (false≢true h)
left-is Running h = absurd (false≢true h)
left-is Passed h = absurd (false≢true h)
left-is (Ended s) h = absurd (false≢true h)
left-is Left h = refl

-- ---- how far the search has come: the lowest number of a set

abbrev pub lowest : List Bool → ℕ
lowest [] = 0
lowest (b ∷ set) = cond b 0 (suc (lowest set))

lowest-le : (set : List Bool) (p : ℕ) → has set p ≡ true → lowest set ≤ p
lowest-le [] p h = absurd (false≢true h)
lowest-le (b ∷ set) zero h = rw h (omega arith)
lowest-le (b ∷ set) (suc p) h = elim b as (λ x. cond x 0 (suc (lowest set)) ≤ suc p) [ true ↦ omega arith | false ↦ omega (arith, lowest-le set p h) ]

lowest-lt : (set : List Bool) (p : ℕ) → p < length set → ((q : ℕ) → q ≤ p → has set q ≡ false) → p < lowest set
lowest-lt [] p l none = absurd (omega arith)
lowest-lt (b ∷ set) zero l none = rw (none 0 (omega arith)) (omega arith)
lowest-lt (b ∷ set) (suc p) l none = rw (none 0 (omega arith)) (omega (arith, lowest-lt set p (omega arith) (λ q k. none (suc q) (omega arith))))

lowest-end : (set : List Bool) → lowest set ≤ length set
lowest-end [] = omega arith
lowest-end (b ∷ set) = elim b as (λ x. cond x 0 (suc (lowest set)) ≤ suc (length set)) [ true ↦ omega arith | false ↦ omega (arith, lowest-end set) ]

has-below : (set : List Bool) (p : ℕ) → has set p ≡ true → p < length set
has-below [] p h = absurd (false≢true h)
has-below (b ∷ set) zero h = omega arith
has-below (b ∷ set) (suc p) h = omega (arith, has-below set p h)

-- the least member is taken out, and only higher ones come in
pub search-falls : (old new : List Bool) (t : ℕ) → IsLeast old t → length new ≡ length old → (added : ℕ → Bool) → ((u : ℕ) → added u ≡ true → t < u) → ((u : ℕ) → has new u ≡ (cond (u == t) false (has old u) || added u))
    → length new - lowest new < length old - lowest old
search-falls old new t least room added higher is =
    let t-below = has-below old t least.member in
    let low = lowest-le old t least.member in
    let high = lowest-lt new t (omega (arith, room)) (λ q l. is q ∙ none q l) in
    omega (arith, room, lowest-end new)
  where
    none : (q : ℕ) → q ≤ t → (cond (q == t) false (has old q) || added q) ≡ false
    none q l =
        let quiet : added q ≡ false = false_from_ne_true _ (λ h. let k = higher q h in omega (arith, k)) in
        elim (cases_eq q t) [
          | inl e ↦ rw (eq-eqb q t e, quiet) refl
          | inr d ↦ let gone = least.lowest q (omega arith) in rw (ne_eqb q t d, gone, quiet) refl
        ]

-- ---- what is left so far

pub record Spread (g : Rules) (from : ℕ) (first st : States) (pending : List Bool) : Type 0 where
  pub changed : (u : ℕ) → (st u ≡ first u) ⊎ ((st u ≡ Left) × (is_above g u from ≡ true))
  pub waits : (v : ℕ) → has pending v ≡ true → (st v ≡ Left) × (is_above g v from ≡ true)
  pub closed : (v u : ℕ) → is_in v (g.deps u) ≡ true → (v ≡ from) ⊎ (st v ≡ Left) → (st u ≡ Left) ⊎ (has pending v ≡ true)

pub mirrored : (g : Rules) (dependents : List (List ℕ)) → Mirrors g dependents → (v u : ℕ) → is_in u (list_at dependents v) ≡ true → is_in v (g.deps u) ≡ true
mirrored g dependents mirrors v u h = times-in v (g.deps u) (subst (λ n. 1 ≤ n) (mirrors v u) (in-times u (list_at dependents v) h))

pub mirrored-back : (g : Rules) (dependents : List (List ℕ)) → Mirrors g dependents → (v u : ℕ) → is_in v (g.deps u) ≡ true → is_in u (list_at dependents v) ≡ true
mirrored-back g dependents mirrors v u h = times-in u (list_at dependents v) (subst (λ n. 1 ≤ n) (sym (mirrors v u)) (in-times v (g.deps u) h))

-- the dependencies of a task are its ancestors, and so are theirs
pub above-here : (g : Rules) → AreLower g → (u v : ℕ) → is_in v (g.deps u) ≡ true → is_above g u v ≡ true
above-here g low u v h = above-deps g low u v ∙ member-any _ (g.deps u) v h (or_left (v == v) (is_above g v v) (eq-eqb v v refl))

pub above-through : (g : Rules) → AreLower g → (u v a : ℕ) → is_in v (g.deps u) ≡ true → is_above g v a ≡ true → is_above g u a ≡ true
above-through g low u v a h k = above-deps g low u a ∙ member-any _ (g.deps u) v h (or_right (v == a) (is_above g v a) k)

stays : (c : Bool) (s : State) → s ≡ Left → cond c Left s ≡ Left
stays true s e = refl
stays false s e = e

module _ (g : Rules) (low : AreLower g) (dependents : List (List ℕ)) (mirrors : Mirrors g dependents) (from : ℕ) (first : States) (closed : IsClosed g first) where
  pub spread-start : (none pending : List Bool) (st : States) → ((u : ℕ) → has none u ≡ false)
      → ((u : ℕ) → st u ≡ cond (is_in u (list_at dependents from)) Left (first u))
      → ((u : ℕ) → has pending u ≡ (has none u || (is_in u (list_at dependents from) && not (is_left (first u)))))
      → Spread g from first st pending
  spread-start none pending st empty st-is pending-is = record { changed = changed; waits = waits; closed = closes }
    where
      above : (u : ℕ) → is_in u (list_at dependents from) ≡ true → is_above g u from ≡ true
      above u h = above-here g low u from (mirrored g dependents mirrors from u h)

      changed : (u : ℕ) → (st u ≡ first u) ⊎ ((st u ≡ Left) × (is_above g u from ≡ true))
      changed u = elim (cases_Bool (is_in u (list_at dependents from))) [ inl h ↦ inr (st-is u ∙ rw h refl, above u h) | inr f ↦ inl (st-is u ∙ rw f refl) ]

      waits : (v : ℕ) → has pending v ≡ true → (st v ≡ Left) × (is_above g v from ≡ true)
      waits v h =
          let k : (is_in v (list_at dependents from) && not (is_left (first v))) ≡ true = rw (empty v) at (sym (pending-is v) ∙ h) in
          let p = and_parts (is_in v (list_at dependents from)) (not (is_left (first v))) k in
          (st-is v ∙ rw p.0 refl, above v p.0)

      closes : (v u : ℕ) → is_in v (g.deps u) ≡ true → (v ≡ from) ⊎ (st v ≡ Left) → (st u ≡ Left) ⊎ (has pending v ≡ true)
      closes v u h (inl e) = inl (st-is u ∙ rw (mirrored-back g dependents mirrors from u (ap (λ x. is_in x (g.deps u)) (sym e) ∙ h)) refl)
      closes v u h (inr e) =
          elim (cases_Bool (is_left (first v))) [
            | inl was ↦ inl (st-is u ∙ stays (is_in u (list_at dependents from)) (first u) (closed v u h (left-is (first v) was)))
            | inr new ↦ elim (cases_Bool (is_in v (list_at dependents from))) [
              | inl m ↦ inr (pending-is v ∙ rw (empty v, m, new) refl)
              | inr f ↦ absurd (let k : first v ≡ Left = sym (st-is v ∙ rw f refl) ∙ e in false≢true (sym new ∙ ap is_left k))
            ]
          ]

  pub spread-step : (old mid new : List Bool) (st after : States) (t : ℕ) → Spread g from first st old → has old t ≡ true
      → ((u : ℕ) → has mid u ≡ cond (u == t) false (has old u))
      → ((u : ℕ) → after u ≡ cond (is_in u (list_at dependents t)) Left (st u))
      → ((u : ℕ) → has new u ≡ (has mid u || (is_in u (list_at dependents t) && not (is_left (st u)))))
      → Spread g from first after new
  spread-step old mid new st after t spread here mid-is after-is new-is = record { changed = changed; waits = waits; closed = closes }
    where
      above : (u : ℕ) → is_in u (list_at dependents t) ≡ true → is_above g u from ≡ true
      above u h = above-through g low u t from (mirrored g dependents mirrors t u h) (spread.waits t here).1

      changed : (u : ℕ) → (after u ≡ first u) ⊎ ((after u ≡ Left) × (is_above g u from ≡ true))
      changed u = elim (cases_Bool (is_in u (list_at dependents t))) [
        | inl h ↦ inr (after-is u ∙ rw h refl, above u h)
        | inr f ↦ let same : after u ≡ st u = after-is u ∙ rw f refl in elim (spread.changed u) [ inl e ↦ inl (same ∙ e) | inr k ↦ inr (same ∙ k.0, k.1) ]
      ]

      waits : (v : ℕ) → has new v ≡ true → (after v ≡ Left) × (is_above g v from ≡ true)
      waits v h =
          elim (or_cases (has mid v) (is_in v (list_at dependents t) && not (is_left (st v))) (sym (new-is v) ∙ h)) [
            | inl m ↦ let k = spread.waits v (was v (sym (mid-is v) ∙ m)) in (after-is v ∙ stays (is_in v (list_at dependents t)) (st v) k.0, k.1)
            | inr m ↦ let p = and_parts (is_in v (list_at dependents t)) (not (is_left (st v))) m in (after-is v ∙ rw p.0 refl, above v p.0)
          ]
        where
          was : (v : ℕ) → cond (v == t) false (has old v) ≡ true → has old v ≡ true
          was v k = elim (v == t) as (λ b. cond b false (has old v) ≡ true → has old v ≡ true) [ true ↦ λ x. absurd (false≢true x) | false ↦ λ x. x ] k

      go : (v u : ℕ) → is_in v (g.deps u) ≡ true → (st u ≡ Left) ⊎ (has old v ≡ true) → (after u ≡ Left) ⊎ (has new v ≡ true)
      go v u h (inl e) = inl (after-is u ∙ stays (is_in u (list_at dependents t)) (st u) e)
      go v u h (inr p) =
          elim (cases_eq v t) [
            | inl e ↦ inl (after-is u ∙ rw (mirrored-back g dependents mirrors t u (ap (λ x. is_in x (g.deps u)) (sym e) ∙ h)) refl)
            | inr d ↦ let m : has mid v ≡ true = mid-is v ∙ rw (ne_eqb v t d) p in inr (new-is v ∙ or_left (has mid v) _ m)
          ]

      closes : (v u : ℕ) → is_in v (g.deps u) ≡ true → (v ≡ from) ⊎ (after v ≡ Left) → (after u ≡ Left) ⊎ (has new v ≡ true)
      closes v u h (inl e) = go v u h (spread.closed v u h (inl e))
      closes v u h (inr e) =
          elim (cases_Bool (is_left (st v))) [
            | inl was ↦ go v u h (spread.closed v u h (inr (left-is (st v) was)))
            | inr fresh ↦ elim (cases_Bool (is_in v (list_at dependents t))) [
              | inl m ↦ inr (new-is v ∙ or_right (has mid v) _ (rw (m, fresh) refl))
              | inr f ↦ absurd (let k : st v ≡ Left = sym (after-is v ∙ rw f refl) ∙ e in false≢true (sym fresh ∙ ap is_left k))
            ]
          ]

  all-left : (pending : List Bool) (st : States) → Spread g from first st pending → ((u : ℕ) → has pending u ≡ false) → (n u : ℕ) → u < n → is_above g u from ≡ true → st u ≡ Left
  all-left pending st spread empty zero u l h = absurd (omega arith)
  all-left pending st spread empty (suc n) u l h =
      let w = any-member (λ d. (d == from) || is_above g d from) (g.deps u) (sym (above-deps g low u from) ∙ h) in
      let lower : w.0 < u = member-all (λ d. d < u) (g.deps u) w.0 (low u) w.1 in
      let how : (w.0 ≡ from) ⊎ (st w.0 ≡ Left) = elim (or_cases (w.0 == from) (is_above g w.0 from) w.2) [
        | inl e ↦ inl (eqb-true w.0 from e)
        | inr k ↦ inr (all-left pending st spread empty n w.0 (omega arith) k)
      ] in
      elim (spread.closed w.0 u w.1 how) [ inl e ↦ e | inr p ↦ absurd (false≢true (sym (empty w.0) ∙ p)) ]

  pub spread-end : (pending : List Bool) (st : States) → Spread g from first st pending → ((u : ℕ) → has pending u ≡ false) → (u : ℕ) → st u ≡ cond (is_above g u from) Left (first u)
  spread-end pending st spread empty u =
      elim (cases_Bool (is_above g u from)) [
        | inl h ↦ rw h (all-left pending st spread empty (suc u) u (omega arith) h)
        | inr f ↦ rw f (elim (spread.changed u) [ inl e ↦ e | inr k ↦ absurd (true≢false (sym k.1 ∙ f)) ])
      ]

-- what the two lists of flags say of a number that waits
pub waits-or-comes : (old mid new : List Bool) (added : ℕ → Bool) (t : ℕ) → ((u : ℕ) → has mid u ≡ cond (u == t) false (has old u)) → ((u : ℕ) → has new u ≡ (has mid u || added u)) → (u : ℕ) → has new u ≡ true → (has old u ≡ true) ⊎ (added u ≡ true)
waits-or-comes old mid new added t mid-is new-is u h =
    elim (or_cases (has mid u) (added u) (sym (new-is u) ∙ h)) [ inl m ↦ inl (was (sym (mid-is u) ∙ m)) | inr a ↦ inr a ]
  where
    was : cond (u == t) false (has old u) ≡ true → has old u ≡ true
    was k = elim (u == t) as (λ b. cond b false (has old u) ≡ true → has old u ≡ true) [ true ↦ λ x. absurd (false≢true x) | false ↦ λ x. x ] k

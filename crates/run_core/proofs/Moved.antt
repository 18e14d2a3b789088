-- What a move does to the tables.
use Rattle.std.proofs.Common.{◌≡◌, ◌≢◌, ℕ, zero, suc, ◌+◌, ◌<◌, ◌≤◌, ◌==◌, Bool, true, false, cond, not, ◌&&◌, ◌||◌, nat_lt, List, [], ◌∷◌, length, Some, None, refl, sym, ap, ◌∙◌, arith, inl, inr}
use mathlib.Core.Path.{fun_ext}
use Rattle.std.specs.List.{list_all}
use Rattle.std.proofs.lemmas.Bool.{cases_Bool, cases_eq, cases_lt, or_cases, and_parts, and_right, false≢true, true≢false, false_from_ne_true, eqb-true, eq-eqb, ne_eqb, ltb-true, lt-ltb}
use Rattle.run_core.specs.declared.states.State.{State}
use Rattle.run_core.specs.declared.states.State.TheVariants.{Waiting, Missed, Running, Passed, Ended, Left}
use Rattle.run_core.specs.Greedy.{Rules, AreLower, serves, count_below}
use Rattle.run_core.specs.Machine.{States, is_waiting, is_missed, is_known, is_well, is_ready, has_failed, runs, least, some_below, put, after_end, is_above, IsCalm}
use Rattle.run_core.specs.Sets.{has, IsLeast}
use Rattle.run_core.specs.Tables.{is_in, times, missing, count_at, is_left, IsClosed, Agree}
use Rattle.run_core.proofs.Above.{above-deps}
use Rattle.run_core.proofs.Counts.{count-lt}
use Rattle.run_core.proofs.Members.{in-times, times-none, any-member}
use Rattle.run_core.proofs.Leaving.{above-through}
use Rattle.run_core.proofs.Calm.{calm-end, faded, runs-end, well-known}

-- ---- lists

missing-served : (p q : ℕ → Bool) (t : ℕ) → p t ≡ false → q t ≡ true → ((x : ℕ) → x ≢ t → q x ≡ p x) → (xs : List ℕ) → missing q xs + times t xs ≡ missing p xs
missing-served p q t never now other [] = refl
missing-served p q t never now other (x ∷ xs) =
    let h = missing-served p q t never now other xs in
    elim (cases_eq t x) [
      | inl e ↦ rw (eq-eqb t x e, ap q (sym e) ∙ now, ap p (sym e) ∙ never) (omega (arith, h))
      | inr d ↦ rw (ne_eqb t x d, other x (λ e. d (sym e))) (elim (p x) as (λ b. cond b (missing q xs) (suc (missing q xs)) + times t xs ≡ cond b (missing p xs) (suc (missing p xs))) [ true ↦ h | false ↦ omega (arith, h) ])
    ]

pub times-missing : (p : ℕ → Bool) (t : ℕ) → p t ≡ false → (xs : List ℕ) → times t xs ≤ missing p xs
times-missing p t never [] = omega arith
times-missing p t never (x ∷ xs) =
    let h = times-missing p t never xs in
    elim (cases_eq t x) [
      | inl e ↦ rw (eq-eqb t x e, ap p (sym e) ∙ never) (omega (arith, h))
      | inr d ↦ rw (ne_eqb t x d) (elim (p x) as (λ b. times t xs ≤ cond b (missing p xs) (suc (missing p xs))) [ true ↦ h | false ↦ omega (arith, h) ])
    ]

missing-zero : (p : ℕ → Bool) (xs : List ℕ) → (missing p xs == 0) ≡ list_all p xs
missing-zero p [] = refl
missing-zero p (x ∷ xs) = elim (p x) as (λ b. (cond b (missing p xs) (suc (missing p xs)) == 0) ≡ (b && list_all p xs)) [ true ↦ missing-zero p xs | false ↦ ne_eqb (suc (missing p xs)) 0 (λ z. omega (arith, z)) ]

pub missing-all : (p : ℕ → Bool) → ((x : ℕ) → p x ≡ false) → (xs : List ℕ) → missing p xs ≡ length xs
missing-all p never [] = refl
missing-all p never (x ∷ xs) = rw (never x) (ap suc (missing-all p never xs))

-- ---- numbers below a bound

pub count-same : (p q : ℕ → Bool) (n : ℕ) → ((u : ℕ) → u < n → q u ≡ p u) → count_below q n ≡ count_below p n
count-same p q zero same = refl
count-same p q (suc n) same = rw (same n (omega arith), count-same p q n (λ u l. same u (omega arith))) refl

pub count-more : (p q : ℕ → Bool) (t n : ℕ) → t < n → p t ≡ false → q t ≡ true → ((u : ℕ) → u ≢ t → q u ≡ p u) → count_below q n ≡ count_below p n + 1
count-more p q t zero l never now other = absurd (omega arith)
count-more p q t (suc n) l never now other =
    elim (cases_eq t n) [
      | inl e ↦
          let below : count_below q n ≡ count_below p n = count-same p q n (λ u b. other u (λ x. omega (arith, b, x, e))) in
          rw (ap q (sym e) ∙ now, ap p (sym e) ∙ never) (omega (arith, below))
      | inr d ↦
          let h = count-more p q t n (omega arith) never now other in
          rw (other n (λ e. d (sym e))) (elim (p n) as (λ b. cond b (suc (count_below q n)) (count_below q n) ≡ cond b (suc (count_below p n)) (count_below p n) + 1) [ true ↦ omega (arith, h) | false ↦ h ])
    ]

pub least-some : (p : ℕ → Bool) (n t : ℕ) → t < n → p t ≡ true → ((u : ℕ) → u < t → p u ≡ false) → least p n ≡ Some t
least-some p zero t l here before = absurd (omega arith)
least-some p (suc n) t l here before =
    elim (cases_eq t n) [
      | inl e ↦ rw (least-none p n (λ u b. before u (omega arith)), ap p (sym e) ∙ here) (ap Some (sym e))
      | inr d ↦ rw (least-some p n t (omega arith) here before) refl
    ]
  where
    least-none : (p : ℕ → Bool) (n : ℕ) → ((u : ℕ) → u < n → p u ≡ false) → least p n ≡ None
    least-none p zero none = refl
    least-none p (suc n) none = rw (least-none p n (λ u b. none u (omega arith)), none n (omega arith)) refl

pub least-none : (p : ℕ → Bool) (n : ℕ) → ((u : ℕ) → u < n → p u ≡ false) → least p n ≡ None
least-none p zero none = refl
least-none p (suc n) none = rw (least-none p n (λ u b. none u (omega arith)), none n (omega arith)) refl

-- ---- one state changes

pub put-here : (st : States) (t : ℕ) (s : State) → put st t s t ≡ s
put-here st t s = rw (eq-eqb t t refl) refl

pub put-there : (st : States) (t : ℕ) (s : State) (u : ℕ) → u ≢ t → put st t s u ≡ st u
put-there st t s u d = rw (ne_eqb u t d) refl

module _ (g : Rules) (low : AreLower g) where
  pub ready-is : (st : States) (counts : List ℕ) (ready missed : List Bool) (running : ℕ) (failed : Bool) → Agree g st counts ready missed running failed → (t : ℕ) → has ready t ≡ (nat_lt t g.size && is_ready g st t)
  ready-is st counts ready missed running failed a t =
      a.readies t ∙ ap (λ n. nat_lt t g.size && (is_waiting (st t) && (n == 0))) (a.counts t) ∙ ap (λ b. nat_lt t g.size && (is_waiting (st t) && b)) (missing-zero (λ d. is_well g.mode (st d)) (g.deps t))

  -- what is looked up and started next
  module _ (st : States) (counts : List ℕ) (ready missed : List Bool) (running : ℕ) (failed : Bool) (a : Agree g st counts ready missed running failed) where
    ready-at : (t : ℕ) → has ready t ≡ (nat_lt t g.size && is_ready g st t)
    ready-at = ready-is st counts ready missed running failed a

    pub look-least : (t : ℕ) → IsLeast ready t → (t < g.size) × (least (is_ready g st) g.size ≡ Some t)
    look-least t l =
        let p = and_parts (nat_lt t g.size) (is_ready g st t) (sym (ready-at t) ∙ l.member) in
        let below = ltb-true t g.size p.0 in (
          below,
          least-some (is_ready g st) g.size t below p.1 (λ u b.
              let e : (nat_lt u g.size && is_ready g st u) ≡ false = sym (ready-at u) ∙ l.lowest u b in
              sym (ap (λ x. x && is_ready g st u) (lt-ltb u g.size (omega (arith, b, below)))) ∙ e),
        )

    pub look-none : ((t : ℕ) → has ready t ≡ false) → least (is_ready g st) g.size ≡ None
    look-none none = least-none (is_ready g st) g.size (λ u b. sym (ap (λ x. x && is_ready g st u) (lt-ltb u g.size b)) ∙ sym (ready-at u) ∙ none u)

    pub start-least : ((u : ℕ) → g.size ≤ u → st u ≡ Waiting) → (t : ℕ) → IsLeast missed t → (t < g.size) × (least (λ u. is_missed (st u)) g.size ≡ Some t)
    start-least past t l =
        let here = sym (a.misses t) ∙ l.member in
        let below : t < g.size = elim (cases_lt t g.size) [ inl b ↦ b | inr o ↦ absurd (false≢true (sym (ap is_missed (past t o)) ∙ here)) ] in
        (below, least-some (λ u. is_missed (st u)) g.size t below here (λ u b. sym (a.misses u) ∙ l.lowest u b))

    pub start-none : ((t : ℕ) → has missed t ≡ false) → least (λ u. is_missed (st u)) g.size ≡ None
    start-none none = least-none (λ u. is_missed (st u)) g.size (λ u b. sym (a.misses u) ∙ none u)

  -- a task that doesn't wait is not ready
  pub quiet-ready : (st : States) (counts : List ℕ) (ready missed : List Bool) (running : ℕ) (failed : Bool) → Agree g st counts ready missed running failed → (t : ℕ) → is_waiting (st t) ≡ false → (u : ℕ) → has ready u ≡ cond (u == t) false (has ready u)
  quiet-ready st counts ready missed running failed a t busy u =
      elim (cases_eq u t) [
        | inl e ↦ rw (eq-eqb u t e) (a.readies u ∙ rw (e, busy) (and_right (nat_lt t g.size) false refl))
        | inr d ↦ rw (ne_eqb u t d) refl
      ]

  pub closed-put : (st : States) (t : ℕ) (s : State) → IsClosed g st → is_left (st t) ≡ false → is_left s ≡ false → IsClosed g (put st t s)
  closed-put st t s closed was is v u h e =
      elim (cases_eq v t) [
        | inl here ↦ absurd (let k : s ≡ Left = sym (put-here st t s) ∙ ap (put st t s) (sym here) ∙ e in true≢false (ap is_left (sym k) ∙ is))
        | inr apart ↦
            let left : st u ≡ Left = closed v u h (sym (put-there st t s v apart) ∙ e) in
            let other : u ≢ t = λ k. true≢false (ap is_left (sym left) ∙ ap (λ x. is_left (st x)) k ∙ was) in
            put-there st t s u other ∙ left
      ]

  -- a state that serves nobody takes the place of another such
  pub moved : (st : States) (t : ℕ) (s : State) (counts : List ℕ) (ready ready' missed missed' : List Bool) (running running' : ℕ) (failed : Bool)
      → Agree g st counts ready missed running failed
      → is_well g.mode (st t) ≡ false → is_well g.mode s ≡ false → is_waiting s ≡ false → is_left (st t) ≡ false → is_left s ≡ false → has_failed s ≡ has_failed (st t)
      → ((u : ℕ) → has ready' u ≡ cond (u == t) false (has ready u))
      → ((u : ℕ) → has missed' u ≡ cond (u == t) (is_missed s) (has missed u))
      → running' ≡ count_below (λ u. runs (put st t s u)) g.size
      → IsCalm g (put st t s)
      → Agree g (put st t s) counts ready' missed' running' failed
  moved st t s counts ready ready' missed missed' running running' failed a bad still busy unleft shut fail ready-new missed-new running-new calm = record {
    counts = λ u. a.counts u ∙ ap (λ p. missing p (g.deps u)) (fun_ext (λ d. sym (same d)));
    readies = λ u. ready-new u ∙ readies u;
    misses = λ u. missed-new u ∙ misses u;
    commands = running-new;
    failures = a.failures ∙ ap (λ p. some_below p g.size) (fun_ext (λ u. sym (fails u)));
    calm = calm;
    closed = closed-put st t s a.closed unleft shut;
  }
    where
      same : (d : ℕ) → is_well g.mode (put st t s d) ≡ is_well g.mode (st d)
      same d = elim (cases_eq d t) [ inl e ↦ rw (eq-eqb d t e, e) (still ∙ sym bad) | inr n ↦ rw (ne_eqb d t n) refl ]

      fails : (d : ℕ) → has_failed (put st t s d) ≡ has_failed (st d)
      fails d = elim (cases_eq d t) [ inl e ↦ rw (eq-eqb d t e, e) fail | inr n ↦ rw (ne_eqb d t n) refl ]

      readies : (u : ℕ) → cond (u == t) false (has ready u) ≡ (nat_lt u g.size && (is_waiting (put st t s u) && (count_at counts u == 0)))
      readies u = elim (cases_eq u t) [
        | inl e ↦ rw (eq-eqb u t e, busy) (sym (and_right (nat_lt u g.size) false refl))
        | inr n ↦ rw (ne_eqb u t n) (a.readies u)
      ]

      misses : (u : ℕ) → cond (u == t) (is_missed s) (has missed u) ≡ is_missed (put st t s u)
      misses u = elim (cases_eq u t) [ inl e ↦ rw (eq-eqb u t e) refl | inr n ↦ rw (ne_eqb u t n) (a.misses u) ]

  -- a task is settled well, and its dependents are told
  pub settled-well : (st : States) (t : ℕ) (s : State) (xs counts counts' : List ℕ) (ready cleared ready' missed : List Bool) (running running' : ℕ) (failed failed' : Bool)
      → Agree g st counts ready missed running failed
      → is_well g.mode (st t) ≡ false → is_well g.mode s ≡ true → is_waiting s ≡ false → is_left (st t) ≡ false → is_left s ≡ false → is_missed s ≡ is_missed (st t)
      → ((u : ℕ) → times u xs ≡ times t (g.deps u)) → ((u : ℕ) → is_in u xs ≡ true → u < g.size)
      → ((u : ℕ) → has cleared u ≡ cond (u == t) false (has ready u))
      → ((u : ℕ) → count_at counts' u + times u xs ≡ count_at counts u)
      → ((u : ℕ) → has ready' u ≡ (has cleared u || (is_in u xs && (is_waiting (put st t s u) && (count_at counts' u == 0)))))
      → running' ≡ count_below (λ u. runs (put st t s u)) g.size
      → failed' ≡ some_below (λ u. has_failed (put st t s u)) g.size
      → IsCalm g (put st t s)
      → Agree g (put st t s) counts' ready' missed running' failed'
  settled-well st t s xs counts counts' ready cleared ready' missed running running' failed failed' a bad well busy unleft shut miss mirror inside cleared-is counts-is ready-new running-new failed-new calm = record {
    counts = λ u. count u;
    readies = λ u. ready-new u ∙ rw (cleared-is u) (readies u);
    misses = λ u. a.misses u ∙ misses u;
    commands = running-new;
    failures = failed-new;
    calm = calm;
    closed = closed-put st t s a.closed unleft shut;
  }
    where
      count : (u : ℕ) → count_at counts' u ≡ missing (λ d. is_well g.mode (put st t s d)) (g.deps u)
      count u =
          let served = missing-served (λ d. is_well g.mode (st d)) (λ d. is_well g.mode (put st t s d)) t bad (ap (is_well g.mode) (put-here st t s) ∙ well) (λ d n. ap (is_well g.mode) (put-there st t s d n)) (g.deps u) in
          omega (arith, served, counts-is u, a.counts u, mirror u)

      misses : (u : ℕ) → is_missed (st u) ≡ is_missed (put st t s u)
      misses u = elim (cases_eq u t) [ inl e ↦ rw (eq-eqb u t e, e) (sym miss) | inr n ↦ rw (ne_eqb u t n) refl ]

      readies : (u : ℕ) → (cond (u == t) false (has ready u) || (is_in u xs && (is_waiting (put st t s u) && (count_at counts' u == 0)))) ≡ (nat_lt u g.size && (is_waiting (put st t s u) && (count_at counts' u == 0)))
      readies u = elim (cases_eq u t) [
        | inl e ↦ rw (eq-eqb u t e, busy, and_right (is_in u xs) false refl) (sym (and_right (nat_lt u g.size) false refl))
        | inr n ↦ rw (ne_eqb u t n, a.readies u) (elim (cases_Bool (is_in u xs)) [
          | inl m ↦
              let one = in-times u xs m in
              let more : (count_at counts u == 0) ≡ false = ne_eqb (count_at counts u) 0 (λ z. omega (arith, one, counts-is u, z)) in
              rw (m, more, lt-ltb u g.size (inside u m), and_right (is_waiting (st u)) false refl) refl
          | inr f ↦
              let none = times-none u xs f in
              let same : count_at counts u ≡ count_at counts' u = omega (arith, none, counts-is u) in
              rw (f, same) (or-off (nat_lt u g.size && (is_waiting (st u) && (count_at counts' u == 0))))
        ])
      ]
        where
          or-off : (b : Bool) → (b || false) ≡ b
          or-off true = refl
          or-off false = refl

  -- ---- a failure that serves nobody

  pub after-good : (st : States) (t x : ℕ) → serves g.mode x ≡ true → after_end g st t x ≡ put st t (Ended x)
  after-good st t x e = fun_ext (λ u. rw e refl)

  pub after-bad : (st : States) (t x : ℕ) → serves g.mode x ≡ false → (u : ℕ) → after_end g st t x u ≡ cond (is_above g u t) Left (put st t (Ended x) u)
  after-bad st t x e u = rw e refl

  unready : (st : States) → IsCalm g st → (t u : ℕ) → is_well g.mode (st t) ≡ false → is_above g u t ≡ true → 1 ≤ missing (λ d. is_well g.mode (st d)) (g.deps u)
  unready st calm t u bad h =
      let w = any-member (λ d. (d == t) || is_above g d t) (g.deps u) (sym (above-deps g low u t) ∙ h) in
      let never : is_well g.mode (st w.0) ≡ false = elim (or_cases (w.0 == t) (is_above g w.0 t) w.2) [
        | inl e ↦ ap (λ x. is_well g.mode (st x)) (eqb-true w.0 t e) ∙ bad
        | inr k ↦ false_from_ne_true _ (λ well. true≢false (sym (calm w.0 t k (well-known g.mode (st w.0) well)) ∙ bad))
      ] in
      omega (arith, times-missing (λ d. is_well g.mode (st d)) w.0 never (g.deps u), in-times w.0 (g.deps u) w.1)

  pub spread-agrees : (st : States) (t x : ℕ) (counts : List ℕ) (ready missed : List Bool) (running running' : ℕ) (failed failed' : Bool)
      → Agree g st counts ready missed running failed → st t ≡ Running → serves g.mode x ≡ false
      → running' ≡ count_below (λ u. runs (after_end g st t x u)) g.size
      → failed' ≡ some_below (λ u. has_failed (after_end g st t x u)) g.size
      → Agree g (after_end g st t x) counts ready missed running' failed'
  spread-agrees st t x counts ready missed running running' failed failed' a is bad running-new failed-new = record {
    counts = λ u. a.counts u ∙ ap (λ p. missing p (g.deps u)) (fun_ext (λ d. sym (same d)));
    readies = λ u. a.readies u ∙ readies u;
    misses = λ u. a.misses u ∙ misses u;
    commands = running-new;
    failures = failed-new;
    calm = calm-end g st low a.calm t x is;
    closed = closed;
  }
    where
      -- what is left was not looked up
      quiet : (u : ℕ) → is_above g u t ≡ true → is_known (st u) ≡ false
      quiet u h = (faded g st low a.calm t x u is (rw (bad, h) refl)).1

      unknown : (mode : ℕ) (s : State) → is_known s ≡ false → (is_well g.mode s ≡ false) × (is_missed s ≡ false)
      unknown _ Waiting h = (refl, refl)
      unknown _ Missed h = absurd (true≢false h)
      unknown _ Running h = absurd (true≢false h)
      unknown _ Passed h = absurd (true≢false h)
      unknown _ (Ended y) h = absurd (true≢false h)
      unknown _ Left h = (refl, refl)

      same : (u : ℕ) → is_well g.mode (after_end g st t x u) ≡ is_well g.mode (st u)
      same u = ap (is_well g.mode) (after-bad st t x bad u) ∙ elim (cases_Bool (is_above g u t)) [
        | inl h ↦ rw h (sym (unknown 0 (st u) (quiet u h)).0)
        | inr f ↦ rw f (elim (cases_eq u t) [ inl e ↦ rw (eq-eqb u t e, e, is) bad | inr n ↦ rw (ne_eqb u t n) refl ])
      ]

      readies : (u : ℕ) → (nat_lt u g.size && (is_waiting (st u) && (count_at counts u == 0))) ≡ (nat_lt u g.size && (is_waiting (after_end g st t x u) && (count_at counts u == 0)))
      readies u = elim (cases_Bool (is_above g u t)) [
        | inl h ↦
            let one = unready st a.calm t u (ap (is_well g.mode) is) h in
            let more : (count_at counts u == 0) ≡ false = ne_eqb (count_at counts u) 0 (λ z. omega (arith, one, a.counts u, z)) in
            rw (more, and_right (is_waiting (st u)) false refl, and_right (is_waiting (after_end g st t x u)) false refl) refl
        | inr f ↦ rw (after-bad st t x bad u, f) (elim (cases_eq u t) [ inl e ↦ rw (eq-eqb u t e, e, is) refl | inr n ↦ rw (ne_eqb u t n) refl ])
      ]

      misses : (u : ℕ) → is_missed (st u) ≡ is_missed (after_end g st t x u)
      misses u = elim (cases_Bool (is_above g u t)) [
        | inl h ↦ (let e : after_end g st t x u ≡ Left = after-bad st t x bad u ∙ rw h refl in (unknown 0 (st u) (quiet u h)).1 ∙ sym (ap is_missed e))
        | inr f ↦ rw (after-bad st t x bad u, f) (elim (cases_eq u t) [ inl e ↦ rw (eq-eqb u t e, e, is) refl | inr n ↦ rw (ne_eqb u t n) refl ])
      ]

      closed : IsClosed g (after_end g st t x)
      closed v u h e =
          elim (cases_Bool (is_above g v t)) [
            | inl k ↦ after-bad st t x bad u ∙ rw (above-through g low u v t h k) refl
            | inr f ↦
                let put-left : put st t (Ended x) v ≡ Left = sym (after-bad st t x bad v ∙ rw f refl) ∙ e in
                let left : put st t (Ended x) u ≡ Left = closed-put st t (Ended x) a.closed (ap is_left is) refl v u h put-left in
                after-bad st t x bad u ∙ elim (cases_Bool (is_above g u t)) [ inl k ↦ rw k refl | inr n ↦ rw n left ]
          ]

pub none-run : (p : ℕ → Bool) (n : ℕ) → (count_below p n == 0) ≡ true → (u : ℕ) → u < n → p u ≡ false
none-run p n h u l = false_from_ne_true _ (λ k. let m = count-lt p u n k l in let z = eqb-true (count_below p n) 0 h in omega (arith, m, z))

pub none-count : (p : ℕ → Bool) (n : ℕ) → ((u : ℕ) → p u ≡ false) → count_below p n ≡ 0
none-count p zero none = refl
none-count p (suc n) none = rw (none n, none-count p n none) refl

-- how many tasks run after one state has changed
module _ (p : State → Bool) (st : States) (t : ℕ) (s : State) where
  pub put-same : p s ≡ p (st t) → (n : ℕ) → count_below (λ u. p (st u)) n ≡ count_below (λ u. p (put st t s u)) n
  put-same e n = sym (count-same (λ u. p (st u)) (λ u. p (put st t s u)) n (λ u l. elim (cases_eq u t) [ inl k ↦ rw (eq-eqb u t k, k) e | inr d ↦ rw (ne_eqb u t d) refl ]))

  pub put-more : (n : ℕ) → t < n → p (st t) ≡ false → p s ≡ true → count_below (λ u. p (put st t s u)) n ≡ count_below (λ u. p (st u)) n + 1
  put-more n l was is = count-more (λ u. p (st u)) (λ u. p (put st t s u)) t n l was (ap p (put-here st t s) ∙ is) (λ u d. ap p (put-there st t s u d))

  pub put-fewer : (n : ℕ) → t < n → p (st t) ≡ true → p s ≡ false → count_below (λ u. p (st u)) n ≡ count_below (λ u. p (put st t s u)) n + 1
  put-fewer n l was is = count-more (λ u. p (put st t s u)) (λ u. p (st u)) t n l (ap p (put-here st t s) ∙ is) was (λ u d. sym (ap p (put-there st t s u d)))

-- whether some task has failed after one more end
pub failed-put : (st : States) (t x n : ℕ) → t < n → has_failed (st t) ≡ false → (some_below (λ u. has_failed (st u)) n || not (x == 0)) ≡ some_below (λ u. has_failed (put st t (Ended x) u)) n
failed-put st t x n l was =
    elim (cases_Bool (not (x == 0))) [
      | inl k ↦
          let more = put-more has_failed st t (Ended x) n l was k in
          rw k (or-on (some_below (λ u. has_failed (st u)) n) ∙ sym (lt-ltb 0 (count_below (λ u. has_failed (put st t (Ended x) u)) n) (omega (arith, more))))
      | inr k ↦ rw k (or-off (some_below (λ u. has_failed (st u)) n) ∙ ap (nat_lt 0) (put-same has_failed st t (Ended x) (k ∙ sym was) n))
    ]
  where
    or-on : (b : Bool) → (b || true) ≡ true
    or-on true = refl
    or-on false = refl

    or-off : (b : Bool) → (b || false) ≡ b
    or-off true = refl
    or-off false = refl

module _ (g : Rules) (low : AreLower g) (st : States) (calm : IsCalm g st) (t x : ℕ) (is : st t ≡ Running) where
  -- the end of a command, seen by what runs and what failed: as if nothing were left
  pub end-runs : (u : ℕ) → runs (after_end g st t x u) ≡ runs (put st t (Ended x) u)
  end-runs u = runs-end g st low calm t x is u ∙ elim (cases_eq u t) [ inl e ↦ rw (eq-eqb u t e) refl | inr d ↦ rw (ne_eqb u t d) refl ]

  pub end-fails : (u : ℕ) → has_failed (after_end g st t x u) ≡ has_failed (put st t (Ended x) u)
  end-fails u = elim (cases_Bool (not (serves g.mode x) && is_above g u t)) [
    | inl h ↦ let f = faded g st low calm t x u is h in rw (h, ne_eqb u t f.0) (sym (never (st u) f.1))
    | inr f ↦ rw f refl
  ]
    where
      never : (s : State) → is_known s ≡ false → has_failed s ≡ false
      never Waiting h = refl
      never Missed h = absurd (true≢false h)
      never Running h = absurd (true≢false h)
      never Passed h = absurd (true≢false h)
      never (Ended y) h = absurd (true≢false h)
      never Left h = refl

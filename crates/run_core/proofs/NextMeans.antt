-- What an answer of `next` means.
use Rattle.run_core.specs.declared.states.Next.{Next}
use Rattle.std.proofs.Common.{◌≡◌, ℕ, zero, suc, ◌<◌, Bool, true, false, nat_lt, ap, ◌∙◌, arith, inl, inr, ◌⊎◌, Option, Some, None}
use Rattle.std.proofs.lemmas.Bool.{cases_Bool, cases_eq, ltb-true, ltb-false, lt-ltb}
use Rattle.run_core.specs.Greedy.{Rules, count_below}
use Rattle.run_core.specs.Machine.{States, is_missed, runs, is_ready, or_this, least, some_below, wait_or_end, start_or_wait, look_or_start, has_stopped, next}
use Rattle.run_core.specs.declared.states.Next.TheVariants.{Lookup, Start as Begin, WaitFirst, Finished}
use Rattle.run_core.proofs.Counts.{count-left, count-lt}

abbrev pub NoneBelow : (ℕ → Bool) → ℕ → Type 0
NoneBelow p n = (u : ℕ) → u < n → p u ≡ false

none_more : (p : ℕ → Bool) (n : ℕ) → NoneBelow p n → p n ≡ false → NoneBelow p (suc n)
none_more p n none h u l = elim (cases_eq u n) [ inl e ↦ ap p e ∙ h | inr d ↦ none u (omega arith) ]

abbrev IsLeast : (ℕ → Bool) → ℕ → Option ℕ → Type 0
IsLeast p n None = NoneBelow p n
IsLeast p n (Some t) = (t < n) × (p t ≡ true) × NoneBelow p t

least-this : (p : ℕ → Bool) (n : ℕ) (o : Option ℕ) → IsLeast p n o → IsLeast p (suc n) (or_this o (p n) n)
least-this p n None h = elim (cases_Bool (p n)) [ inl t ↦ rw t (omega arith, t, h) | inr f ↦ rw f (none_more p n h f) ]
least-this p n (Some t) h = let l = h.0 in (omega arith, h.1, h.2)

least-is : (p : ℕ → Bool) (n : ℕ) → IsLeast p n (least p n)
least-is p zero = λ u l. absurd (omega arith)
least-is p (suc n) = least-this p n (least p n) (least-is p n)

pub count-none : (p : ℕ → Bool) (n : ℕ) → some_below p n ≡ false → NoneBelow p n
count-none p n h u l =
    elim (cases_Bool (p u)) [
      | inl t ↦ absurd (let k = count-lt p u n t l in let z = ltb-false 0 (count_below p n) h in omega arith)
      | inr f ↦ f
    ]

pub count-some : (p : ℕ → Bool) (n : ℕ) → some_below p n ≡ true → (u : ℕ) × (u < n) × (p u ≡ true)
count-some p zero h = absurd (let k = ltb-true 0 0 h in omega arith)
count-some p (suc n) h =
    elim (cases_Bool (p n)) [
      | inl t ↦ (n, omega arith, t)
      | inr f ↦ let w = count-some p n (lt-ltb 0 (count_below p n) (let k = ltb-true 0 (count_below p (suc n)) h in let e = count-left p n f in omega arith)) in let l = w.1 in (w.0, omega arith, w.2)
    ]

pub some-count : (p : ℕ → Bool) (n u : ℕ) → u < n → p u ≡ true → some_below p n ≡ true
some-count p n u l t = lt-ltb 0 (count_below p n) (let k = count-lt p u n t l in omega arith)

abbrev pub NoneReady : Rules → States → Type 0
NoneReady g st = NoneBelow (is_ready g st) g.size

abbrev pub room : Rules → States → Bool
room g st = nat_lt (count_below (λ u. runs (st u)) g.size) g.width

-- why nothing is started
abbrev pub IsBlocked : Rules → States → Type 0
IsBlocked g st = (has_stopped g st ≡ true) ⊎ (NoneReady g st × (NoneBelow (λ t. is_missed (st t)) g.size ⊎ (room g st ≡ false)))

abbrev pub Means : Rules → States → Next → Type 0
Means g st (Lookup t) = (has_stopped g st ≡ false) × (t < g.size) × (is_ready g st t ≡ true)
Means g st (Begin t) = (has_stopped g st ≡ false) × NoneReady g st × (t < g.size) × (is_missed (st t) ≡ true) × NoneBelow (λ u. is_missed (st u)) t × (room g st ≡ true)
Means g st WaitFirst = IsBlocked g st × ((u : ℕ) × (u < g.size) × (runs (st u) ≡ true))
Means g st Finished = IsBlocked g st × NoneBelow (λ t. runs (st t)) g.size

wait-means : (g : Rules) (st : States) → IsBlocked g st → Means g st (wait_or_end g st)
wait-means g st b =
    elim (cases_Bool (some_below (λ t. runs (st t)) g.size)) [ inl t ↦ rw t (b, count-some (λ u. runs (st u)) g.size t) | inr f ↦ rw f (b, count-none _ g.size f) ]

start-means : (g : Rules) (st : States) → has_stopped g st ≡ false → NoneReady g st → (o : Option ℕ) → IsLeast (λ t. is_missed (st t)) g.size o → Means g st (start_or_wait g st o)
start-means g st calm none None h = wait-means g st (inr (none, inl h))
start-means g st calm none (Some t) h =
    elim (cases_Bool (room g st)) [ inl r ↦ rw r (calm, none, h.0, h.1, h.2, r) | inr f ↦ rw f (wait-means g st (inr (none, inr f))) ]

look-means : (g : Rules) (st : States) → has_stopped g st ≡ false → (o : Option ℕ) → IsLeast (is_ready g st) g.size o → Means g st (look_or_start g st o)
look-means g st calm None h = start-means g st calm h (least (λ t. is_missed (st t)) g.size) (least-is _ g.size)
look-means g st calm (Some t) h = (calm, h.0, h.1)

pub next-means : (g : Rules) (st : States) → Means g st (next g st)
unfolding next
next-means g st =
    elim (cases_Bool (has_stopped g st)) [
      | inl t ↦ rw t (wait-means g st (inl t))
      | inr f ↦ rw f (look-means g st f (least (is_ready g st) g.size) (least-is _ g.size))
    ]

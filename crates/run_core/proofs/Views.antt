-- What contracts see of a scheduler, by its fields.
use Rattle.std.proofs.Common.{◌≡◌, ℕ, ◌<◌, ◌==◌, Bool, true, false, cond, nat_lt, zero, suc, ◌≤◌, List, [], ◌∷◌, length, Option, Some, None, refl, sym, ap, ◌∙◌, subst, arith, inl, inr}
use Rattle.std.proofs.lemmas.Bool.{false≢true, cases_lt}
use Rattle.run_core.specs.declared.states.Mode.{Mode}
use Rattle.run_core.specs.declared.states.State.{State}
use Rattle.run_core.specs.declared.states.State.TheVariants.{Waiting, Running}
use Rattle.run_core.specs.declared.states.Next.TheVariants.{Start, Lookup}
use Rattle.std.proofs.Common.{slice_index_or}
use Rattle.run_core.specs.Greedy.{Rules, AreLower, count_below}
use Rattle.run_core.proofs.Calm.{runs-end}
use Rattle.run_core.specs.Machine.{States, next, wait_or_end, start_or_wait, least, is_ready, is_missed, has_stopped, runs, after_end, IsCalm}
use Rattle.run_core.proofs.NextMeans.{Means, next-means}
use Rattle.run_core.specs.Core.{Machine, rules, rules_in, states, states_in, has_command, Keeps}

abbrev pub made : List (List ℕ) → List Bool → ℕ → Mode → List State → Machine
made deps commands width mode st = record { deps = deps; runs = commands; width = width; mode = mode; states = st }

module _ (deps : List (List ℕ)) (commands : List Bool) (width : ℕ) (mode : Mode) where
  abbrev pub G : Rules
  G = rules_in deps width mode

  pub rules-made : (st : List State) → rules (made deps commands width mode st) ≡ rules_in deps width mode
  unfolding rules
  rules-made st = refl

  pub states-made : (st : List State) → states (made deps commands width mode st) ≡ states_in st
  unfolding states
  states-made st = refl

  pub commands-made : (st : List State) → has_command (made deps commands width mode st) ≡ (λ t. slice_index_or commands t false)
  unfolding has_command
  commands-made st = refl

  -- a fact of rules and states, seen from without and from within
  pub inward : (P : Rules → States → Type 0) (st : List State) (v : Machine) → made deps commands width mode st ≡ v → P (rules v) (states v) → P (rules_in deps width mode) (states_in st)
  unfolding rules states
  inward P st v e h = subst (λ m. P (rules m) (states m)) (sym e) h

  pub outward : (P : Rules → States → Type 0) (st : List State) (v : Machine) → made deps commands width mode st ≡ v → P (rules_in deps width mode) (states_in st) → P (rules v) (states v)
  unfolding rules states
  outward P st v e h = subst (λ m. P (rules m) (states m)) e h

  pub keeps : (old new : List State) (v : Machine) → made deps commands width mode old ≡ v → Keeps v (made deps commands width mode new)
  unfolding rules has_command
  keeps old new v e = record { rules = ap rules e; commands = ap has_command e }

  -- the states after a call, seen from without
  pub changes : (change : Rules → States → States) (old new : List State) (v : Machine) → made deps commands width mode old ≡ v → states_in new ≡ change (rules_in deps width mode) (states_in old) → states (made deps commands width mode new) ≡ change (rules v) (states v)
  unfolding rules states
  changes change old new v e h = h ∙ ap (λ m. change (rules m) (states m)) e

-- ---- the answers of `next`

module _ (g : Rules) (st : States) where
  pub next-stopped : has_stopped g st ≡ true → next g st ≡ wait_or_end g st
  unfolding next
  next-stopped h = rw h refl

  pub next-looks : has_stopped g st ≡ false → (t : ℕ) → least (is_ready g st) g.size ≡ Some t → next g st ≡ Lookup t
  unfolding next
  next-looks h t e = rw (h, e) refl

  pub next-goes : has_stopped g st ≡ false → least (is_ready g st) g.size ≡ None → next g st ≡ start_or_wait g st (least (λ u. is_missed (st u)) g.size)
  unfolding next
  next-goes h e = rw (h, e) refl

pub past-waits : (states : List State) (u : ℕ) → length states ≤ u → states_in states u ≡ Waiting
past-waits [] u l = refl
past-waits (s ∷ states) zero l = absurd (omega arith)
past-waits (s ∷ states) (suc u) l = past-waits states u (omega arith)

module _ (g : Rules) (st : States) where
  pub start-full : nat_lt (count_below (λ u. runs (st u)) g.size) g.width ≡ false → (o : Option ℕ) → start_or_wait g st o ≡ wait_or_end g st
  start-full full None = refl
  start-full full (Some t) = rw full refl

  pub start-free : (t : ℕ) → nat_lt (count_below (λ u. runs (st u)) g.size) g.width ≡ true → start_or_wait g st (Some t) ≡ Start t
  start-free t free = rw free refl

-- a task that is looked up waits, and one that is started was missed
module _ (g : Rules) (st : States) where
  pub looked-up : (t : ℕ) → next g st ≡ Lookup t → Means g st (Lookup t)
  looked-up t e = subst (Means g st) e (next-means g st)

  pub is-started : (t : ℕ) → next g st ≡ Start t → Means g st (Start t)
  is-started t e = subst (Means g st) e (next-means g st)

-- what runs is a task
pub running-inside : (states : List State) (t : ℕ) → states_in states t ≡ Running → t < length states
running-inside states t e = elim (cases_lt t (length states)) [ inl b ↦ b | inr o ↦ absurd (false≢true (ap runs (sym (past-waits states t o) ∙ e))) ]

-- what runs after an end, seen from without
module _ (deps : List (List ℕ)) (commands : List Bool) (width : ℕ) (mode : Mode) where
  pub runs-after : AreLower (rules_in deps width mode) → (old new : List State) (v : Machine) → made deps commands width mode old ≡ v → IsCalm (rules_in deps width mode) (states_in old) → (t x : ℕ) → states_in old t ≡ Running
      → states_in new ≡ after_end (rules_in deps width mode) (states_in old) t x → (u : ℕ) → runs (states (made deps commands width mode new) u) ≡ cond (u == t) false (runs (states v u))
  unfolding states
  runs-after low old new v e calm t x is h u = ap (λ y. runs (y u)) h ∙ runs-end (rules_in deps width mode) (states_in old) low calm t x is u ∙ ap (λ m. cond (u == t) false (runs (states m u))) e

-- The moves of a story, one more at a time.
use Rattle.std.proofs.Common.{◌≡◌, ◌≢◌, ℕ, zero, suc, ◌==◌, ◌||◌, ◌&&◌, not, Bool, true, false, List, [], ◌∷◌, ◌++◌, get_or, refl, sym, ap, ◌∙◌, subst, inl, inr, Some, slice_get}
use mathlib.Core.Path.{fun_ext}
use Rattle.std.specs.Prelude.{filter}
use Rattle.std.specs.List.{list_any, AllByRecursion}
use Rattle.std.proofs.lemmas.Bool.{cases_Bool, cases_eq, eq-eqb, ne_eqb, false≢true, true≢false, or_left, or_right}
use Rattle.run_core.specs.declared.states.Mode.{Mode}
use Rattle.run_core.specs.declared.states.Mode.TheVariants.{Never, DependenciesSuccessful, Always}
use Rattle.run_core.specs.declared.states.Step.{Step}
use Rattle.run_core.specs.declared.states.Step.TheVariants.{Start, End}
use Rattle.run_core.specs.declared.states.State.{State}
use Rattle.run_core.specs.declared.states.State.TheVariants as state
use Rattle.run_core.specs.Greedy.{serves, ended}
use Rattle.run_core.specs.Machine.{States, put, after_end, leads, is_known, IsCalm, is_well as stands_well}
use Rattle.run_core.specs.Greedy.{AreLower}
use Rattle.run_core.proofs.Calm.{faded}
use Rattle.run_laws.specs.Ancestors.{part_at, reaches}
use Rattle.run_laws.specs.Worlds.{is_well, put_at}
use Rattle.run_laws.specs.Worlds.Stage.{Untouched, Finished}
use Rattle.run_laws.specs.Runs.{Setting, Progress, Move, Allows, after, Leads, puts_of}
use Rattle.run_laws.specs.Runs.Move.{Pass, Replay, Start as Begin, End as Finish}
use Rattle.run_plan.specs.declared.plan.Plan.{Plan}
use Rattle.run_plan.specs.Openings.{rules_of}
use Rattle.run_plan.specs.Results.{ends_of}
use Rattle.run_plan.specs.Stories.{stage_of}

-- a fact of each place: of this one, and of the others as before
pub split : (P : ℕ → Bool → Type 0) (t : ℕ) → P t true → ((u : ℕ) → u ≢ t → P u false) → (u : ℕ) → P u (u == t)
split P t here there u = elim (cases_eq u t) [
  | inl e ↦ subst (λ v. P v (v == t)) (sym e) (subst (P t) (sym (eq-eqb t t refl)) here)
  | inr d ↦ subst (P u) (sym (ne_eqb u t d)) (there u d)
]

-- ---- ancestors and stages

pub leads-same : (plan : Plan) (n t a : ℕ) → leads (rules_of plan) n t a ≡ reaches plan.listing n t a
leads-same plan zero t a = refl
leads-same plan (suc n) t a = ap (λ f. list_any f (part_at plan.listing t).deps) (fun_ext (λ d. ap (λ b. (d == a) || b) (leads-same plan n d a)))

pub well-stage : (mode : Mode) (s : State) → stands_well mode s ≡ true → is_well mode (stage_of s) ≡ true
well-stage mode state.Waiting h = h
well-stage mode state.Missed h = h
well-stage mode state.Running h = h
well-stage Never state.Passed h = refl
well-stage DependenciesSuccessful state.Passed h = refl
well-stage Always state.Passed h = refl
well-stage Never (state.Ended x) h = h
well-stage DependenciesSuccessful (state.Ended x) h = h
well-stage Always (state.Ended x) h = refl
well-stage mode state.Left h = absurd (false≢true h)

pub stages-put : (st : States) (t : ℕ) (s : State) → put_at (λ u. stage_of (st u)) t (stage_of s) ≡ (λ u. stage_of (put st t s u))
stages-put st t s = fun_ext (λ u. elim (cases_Bool (u == t)) [ inl e ↦ rw e refl | inr e ↦ rw e refl ])

pub unknown-stage : (s : State) → is_known s ≡ false → stage_of s ≡ Untouched
unknown-stage state.Waiting h = refl
unknown-stage state.Missed h = absurd (true≢false h)
unknown-stage state.Running h = absurd (true≢false h)
unknown-stage state.Passed h = absurd (true≢false h)
unknown-stage (state.Ended x) h = absurd (true≢false h)
unknown-stage state.Left h = refl

pub stages-end : (plan : Plan) (st : States) → AreLower (rules_of plan) → IsCalm (rules_of plan) st → (t x : ℕ) → st t ≡ state.Running → put_at (λ u. stage_of (st u)) t (Finished x) ≡ (λ u. stage_of (after_end (rules_of plan) st t x u))
stages-end plan st low calm t x running = fun_ext (λ u. elim (cases_Bool (not (serves plan.mode x) && leads (rules_of plan) u u t)) [
  | inl h ↦ let f = faded (rules_of plan) st low calm t x u running h in rw (h, ne_eqb u t f.0) (unknown-stage (st u) f.1)
  | inr h ↦ rw h (ap (λ g. g u) (stages-put st t (state.Ended x)))
])

-- what was settled stays, and what runs beside the ended task too
pub after-end-known : (plan : Plan) (st : States) → AreLower (rules_of plan) → IsCalm (rules_of plan) st → (t x : ℕ) → st t ≡ state.Running → (u : ℕ) → u ≢ t → is_known (st u) ≡ true → after_end (rules_of plan) st t x u ≡ st u
after-end-known plan st low calm t x running u other known = elim (cases_Bool (not (serves plan.mode x) && leads (rules_of plan) u u t)) [
  | inl h ↦ let f = faded (rules_of plan) st low calm t x u running h in absurd (true≢false (sym known ∙ f.1))
  | inr h ↦ rw (h, ne_eqb u t other) refl
]

pub after-end-here : (plan : Plan) (st : States) → AreLower (rules_of plan) → IsCalm (rules_of plan) st → (t x : ℕ) → st t ≡ state.Running → after_end (rules_of plan) st t x t ≡ state.Ended x
after-end-here plan st low calm t x running = elim (cases_Bool (not (serves plan.mode x) && leads (rules_of plan) t t t)) [
  | inl h ↦ let f = faded (rules_of plan) st low calm t x t running h in absurd (f.0 refl)
  | inr h ↦ rw (h, eq-eqb t t refl) refl
]

-- ---- moves

pub leads-push : (s : Setting) (from : Progress) (moves : List Move) (mid : Progress) (m : Move) → Leads s from moves mid → Allows s mid m → Leads s from (moves ++ m ∷ []) (after s mid m)
leads-push s from [] mid m is may = subst (λ p. Allows s p m × (after s p m ≡ after s mid m)) (sym is) (may, refl)
leads-push s from (n ∷ moves) mid m (first, more) may = (first, leads-push s (after s from n) moves mid m more may)

pub puts-push : (moves : List Move) (m : Move) → puts_of (moves ++ m ∷ []) ≡ puts_of moves ++ puts_of (m ∷ [])
puts-push [] m = refl
puts-push (Pass t ∷ moves) m = puts-push moves m
puts-push (Replay t a ∷ moves) m = puts-push moves m
puts-push (Begin t ∷ moves) m = puts-push moves m
puts-push (Finish t true ∷ moves) m = ap (λ ps. t ∷ ps) (puts-push moves m)
puts-push (Finish t false ∷ moves) m = puts-push moves m

-- ---- ends

pub ends-push : (steps : List Step) (s : Step) → ends_of (steps ++ s ∷ []) ≡ ends_of steps ++ ends_of (s ∷ [])
ends-push [] s = refl
ends-push (Start t ∷ steps) s = ends-push steps s
ends-push (End t x ∷ steps) s = ap (λ es. t ∷ es) (ends-push steps s)

pub all-ends : (P : ℕ → Type 0) (steps : List Step) → ((u : ℕ) → ended steps u ≡ true → P u) → AllByRecursion P (ends_of steps)
all-ends P [] each = tt
all-ends P (Start t ∷ steps) each = all-ends P steps (λ u h. each u h)
all-ends P (End t x ∷ steps) each =
    (each t (or_left ((t == t) && true) (ended steps t) (rw (eq-eqb t t refl) refl)), all-ends P steps (λ u h. each u (or_right ((t == u) && true) (ended steps u) h)))

pub all-filter : (P : ℕ → Type 0) (p : ℕ → Bool) (xs : List ℕ) → AllByRecursion P xs → AllByRecursion P (filter p xs)
all-filter P p [] all = tt
all-filter P p (x ∷ xs) all = elim (cases_Bool (p x)) [ inl h ↦ rw h (all.0, all-filter P p xs all.1) | inr h ↦ rw h (all-filter P p xs all.1) ]

pub filter-agree : (p q : ℕ → Bool) (xs : List ℕ) → AllByRecursion (λ u. p u ≡ q u) xs → filter p xs ≡ filter q xs
filter-agree p q [] all = refl
filter-agree p q (x ∷ xs) all = elim (cases_Bool (q x)) [ inl h ↦ rw (all.0, h) (ap (λ ys. x ∷ ys) (filter-agree p q xs all.1)) | inr h ↦ rw (all.0, h) (filter-agree p q xs all.1) ]

-- ---- lists by place

pub index-some : {X : Type 0} (xs : List X) (i : ℕ) (x d : X) → slice_get xs i ≡ Some x → get_or xs i d ≡ x
index-some [] i x d h = absurd (cc)
index-some (y ∷ xs) zero x d h = cc
index-some (y ∷ xs) (suc i) x d h = index-some xs i x d h

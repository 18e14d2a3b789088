-- Ends of commands that run, and the pairs that they add.
use Rattle.std.proofs.Common.{◌≡◌, ℕ, zero, suc, ◌==◌, ◌&&◌, Bool, true, false, cond, List, [], ◌∷◌, ◌++◌, refl, sym, ap, ◌∙◌, subst, inl, inr, Some, slice_get, append_assoc, append-nil}
use Rattle.std.specs.Prelude.{filter, map}
use Rattle.std.specs.List.{list_any, list_all, AllByRecursion}
use Rattle.std.proofs.lemmas.Bool.{cases_Bool, eq-eqb, ne_eqb, eqb-true, true≢false, and_parts, and_from, or_cases, or_left, or_right, false_from_ne_true}
use Rattle.std.proofs.lemmas.List.Folds.{list_any-append}
use Rattle.cache_api.specs.Pairs.{Pair}
use Rattle.page.specs.declared.blocks.Note.{Note}
use Rattle.run_core.specs.declared.states.Step.{Step}
use Rattle.run_core.specs.declared.states.Step.TheVariants.{Start, End}
use Rattle.run_core.specs.declared.states.State.TheVariants as state
use Rattle.run_core.specs.Greedy.{is_end, ended, HaveStatus}
use Rattle.run_core.specs.Machine.{States, put, is_known}
use Rattle.run_laws.specs.declared.outcome.Outcome.{Outcome}
use Rattle.run_laws.specs.declared.outcome.Outcome.TheVariants.{Done}
use Rattle.run_laws.specs.Picks.{pick}
use Rattle.run_laws.specs.Ancestors.{is_above}
use Rattle.run_laws.specs.Clean.{clean}
use Rattle.run_laws.specs.Pairs.{IsGood, IsDue, is_good, due_pair}
use Rattle.run_laws.specs.Runs.{Setting, clean_pair}
use Rattle.run_core.proofs.Any.{all_weaker}
use Rattle.run_plan.specs.declared.plan.Plan.{Plan}
use Rattle.run_plan.specs.Answers.{AreLate}
use Rattle.run_plan.specs.Openings.{Opening, setting_of}
use Rattle.run_plan.specs.Plans.{caches}
use Rattle.run_plan.specs.Results.{effect_at, may_store, is_stored, stores, ends_of}
use Rattle.run_plan.specs.Stories.{Now}
use Rattle.run_plan.specs.StoryLaws.{Stands}
use Rattle.run_plan.proofs.Grounds.{HaltGrounds}
use Rattle.run_plan.proofs.Steps.{split}
use Rattle.run_plan.proofs.Standing.{known-below, running-clean, running-effect}

-- ---- ends of commands that run

-- what runs after an end ran before it
ran-before : (st : States) (t x u : ℕ) → put st t (state.Ended x) u ≡ state.Running
    → st u ≡ state.Running
ran-before st t x =
    split (λ u b. cond b (state.Ended x) (st u) ≡ state.Running → st u ≡ state.Running) t
    (λ h. absurd (cc)) (λ u other h. h)

pub late-ran : (st : States) (late : List Step) → AreLate st late
    → AllByRecursion (λ u. st u ≡ state.Running) (ends_of late)
late-ran st [] are = tt
late-ran st (Start t ∷ late) are = absurd are
late-ran st (End t x ∷ late) are =
    let rest = late-ran (put st t (state.Ended x)) late are.1 in (
      are.0,
      all_weaker (λ u. put st t (state.Ended x) u ≡ state.Running)
          (λ u. st u ≡ state.Running) (ran-before st t x) (ends_of late) rest,
    )

pub late-push : (st : States) (late : List Step) (t x : ℕ) → AreLate st late
    → st t ≡ state.Running → ended late t ≡ false → AreLate st (late ++ End t x ∷ [])
late-push st [] t x are ran free = (ran, tt)
late-push st (Start u ∷ late) t x are ran free = absurd are
late-push st (End u y ∷ late) t x are ran free =
    let other : (t == u) ≡ false = ne_eqb t u (λ e. true≢false
    (sym (or_left ((u == t) && true) (ended late t)
    (and_from (u == t) true (eq-eqb u t (sym e)) refl)) ∙ free)) in
    let rest : ended late t ≡ false = false_from_ne_true (ended late t) (λ e. true≢false
    (sym (or_right ((u == t) && true) (ended late t) e) ∙ free)) in
    (are.0, late-push (put st u (state.Ended y)) late t x are.1 (rw other ran) rest)

-- ---- statuses

pub have-both : (status : ℕ → ℕ) (one other : List Step) → HaveStatus one status
    → HaveStatus other status → HaveStatus (one ++ other) status
have-both status one other a b t x h =
    elim (or_cases (list_any (is_end (λ y. y == x) t) one) (list_any (is_end (λ y. y == x) t) other)
    (sym (list_any-append (is_end (λ y. y == x) t) one other) ∙ h)) [
      | inl k ↦ a t x k
      | inr k ↦ b t x k
    ]

pub have-one : (status : ℕ → ℕ) (t x : ℕ) → x ≡ status t → HaveStatus (End t x ∷ []) status
have-one status t x is u y h =
    elim (or_cases ((t == u) && (x == y)) false h) [
      | inl k ↦
          let p = and_parts (t == u) (x == y) k in
          sym (eqb-true x y p.1) ∙ is ∙ ap status (eqb-true t u p.0)
      | inr k ↦ absurd (true≢false (sym k))
    ]

-- ---- lists

filter-gives : (P Q : ℕ → Type 0) (p : ℕ → Bool) → ((u : ℕ) → P u → p u ≡ true → Q u)
    → (xs : List ℕ) → AllByRecursion P xs → AllByRecursion Q (filter p xs)
filter-gives P Q p gives [] all = tt
filter-gives P Q p gives (x ∷ xs) all = elim (cases_Bool (p x)) [
  | inl h ↦ rw h (gives x all.0 h, filter-gives P Q p gives xs all.1)
  | inr h ↦ rw h (filter-gives P Q p gives xs all.1)
]

picked-good : (keep : ℕ → Bool) (outs : List Outcome) → list_all is_good (pick keep outs) ≡ true
    → (j : ℕ) (d : Outcome) → keep j ≡ true → slice_get outs j ≡ Some d → is_good d ≡ true
picked-good keep [] all j d kept is = absurd (cc)
picked-good keep (x ∷ xs) all zero d kept is =
    let more = pick (λ i. keep (suc i)) xs in
    let named : list_all is_good (cond true (x ∷ more) more) ≡ true =
    subst (λ b. list_all is_good (cond b (x ∷ more) more) ≡ true) kept all in
    let same : x ≡ d = cc in
    ap is_good (sym same) ∙ (and_parts (is_good x) (list_all is_good more) named).0
picked-good keep (x ∷ xs) all (suc j) d kept is =
    let more = pick (λ i. keep (suc i)) xs in
    picked-good (λ i. keep (suc i)) xs (by (keep zero) more all) j d kept is
  where
    by : (b : Bool) (more : List Outcome) → list_all is_good (cond b (x ∷ more) more) ≡ true
        → list_all is_good more ≡ true
    by true more h = (and_parts (is_good x) (list_all is_good more) h).1
    by false more h = h

-- ---- pairs

module _ (grounds : HaltGrounds) (plan : Plan) (o : Opening) (now : Now)
    (stands : Stands plan o now) where
  abbrev s : Setting
  s = setting_of plan o

  -- the result of a command that runs is due, where it is to be put
  is-due : (t : ℕ) → now.states t ≡ state.Running → may_store plan s t ≡ true
      → IsDue o.book (clean_pair s t)
  is-due t runs may =
      let outs = clean plan.mode o.book plan.listing in
      let all_good = list_all is_good (pick (is_above plan.listing t) outs) in
      let may_end = (and_parts (caches plan t) (((effect_at s t).status == 0) && all_good) may).1 in
      let zero_good = and_parts ((effect_at s t).status == 0) all_good may_end in
      let ended = running-clean grounds.laws plan o now stands t runs in
      let effect = running-effect grounds.laws plan o now stands t runs in
      record {
        mode = plan.mode;
        listing = plan.listing;
        place = t;
        effect = now.will t;
        valid = stands.ready.valid;
        below = known-below grounds.laws plan o now stands t (ap is_known runs);
        well = record {
          ended = ended;
          good = λ j d within is. elim (or_cases (j == t) (is_above plan.listing t j) within) [
            | inl here ↦
                let there : slice_get outs j ≡ Some (Done (now.will t)) =
                ap (slice_get outs) (eqb-true j t here) ∙ ended in
                let same : d ≡ Done (now.will t) = cc in
                ap is_good same ∙ ap (λ x. x.status == 0) (sym effect) ∙ zero_good.0
            | inr above ↦ picked-good (is_above plan.listing t) outs zero_good.1 j d above is
          ];
        };
        is = ap (due_pair plan.listing t) effect;
      }

  pub late-due : (notes : ℕ → Note) (late : List Step) → AreLate now.states late
      → AllByRecursion (λ u. IsDue o.book (clean_pair s u))
      (filter (stores plan s notes) (ends_of late))
  late-due notes late are =
      filter-gives (λ u. now.states u ≡ state.Running) (λ u. IsDue o.book (clean_pair s u))
      (stores plan s notes)
      (λ u runs stored. is-due u runs
      (and_parts (may_store plan s u) (is_stored (notes u)) stored).0)
      (ends_of late) (late-ran now.states late are)

  pub good-more : (pairs : List Pair) (us : List ℕ) → IsGood o.book pairs
      → AllByRecursion (λ u. IsDue o.book (clean_pair s u)) us
      → IsGood o.book (pairs ++ map (clean_pair s) us)
  good-more pairs [] good due = subst (IsGood o.book) (sym (append-nil pairs)) good
  good-more pairs (u ∷ us) good due =
      subst (IsGood o.book) (append_assoc pairs (clean_pair s u ∷ []) (map (clean_pair s) us))
      (good-more (pairs ++ clean_pair s u ∷ []) us
      (grounds.due o.book pairs (clean_pair s u) good due.0) due.1)

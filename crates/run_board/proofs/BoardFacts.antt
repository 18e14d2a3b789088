-- What the tables of a run keep.
use Rattle.std.proofs.Common.{◌≡◌, ◌≢◌, ℕ, ◌==◌, ◌||◌, ◌&&◌, Bool, true, false, cond, List, [], ◌∷◌, refl, sym, ap, ◌∙◌, subst, arith, inl, inr}
use Rattle.std.specs.List.{list_all}
use Rattle.std.proofs.lemmas.Bool.{cases_Bool, cases_eq, eq-eqb, ne_eqb, eqb-true, false≢true, true≢false, and_parts, or_cases, or_left, or_right}
use Rattle.spawn_dev.specs.Spawn.{put_at}
use Rattle.run_core.specs.declared.states.Mode.{Mode}
use Rattle.run_core.specs.declared.states.State.{State}
use Rattle.run_core.specs.declared.states.State.TheVariants.{Waiting, Missed, Running, Passed, Ended, Left}
use Rattle.run_core.specs.declared.states.Next.TheVariants.{Lookup}
use Rattle.run_core.specs.Greedy.{AreLower}
use Rattle.run_core.specs.Machine.{States, next, put, after_end, is_above, is_well, is_done, is_known, has_failed, IsCalm}
use Rattle.run_core.specs.Tables.{is_in}
use Rattle.run_core.proofs.Above.{above-deps}
use Rattle.run_core.proofs.Any.{all_true}
use Rattle.run_core.proofs.Members.{any-member, member-any, member-all}
use Rattle.run_core.proofs.Turns.{next-tells}
use Rattle.run_laws.specs.Ancestors.{part_at, is_above as stands_on}
use Rattle.run_laws.specs.Closures.{in_closure}
use Rattle.run_laws.proofs.AncestorFacts.{reaches-lower}
use Rattle.run_plan.specs.declared.plan.Plan.{Plan}
use Rattle.run_plan.specs.Openings.{rules_of}
use Rattle.run_plan.specs.Plans.{IsValidPlan}
use Rattle.run_plan.specs.Stories.{is_settled}
use Rattle.run_plan.specs.StoryLaws.{TellsGood}
use Rattle.run_plan.proofs.Steps.{split, leads-same}
use Rattle.run_plan.proofs.Ending.{end-split, unknown-undone}
use Rattle.run_board.specs.Boards.{IsFlag}
use Rattle.run_board.specs.Tables.{flag_in}

-- ---- states

pub well-done : (mode : Mode) (s : State) → is_well mode s ≡ true → is_done s ≡ true
well-done mode Waiting h = absurd (false≢true h)
well-done mode Missed h = absurd (false≢true h)
well-done mode Running h = absurd (false≢true h)
well-done mode Passed h = refl
well-done mode (Ended x) h = refl
well-done mode Left h = absurd (false≢true h)

failed-done : (s : State) → has_failed s ≡ true → is_done s ≡ true
failed-done Waiting h = absurd (false≢true h)
failed-done Missed h = absurd (false≢true h)
failed-done Running h = absurd (false≢true h)
failed-done Passed h = refl
failed-done (Ended x) h = refl
failed-done Left h = absurd (false≢true h)

done-settled : (s : State) → is_done s ≡ true → is_settled s ≡ true
done-settled Waiting h = absurd (false≢true h)
done-settled Missed h = absurd (false≢true h)
done-settled Running h = absurd (false≢true h)
done-settled Passed h = refl
done-settled (Ended x) h = refl
done-settled Left h = absurd (false≢true h)

settled-unknown : (s : State) → is_settled s ≡ true → is_known s ≡ false → s ≡ Left
settled-unknown Waiting h k = absurd (false≢true h)
settled-unknown Missed h k = absurd (false≢true h)
settled-unknown Running h k = absurd (false≢true h)
settled-unknown Passed h k = absurd (true≢false k)
settled-unknown (Ended x) h k = absurd (true≢false k)
settled-unknown Left h k = refl

-- what is done after a move at t was done before it, but for t
abbrev pub Moved : States → States → ℕ → Type 0
Moved st later t = (u : ℕ) → u ≢ t → (is_done (st u) ≡ true → later u ≡ st u) × (is_done (later u) ≡ true → is_done (st u) ≡ true)

pub put-moved : (st : States) (t : ℕ) (s : State) → Moved st (put st t s) t
put-moved st t s u other = (λ h. rw (ne_eqb u t other) refl, λ h. rw (ne_eqb u t other) at h)

pub put-here : (st : States) (t : ℕ) (s : State) → put st t s t ≡ s
put-here st t s = rw (eq-eqb t t refl) refl

pub put-settled : (st : States) (t : ℕ) (s : State) → is_settled (st t) ≡ false → (u : ℕ) → is_settled (st u) ≡ true → put st t s u ≡ st u
put-settled st t s bare u h = elim (cases_eq u t) [
  | inl e ↦ absurd (true≢false (sym h ∙ ap (λ v. is_settled (st v)) e ∙ bare))
  | inr d ↦ rw (ne_eqb u t d) refl
]

module _ (plan : Plan) (valid : IsValidPlan plan) where
  low : AreLower (rules_of plan)
  low = valid.ordered.lower

  module _ (st : States) (calm : IsCalm (rules_of plan) st) (t x : ℕ) (running : st t ≡ Running) where
    pub end-here : after_end (rules_of plan) st t x t ≡ Ended x
    end-here = subst (λ b. (b ≡ true) → after_end (rules_of plan) st t x t ≡ Ended x) (eq-eqb t t refl)
        (λ h. end-split plan st low calm t x running (λ u b y. b ≡ true → y ≡ Ended x) (λ k. refl) (λ u d k. absurd (false≢true k)) (λ u d g k. absurd (false≢true k)) t (eq-eqb t t refl)) refl

    pub end-moved : Moved st (after_end (rules_of plan) st t x) t
    end-moved u other = end-split plan st low calm t x running (λ u b y. u ≢ t → (is_done (st u) ≡ true → y ≡ st u) × (is_done y ≡ true → is_done (st u) ≡ true)) (λ d. absurd (d refl)) (λ u d e. (λ h. refl, λ h. h))
        (λ u d k e. (λ h. absurd (true≢false (sym h ∙ (unknown-undone (st u) k).0)), λ h. absurd (false≢true h))) u other

    pub end-settled : (u : ℕ) → is_settled (st u) ≡ true → after_end (rules_of plan) st t x u ≡ st u
    end-settled u = end-split plan st low calm t x running (λ u b y. is_settled (st u) ≡ true → y ≡ st u) (λ h. absurd (false≢true (sym (ap is_settled running) ∙ h))) (λ u d h. refl)
        (λ u d k h. sym (settled-unknown (st u) h k)) u

  -- ---- ancestors

  above-by : (t a : ℕ) → stands_on plan.listing t a ≡ true → (d : ℕ) × (is_in d (part_at plan.listing t).deps ≡ true) × (in_closure plan.listing d a ≡ true)
  above-by t a h =
      let w = any-member (λ d. (d == a) || is_above (rules_of plan) d a) (part_at plan.listing t).deps (sym (above-deps (rules_of plan) low t a) ∙ leads-same plan t t a ∙ h) in (
        w.0,
        w.1,
        elim (or_cases (w.0 == a) (is_above (rules_of plan) w.0 a) w.2) [
          | inl e ↦ or_left (a == w.0) (stands_on plan.listing w.0 a) (eq-eqb a w.0 (sym (eqb-true w.0 a e)))
          | inr k ↦ or_right (a == w.0) (stands_on plan.listing w.0 a) (sym (leads-same plan w.0 w.0 a) ∙ k)
        ],
      )

  by-above : (t a d : ℕ) → is_in d (part_at plan.listing t).deps ≡ true → in_closure plan.listing d a ≡ true → stands_on plan.listing t a ≡ true
  by-above t a d dep h =
      sym (leads-same plan t t a) ∙ above-deps (rules_of plan) low t a ∙ member-any (λ d. (d == a) || is_above (rules_of plan) d a) (part_at plan.listing t).deps d dep
      (elim (or_cases (a == d) (stands_on plan.listing d a) h) [
        | inl e ↦ or_left (d == a) (is_above (rules_of plan) d a) (eq-eqb d a (sym (eqb-true a d e)))
        | inr k ↦ or_right (d == a) (is_above (rules_of plan) d a) (leads-same plan d d a ∙ k)
      ])

  -- ---- flags

  some-false : (p : ℕ → Bool) (xs : List ℕ) → list_all p xs ≡ false → (d : ℕ) × (is_in d xs ≡ true) × (p d ≡ false)
  some-false p [] h = absurd (true≢false h)
  some-false p (x ∷ xs) h = elim (cases_Bool (p x)) [
    | inl k ↦ let w = some-false p xs (rw k at h) in (w.0, or_right (w.0 == x) (is_in w.0 xs) w.1, w.2)
    | inr k ↦ (x, or_left (x == x) (is_in x xs) (eq-eqb x x refl), k)
  ]

  module _ (st : States) (flags : List Bool) (each : (t : ℕ) → IsFlag plan st t (flag_in flags t)) (t : ℕ) (deps : (d : ℕ) → is_in d (part_at plan.listing t).deps ≡ true → is_done (st d) ≡ true) where
    abbrev sound : Bool
    sound = list_all (flag_in flags) (part_at plan.listing t).deps

    pub sound-tells : TellsGood plan st t (list_all (flag_in flags) (part_at plan.listing t).deps)
    sound-tells = record {
      good = λ h a above.
          let w = above-by t a above in
          (each w.0).good (member-all (λ d. flag_in flags d ≡ true) (part_at plan.listing t).deps w.0 (all_true (flag_in flags) (part_at plan.listing t).deps h) w.1) a w.2;
      bad = λ h.
          let w = some-false (flag_in flags) (part_at plan.listing t).deps h in
          let b = (each w.0).bad w.2 (deps w.0 w.1) in
          (b.0, by-above t b.0 w.0 w.1 b.1, b.2);
    }

    -- the flag of a task that is done now
    pub new-flag : (later : States) → Moved st later t → (s : State) → later t ≡ s → is_done s ≡ true → (fine : Bool) → (fine ≡ true → has_failed s ≡ false) → (fine ≡ false → has_failed s ≡ true)
        → IsFlag plan later t (fine && sound)
    new-flag later moved s here done fine well ill = record {
      good = λ h a inside.
          let p = and_parts fine sound h in
          elim (or_cases (a == t) (stands_on plan.listing t a) inside) [
            | inl e ↦
                let same : later a ≡ s = ap later (eqb-true a t e) ∙ here in
                (ap is_done same ∙ done, ap has_failed same ∙ well p.0)
            | inr above ↦
                let g = sound-tells.good p.1 a above in
                let same = (moved a (λ e. let k = reaches-lower plan.listing low t t a above in omega (arith, k, e))).0 g.0 in
                (ap is_done same ∙ g.0, ap has_failed same ∙ g.1)
          ];
      bad = λ h over. elim (cases_Bool fine) [
        | inl f ↦
            let b = sound-tells.bad (rw f at h) in
            let same = (moved b.0 (λ e. let k = reaches-lower plan.listing low t t b.0 b.1 in omega (arith, k, e))).0 (failed-done (st b.0) b.2) in
            (b.0, or_right (b.0 == t) (stands_on plan.listing t b.0) b.1, ap has_failed same ∙ b.2)
        | inr f ↦ (t, or_left (t == t) (stands_on plan.listing t t) (eq-eqb t t refl), ap has_failed here ∙ ill f)
      ];
    }

  -- a flag after another task's move; the task that moved was not done
  pub old-flag : (st later : States) (t u : ℕ) (flag : Bool) → Moved st later t → is_done (st t) ≡ false → u ≢ t → IsFlag plan st u flag → IsFlag plan later u flag
  old-flag st later t u flag moved bare other is = record {
    good = λ h a inside.
        let g = is.good h a inside in
        let same = (moved a (λ e. true≢false (sym g.0 ∙ ap (λ v. is_done (st v)) e ∙ bare))).0 g.0 in
        (ap is_done same ∙ g.0, ap has_failed same ∙ g.1);
    bad = λ h over.
        let b = is.bad h ((moved u other).1 over) in
        let done = failed-done (st b.0) b.2 in
        let same = (moved b.0 (λ e. true≢false (sym done ∙ ap (λ v. is_done (st v)) e ∙ bare))).0 done in
        (b.0, b.1, ap has_failed same ∙ b.2);
  }

  -- the same for the task that moved, where it is not done yet
  pub bare-flag : (st later : States) (t : ℕ) (flag : Bool) → Moved st later t → is_done (st t) ≡ false → is_done (later t) ≡ false → IsFlag plan st t flag → IsFlag plan later t flag
  bare-flag st later t flag moved bare still is = record {
    good = λ h a inside.
        let g = is.good h a inside in
        let same = (moved a (λ e. true≢false (sym g.0 ∙ ap (λ v. is_done (st v)) e ∙ bare))).0 g.0 in
        (ap is_done same ∙ g.0, ap has_failed same ∙ g.1);
    bad = λ h over. absurd (true≢false (sym over ∙ still));
  }

  -- ---- what an answer of the scheduler says

  pub deps-done : (st : States) (t : ℕ) → next (rules_of plan) st ≡ Lookup t → (d : ℕ) → is_in d (part_at plan.listing t).deps ≡ true → is_done (st d) ≡ true
  deps-done st t is d dep =
      let look = next-tells.lookup (rules_of plan) st t is in
      well-done plan.mode (st d) (member-all (λ d. is_well plan.mode (st d) ≡ true) (part_at plan.listing t).deps d (all_true (λ d. is_well plan.mode (st d)) (part_at plan.listing t).deps look.2) dep)

  -- the dependencies of a task whose command runs are done
  pub running-deps : (st : States) → IsCalm (rules_of plan) st → (t : ℕ) → st t ≡ Running → (d : ℕ) → is_in d (part_at plan.listing t).deps ≡ true → is_done (st d) ≡ true
  running-deps st calm t running d dep =
      well-done plan.mode (st d) (calm t d (leads-same plan t t d ∙ by-above t d d dep (or_left (d == d) (stands_on plan.listing d d) (eq-eqb d d refl))) (ap is_known running))

-- ---- all flags after a move

pub flags-done : (plan : Plan) (valid : IsValidPlan plan) (st later : States) (t : ℕ) (flags new : List Bool) (flag : Bool) → Moved st later t → is_done (st t) ≡ false → ((u : ℕ) → IsFlag plan st u (flag_in flags u))
    → flag_in new ≡ put_at (flag_in flags) t flag → IsFlag plan later t flag → (u : ℕ) → IsFlag plan later u (flag_in new u)
flags-done plan valid st later t flags new flag moved bare each is here u =
    subst (λ g. IsFlag plan later u (g u)) (sym is) (split (λ u b. IsFlag plan later u (cond b flag (flag_in flags u))) t here (λ u d. old-flag plan valid st later t u (flag_in flags u) moved bare d (each u)) u)

pub flags-bare : (plan : Plan) (valid : IsValidPlan plan) (st later : States) (t : ℕ) (flags : List Bool) → Moved st later t → is_done (st t) ≡ false → is_done (later t) ≡ false → ((u : ℕ) → IsFlag plan st u (flag_in flags u))
    → (u : ℕ) → IsFlag plan later u (flag_in flags u)
flags-bare plan valid st later t flags moved bare still each u = elim (cases_eq u t) [
  | inl e ↦ subst (λ v. IsFlag plan later v (flag_in flags v)) (sym e) (bare-flag plan valid st later t (flag_in flags t) moved bare still (each t))
  | inr d ↦ old-flag plan valid st later t u (flag_in flags u) moved bare d (each u)
]

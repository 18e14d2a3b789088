-- What an end does to a story.
use Rattle.std.proofs.Common.{◌≡◌, ◌≢◌, ℕ, zero, suc, ◌<◌, ◌≤◌, ◌==◌, ◌&&◌, not, Bool, true, false, cond, List, [], ◌∷◌, ◌++◌, length, refl, sym, ap, ◌∙◌, subst, arith, inl, inr, Option, Some, None, slice_get, append_assoc}
use Rattle.std.specs.Prelude.{filter, map, MatchBool, is_some}
use Rattle.std.specs.List.{list_all, AllByRecursion}
use Rattle.std.proofs.lemmas.Bool.{cases_Bool, cases_eq, eq-eqb, ne_eqb, eqb-true, false≢true, true≢false, and_parts, and_right, or_cases, false_from_ne_true, not-false}
use Rattle.std.proofs.lemmas.List.{map-append}
use Rattle.std.proofs.lemmas.List.Elements.{filter-append}
use Rattle.rel_path.specs.Paths.{Path, path_eq}
use Rattle.rel_path.specs.Files.{FileMap, file_at, over}
use Rattle.rel_path.proofs.PathLaws.{path_same}
use Rattle.globs.specs.declared.out_set.OutSet.{OutSet}
use Rattle.globs.specs.Outputs.{takes, shares}
use Rattle.globs.specs.OwnedFiles.{owned}
use Rattle.cache_api.specs.Artifacts.{File, artifact_text}
use Rattle.cache_api.specs.Cache.{ample}
use Rattle.cache_api.specs.Pairs.{Pair, pair_for}
use Rattle.page.specs.declared.blocks.Mark.TheVariants as printed_mark
use Rattle.page.specs.declared.blocks.Note.{Note}
use Rattle.page.specs.declared.blocks.Note.TheVariants.{Stored, Shared, Large, Full}
use Rattle.spawn_dev.specs.declared.effect.Effect.{Effect}
use Rattle.spawn_dev.specs.declared.command.Ended.{Ended}
use Rattle.spawn_dev.specs.declared.command.Step.TheVariants as told
use Rattle.spawn_dev.specs.Effects.{IsEffect}
use Rattle.spawn_dev.specs.Spawn.{put_at}
use Rattle.run_core.specs.declared.states.Step.TheVariants.{End}
use Rattle.run_core.specs.declared.states.State.{State}
use Rattle.run_core.specs.declared.states.State.TheVariants as state
use Rattle.run_core.specs.declared.states.Next.TheVariants as turn
use Rattle.run_core.specs.Greedy.{serves}
use Rattle.run_core.specs.Machine.{States, next, put, after_end, leads, is_done, is_known, has_failed, IsCalm}
use Rattle.run_core.specs.Moves.Move.{Ends}
use Rattle.run_core.proofs.Calm.{faded}
use Rattle.run_core.proofs.Steps.{picks}
use Rattle.run_laws.specs.declared.mark.Mark.TheVariants.{Hit, Miss, Bypass}
use Rattle.run_laws.specs.declared.outcome.Outcome.{Outcome}
use Rattle.run_laws.specs.declared.outcome.Outcome.TheVariants.{Skipped, Passed, Done}
use Rattle.run_laws.specs.Picks.{pick}
use Rattle.run_laws.specs.Ancestors.{part_at, has_script, is_above}
use Rattle.run_laws.specs.Clean.{clean}
use Rattle.run_laws.specs.Keys.{key_of}
use Rattle.run_laws.specs.Marks.{found_for, is_hit}
use Rattle.run_laws.specs.Pairs.{is_good, due_pair}
use Rattle.run_laws.specs.Plans.{log_path}
use Rattle.run_laws.specs.Worlds.{Stage, status_in, logged, IsOther}
use Rattle.run_laws.specs.Worlds.Stage.{Untouched, Running, Finished}
use Rattle.run_laws.specs.Runs.{Setting, Progress, after, Leads, opening, puts_of, put_if, mark_at}
use Rattle.run_laws.specs.Runs.Move.{End as Finish}
use Rattle.run_plan.specs.declared.plan.Plan.{Plan}
use Rattle.run_plan.specs.declared.report.Report.{Report}
use Rattle.run_plan.specs.Plans.{caches, bypasses}
use Rattle.run_plan.specs.Openings.{Opening, setting_of, rules_of, tasks_of}
use Rattle.run_plan.specs.Results.{effect_at, step_of, left_by, may_store, is_stored, IsNote, Taken, KeptAs, NotedAs, stores, ends_of}
use Rattle.run_plan.specs.Pages.{report_of, digits_of, page_mark}
use Rattle.run_plan.specs.Stories.{Now, Story, stage_of, has_ended, progress_of, notes_in, note_in, ReportsAs}
use Rattle.run_plan.specs.StoryLaws.{Stands, EndsNow, EndIs, KeptIf, to_put, after_this}
use Rattle.run_plan.proofs.Grounds.{Laws}
use Rattle.run_plan.proofs.Steps.{stages-end, leads-push, puts-push, ends-push, all-ends, filter-agree}
use Rattle.run_plan.proofs.Standing.{lower, agrees, runs, known-below, running-clean, running-effect, effect-behaves, ended-below, none-now, noted-less, no-note, silent}
use Rattle.run_plan.proofs.Taking.{ascend-is, unowned, shared-unowned, Agree, shared-first, large-first, can-take}

-- ---- states after an end

-- a fact of each place: of the one that ended, of those that it leaves, and of the others as before
pub end-split : (plan : Plan) (st : States) → (low : (t : ℕ) → AllByRecursion (λ d. d < t) (part_at plan.listing t).deps) → IsCalm (rules_of plan) st → (t x : ℕ) → st t ≡ state.Running → (P : ℕ → Bool → State → Type 0)
    → P t true (state.Ended x) → ((u : ℕ) → u ≢ t → P u false (st u)) → ((u : ℕ) → u ≢ t → is_known (st u) ≡ false → P u false state.Left) → (u : ℕ) → P u (u == t) (after_end (rules_of plan) st t x u)
end-split plan st low calm t x running P here there gone u = elim (cases_Bool (not (serves plan.mode x) && leads (rules_of plan) u u t)) [
  | inl h ↦ let f = faded (rules_of plan) st low calm t x u running h in rw (h, ne_eqb u t f.0) (gone u f.0 f.1)
  | inr h ↦ rw h (elim (cases_eq u t) [
    | inl e ↦ rw (eq-eqb u t e) (subst (λ v. P v true (state.Ended x)) (sym e) here)
    | inr d ↦ rw (ne_eqb u t d) (there u d)
  ])
]

pub unknown-undone : (s : State) → is_known s ≡ false → (is_done s ≡ false) × (has_ended s ≡ false)
unknown-undone state.Waiting h = (refl, refl)
unknown-undone state.Missed h = absurd (true≢false h)
unknown-undone state.Running h = absurd (true≢false h)
unknown-undone state.Passed h = absurd (true≢false h)
unknown-undone (state.Ended x) h = absurd (true≢false h)
unknown-undone state.Left h = (refl, refl)

-- ---- good ends

good-all : (keep : ℕ → Bool) (outs : List Outcome) → ((a : ℕ) (d : Outcome) → keep a ≡ true → slice_get outs a ≡ Some d → is_good d ≡ true) → list_all is_good (pick keep outs) ≡ true
good-all keep [] each = refl
good-all keep (x ∷ xs) each =
    let rest = good-all (λ i. keep (suc i)) xs (λ a d k e. each (suc a) d k e) in
    elim (cases_Bool (keep zero)) [ inl k ↦ rw (k, each zero x k refl) rest | inr k ↦ rw k rest ]

good-none : (keep : ℕ → Bool) (outs : List Outcome) (a : ℕ) (d : Outcome) → keep a ≡ true → slice_get outs a ≡ Some d → is_good d ≡ false → list_all is_good (pick keep outs) ≡ false
good-none keep [] a d k e bad = absurd (cc)
good-none keep (x ∷ xs) zero d k e bad = let same : x ≡ d = cc in rw (k, ap is_good same ∙ bad) refl
good-none keep (x ∷ xs) (suc a) d k e bad =
    let rest = good-none (λ i. keep (suc i)) xs a d k e bad in
    elim (cases_Bool (keep zero)) [ inl h ↦ rw h (rw rest (and_right (is_good x) false refl)) | inr h ↦ rw h rest ]

good-of : (d : Outcome) → status_in (Some d) ≡ Some 0 → is_good d ≡ true
good-of Skipped h = absurd (cc)
good-of Passed h = refl
good-of (Done effect) h = let e : effect.status ≡ 0 = cc in eq-eqb effect.status 0 e

bad-of : (o : Option Outcome) (x : ℕ) → status_in o ≡ Some x → (x == 0) ≡ false → (d : Outcome) × (o ≡ Some d) × (is_good d ≡ false)
bad-of None x h z = absurd (cc)
bad-of (Some Skipped) x h z = absurd (cc)
bad-of (Some Passed) x h z = let e : x ≡ 0 = cc in absurd (true≢false (sym (eq-eqb x 0 e) ∙ z))
bad-of (Some (Done effect)) x h z = let e : effect.status ≡ x = cc in (Done effect, refl, ap (λ y. y == 0) e ∙ z)

finished-zero : (x : State) → is_done x ≡ true → has_failed x ≡ false → stage_of x ≡ Finished 0
finished-zero state.Waiting d h = absurd (false≢true d)
finished-zero state.Missed d h = absurd (false≢true d)
finished-zero state.Running d h = absurd (false≢true d)
finished-zero state.Passed d h = refl
finished-zero (state.Ended n) d h = ap Finished (eqb-true n 0 (not-false (n == 0) h))
finished-zero state.Left d h = absurd (false≢true d)

failed-is : (x : State) → has_failed x ≡ true → (n : ℕ) × (stage_of x ≡ Finished n) × ((n == 0) ≡ false)
failed-is state.Waiting h = absurd (false≢true h)
failed-is state.Missed h = absurd (false≢true h)
failed-is state.Running h = absurd (false≢true h)
failed-is state.Passed h = absurd (false≢true h)
failed-is (state.Ended n) h = (n, refl, by (n == 0) h)
  where
    by : (b : Bool) → not b ≡ true → b ≡ false
    by true h = absurd (false≢true h)
    by false h = refl
failed-is state.Left h = absurd (false≢true h)

turn-round : (c z g : Bool) → (c && (z && g)) ≡ (g && (z && c))
turn-round true true true = refl
turn-round true true false = refl
turn-round true false true = refl
turn-round true false false = refl
turn-round false true true = refl
turn-round false true false = refl
turn-round false false true = refl
turn-round false false false = refl

or-none : (x y : Option (List ℕ)) → y ≡ None → cond (is_some x) x y ≡ x
or-none None y e = e
or-none (Some b) y e = refl

none-over : (x y : Option (List ℕ)) → x ≡ None → cond (is_some x) x y ≡ y
none-over x y e = rw e refl

marked-run : (bypassed found : Bool) → is_hit (cond bypassed Bypass (cond found Hit Miss)) ≡ false → page_mark (cond bypassed Bypass (cond found Hit Miss)) ≡ cond bypassed printed_mark.Bypass printed_mark.Miss
marked-run true found h = refl
marked-run false true h = absurd (true≢false h)
marked-run false false h = refl

puts-one : (t : ℕ) (b : Bool) → puts_of (Finish t b ∷ []) ≡ cond b (t ∷ []) []
puts-one t true = refl
puts-one t false = refl

module _ (laws : Laws) (plan : Plan) (o : Opening) (now : Now) (stands : Stands plan o now)
    (end : Ended) (sound : Bool) (ends : EndsNow plan now end sound) where
  abbrev s : Setting
  s = setting_of plan o

  abbrev story : Story plan o now
  story = stands.story

  abbrev t : ℕ
  t = end.place

  abbrev outs : OutSet
  outs = (part_at plan.listing end.place).outs

  abbrev eff : Effect
  eff = now.will end.place

  abbrev left : FileMap
  left = logged (part_at plan.listing end.place) end.log (over now.files (file_at (now.will end.place).files))

  pub same-effect : effect_at s t ≡ eff
  same-effect = running-effect laws plan o now stands t ends.running

  below : t < length plan.listing.parts
  below = known-below laws plan o now stands t (ap is_known ends.running)

  to_run : (tasks_of plan o).to_run t ≡ true
  to_run = ((agrees laws plan o now stands t).known (ap is_known ends.running)).run ∙ ap picks ends.running

  script : has_script (part_at plan.listing t) ≡ true
  script = (and_parts (has_script (part_at plan.listing t)) (not (is_hit (mark_at s t))) to_run).0

  behaves : IsEffect outs eff
  behaves = effect-behaves laws plan o now stands t eff below (running-clean laws plan o now stands t ends.running)

  -- ---- files

  no-log : (path : Path) → (path ≡ log_path (part_at plan.listing t) → ⊥) → left path ≡ over now.files (file_at eff.files) path
  no-log path other =
      let differs : path_eq path (log_path (part_at plan.listing t)) ≡ false = false_from_ne_true _ (λ k. other (path_same path (log_path (part_at plan.listing t)) k)) in
      rw differs refl

  owned-left : (path : Path) → takes outs path ≡ true → left path ≡ file_at eff.files path
  owned-left path own =
      no-log path (λ k. true≢false (sym own ∙ ap (takes outs) k ∙ stands.ready.apart.log_outs t t script script))
      ∙ or-none (file_at eff.files path) (now.files path) ((runs laws plan o now stands).holds.clear t (ap stage_of ends.running) path own)

  shared-left : (path : Path) → shares outs path ≡ true → left path ≡ o.files path
  shared-left path shared =
      let free = shared-unowned outs path shared in
      let other : IsOther plan.listing (λ u. stage_of (now.states u)) path = record {
        unowned = λ j has touched. false_from_ne_true _ (λ own.
            let apart : j ≢ t = λ k. true≢false (sym own ∙ ap (λ v. takes (part_at plan.listing v).outs path) k ∙ free) in
            true≢false (sym shared ∙ stands.ready.apart.shared j t apart has script path own));
        no_log = λ j has done k. true≢false (sym shared ∙ ap (shares outs) k ∙ stands.ready.apart.log_shared t j script has);
      } in
      no-log path (λ k. true≢false (sym shared ∙ ap (shares outs) k ∙ stands.ready.apart.log_shared t t script script))
      ∙ none-over (file_at eff.files path) (now.files path) (unowned outs eff.files path behaves.owned free)
      ∙ (runs laws plan o now stands).holds.others path other

  agree : Agree outs left (left_by s t)
  agree path h = elim (cases_Bool (takes outs path)) [
    | inl own ↦ rw own (owned-left path own ∙ ap (λ x. file_at x.files path) (sym same-effect))
    | inr free ↦ rw free (elim (or_cases (takes outs path) (shares outs path) h) [
      | inl own ↦ absurd (true≢false (sym own ∙ free))
      | inr shared ↦ shared-left path shared
    ])
  ]

  taken-is : (taken : List File) → Taken left outs plan.limit taken → taken ≡ eff.files
  taken-is taken is = laws.files taken eff.files (ascend-is taken is.ascend) behaves.ascend (λ path. is.all.taken_is path ∙ owned-is path)
    where
      owned-is : (path : Path) → owned outs left path ≡ file_at eff.files path
      owned-is path = elim (cases_Bool (takes outs path)) [
        | inl own ↦ rw own (owned-left path own)
        | inr free ↦ rw free (sym (unowned outs eff.files path behaves.owned free))
      ]

  -- ---- what is put

  sound-is : list_all is_good (pick (is_above plan.listing t) (clean plan.mode o.book plan.listing)) ≡ sound
  sound-is = by sound refl
    where
      by : (b : Bool) → sound ≡ b → list_all is_good (pick (is_above plan.listing t) (clean plan.mode o.book plan.listing)) ≡ b
      by true h = good-all (is_above plan.listing t) (clean plan.mode o.book plan.listing) (λ a d above k.
          let g = ends.sound_is.good h a above in
          good-of d (ap status_in (sym k) ∙ (runs laws plan o now stands).holds.told a 0 (finished-zero (now.states a) g.0 g.1)))
      by false h =
          let w = ends.sound_is.bad h in
          let f = failed-is (now.states w.0) w.2 in
          let d = bad-of (slice_get (clean plan.mode o.book plan.listing) w.0) f.0 ((runs laws plan o now stands).holds.told w.0 f.0 f.1) f.2 in
          good-none (is_above plan.listing t) (clean plan.mode o.book plan.listing) w.0 d.0 w.1 d.1 d.2

  pub may-is : may_store plan s t ≡ to_put plan sound t end.status
  may-is =
      ap (λ g. caches plan t && (((effect_at s t).status == 0) && g)) sound-is
      ∙ ap (λ x. caches plan t && ((x == 0) && sound)) (ap (λ x. x.status) same-effect ∙ sym ends.status)
      ∙ turn-round (caches plan t) (end.status == 0) sound

  pub pair-is : (taken : List File) → Taken left outs plan.limit taken → pair_for (key_of plan.listing t) (end.log, taken) ≡ due_pair plan.listing t eff
  pair-is taken is = let log = ends.log in let files = taken-is taken is in λ i. (key_of plan.listing t, artifact_text (log i, files i))

  module _ (calm : IsCalm (rules_of plan) now.states) (is : next (rules_of plan) now.states ≡ turn.WaitFirst)
      (note : Note) (pairs : List Pair) (lasting room : ℕ) (report : Report) (e : EndIs plan now end sound note pairs lasting room report) where
    abbrev Kept : Bool → Type 0
    Kept b = MatchBool b (IsNote plan s room t note) (note ≡ Stored) × (pairs ≡ put_if (b && is_stored note) now.pairs (due_pair plan.listing t eff))

    kept-by : (b : Bool) → KeptIf b (KeptAs left outs plan.limit (key_of plan.listing t) end.log now.pairs room pairs note) note now.pairs pairs → Kept b
    kept-by true k = by note k
      where
        by : (n : Note) → KeptAs left outs plan.limit (key_of plan.listing t) end.log now.pairs room pairs n → IsNote plan s room t n × (pairs ≡ put_if (true && is_stored n) now.pairs (due_pair plan.listing t eff))
        by Stored (taken, is, put) = (can-take outs left (left_by s t) agree plan.limit taken is, put ∙ ap (λ p. now.pairs ++ p ∷ []) (pair-is taken is))
        by (Shared path) (first, same) = (shared-first outs left (left_by s t) agree path first, same)
        by (Large path) (first, same) = (large-first outs left (left_by s t) agree plan.limit path first, same)
        by Full (taken, is, full, same) =
            ((can-take outs left (left_by s t) agree plan.limit taken is, subst (λ p. room < ample p) (pair-is taken is ∙ ap (due_pair plan.listing t) (sym same-effect)) full), same)
    kept-by false k = (k.0, k.1)

    kept : Kept (may_store plan s t)
    kept = subst Kept (sym may-is) (kept-by (to_put plan sound t end.status) e.kept)

    abbrev stores_it : Bool
    stores_it = may_store plan s t && is_stored note

    -- ---- the move

    will-same : story.will t ≡ eff
    will-same = sym (story.will_is t ends.running)

    abbrev here : Progress
    here = progress_of now.states now.files now.pairs story.will

    may-move : stores_it ≡ true → ((story.will t).status ≡ 0) × ((a : ℕ) → is_above plan.listing t a ≡ true → stage_of (now.states a) ≡ Finished 0)
    may-move h =
        let p = and_parts sound ((end.status == 0) && caches plan t) (sym may-is ∙ (and_parts (may_store plan s t) (is_stored note) h).0) in
        let q = and_parts (end.status == 0) (caches plan t) p.1 in
        (ap (λ x. x.status) will-same ∙ sym ends.status ∙ eqb-true end.status 0 q.0, λ a above. let g = ends.sound_is.good p.0 a above in finished-zero (now.states a) g.0 g.1)

    reaches-it : after s here (Finish t stores_it) ≡ progress_of (after_end (rules_of plan) now.states t end.status) left pairs story.will
    reaches-it =
        let low = lower laws plan o now stands in
        let status : (story.will t).status ≡ end.status = ap (λ x. x.status) will-same ∙ sym ends.status in
        let log : (story.will t).log ≡ end.log = ap (λ x. x.log) will-same ∙ sym ends.log in
        let stages = ap (λ x. Rattle.run_laws.specs.Worlds.put_at (λ u. stage_of (now.states u)) t (Finished x)) status ∙ stages-end plan now.states low calm t end.status ends.running in
        let put = ap (λ x. put_if stores_it now.pairs (due_pair plan.listing t x)) will-same ∙ sym kept.1 in
        λ i. record {
          stages = stages i;
          files = logged (part_at plan.listing t) (log i) (over now.files (file_at (will-same i).files));
          pairs = put i;
          will = story.will;
        }

    report-is : report ≡ report_of plan s report.note t
    report-is =
        let mark = marked-run (bypasses plan t) (is_some (found_for o.pairs plan.listing t)) (by (is_hit (mark_at s t)) (and_parts (has_script (part_at plan.listing t)) (not (is_hit (mark_at s t))) to_run).1) in
        let status = ends.status ∙ ap (λ x. x.status) (sym same-effect) in
        let noted = ap (λ r. r.note) e.report_is in
        e.report_is ∙ (λ i. record { mark = sym mark i; digits = digits_of plan t; status = status i; note = sym noted i })
      where
        by : (b : Bool) → not b ≡ true → b ≡ false
        by true h = absurd (false≢true h)
        by false h = refl

    note-is : report.note ≡ note
    note-is = ap (λ r. r.note) e.report_is

    pub arm-end : (will : ℕ → Effect) → ((u : ℕ) → u ≢ end.place → now.states u ≡ state.Running → will u ≡ now.will u) → Story plan o (after_this plan now end will pairs lasting room report)
    arm-end will other_will =
        let low = lower laws plan o now stands in
        let cut = end-split plan now.states low calm t end.status ends.running in
        let steps_end : told.End end ≡ step_of plan s (End t end.status) = (let log = ends.log ∙ ap (λ x. x.log) (sym same-effect) in λ i. told.End (record { place = end.place; status = end.status; log = log i })) in
        let moved = leads-push s (opening s) story.moves here (Finish t stores_it) story.leads (ap stage_of ends.running, may-move) in
        let before_ends : AllByRecursion (λ u. stores plan s (notes_in (put_at now.reports t (Some report))) u ≡ stores plan s (notes_in now.reports) u) (ends_of story.mine) =
        all-ends _ story.mine (λ u h.
        let w = ended-below laws plan o now stands u h in
        let other : u ≢ t = λ k. false≢true (ap has_ended (sym ends.running) ∙ ap (λ v. has_ended (now.states v)) (sym k) ∙ w.1) in
        rw (ne_eqb u t other) refl) in
        let stored_here : stores plan s (notes_in (put_at now.reports t (Some report))) t ≡ stores_it = rw (eq-eqb t t refl) (ap (λ n. may_store plan s t && is_stored n) note-is) in
        record {
          book = story.book;
          mine = story.mine ++ End t end.status ∷ [];
          steps = ap (λ xs. xs ++ told.End end ∷ []) story.steps ∙ append_assoc o.steps (map (step_of plan s) story.mine) (told.End end ∷ [])
              ∙ ap (λ x. o.steps ++ (map (step_of plan s) story.mine ++ x ∷ [])) steps_end
              ∙ ap (λ xs. o.steps ++ xs) (sym (map-append (step_of plan s) story.mine (End t end.status ∷ [])));
          at = laws.core.move (tasks_of plan o) now.states story.mine (Ends t end.status) story.at (is, below, ends.running);
          moves = story.moves ++ Finish t stores_it ∷ [];
          will = story.will;
          leads = subst (Leads s (opening s) (story.moves ++ Finish t stores_it ∷ [])) reaches-it moved;
          will_is = cut (λ u b x. x ≡ state.Running → will u ≡ story.will u) (λ h. absurd (cc)) (λ u d h. other_will u d h ∙ story.will_is u h) (λ u d k h. absurd (cc));
          puts = puts-push story.moves (Finish t stores_it)
              ∙ ap (λ ps. ps ++ puts_of (Finish t stores_it ∷ [])) (story.puts ∙ sym (filter-agree _ _ (ends_of story.mine) before_ends))
              ∙ ap (λ ps. filter (stores plan s (notes_in (put_at now.reports t (Some report)))) (ends_of story.mine) ++ ps) (puts-one t stores_it ∙ ap (λ b. cond b (t ∷ []) []) (sym stored_here))
              ∙ sym (filter-append (stores plan s (notes_in (put_at now.reports t (Some report)))) (ends_of story.mine) (t ∷ []))
              ∙ ap (filter (stores plan s (notes_in (put_at now.reports t (Some report))))) (sym (ends-push story.mine (End t end.status)));
          lasts = omega (arith, story.lasts, e.lasts);
          within = e.within;
          reports = cut (λ u b x. ReportsAs (report_of plan s (note_in (cond b (Some report) (now.reports u))) u) (has_script (part_at plan.listing u) && is_done x) (cond b (Some report) (now.reports u)))
              (subst (λ b. ReportsAs (report_of plan s report.note t) (b && true) (Some report)) (sym script) (ap (λ r. Some r) report-is))
              (λ u d. story.reports u)
              (λ u d k. silent _ (has_script (part_at plan.listing u) && false) (now.reports u) (and_right (has_script (part_at plan.listing u)) false refl)
              (none-now laws plan o now stands u (and_right (has_script (part_at plan.listing u)) (is_done (now.states u)) (unknown-undone (now.states u) k).0)));
          noted = cut (λ u b x. NotedAs plan s room u (has_ended x) (note_in (cond b (Some report) (now.reports u))))
              (subst (λ n. MatchBool (may_store plan s t) (IsNote plan s room t n) (n ≡ Stored)) (sym note-is) kept.0)
              (λ u d. noted-less plan s now.room room u (has_ended (now.states u)) (notes_in now.reports u) e.less (story.noted u))
              (λ u d k. no-note plan s now.room u (now.states u) (notes_in now.reports u) (unknown-undone (now.states u) k).1 (story.noted u));
          logs = cut (λ u b x. (has_script (part_at plan.listing u) && is_done x) ≡ true → now.shown ≤ u → cond b end.log (now.logs u) ≡ (effect_at s u).log)
              (λ h less. ends.log ∙ ap (λ x. x.log) (sym same-effect))
              (λ u d h less. story.logs u h less)
              (λ u d k h less. absurd (true≢false (sym h ∙ and_right (has_script (part_at plan.listing u)) false refl)));
        }

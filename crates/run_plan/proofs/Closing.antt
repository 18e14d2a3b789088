-- What a story gives at the end of a run.
use Rattle.std.proofs.Common.{◌≡◌, ◌≢◌, ℕ, zero, suc, ◌+◌, ◌<◌, ◌≤◌, ◌==◌, ◌&&◌, not, Bool, true, false, cond, List, [], ◌∷◌, ◌++◌, length, refl, sym, ap, ◌∙◌, subst, arith, inl, inr, Option, Some, None, append-nil, max, add-one}
use Rattle.std.specs.Prelude.{map, slice_index_or}
use Rattle.std.proofs.lemmas.Bool.{cases_lt, false≢true, true≢false}
use Rattle.listing.specs.declared.part.Part.{Part}
use Rattle.page.specs.declared.blocks.Note.{Note}
use Rattle.page.specs.Summaries.{summary_text}
use Rattle.run_core.specs.declared.states.State.{State}
use Rattle.run_core.specs.declared.states.State.TheVariants as state
use Rattle.run_core.specs.declared.states.Next.TheVariants.{Finished as Closed}
use Rattle.run_core.specs.Greedy.{is_reported}
use Rattle.run_core.specs.Machine.{next, is_done, is_known, runs as is_running}
use Rattle.run_core.proofs.Moved.{count-same}
use Rattle.run_laws.specs.Ancestors.{part_at, blank, has_script}
use Rattle.run_laws.specs.declared.mark.Mark.{Mark}
use Rattle.run_laws.specs.declared.mark.Mark.TheVariants.{Hit, Miss, Bypass}
use Rattle.run_laws.specs.Marks.{is_hit}
use Rattle.run_laws.specs.Runs.{Setting, clean_pair, mark_at}
use Rattle.run_laws.specs.Worlds.{is_finished}
use Rattle.run_laws.specs.Worlds.Stage.{Running}
use Rattle.run_plan.specs.declared.plan.Plan.{Plan}
use Rattle.run_plan.specs.Openings.{Opening, setting_of, rules_of, tasks_of}
use Rattle.run_plan.specs.Results.{effect_at, NotedAs}
use Rattle.run_plan.specs.declared.report.Report.{Report}
use Rattle.run_plan.specs.Plans.{id_at}
use Rattle.run_plan.specs.Pages.{page_mark, report_of, block_of, shows, block_at, blocks, has_failed, failed_tasks, worst, good_count, cached_count, script_count, summary_of, page}
use Rattle.run_plan.specs.Reports.{succeeded, failed, is_cached, was_cached, status_in, failed_by, worst_by, summary_by}
use Rattle.run_plan.specs.Stories.{Now, Story, stage_of, has_ended, note_in, notes_in, ReportsAs}
use Rattle.run_plan.specs.StoryLaws.{Stands, Over, blocks_upto}
use Rattle.run_plan.proofs.Grounds.{Laws}
use Rattle.run_plan.proofs.Standing.{lower, agrees, runs, known-below, ends-as, told-status, noted-less}

-- ---- what is said of tasks that agree on what is reported

module _ (plan : Plan) (s : Setting) (notes : ℕ → Note) (one other : ℕ → Bool) where
  shows-same : (t : ℕ) → one t ≡ other t → shows plan one t ≡ shows plan other t
  shows-same t e = ap (λ b. has_script (part_at plan.listing t) && b) e

  pub blocks-agree : (n : ℕ) → ((t : ℕ) → t < n → one t ≡ other t) → blocks plan s notes one n ≡ blocks plan s notes other n
  blocks-agree zero same = refl
  blocks-agree (suc n) same =
      ap (λ bs. bs ++ cond (shows plan one n) (block_at plan s notes n) []) (blocks-agree n (λ t h. same t (omega arith)))
      ∙ ap (λ b. blocks plan s notes other n ++ cond b (block_at plan s notes n) []) (shows-same n (same n (omega arith)))

  pub worst-agree : (n : ℕ) → ((t : ℕ) → t < n → one t ≡ other t) → worst plan s one n ≡ worst plan s other n
  worst-agree zero same = refl
  worst-agree (suc n) same =
      ap (λ w. cond (shows plan one n) (max w (effect_at s n).status) w) (worst-agree n (λ t h. same t (omega arith)))
      ∙ ap (λ b. cond b (max (worst plan s other n) (effect_at s n).status) (worst plan s other n)) (shows-same n (same n (omega arith)))

  failed-agree : (n : ℕ) → ((t : ℕ) → t < n → one t ≡ other t) → failed_tasks plan s one n ≡ failed_tasks plan s other n
  failed-agree zero same = refl
  failed-agree (suc n) same =
      ap (λ ts. ts ++ cond (shows plan one n && has_failed s n) (id_at plan n ∷ []) []) (failed-agree n (λ t h. same t (omega arith)))
      ∙ ap (λ b. failed_tasks plan s other n ++ cond (b && has_failed s n) (id_at plan n ∷ []) []) (shows-same n (same n (omega arith)))

  pub page-agree : ((t : ℕ) → t < length plan.listing.parts → one t ≡ other t) → page plan s notes one ≡ page plan s notes other
  page-agree same =
      let n = length plan.listing.parts in
      let good : good_count plan s one ≡ good_count plan s other = count-same _ _ n (λ t h. ap (λ b. b && not (has_failed s t)) (shows-same t (same t h))) in
      let cached : cached_count plan s one ≡ cached_count plan s other = count-same _ _ n (λ t h. ap (λ b. b && is_hit (mark_at s t)) (shows-same t (same t h))) in
      let failed = failed-agree n same in
      let text = blocks-agree n same in
      λ i. text i ++ summary_text (good i) (cached i) (script_count plan) (failed i)

-- ---- the end of a run

pub finished-done : (x : State) → is_finished (stage_of x) ≡ is_done x
finished-done state.Waiting = refl
finished-done state.Missed = refl
finished-done state.Running = refl
finished-done state.Passed = refl
finished-done (state.Ended n) = refl
finished-done state.Left = refl

running-is : (x : State) → stage_of x ≡ Running → x ≡ state.Running
running-is state.Waiting h = absurd (cc)
running-is state.Missed h = absurd (cc)
running-is state.Running h = refl
running-is state.Passed h = absurd (cc)
running-is (state.Ended n) h = absurd (cc)
running-is state.Left h = absurd (cc)

past-blank : (parts : List Part) (t : ℕ) → length parts ≤ t → slice_index_or parts t blank ≡ blank
past-blank [] t h = refl
past-blank (p ∷ parts) zero h = absurd (omega arith)
past-blank (p ∷ parts) (suc t) h = past-blank parts t (omega arith)

pub script-below : (plan : Plan) (t : ℕ) → has_script (part_at plan.listing t) ≡ true → t < length plan.listing.parts
script-below plan t h = elim (cases_lt t (length plan.listing.parts)) [
  | inl b ↦ b
  | inr past ↦ absurd (false≢true (ap has_script (sym (past-blank plan.listing.parts t past)) ∙ h))
]

module _ (laws : Laws) (plan : Plan) (o : Opening) (now : Now) (stands : Stands plan o now) where
  abbrev s : Setting
  s = setting_of plan o

  abbrev story : Story plan o now
  story = stands.story

  -- ---- what the reports tell

  abbrev done : ℕ → Bool
  done = λ t. is_done (now.states t)

  told-by : (P : Bool → Option Report → Type 0) (t : ℕ) → P false None → P true (Some (report_of plan s (notes_in now.reports t) t)) → P (shows plan done t) (now.reports t)
  told-by P t without with_it = by (shows plan done t) (now.reports t) (story.reports t)
    where
      by : (b : Bool) (r : Option Report) → ReportsAs (report_of plan s (notes_in now.reports t) t) b r → P b r
      by false r e = subst (P false) (sym e) without
      by true r e = subst (P true) (sym e) with_it

  worst-told : (n : ℕ) → worst_by now.reports n ≡ worst plan s done n
  worst-told zero = refl
  worst-told (suc n) =
      ap (λ w. max w (status_in (now.reports n))) (worst-told n)
      ∙ told-by (λ b r. max (worst plan s done n) (status_in r) ≡ cond b (max (worst plan s done n) (effect_at s n).status) (worst plan s done n)) n (omega arith) refl

  not-not : (b : Bool) → b ≡ not (not b)
  not-not true = refl
  not-not false = refl

  good-told : (t : ℕ) → succeeded (now.reports t) ≡ (shows plan done t && not (has_failed s t))
  good-told t = told-by (λ b r. succeeded r ≡ (b && not (has_failed s t))) t refl (not-not ((effect_at s t).status == 0))

  cached-mark : (m : Mark) → is_cached (page_mark m) ≡ is_hit m
  cached-mark Hit = refl
  cached-mark Miss = refl
  cached-mark Bypass = refl

  cached-told : (t : ℕ) → was_cached (now.reports t) ≡ (shows plan done t && is_hit (mark_at s t))
  cached-told t = told-by (λ b r. was_cached r ≡ (b && is_hit (mark_at s t))) t refl (cached-mark (mark_at s t))

  failed-told : (n : ℕ) → failed_by plan now.reports n ≡ failed_tasks plan s done n
  failed-told zero = refl
  failed-told (suc n) =
      ap (λ ts. ts ++ cond (failed (now.reports n)) (id_at plan n ∷ []) []) (failed-told n)
      ∙ told-by (λ b r. failed_tasks plan s done n ++ cond (failed r) (id_at plan n ∷ []) [] ≡ failed_tasks plan s done n ++ cond (b && has_failed s n) (id_at plan n ∷ []) []) n refl refl

  pub summary-told : summary_by plan now.reports ≡ summary_of plan s done
  unfolding summary_by
  summary-told =
      let n = length plan.listing.parts in
      let good = count-same (λ t. shows plan done t && not (has_failed s t)) (λ t. succeeded (now.reports t)) n (λ t h. good-told t) in
      let cached = count-same (λ t. shows plan done t && is_hit (mark_at s t)) (λ t. was_cached (now.reports t)) n (λ t h. cached-told t) in
      let failures = failed-told n in
      λ i. summary_text (good i) (cached i) (script_count plan) (failures i)

  -- ---- blocks, one more at a time

  block-next : (n : ℕ) → blocks_upto plan o now (n + 1) ≡ blocks_upto plan o now n ++ cond (shows plan done n) (block_at plan s (notes_in now.reports) n) []
  block-next n = rw add-one refl

  pub is-shown : (report : Report) → now.reports now.shown ≡ Some report → blocks_upto plan o now (now.shown + 1) ≡ blocks_upto plan o now now.shown ++ block_of plan now.shown report (now.logs now.shown)
  is-shown report e =
      block-next now.shown ∙ ap (λ x. blocks_upto plan o now now.shown ++ x) (told-by (λ b r. r ≡ Some report → shows plan done now.shown ≡ b → cond b (block_at plan s (notes_in now.reports) now.shown) [] ≡ block_of plan now.shown report (now.logs now.shown)) now.shown
      (λ h k. absurd (cc))
      (λ h k.
      let same : report_of plan s (notes_in now.reports now.shown) now.shown ≡ report = cc in
      let log = story.logs now.shown k (omega arith) in
      λ i. block_of plan now.shown (same i) (sym log i))
      e refl)

  pub is-hidden : now.reports now.shown ≡ None → blocks_upto plan o now (now.shown + 1) ≡ blocks_upto plan o now now.shown
  is-hidden e =
      block-next now.shown ∙ told-by (λ b r. r ≡ None → blocks_upto plan o now now.shown ++ cond b (block_at plan s (notes_in now.reports) now.shown) [] ≡ blocks_upto plan o now now.shown) now.shown
      (λ h. append-nil (blocks_upto plan o now now.shown)) (λ h. absurd (cc)) e

  pub goes-on : (logs : ℕ → List ℕ) → ((u : ℕ) → u ≢ now.shown → logs u ≡ now.logs u) → Story plan o (record now { logs = logs; shown = now.shown + 1 })
  goes-on logs same = record {
    book = story.book;
    mine = story.mine;
    steps = story.steps;
    at = story.at;
    moves = story.moves;
    will = story.will;
    leads = story.leads;
    will_is = story.will_is;
    puts = story.puts;
    lasts = story.lasts;
    within = story.within;
    reports = story.reports;
    noted = story.noted;
    logs = λ u h le. same u (λ e. absurd (omega (arith, le, e))) ∙ story.logs u h (omega (arith, le));
  }

  pub has-less : (room : ℕ) → room ≤ now.room → Story plan o (record now { room = room })
  has-less room le = record {
    book = story.book;
    mine = story.mine;
    steps = story.steps;
    at = story.at;
    moves = story.moves;
    will = story.will;
    leads = story.leads;
    will_is = story.will_is;
    puts = story.puts;
    lasts = story.lasts;
    within = story.within;
    reports = story.reports;
    noted = λ t. noted-less plan s now.room room t (has_ended (now.states t)) (notes_in now.reports t) le (story.noted t);
    logs = story.logs;
  }

  pub settles : (lasting : ℕ) → now.lasting ≤ lasting → lasting ≤ length now.pairs
      → Story plan o (record now { lasting = lasting })
  settles lasting more within = record {
    book = story.book;
    mine = story.mine;
    steps = story.steps;
    at = story.at;
    moves = story.moves;
    will = story.will;
    leads = story.leads;
    will_is = story.will_is;
    puts = story.puts;
    lasts = omega (arith, story.lasts, more);
    within = within;
    reports = story.reports;
    noted = story.noted;
    logs = story.logs;
  }

  pub is-over : next (rules_of plan) now.states ≡ Closed → Over plan o now
  is-over is =
      let low = lower laws plan o now stands in
      let same : (t : ℕ) → t < length plan.listing.parts → is_reported (tasks_of plan o) story.mine t ≡ is_done (now.states t) =
      λ t h. laws.core.reported (tasks_of plan o) now.states story.mine t low story.at is h in
      let idle : (t : ℕ) → stage_of (now.states t) ≢ Running = λ t h.
      let r = running-is (now.states t) h in
      true≢false (sym (ap is_running r) ∙ laws.next.finished (rules_of plan) now.states t is (known-below laws plan o now stands t (ap is_known r))) in
      let leaves = (runs laws plan o now stands).leaves idle in
      record {
        mine = story.mine;
        steps_are = story.steps;
        greedy = laws.core.over (tasks_of plan o) now.states story.mine low story.at is;
        ends = λ t x h. sym (told-status laws plan o now stands t x (ap stage_of ((agrees laws plan o now stands t).status x h)));
        leaves = record {
          effects = λ t script reported. leaves.effects t script (finished-done (now.states t) ∙ sym (same t (script-below plan t script)) ∙ reported);
          others = λ path each. leaves.others path (λ t script done. each t script (same t (script-below plan t script) ∙ sym (finished-done (now.states t)) ∙ done));
        };
        noted = λ t. subst (λ b. NotedAs plan s now.room t b (notes_in now.reports t)) (sym (ends-as laws plan o now stands t)) (story.noted t);
        pairs_are = (runs laws plan o now stands).pairs ∙ ap (λ ps. o.pairs ++ map (clean_pair s) ps) story.puts;
        good = (runs laws plan o now stands).good;
        worst_is = worst-told (length plan.listing.parts) ∙ sym (worst-agree plan s (notes_in now.reports) _ (λ t. is_done (now.states t)) (length plan.listing.parts) same);
        page_is = ap (λ x. blocks_upto plan o now (length plan.listing.parts) ++ x) summary-told ∙ sym (page-agree plan s (notes_in now.reports) _ (λ t. is_done (now.states t)) same);
      }

pub blocks-kept : (plan : Plan) (o : Opening) (now later : Now) (n : ℕ) → ((u : ℕ) → u < n → (later.states u ≡ now.states u) × (later.reports u ≡ now.reports u)) → blocks_upto plan o later n ≡ blocks_upto plan o now n
blocks-kept plan o now later zero same = refl
blocks-kept plan o now later (suc n) same =
    let h = same n (omega arith) in
    let before = blocks-kept plan o now later n (λ u less. same u (omega arith)) in
    let state = h.0 in
    let report = h.1 in
    λ i. before i ++ cond (has_script (part_at plan.listing n) && is_done (state i)) (block_of plan n (report_of plan (setting_of plan o) (note_in (report i)) n) (effect_at (setting_of plan o) n).log) []

-- What look-ups and starts do to a story.
use Rattle.std.proofs.Common.{◌≡◌, ◌⊎◌, ℕ, ◌<◌, ◌≤◌, ◌==◌, ◌&&◌, not, Bool, true, false, cond, List, [], ◌∷◌, ◌++◌, length, refl, sym, ap, ◌∙◌, subst, arith, inl, inr, Option, Some, None, append_assoc, append-nil}
use mathlib.Core.Path.{fun_ext}
use Rattle.std.specs.Prelude.{filter, map, is_some}
use Rattle.std.specs.List.{AllByRecursion}
use Rattle.std.proofs.lemmas.Bool.{eq-eqb, eqb-true, false≢true, true≢false, and_left, and_right, or_left}
use Rattle.std.proofs.lemmas.List.{map-append}
use Rattle.globs.specs.OwnedFiles.{cleared, restored}
use Rattle.cache_api.specs.Artifacts.{Artifact}
use Rattle.page.specs.declared.blocks.Mark.TheVariants as printed_mark
use Rattle.page.specs.declared.blocks.Note.TheVariants.{Stored}
use Rattle.spawn_dev.specs.declared.effect.Effect.{Effect}
use Rattle.spawn_dev.specs.declared.command.Step.TheVariants as told
use Rattle.spawn_dev.specs.Effects.{seen_by}
use Rattle.spawn_dev.specs.Spawn.{put_at}
use Rattle.run_core.specs.declared.states.Step.TheVariants.{Start}
use Rattle.run_core.specs.declared.states.State.{State}
use Rattle.run_core.specs.declared.states.State.TheVariants as state
use Rattle.run_core.specs.declared.states.Next.TheVariants as turn
use Rattle.run_core.specs.Machine.{next, put, is_done, is_known, is_well as stands_well, IsCalm}
use Rattle.run_core.specs.Moves.{IsAt}
use Rattle.run_core.specs.Moves.Move.{Finds, Misses, Starts}
use Rattle.run_core.proofs.Any.{all_true, all_weaker}
use Rattle.run_core.proofs.Steps.{picks}
use Rattle.run_laws.specs.declared.mark.Mark.TheVariants.{Hit, Miss, Bypass}
use Rattle.run_laws.specs.Ancestors.{part_at, has_script, is_above}
use Rattle.run_laws.specs.Marks.{found_for, is_hit}
use Rattle.run_laws.specs.declared.outcome.Outcome.TheVariants.{Done}
use Rattle.run_laws.specs.Worlds.{is_well, logged, seen_in}
use Rattle.run_laws.specs.Runs.{Setting, Progress, Move, after, Leads, opening, puts_of, mark_at}
use Rattle.run_laws.specs.Runs.Move.{Pass, Replay, Start as Begin}
use Rattle.run_plan.specs.declared.plan.Plan.{Plan}
use Rattle.run_plan.specs.declared.report.Report.{Report}
use Rattle.run_plan.specs.Plans.{bypasses}
use Rattle.run_plan.specs.Commands.{command_of}
use Rattle.run_plan.specs.Openings.{Opening, setting_of, rules_of, tasks_of}
use Rattle.run_plan.specs.Results.{effect_at, step_of, NotedAs, stores, ends_of}
use Rattle.run_plan.specs.Pages.{report_of, digits_of, page_mark}
use Rattle.run_plan.specs.Stories.{Now, Story, stage_of, has_ended, progress_of, notes_in, note_in, ReportsAs}
use Rattle.run_plan.specs.StoryLaws.{Stands}
use Rattle.run_plan.proofs.Grounds.{Laws}
use Rattle.run_plan.proofs.Steps.{split, leads-same, well-stage, stages-put, leads-push, puts-push, ends-push}
use Rattle.run_plan.proofs.CommandFacts.{sees-lem}
use Rattle.run_plan.proofs.Standing.{agrees, found-first, clean-effect, none-now, noted-less, no-note, silent}

-- moves lead to a progress that is this one
leads-to : (s : Setting) (moves : List Move) (x y : Progress) → x ≡ y → Leads s (opening s) moves x → Leads s (opening s) moves y
leads-to s moves x y e h = subst (Leads s (opening s) moves) e h

missed-mark : (found bypassed : Bool) → (bypassed ≡ true) ⊎ (found ≡ false) → is_hit (cond bypassed Bypass (cond found Hit Miss)) ≡ false
missed-mark found true h = refl
missed-mark true false (inl h) = absurd (false≢true h)
missed-mark true false (inr h) = absurd (true≢false h)
missed-mark false false h = refl

none-found : (found : Option Artifact) → found ≡ None → is_some found ≡ false
none-found found e = ap is_some e

module _ (laws : Laws) (plan : Plan) (o : Opening) (now : Now) (stands : Stands plan o now) (t : ℕ) where
  abbrev s : Setting
  s = setting_of plan o

  abbrev story : Story plan o now
  story = stands.story

  module _ (is : next (rules_of plan) now.states ≡ turn.Lookup t) where
    below : t < length plan.listing.parts
    below = (laws.next.lookup (rules_of plan) now.states t is).0

    waits : now.states t ≡ state.Waiting
    waits = (laws.next.lookup (rules_of plan) now.states t is).1

    -- no report stands at a task that waits
    none-here : now.reports t ≡ None
    none-here = none-now laws plan o now stands t (ap (λ x. has_script (part_at plan.listing t) && is_done x) waits ∙ and_right (has_script (part_at plan.listing t)) false refl)

    unnoted : notes_in now.reports t ≡ Stored
    unnoted = no-note plan s now.room t (now.states t) (notes_in now.reports t) (ap has_ended waits) (story.noted t)

    same-will : (x : State) (p : x ≡ state.Running → ⊥) (u : ℕ) → put now.states t x u ≡ state.Running → now.will u ≡ story.will u
    same-will x p u e = split (λ u b. cond b x (now.states u) ≡ state.Running → now.will u ≡ story.will u) t (λ h. absurd (p h)) (λ u d h. story.will_is u h) u e

    noted-as : (x : State) (room : ℕ) → room ≤ now.room → has_ended x ≡ false → (u : ℕ) → NotedAs plan s room u (has_ended (put now.states t x u)) (notes_in now.reports u)
    noted-as x room le quiet u = split (λ u b. NotedAs plan s room u (has_ended (cond b x (now.states u))) (notes_in now.reports u)) t
        (subst (λ b. NotedAs plan s room t b (notes_in now.reports t)) (sym quiet) unnoted)
        (λ u d. noted-less plan s now.room room u (has_ended (now.states u)) (notes_in now.reports u) le (story.noted u)) u

    -- ---- passing over

    pub arm-pass : has_script (part_at plan.listing t) ≡ false → Story plan o (record now { states = put now.states t state.Passed })
    arm-pass bare =
        let look = laws.next.lookup (rules_of plan) now.states t is in
        let deps : AllByRecursion (λ d. is_well plan.mode (stage_of (now.states d)) ≡ true) (part_at plan.listing t).deps =
        all_weaker (λ d. stands_well plan.mode (now.states d) ≡ true) (λ d. is_well plan.mode (stage_of (now.states d)) ≡ true) (λ d h. well-stage plan.mode (now.states d) h) (part_at plan.listing t).deps
        (all_true (λ d. stands_well plan.mode (now.states d)) (part_at plan.listing t).deps look.2) in
        let here = progress_of now.states now.files now.pairs story.will in
        let moved = leads-push s (opening s) story.moves here (Pass t) story.leads (record { below = below; stage = ap stage_of waits }, bare, deps) in
        let shown : (x : State) → (has_script (part_at plan.listing t) && is_done x) ≡ false = λ x. and_left (has_script (part_at plan.listing t)) (is_done x) bare in
        record {
          book = story.book;
          mine = story.mine;
          steps = story.steps;
          at = subst (IsAt (tasks_of plan o) (put now.states t state.Passed)) (append-nil story.mine)
              (laws.core.move (tasks_of plan o) now.states story.mine (Finds t) story.at (is, and_left (has_script (part_at plan.listing t)) (not (is_hit (mark_at s t))) bare));
          moves = story.moves ++ Pass t ∷ [];
          will = story.will;
          leads = leads-to s (story.moves ++ Pass t ∷ []) (after s here (Pass t)) (progress_of (put now.states t state.Passed) now.files now.pairs story.will)
              (ap (λ st. record here { stages = st }) (stages-put now.states t state.Passed)) moved;
          will_is = same-will state.Passed (λ h. absurd (cc));
          puts = puts-push story.moves (Pass t) ∙ append-nil (puts_of story.moves) ∙ story.puts;
          lasts = story.lasts;
          within = story.within;
          reports = λ u. split (λ u b. ReportsAs (report_of plan s (notes_in now.reports u) u) (has_script (part_at plan.listing u) && is_done (cond b state.Passed (now.states u))) (now.reports u)) t
              (silent (report_of plan s (notes_in now.reports t) t) _ (now.reports t) (shown state.Passed) none-here) (λ u d. story.reports u) u;
          noted = noted-as state.Passed now.room (omega arith) refl;
          logs = λ u h le. split (λ u b. (has_script (part_at plan.listing u) && is_done (cond b state.Passed (now.states u))) ≡ true → now.shown ≤ u → now.logs u ≡ (effect_at s u).log) t
              (λ k le. absurd (true≢false (sym k ∙ shown state.Passed))) (λ u d k le. story.logs u k le) u h le;
        }

    -- ---- nothing found

    pub arm-miss : has_script (part_at plan.listing t) ≡ true → (room : ℕ) → room ≤ now.room → (bypasses plan t ≡ true) ⊎ (found_for now.pairs plan.listing t ≡ None)
        → Story plan o (record now { states = put now.states t state.Missed; room = room })
    arm-miss script room le why =
        let marked : is_hit (mark_at s t) ≡ false = missed-mark (is_some (found_for o.pairs plan.listing t)) (bypasses plan t) (elim why [
          | inl b ↦ inl b
          | inr n ↦ inr (none-found (found_for o.pairs plan.listing t) (sym (found-first laws plan o now stands t below waits) ∙ n))
        ]) in
        let to_run : (tasks_of plan o).to_run t ≡ true = rw (script, marked) refl in
        let here = progress_of now.states now.files now.pairs story.will in
        let same : (λ u. stage_of (now.states u)) ≡ (λ u. stage_of (put now.states t state.Missed u)) =
        fun_ext (λ u. split (λ u b. stage_of (now.states u) ≡ stage_of (cond b state.Missed (now.states u))) t (ap stage_of waits) (λ u d. refl) u) in
        record {
          book = story.book;
          mine = story.mine;
          steps = story.steps;
          at = subst (IsAt (tasks_of plan o) (put now.states t state.Missed)) (append-nil story.mine) (laws.core.move (tasks_of plan o) now.states story.mine (Misses t) story.at (is, to_run));
          moves = story.moves;
          will = story.will;
          leads = leads-to s story.moves here (progress_of (put now.states t state.Missed) now.files now.pairs story.will) (ap (λ st. record here { stages = st }) same) story.leads;
          will_is = same-will state.Missed (λ h. absurd (cc));
          puts = story.puts;
          lasts = story.lasts;
          within = story.within;
          reports = λ u. split (λ u b. ReportsAs (report_of plan s (notes_in now.reports u) u) (has_script (part_at plan.listing u) && is_done (cond b state.Missed (now.states u))) (now.reports u)) t
              (silent (report_of plan s (notes_in now.reports t) t) _ (now.reports t) (and_right (has_script (part_at plan.listing t)) false refl) none-here) (λ u d. story.reports u) u;
          noted = noted-as state.Missed room le refl;
          logs = λ u h less. split (λ u b. (has_script (part_at plan.listing u) && is_done (cond b state.Missed (now.states u))) ≡ true → now.shown ≤ u → now.logs u ≡ (effect_at s u).log) t
              (λ k less. absurd (true≢false (sym k ∙ and_right (has_script (part_at plan.listing t)) false refl))) (λ u d k less. story.logs u k less) u h less;
        }

    -- ---- an artifact found

    abbrev hit_report : Report
    hit_report = record { mark = printed_mark.Hit; digits = digits_of plan t; status = 0; note = Stored }

    pub arm-hit : has_script (part_at plan.listing t) ≡ true → (room : ℕ) (artifact : Artifact) → room ≤ now.room → bypasses plan t ≡ false → found_for now.pairs plan.listing t ≡ Some artifact
        → Story plan o (record now {
          states = put now.states t state.Passed;
          files = logged (part_at plan.listing t) artifact.0 (restored (part_at plan.listing t).outs artifact.1 now.files);
          room = room;
          reports = put_at now.reports t (Some hit_report);
          logs = put_at now.logs t artifact.0;
        })
    arm-hit script room artifact le looks found =
        let first : found_for o.pairs plan.listing t ≡ Some artifact = sym (found-first laws plan o now stands t below waits) ∙ found in
        let marked : mark_at s t ≡ Hit = rw (looks, first) refl in
        let hit = laws.hit.found o.book plan.mode o.pairs artifact plan.listing t stands.ready.storable stands.ready.good stands.ready.valid below first in
        let effect = hit.0 in
        let is_effect : effect_at s t ≡ effect = clean-effect laws plan o now stands t effect hit.1.ended in
        let zero_status : (effect.status == 0) ≡ true = hit.1.good t (Done effect) (or_left (t == t) (is_above plan.listing t t) (eq-eqb t t refl)) hit.1.ended in
        let status : (effect_at s t).status ≡ 0 = ap (λ e. e.status) is_effect ∙ eqb-true effect.status 0 zero_status in
        let log : artifact.0 ≡ (effect_at s t).log = ap (λ a. a.0) hit.2 ∙ ap (λ e. e.log) (sym is_effect) in
        let back : report_of plan s Stored t ≡ hit_report = λ i. record { mark = page_mark (marked i); digits = digits_of plan t; status = status i; note = Stored } in
        let here = progress_of now.states now.files now.pairs story.will in
        let moved = leads-push s (opening s) story.moves here (Replay t artifact) story.leads (record { below = below; stage = ap stage_of waits }, script, marked, first) in
        let notes : notes_in (put_at now.reports t (Some hit_report)) ≡ notes_in now.reports =
        fun_ext (λ u. split (λ u b. note_in (cond b (Some hit_report) (now.reports u)) ≡ notes_in now.reports u) t (sym unnoted) (λ u d. refl) u) in
        record {
          book = story.book;
          mine = story.mine;
          steps = story.steps;
          at = subst (IsAt (tasks_of plan o) (put now.states t state.Passed)) (append-nil story.mine)
              (laws.core.move (tasks_of plan o) now.states story.mine (Finds t) story.at (is, rw marked (and_right (has_script (part_at plan.listing t)) false refl)));
          moves = story.moves ++ Replay t artifact ∷ [];
          will = story.will;
          leads = leads-to s (story.moves ++ Replay t artifact ∷ []) (after s here (Replay t artifact)) (progress_of (put now.states t state.Passed) _ now.pairs story.will)
              (ap (λ st. record { stages = st; files = logged (part_at plan.listing t) artifact.0 (restored (part_at plan.listing t).outs artifact.1 now.files); pairs = now.pairs; will = story.will }) (stages-put now.states t state.Passed)) moved;
          will_is = same-will state.Passed (λ h. absurd (cc));
          puts = puts-push story.moves (Replay t artifact) ∙ append-nil (puts_of story.moves) ∙ story.puts ∙ ap (λ ns. filter (stores plan s ns) (ends_of story.mine)) (sym notes);
          lasts = story.lasts;
          within = story.within;
          reports = λ u. split (λ u b. ReportsAs (report_of plan s (note_in (cond b (Some hit_report) (now.reports u))) u) (has_script (part_at plan.listing u) && is_done (cond b state.Passed (now.states u))) (cond b (Some hit_report) (now.reports u))) t
              (subst (λ b. ReportsAs (report_of plan s Stored t) (b && true) (Some hit_report)) (sym script) (ap (λ r. Some r) (sym back))) (λ u d. story.reports u) u;
          noted = λ u. subst (λ n. NotedAs plan s room u (has_ended (put now.states t state.Passed u)) (n u)) (sym notes) (noted-as state.Passed room le refl u);
          logs = λ u h less. split (λ u b. (has_script (part_at plan.listing u) && is_done (cond b state.Passed (now.states u))) ≡ true → now.shown ≤ u → cond b artifact.0 (now.logs u) ≡ (effect_at s u).log) t
              (λ k less. log) (λ u d k less. story.logs u k less) u h less;
        }

  -- ---- a start

  module _ (is : next (rules_of plan) now.states ≡ turn.Start t) where
    pub arm-start : (will : ℕ → Effect) → IsCalm (rules_of plan) now.states
        → will t ≡ now.book (seen_by (command_of plan t) (cleared (part_at plan.listing t).outs now.files))
        → ((u : ℕ) → now.states u ≡ state.Running → will u ≡ now.will u)
        → Story plan o (record now {
          states = put now.states t state.Running;
          steps = now.steps ++ told.Start (command_of plan t) ∷ [];
          will = will;
          files = cleared (part_at plan.listing t).outs now.files;
        })
    arm-start will calm here_will other_will =
        let start = laws.next.start (rules_of plan) now.states t is in
        let missed : now.states t ≡ state.Missed = start.1 in
        let to_run : (tasks_of plan o).to_run t ≡ true = ((agrees laws plan o now stands t).known (ap is_known missed)).run ∙ ap picks missed in
        let above : (a : ℕ) → is_above plan.listing t a ≡ true → is_well plan.mode (stage_of (now.states a)) ≡ true =
        λ a h. well-stage plan.mode (now.states a) (calm t a (leads-same plan t t a ∙ h) (ap is_known missed)) in
        let here = progress_of now.states now.files now.pairs story.will in
        let moved = leads-push s (opening s) story.moves here (Begin t) story.leads (record { below = start.0; stage = ap stage_of missed }, to_run, above) in
        let files = cleared (part_at plan.listing t).outs now.files in
        let wills : ℕ → Effect = λ u. cond (u == t) (o.book (seen_in plan.listing t files)) (story.will u) in
        let told_will : will t ≡ o.book (seen_in plan.listing t files) = here_will ∙ ap (λ b. b (seen_by (command_of plan t) files)) story.book ∙ ap o.book (sees-lem laws.ordered plan t stands.valid start.0 files) in
        let none_here : now.reports t ≡ None = none-now laws plan o now stands t (ap (λ x. has_script (part_at plan.listing t) && is_done x) missed ∙ and_right (has_script (part_at plan.listing t)) false refl) in
        let unnoted_here = no-note plan s now.room t (now.states t) (notes_in now.reports t) (ap has_ended missed) (story.noted t) in
        record {
          book = story.book;
          mine = story.mine ++ Start t ∷ [];
          steps = ap (λ xs. xs ++ told.Start (command_of plan t) ∷ []) story.steps ∙ append_assoc o.steps (map (step_of plan s) story.mine) (told.Start (command_of plan t) ∷ [])
              ∙ ap (λ xs. o.steps ++ xs) (sym (map-append (step_of plan s) story.mine (Start t ∷ [])));
          at = laws.core.move (tasks_of plan o) now.states story.mine (Starts t) story.at is;
          moves = story.moves ++ Begin t ∷ [];
          will = wills;
          leads = leads-to s (story.moves ++ Begin t ∷ []) (after s here (Begin t)) (progress_of (put now.states t state.Running) files now.pairs wills)
              (ap (λ st. record { stages = st; files = files; pairs = now.pairs; will = wills }) (stages-put now.states t state.Running)) moved;
          will_is = λ u e. split (λ u b. cond b state.Running (now.states u) ≡ state.Running → will u ≡ cond b (o.book (seen_in plan.listing t files)) (story.will u)) t
              (λ h. told_will) (λ u d h. other_will u h ∙ story.will_is u h) u e;
          puts = puts-push story.moves (Begin t) ∙ append-nil (puts_of story.moves) ∙ story.puts
              ∙ ap (filter (stores plan s (notes_in now.reports))) (sym (ends-push story.mine (Start t) ∙ append-nil (ends_of story.mine)));
          lasts = story.lasts;
          within = story.within;
          reports = λ u. split (λ u b. ReportsAs (report_of plan s (notes_in now.reports u) u) (has_script (part_at plan.listing u) && is_done (cond b state.Running (now.states u))) (now.reports u)) t
              (silent (report_of plan s (notes_in now.reports t) t) _ (now.reports t) (and_right (has_script (part_at plan.listing t)) false refl) none_here) (λ u d. story.reports u) u;
          noted = λ u. split (λ u b. NotedAs plan s now.room u (has_ended (cond b state.Running (now.states u))) (notes_in now.reports u)) t unnoted_here (λ u d. story.noted u) u;
          logs = λ u h less. split (λ u b. (has_script (part_at plan.listing u) && is_done (cond b state.Running (now.states u))) ≡ true → now.shown ≤ u → now.logs u ≡ (effect_at s u).log) t
              (λ k less. absurd (true≢false (sym k ∙ and_right (has_script (part_at plan.listing t)) false refl))) (λ u d k less. story.logs u k less) u h less;
        }

-- What a story tells of its tasks.
use Rattle.std.proofs.Common.{◌≡◌, ◌≢◌, ℕ, ◌<◌, ◌≤◌, ◌&&◌, Bool, true, false, List, [], ◌∷◌, ◌++◌, length, refl, sym, ap, ◌∙◌, subst, arith, Option, Some, None, slice_get, append_assoc, append-nil}
use Rattle.std.specs.Prelude.{map, MatchBool}
use Rattle.std.specs.List.{AllByRecursion}
use Rattle.std.proofs.lemmas.Bool.{false≢true, true≢false}
use Rattle.listing.specs.declared.part.Listing.{Listing}
use Rattle.cache_api.specs.Pairs.{Pair}
use Rattle.cache_api.specs.Reading.{artifact_in}
use Rattle.page.specs.declared.blocks.Note.{Note}
use Rattle.page.specs.declared.blocks.Note.TheVariants.{Stored, Shared, Large, Full}
use Rattle.spawn_dev.specs.declared.effect.Effect.{Effect}
use Rattle.spawn_dev.specs.Effects.{IsEffect}
use Rattle.run_core.specs.declared.states.State.{State}
use Rattle.run_core.specs.declared.states.State.TheVariants as state
use Rattle.run_core.specs.Greedy.{AreLower, ended}
use Rattle.run_core.specs.Machine.{is_known}
use Rattle.run_core.proofs.Steps.{Agrees, lead-agrees, none-agrees, has_ended as core_ended}
use Rattle.run_laws.specs.declared.outcome.Outcome.{Outcome}
use Rattle.run_laws.specs.declared.outcome.Outcome.TheVariants.{Skipped, Passed, Done}
use Rattle.run_laws.specs.Ancestors.{part_at}
use Rattle.run_laws.specs.Clean.{clean}
use Rattle.run_laws.specs.Keys.{key_of}
use Rattle.run_laws.specs.Marks.{found_for}
use Rattle.run_laws.specs.Worlds.{status_in}
use Rattle.run_laws.specs.Worlds.Stage.{Finished}
use Rattle.run_laws.specs.Runs.{Setting, Progress, effect_in, clean_pair, puts_of, Stands as RunStands}
use Rattle.run_plan.specs.declared.plan.Plan.{Plan}
use Rattle.run_plan.specs.declared.report.Report.{Report}
use Rattle.run_plan.specs.Openings.{Opening, setting_of, rules_of, tasks_of}
use Rattle.run_plan.specs.Results.{effect_at, may_store, IsNote, NotedAs, stores, ends_of}
use Rattle.run_plan.specs.Stories.{Now, Story, stage_of, has_ended, progress_of, notes_in, shows_now, ReportsAs}
use Rattle.run_plan.specs.StoryLaws.{Stands}
use Rattle.run_plan.proofs.Grounds.{Laws}
use Rattle.run_plan.proofs.Steps.{all-ends, all-filter, index-some}

-- ---- small facts

pub same-ended : (s : State) → core_ended s ≡ has_ended s
same-ended state.Waiting = refl
same-ended state.Missed = refl
same-ended state.Running = refl
same-ended state.Passed = refl
same-ended (state.Ended x) = refl
same-ended state.Left = refl

pub ended-is : (s : State) → has_ended s ≡ true → (x : ℕ) × (s ≡ state.Ended x)
ended-is state.Waiting h = absurd (false≢true h)
ended-is state.Missed h = absurd (false≢true h)
ended-is state.Running h = absurd (false≢true h)
ended-is state.Passed h = absurd (false≢true h)
ended-is (state.Ended x) h = (x, refl)
ended-is state.Left h = absurd (false≢true h)

pub quiet : (report : Report) (b : Bool) (o : Option Report) → b ≡ false → ReportsAs report b o → o ≡ None
quiet report b o e h = subst (λ x. ReportsAs report x o) e h

pub silent : (report : Report) (b : Bool) (o : Option Report) → b ≡ false → o ≡ None → ReportsAs report b o
silent report b o e h = subst (λ x. ReportsAs report x o) (sym e) h

-- less room gives no fewer notes
pub note-less : (plan : Plan) (s : Setting) (room less t : ℕ) (note : Note) → less ≤ room → IsNote plan s room t note → IsNote plan s less t note
note-less plan s room less t Stored le h = h
note-less plan s room less t (Shared path) le h = h
note-less plan s room less t (Large path) le h = h
note-less plan s room less t Full le h = (h.0, omega (arith, le, h.1))

pub noted-less : (plan : Plan) (s : Setting) (room less t : ℕ) (b : Bool) (note : Note) → less ≤ room → NotedAs plan s room t b note → NotedAs plan s less t b note
noted-less plan s room less t b note le h = by (b && may_store plan s t) h
  where
    by : (c : Bool) → MatchBool c (IsNote plan s room t note) (note ≡ Stored) → MatchBool c (IsNote plan s less t note) (note ≡ Stored)
    by true k = note-less plan s room less t note le k
    by false k = k

pub no-note : (plan : Plan) (s : Setting) (room t : ℕ) (x : State) (note : Note) → has_ended x ≡ false → NotedAs plan s room t (has_ended x) note → note ≡ Stored
no-note plan s room t x note e h = subst (λ b. NotedAs plan s room t b note) e h

status-is : (o : Option Outcome) (x : ℕ) → status_in o ≡ Some x → (d : Outcome) × (o ≡ Some d) × ((effect_in d).status ≡ x)
status-is None x h = absurd (cc)
status-is (Some Skipped) x h = absurd (cc)
status-is (Some Passed) x h = let e : 0 ≡ x = cc in (Passed, refl, e)
status-is (Some (Done effect)) x h = let e : effect.status ≡ x = cc in (Done effect, refl, e)

-- ---- the story

module _ (laws : Laws) (plan : Plan) (o : Opening) (now : Now) (stands : Stands plan o now) where
  abbrev pub l : Listing
  l = plan.listing

  abbrev pub s : Setting
  s = setting_of plan o

  abbrev pub story : Story plan o now
  story = stands.story

  abbrev pub reached : Progress
  reached = progress_of now.states now.files now.pairs story.will

  pub runs : RunStands s story.moves reached
  runs = laws.runs s story.moves reached stands.ready story.leads

  pub lower : AreLower (rules_of plan)
  lower = stands.valid.ordered.lower

  pub agrees : Agrees (tasks_of plan o) now.states story.mine
  agrees = subst (Agrees (tasks_of plan o) now.states) (sym story.at.steps_are) (lead-agrees (tasks_of plan o) lower story.at.moves (λ t. state.Waiting) now.states [] (none-agrees (tasks_of plan o)) story.at.lead)

  pub known-below : (t : ℕ) → is_known (now.states t) ≡ true → t < length l.parts
  known-below t h = ((agrees t).known h).below

  pub ends-as : (t : ℕ) → ended story.mine t ≡ has_ended (now.states t)
  ends-as t = (agrees t).ends ∙ same-ended (now.states t)

  pub ended-below : (t : ℕ) → ended story.mine t ≡ true → (t < length l.parts) × (has_ended (now.states t) ≡ true)
  ended-below t h =
      let e = sym (ends-as t) ∙ h in
      let w = ended-is (now.states t) e in
      (known-below t (ap is_known w.1), e)

  -- a finished task has the status of its clean outcome
  pub told-status : (t x : ℕ) → stage_of (now.states t) ≡ Finished x → (effect_at s t).status ≡ x
  told-status t x e =
      let w = status-is (slice_get (clean s.mode s.book s.listing) t) x (runs.holds.told t x e) in
      ap (λ d. (effect_in d).status) (index-some (clean s.mode s.book s.listing) t w.0 Skipped w.1) ∙ w.2

  pub clean-effect : (t : ℕ) (effect : Effect) → slice_get (clean s.mode s.book s.listing) t ≡ Some (Done effect) → effect_at s t ≡ effect
  clean-effect t effect e = ap effect_in (index-some (clean s.mode s.book s.listing) t (Done effect) Skipped e)

  -- a command that runs will do what it does in the run without a cache
  pub running-clean : (t : ℕ) → now.states t ≡ state.Running → slice_get (clean s.mode s.book s.listing) t ≡ Some (Done (now.will t))
  running-clean t e = subst (λ w. slice_get (clean s.mode s.book s.listing) t ≡ Some (Done w)) (sym (story.will_is t e)) (runs.will t (ap stage_of e))

  pub running-effect : (t : ℕ) → now.states t ≡ state.Running → effect_at s t ≡ now.will t
  running-effect t e = clean-effect t (now.will t) (running-clean t e)

  pub effect-behaves : (t : ℕ) (effect : Effect) → t < length l.parts → slice_get (clean s.mode s.book s.listing) t ≡ Some (Done effect) → IsEffect (part_at l t).outs effect
  effect-behaves t effect h e = laws.effects s.mode s.book l t effect stands.ready.behaved stands.valid.ordered.lower h e

  pub none-now : (t : ℕ) → shows_now plan now t ≡ false → now.reports t ≡ None
  none-now t h = quiet _ (shows_now plan now t) (now.reports t) h (story.reports t)

  -- ---- what is found

  other-key : (t u : ℕ) → t < length l.parts → u < length l.parts → u ≢ t → (clean_pair s u).0 ≢ key_of l t
  other-key t u ht hu other e =
      let same = laws.keys.tasks l l u t stands.ready.valid stands.ready.valid hu ht e in
      other (stands.ready.apart.ids u t hu ht same.0 same.1)

  found-added : (t : ℕ) → t < length l.parts → (ps : List ℕ) (pairs : List Pair) → AllByRecursion (λ u. (u < length l.parts) × (u ≢ t)) ps
      → found_for (pairs ++ map (clean_pair s) ps) l t ≡ found_for pairs l t
  found-added t h [] pairs all = ap (λ ps. found_for ps l t) (append-nil pairs)
  found-added t h (u ∷ ps) pairs all =
      ap (λ ps. found_for ps l t) (sym (append_assoc pairs (clean_pair s u ∷ []) (map (clean_pair s) ps)))
      ∙ found-added t h ps (pairs ++ clean_pair s u ∷ []) all.1
      ∙ laws.found.other artifact_in (key_of l t) (part_at l t).outs pairs (clean_pair s u) (other-key t u h all.0.0 all.0.1)

  -- what is found for a task that was not looked up is what was found at the opening
  pub found-first : (t : ℕ) → t < length l.parts → now.states t ≡ state.Waiting → found_for now.pairs l t ≡ found_for o.pairs l t
  found-first t h waits =
      let each : AllByRecursion (λ u. (u < length l.parts) × (u ≢ t)) (ends_of story.mine) =
      all-ends (λ u. (u < length l.parts) × (u ≢ t)) story.mine (λ u e.
      let w = ended-below u e in
      (w.0, λ same. true≢false (sym w.1 ∙ ap (λ v. has_ended (now.states v)) same ∙ ap has_ended waits))) in
      let puts = subst (AllByRecursion (λ u. (u < length l.parts) × (u ≢ t))) (sym story.puts) (all-filter (λ u. (u < length l.parts) × (u ≢ t)) (stores plan s (notes_in now.reports)) (ends_of story.mine) each) in
      ap (λ ps. found_for ps l t) runs.pairs ∙ found-added t h (puts_of story.moves) o.pairs puts

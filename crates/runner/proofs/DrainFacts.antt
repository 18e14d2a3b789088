-- Waiting for what still runs.
use Rattle.std.proofs.Common.{◌≡◌, ◌≢◌, ◌⊎◌, ℕ, ◌==◌, Bool, true, false, ◌&&◌, ◌||◌, List, [], ◌∷◌, ◌++◌, map, refl, sym, ap, ◌∙◌, inl, inr, append_assoc, append-nil}
use Rattle.std.specs.Prelude.{Result, Ok, Err, IfOk, OnErr}
use Rattle.std.specs.List.{list_any}
use Rattle.std.proofs.lemmas.Bool.{ne_eqb, true≢false, false_from_ne_true}
use Rattle.std.proofs.lemmas.List.{append_cancel_left}
use Rattle.std.proofs.lemmas.List.Folds.{list_any-append}
use Rattle.rel_path.specs.Causes.{CountsFaults}
use Rattle.rel_path.specs.Files.{FileMap}
use Rattle.cache_api.specs.Pairs.{Pair}
use Rattle.spawn_dev.specs.declared.command.Ended.{Ended}
use Rattle.spawn_dev.specs.declared.command.Step.{Step as Told}
use Rattle.spawn_dev.specs.declared.command.Step.TheVariants as told
use Rattle.spawn_dev.specs.Spawn.{Runs, live, IsIdle, IsOver, EndsAs}
use Rattle.run_core.specs.declared.states.Step.{Step}
use Rattle.run_core.specs.declared.states.Step.TheVariants.{Start, End}
use Rattle.run_core.specs.Greedy.{started, ended}
use Rattle.run_core.proofs.Any.{any-push_none}
use Rattle.run_laws.specs.Runs.{Setting}
use Rattle.run_plan.specs.declared.plan.Plan.{Plan}
use Rattle.run_plan.specs.Halts.{HaltLaw}
use Rattle.run_plan.specs.Openings.{Opening, setting_of}
use Rattle.run_plan.specs.Results.{step_of}
use Rattle.run_plan.specs.Stories.{Now}
use Rattle.run_plan.specs.StoryLaws.{Stands}
use Rattle.run_plan.proofs.CommandFacts.{place-is}
use Rattle.task_devices.specs.declared.error.RunErr.{RunErr}
use Rattle.task_devices.specs.declared.error.RunErr.TheVariants.{TreeFault, StoreFault, StartFault, SinkFault, OutOfMemory}
use Rattle.task_devices.specs.Stops.{faults_of, StopsBy}
use Rattle.runner.specs.Answers.{AllEnd, Grows, begins_at, ends_at, is_start_fault}
use Rattle.runner.specs.Halting.{HaltsAt, WaitsFor}
use Rattle.runner.proofs.CacheFacts.{grows-same}
use Rattle.runner.proofs.HaltFacts.{gone}
use Rattle.runner.proofs.WorldFacts.{there-is}

-- a command that ran, runs no more and has no end
pub record Lost {B : Type 0} (old now : Runs B) (late : List Told) : Type 0 where
  pub place : ℕ
  pub ran : live old place ≡ true
  pub over : live now place ≡ false
  pub unended : list_any (ends_at place) late ≡ false

-- Some were waited for since. What still runs ran before and has no end, and nothing failed or a command was lost.
pub record Waited {B : Type 0} (old now : Runs B) : Type 0 where
  pub late : List Told
  pub steps_are : now.steps ≡ old.steps ++ late
  pub ran : (t : ℕ) → live now t ≡ true
      → (live old t ≡ true) × (list_any (ends_at t) late ≡ false)
  pub whether : (now.faults ≡ old.faults) ⊎ Lost old now late

pub waited-none : {B : Type 0} (world : Runs B) → Waited world world
waited-none world = record {
  late = [];
  steps_are = sym (append-nil world.steps);
  ran = λ t lives. (lives, refl);
  whether = inl refl;
}

other-end : (t : ℕ) (end : Ended) → t ≢ end.place → ends_at t (told.End end) ≡ false
other-end t end d = ne_eqb end.place t (λ e. d (sym e))

module _ {B : Type 0} (old mid new : Runs B) (files later : FileMap) (waited : Waited old mid)
  where
    lost-on : (place : ℕ) → IsOver place mid new files later → (more : List Told)
        → ((t : ℕ) → t ≢ place → list_any (ends_at t) more ≡ list_any (ends_at t) waited.late)
        → Lost old mid waited.late → Lost old new more
    lost-on place over more same lost = record {
      place = lost.place;
      ran = lost.ran;
      over = false_from_ne_true (live new lost.place)
          (λ lives. true≢false (sym (gone mid new place over.at lost.place lives).1 ∙ lost.over));
      unended = same lost.place (λ e. true≢false (sym (there-is (mid.at place) over.command over.ran)
          ∙ ap (live mid) (sym e) ∙ lost.over)) ∙ lost.unended;
    }

    behind : (end : Ended) → IsOver end.place mid new files later → EndsAs end mid new files later
        → new.faults ≡ mid.faults → Waited old new
    behind end over ends calm =
        let more = waited.late ++ told.End end ∷ [] in
        let same : (t : ℕ) → t ≢ end.place
        → list_any (ends_at t) more ≡ list_any (ends_at t) waited.late =
        λ t d. any-push_none (ends_at t) waited.late (told.End end) (other-end t end d) in
        record {
          late = more;
          steps_are = ends.steps ∙ ap (λ list. list ++ told.End end ∷ []) waited.steps_are
              ∙ append_assoc old.steps waited.late (told.End end ∷ []);
          ran = λ t lives.
              let was = gone mid new end.place over.at t lives in
              let ran = waited.ran t was.1 in
              (ran.0, same t was.0 ∙ ran.1);
          whether = elim waited.whether [
            | inl faults ↦ inl (calm ∙ faults)
            | inr lost ↦ inr (lost-on end.place over more same lost)
          ];
        }

    unsaid : (place : ℕ) → IsOver place mid new files later → new.steps ≡ mid.steps → Waited old new
    unsaid place over steps =
        let ran = waited.ran place (there-is (mid.at place) over.command over.ran) in
        record {
          late = waited.late;
          steps_are = steps ∙ waited.steps_are;
          ran = λ t lives. waited.ran t (gone mid new place over.at t lives).1;
          whether = inr (record {
            place = place;
            ran = ran.0;
            over = false_from_ne_true (live new place)
                (λ lives. (gone mid new place over.at place lives).0 refl);
            unended = ran.1;
          });
        }

    pub waited-more : {E : Type 0} (result : Result Ended E)
        → IfOk result (λ end. IsOver end.place mid new files later)
        → IfOk result (λ end. EndsAs end mid new files later)
        → OnErr result ((place : ℕ) × IsOver place mid new files later)
        → OnErr result (new.steps ≡ mid.steps) → IfOk result (λ end. new.faults ≡ mid.faults)
        → Waited old new
    waited-more (Ok end) over ends failed same calm = behind end over ends calm
    waited-more (Err e) over ends failed same calm = unsaid failed.0 failed.1 same

pub waits-for : {B : Type 0} (old new : Runs B) → Waited old new → IsIdle new → WaitsFor old new
waits-for old new waited idle = record {
  late = waited.late;
  steps_are = waited.steps_are;
  calm = λ all. elim waited.whether [
    | inl faults ↦ faults
    | inr lost ↦ absurd (true≢false (sym (all lost.place lost.ran) ∙ lost.unended))
  ];
}

-- ---- starts and ends that were told

and-true : (b : Bool) → b ≡ (b && true)
and-true true = refl
and-true false = refl

begins-are : (plan : Plan) (s : Setting) (t : ℕ) (steps : List Step)
    → list_any (begins_at t) (map (step_of plan s) steps) ≡ started steps t
begins-are plan s t [] = refl
begins-are plan s t (Start u ∷ steps) =
    let rest = begins-are plan s t steps in
    λ i. (place-is plan u i == t) || rest i
begins-are plan s t (End u x ∷ steps) = begins-are plan s t steps

ends-are : (plan : Plan) (s : Setting) (t : ℕ) (steps : List Step)
    → list_any (ends_at t) (map (step_of plan s) steps) ≡ ended steps t
ends-are plan s t [] = refl
ends-are plan s t (Start u ∷ steps) = ends-are plan s t steps
ends-are plan s t (End u x ∷ steps) =
    let rest = ends-are plan s t steps in
    λ i. and-true (u == t) i || rest i

either-true : (a b : Bool) → a ≡ true → (a || b) ≡ true
either-true a b h = rw h refl

second-true : (a b : Bool) → a ≡ false → (a || b) ≡ true → b ≡ true
second-true true b none h = absurd (true≢false none)
second-true false b none h = h

-- where each command that started has an end, each that still ran has one among the last steps
pub ends-late : {B : Type 0} (law : HaltLaw) (plan : Plan) (o : Opening) (now : Now)
    (least : ℕ) (world : Runs B) (files : FileMap) (pairs : List Pair) (room : ℕ)
    (last : List Told) (late : List Told) → Stands plan o now
    → HaltsAt plan o now least world files pairs room
    → last ≡ world.steps ++ late → AllEnd o.steps last → (t : ℕ) → live world t ≡ true
    → list_any (ends_at t) late ≡ true
ends-late law plan o now least world files pairs room last late stands halts steps all t lives =
    let s = setting_of plan o in
    let runs_on = halts.runs t lives in
    let runs = law.runs plan o now t stands runs_on.running in
    let mine = stands.story.mine in
    let first = map (step_of plan s) mine in
    let behind = map (step_of plan s) halts.late in
    let halted : world.steps ≡ now.steps ++ behind = halts.halts.halts.steps_are
    ∙ ap (λ list. now.steps ++ map (step_of plan s) list) halts.halts.late_is in
    let whole : last ≡ o.steps ++ (first ++ (behind ++ late)) =
    steps ∙ ap (λ list. list ++ late) (halted ∙ ap (λ list. list ++ behind) stands.story.steps)
    ∙ append_assoc (o.steps ++ first) behind late ∙ append_assoc o.steps first (behind ++ late) in
    let added : all.added ≡ first ++ (behind ++ late) =
    append_cancel_left o.steps all.added (first ++ (behind ++ late)) (sym all.new_is ∙ whole) in
    let starts : list_any (begins_at t) all.added ≡ true =
    ap (list_any (begins_at t)) added ∙ list_any-append (begins_at t) first (behind ++ late)
    ∙ either-true (list_any (begins_at t) first) (list_any (begins_at t) (behind ++ late))
    (begins-are plan s t mine ∙ runs.0) in
    let ends : (list_any (ends_at t) first || list_any (ends_at t) (behind ++ late)) ≡ true =
    sym (ap (list_any (ends_at t)) added ∙ list_any-append (ends_at t) first (behind ++ late))
    ∙ all.ends t starts in
    let second = second-true (list_any (ends_at t) first) (list_any (ends_at t) (behind ++ late))
    (ends-are plan s t mine ∙ runs.1) ends in
    second-true (list_any (ends_at t) behind) (list_any (ends_at t) late)
    (ends-are plan s t halts.late ∙ runs_on.unended)
    (sym (list_any-append (ends_at t) behind late) ∙ second)

-- ---- what a wait answers

module _ {B : Type 0} (mid new : Runs B) (files later : FileMap) where
  pub over-some : {E : Type 0} (result : Result Ended E)
      → IfOk result (λ end. IsOver end.place mid new files later)
      → OnErr result ((place : ℕ) × IsOver place mid new files later)
      → (place : ℕ) × IsOver place mid new files later
  over-some (Ok end) over failed = (end.place, over)
  over-some (Err e) over failed = failed

  pub grows-some : {E : Type 0} (result : Result Ended E) → IfOk result (λ end. EndsAs end mid new files later)
      → OnErr result (new.steps ≡ mid.steps) → Grows mid.steps new.steps
  grows-some (Ok end) ends same = (told.End end ∷ [], ends.steps)
  grows-some (Err e) ends same = grows-same mid.steps new.steps same

pub calm-some : {E : Type 0} (is_fault : E → Bool) (before now : ℕ) (result : Result Ended E)
    → CountsFaults is_fault before now result → IfOk result (λ end. now ≡ before)
calm-some is_fault before now (Ok end) counted = counted
calm-some is_fault before now (Err e) counted = tt

-- where starts and waits did not fail, their count stands
pub starts-calm : (a b d e w x y z : ℕ) (error : RunErr)
    → is_start_fault error ≡ false
    → StopsBy {T = ℕ} (faults_of a b d e) (faults_of w x y z) (Err error) → y ≡ d
starts-calm a b d e w x y z TreeFault other h = h.2
starts-calm a b d e w x y z StoreFault other h = h.2
starts-calm a b d e w x y z StartFault other h = absurd (true≢false other)
starts-calm a b d e w x y z SinkFault other h = h.3
starts-calm a b d e w x y z OutOfMemory other h = ap (λ f. f.start) h

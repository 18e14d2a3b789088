-- What was due, where it is put after the run stopped.
use Rattle.std.proofs.Common.{◌≡◌, ◌⊎◌, ℕ, ◌+◌, ◌-◌, ◌≤◌, List, [], ◌∷◌, ◌++◌, map, length, take, drop, refl, sym, ap, ◌∙◌, subst, arith, inl, inr, append-nil, Err, Option}
use Rattle.std.specs.Prelude.{filter}
use Rattle.std.proofs.Math.Seq.{take-append-add}
use Rattle.std.proofs.lemmas.List.{map-append, take-append-drop, take-map}
use Rattle.rel_path.specs.Causes.{Rose}
use Rattle.rel_path.specs.Files.{FileMap}
use Rattle.cache_api.specs.Cache.{CacheState, AllLast}
use Rattle.cache_api.specs.Moments.{Moment}
use Rattle.cache_api.specs.Pairs.{Pair, AreFirst}
use Rattle.page.specs.declared.blocks.Note.{Note}
use Rattle.spawn_dev.specs.declared.command.Step.{Step as Told}
use Rattle.spawn_dev.specs.Spawn.{Runs}
use Rattle.run_core.specs.declared.states.Step.{Step}
use Rattle.run_core.specs.declared.states.Step.TheVariants.{Start, End}
use Rattle.run_core.specs.Machine.{States}
use Rattle.run_laws.specs.Runs.{Setting, clean_pair}
use Rattle.run_plan.specs.declared.plan.Plan.{Plan}
use Rattle.run_plan.specs.Answers.{StopsAt, IsSafe}
use Rattle.run_plan.specs.Halts.{HaltLaw}
use Rattle.run_plan.specs.Openings.{Opening, setting_of}
use Rattle.run_plan.specs.Results.{step_of, stores, ends_of, told_ends, due_pairs}
use Rattle.run_plan.specs.Stories.{Now, notes_in}
use Rattle.run_plan.specs.StoryLaws.{Stands}
use Rattle.task_devices.specs.declared.error.RunErr.{RunErr}
use Rattle.task_devices.specs.declared.error.RunErr.TheVariants.{TreeFault, StoreFault, StartFault, SinkFault, OutOfMemory}
use Rattle.task_devices.specs.Stops.{faults_of, StopsBy, EndsBy}
use Rattle.task_devices.proofs.KeepFacts.{same_first}
use Rattle.runner.specs.Answers.{LeavesSafe}
use Rattle.runner.specs.Due.{SettlesLate}
use Rattle.runner.specs.Halting.{CacheGoes, HaltsAt, HaltsNow}
use Rattle.runner.proofs.CacheFacts.{safe-part, safe-then, cache-then, grows-none}
use Rattle.runner.proofs.DueFacts.{due-goes}

-- ---- a run that has stopped may leave its pairs

told-step : (plan : Plan) (s : Setting) (steps : List Step)
    → told_ends (map (step_of plan s) steps) ≡ ends_of steps
told-step plan s [] = refl
told-step plan s (Start t ∷ steps) = told-step plan s steps
told-step plan s (End t x ∷ steps) = ap (λ es. t ∷ es) (told-step plan s steps)

ends-more : (steps more : List Step) → ends_of (steps ++ more) ≡ ends_of steps ++ ends_of more
ends-more [] more = refl
ends-more (Start t ∷ steps) more = ends-more steps more
ends-more (End t x ∷ steps) more = ap (λ es. t ∷ es) (ends-more steps more)

first-split : (least : ℕ) (before added pairs : List Pair) → length before ≤ least
    → AreFirst least (before ++ added) pairs → (n : ℕ) × (pairs ≡ before ++ take n added)
first-split least before added pairs within (n, at, is) =
    let more = n - length before in
    let parts : n ≡ length before + more = omega (arith, within, at) in
    (more, is ∙ ap (λ k. take k (before ++ added)) parts ∙ take-append-add before added more)

stops-safe : (plan : Plan) (o : Opening) (kept : Type 0) (states : States) (notes : ℕ → Note)
    (files : FileMap) (pairs : List Pair) (room : ℕ) (steps : List Told)
    → StopsAt plan o kept states notes files pairs room steps → IsSafe plan o room steps pairs
stops-safe plan o kept states notes files pairs room steps stops =
    let s = setting_of plan o in
    let p = stores plan s notes in
    let ends = ends_of (stops.mine ++ stops.late) in
    let puts = filter p ends in
    let first = first-split stops.least o.pairs (due_pairs plan s notes ends) pairs stops.least_is
    stops.pairs_are in
    record {
      mine = stops.mine;
      late = map (step_of plan s) stops.late;
      steps_are = stops.steps_are
          ∙ ap (λ xs. o.steps ++ xs) (map-append (step_of plan s) stops.mine stops.late);
      notes = notes;
      noted = stops.noted;
      put = take first.0 puts;
      unput = drop first.0 puts;
      due = ap (λ es. filter p (ends_of stops.mine ++ es)) (told-step plan s stops.late)
          ∙ ap (filter p) (sym (ends-more stops.mine stops.late))
          ∙ sym (take-append-drop first.0 puts);
      pairs_are = first.1 ∙ ap (λ ps. o.pairs ++ ps) (take-map (clean_pair s) first.0 puts);
      good = stops.good;
    }

-- where it is known by less that what was due was put
pub stops-as : (plan : Plan) (o : Opening) (known kept : Type 0) (states : States)
    (notes : ℕ → Note) (files : FileMap) (pairs : List Pair) (room : ℕ) (steps : List Told)
    → (kept → known) → StopsAt plan o known states notes files pairs room steps
    → StopsAt plan o kept states notes files pairs room steps
stops-as plan o known kept states notes files pairs room steps knows stops = record {
  mine = stops.mine;
  at = stops.at;
  late = stops.late;
  late_are = stops.late_are;
  steps_are = stops.steps_are;
  ends = stops.ends;
  leaves = stops.leaves;
  noted = stops.noted;
  least = stops.least;
  least_is = stops.least_is;
  pairs_are = stops.pairs_are;
  all = λ is. stops.all (knows is);
  good = stops.good;
}

-- of the pairs that are there when it stops, the first may be left
pub halts-safe : {B : Type 0} (law : HaltLaw) (plan : Plan) (o : Opening) (now : Now)
    (stands : Stands plan o now) (world : Runs B) (files : FileMap) (pairs : List Pair)
    (lasting room : ℕ) (Kept : Type 0)
    → HaltsNow plan o now world files pairs lasting room Kept → (less : ℕ) (later : List Pair)
    → less ≤ room → AreFirst lasting pairs later → IsSafe plan o less world.steps later
halts-safe law plan o now stands world files pairs lasting room Kept is less later le first =
    let at = is.halts in
    let fewest = law.fewer plan o now is.least now.lasting files pairs later room world.steps
    at.late at.halts (omega arith) at.halts.halts.least_is
    (first.0, omega (arith, is.lasts, first.1), first.2) in
    let safe = stops-safe plan o (length now.pairs ≤ now.lasting) now.states (notes_in now.reports)
    files later room world.steps
    (law.stopped plan o now now.lasting files later room world.steps stands fewest.halts) in
    subst (λ list. IsSafe plan o less list later) (append-nil world.steps)
    (law.safe_later plan o room less world.steps [] later le safe)

-- ---- the pairs that are left

less-room : {B : Type 0} (plan : Plan) (o : Opening) (now : Now) (least : ℕ) (world : Runs B)
    (files : FileMap) (pairs : List Pair) (room less : ℕ) → less ≤ room
    → HaltsAt plan o now least world files pairs room
    → HaltsAt plan o now least world files pairs less
less-room plan o now least world files pairs room less le at =
    let halts = at.halts.halts in
    record {
      late = at.late;
      halts = record {
        halts = record {
          late = halts.late;
          late_are = halts.late_are;
          steps_are = halts.steps_are;
          ends = halts.ends;
          undone = halts.undone;
          less = omega (arith, halts.less, le);
          least_is = halts.least_is;
          within = halts.within;
          pairs_are = halts.pairs_are;
        };
        late_is = at.halts.late_is;
      };
      runs = at.runs;
    }

-- of so many of the pairs those are left at least that lasted, and all where the cache did not fail
pub halts-settled : {B : Type 0} (law : HaltLaw) (plan : Plan) (o : Opening) (now : Now)
    (world : Runs B) (files : FileMap) (pairs later : List Pair)
    (lasting room less : ℕ) (Kept Known Failed : Type 0)
    → (is : HaltsNow plan o now world files pairs lasting room Kept)
    → AreFirst lasting pairs later → Failed ⊎ (later ≡ pairs) → less ≤ room
    → (Known → Kept) → (Known → Failed → ⊥)
    → (least : ℕ) × (HaltsAt plan o now least world files later less)
    × (Known → length now.pairs ≤ least)
halts-settled law plan o now world files pairs later lasting room less Kept Known Failed is first
    (inl failed) le known calm =
    let at = is.halts in (
      now.lasting,
      less-room plan o now now.lasting world files later room less le (record {
        late = at.late;
        halts = law.fewer plan o now is.least now.lasting files pairs later room world.steps at.late
            at.halts (omega arith) at.halts.halts.least_is
            (first.0, omega (arith, is.lasts, first.1), first.2);
        runs = at.runs;
      }),
      λ now. absurd (calm now failed),
    )
halts-settled law plan o now world files pairs later lasting room less Kept Known Failed is first
    (inr same) le known calm = (
      is.least,
      subst (λ ps. HaltsAt plan o now is.least world files ps less) (sym same)
          (less-room plan o now is.least world files pairs room less le is.halts),
      λ now. is.all (known now),
    )

-- ---- what comes of a run

module _ {D S X : Type 0} (tells : Type 0) (state : S → CacheState D) (cost : S → List ℕ → ℕ)
    (moment : S → Moment) (left : S → Moment → X → Type 0)
    (says : D → X → Option (List Pair)) (old mid new : S)
    (whether : (new ≡ mid) ⊎ SettlesLate tells state cost moment left says mid new) where
  pub late-goes : (tells → (state mid).lasting ≤ length (state mid).pairs)
      → CacheGoes tells state moment left says old mid
      → CacheGoes tells state moment left says old new
  late-goes within goes = elim whether [
    | inl same ↦ subst (CacheGoes tells state moment left says old) (sym same) goes
    | inr late ↦ cache-then state moment left says tells old mid new goes
        (due-goes tells state cost moment left says mid new late.due within)
  ]

  -- the run has stopped at the first, and what was put then is safe too
  pub late-safe : {B : Type 0} (law : HaltLaw) (plan : Plan) (o : Opening) (now : Now)
      (stands : Stands plan o now) (world : Runs B) (files : FileMap) (Kept : Type 0) → tells
      → CacheGoes tells state moment left says old mid
      → HaltsNow plan o now world files (state mid).pairs (state mid).lasting (state mid).room Kept
      → LeavesSafe state moment left says plan o world.steps old mid
      → LeavesSafe state moment left says plan o world.steps old new
  late-safe law plan o now stands world files Kept told goes halts safe = elim whether [
    | inl same ↦ subst (LeavesSafe state moment left says plan o world.steps old) (sym same) safe
    | inr late ↦
        let due = late.due in
        safe-then state moment left says law plan o world.steps world.steps old mid new goes.keeps
        due.keeps (grows-none world.steps) safe
        (safe-part state moment left says plan o world.steps mid new (due.images told)
        (λ pairs first. halts-safe law plan o now stands world files (state mid).pairs
        (state mid).lasting (state mid).room Kept halts (state new).room pairs due.keeps.room first))
  ]

  -- where nothing was due, it costs nothing
  pub late-probes : tells → AllLast (state mid) → (state new).probes ≡ (state mid).probes
  late-probes told last = elim whether [
    | inl same ↦ ap (λ c. (state c).probes) same
    | inr late ↦ late.due.probes told last
  ]

  pub late-faults : (state mid).faults ≤ (state new).faults
  late-faults = elim whether [
    | inl same ↦ let e = ap (λ c. (state c).faults) same in omega (arith, e)
    | inr late ↦ late.later
  ]

  pub late-first : tells → AreFirst (state mid).lasting (state mid).pairs (state new).pairs
  late-first told = elim whether [
    | inl same ↦ same_first (state mid).lasting (state mid).pairs (state new).pairs
        (ap (λ c. (state c).pairs) same)
    | inr late ↦ late.due.first told
  ]

  pub late-same : tells → Rose (state mid).faults (state new).faults
      ⊎ ((state new).pairs ≡ (state mid).pairs)
  late-same told = elim whether [
    | inl same ↦ inr (ap (λ c. (state c).pairs) same)
    | inr late ↦ late.due.same told
  ]

  pub late-room : (state new).room ≤ (state mid).room
  late-room = elim whether [
    | inl same ↦ let e = ap (λ c. (state c).room) same in omega (arith, e)
    | inr late ↦ late.due.keeps.room
  ]

-- ---- counts of faults

-- where the cache did not fail until the last, it had not before
pub calm-before : (old mid new : ℕ) → mid ≤ new → (Rose old new → ⊥) → Rose old mid → ⊥
calm-before old mid new le calm rose = calm (omega (arith, rose, le))

pub calm-behind : (old mid new a b d x y z : ℕ) (error : RunErr)
    → StopsBy {T = ℕ} (faults_of a old b d) (faults_of x mid y z) (Err error) → mid ≤ new
    → (Rose old new → ⊥) → Rose mid new → ⊥
calm-behind old mid new a b d x y z TreeFault cause le calm rose =
    calm (subst (λ n. Rose n new) cause.1 rose)
calm-behind old mid new a b d x y z StoreFault cause le calm rose =
    calm-before old mid new le calm cause.0
calm-behind old mid new a b d x y z StartFault cause le calm rose =
    calm (subst (λ n. Rose n new) cause.2 rose)
calm-behind old mid new a b d x y z SinkFault cause le calm rose =
    calm (subst (λ n. Rose n new) cause.2 rose)
calm-behind old mid new a b d x y z OutOfMemory cause le calm rose =
    calm (subst (λ n. Rose n new) (ap (λ f. f.store) cause) rose)

-- what stopped the run, after what was due was put and all was waited for
pub ends-by : (tree store start sink x y z w later last : ℕ) (error : RunErr)
    → StopsBy {T = ℕ} (faults_of tree store start sink) (faults_of x y z w) (Err error)
    → y ≤ later → z ≤ last
    → EndsBy {T = ℕ} (faults_of tree store start sink) (faults_of x later last w) (Err error)
ends-by tree store start sink x y z w later last TreeFault cause le more =
    let c = cause in
    (c.0, omega (arith, c.1, le), omega (arith, c.2, more), c.3)
ends-by tree store start sink x y z w later last StoreFault cause le more =
    let c = cause in
    (omega (arith, c.0, le), c.1, omega (arith, c.2, more), c.3)
ends-by tree store start sink x y z w later last StartFault cause le more =
    let c = cause in
    (omega (arith, c.0, more), c.1, omega (arith, c.2, le), c.3)
ends-by tree store start sink x y z w later last SinkFault cause le more =
    let c = cause in
    (c.0, c.1, omega (arith, c.2, le), omega (arith, c.3, more))
ends-by tree store start sink x y z w later last OutOfMemory cause le more =
    let store_is = ap (λ f. f.store) cause in
    let start_is = ap (λ f. f.start) cause in (
      ap (λ f. f.tree) cause,
      omega (arith, store_is, le),
      omega (arith, start_is, more),
      ap (λ f. f.sink) cause,
    )

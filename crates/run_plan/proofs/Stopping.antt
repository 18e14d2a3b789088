-- What is kept of a run that stops, and which pairs it may leave at each moment.
use Rattle.std.proofs.Common.{◌≡◌, ◌≢◌, ℕ, ◌+◌, ◌≤◌, ◌&&◌, Bool, true, false, List, [], ◌∷◌, ◌++◌, length, take, drop, refl, sym, ap, ◌∙◌, subst, arith, inl, inr, append_assoc, append-nil}
use Rattle.std.specs.Prelude.{filter, map}
use Rattle.std.proofs.lemmas.Bool.{false≢true, true≢false, and_right, and_from}
use Rattle.std.proofs.lemmas.List.{length-append, map-append, take-append-drop, take-map}
use Rattle.std.proofs.lemmas.List.Elements.{filter-append}
use Rattle.rel_path.specs.Files.{FileMap}
use Rattle.globs.specs.Outputs.{takes}
use Rattle.cache_api.specs.Pairs.{Pair, AreFirst}
use Rattle.cache_api.proofs.Firsts.{first_more}
use Rattle.page.specs.declared.blocks.Note.{Note}
use Rattle.page.specs.declared.blocks.Note.TheVariants.{Stored}
use Rattle.spawn_dev.specs.declared.command.Ended.{Ended}
use Rattle.spawn_dev.specs.declared.command.Step.{Step as Told}
use Rattle.spawn_dev.specs.declared.command.Step.TheVariants as told
use Rattle.run_core.specs.declared.states.Step.{Step}
use Rattle.run_core.specs.declared.states.Step.TheVariants.{Start, End}
use Rattle.run_core.specs.declared.states.State.TheVariants as state
use Rattle.run_core.specs.Greedy.{HaveStatus, started, ended}
use Rattle.run_core.specs.Machine.{is_done}
use Rattle.run_core.proofs.Steps.{has_started}
use Rattle.run_laws.specs.Ancestors.{part_at, has_script}
use Rattle.run_laws.specs.Pairs.{IsGood, due_pair}
use Rattle.run_laws.specs.Plans.{log_path}
use Rattle.run_laws.specs.Worlds.{Shows}
use Rattle.run_laws.specs.Runs.{Setting, clean_pair}
use Rattle.run_plan.specs.declared.plan.Plan.{Plan}
use Rattle.run_plan.specs.Answers.{StopsAt, IsSafe, OnlyUndone}
use Rattle.run_plan.specs.Halts.{Halts, HaltsWith, IsPut, MayBePut, HaltLaw}
use Rattle.run_plan.specs.Openings.{Opening, setting_of}
use Rattle.run_plan.specs.Results.{effect_at, step_of, may_store, is_stored, NotedAs, stores, ends_of, told_ends, due_pairs}
use Rattle.run_plan.specs.Stories.{Now, Story, stage_of, has_ended, note_in, notes_in}
use Rattle.run_plan.specs.StoryLaws.{Stands, EndsNow}
use Rattle.run_plan.proofs.Firsts.{first-again, first-behind, first-split, good-first, ends-more, due-more}
use Rattle.run_plan.proofs.Grounds.{HaltGrounds}
use Rattle.run_plan.proofs.Standing.{runs, agrees, ends-as, told-status, noted-less, none-now, running-effect}
use Rattle.run_plan.proofs.Ending.{same-effect, may-is, pair-is}
use Rattle.run_plan.proofs.Closing.{finished-done}
use Rattle.run_plan.proofs.LateEnds.{late-push, have-both, have-one, late-due, good-more}

-- ---- told ends

told-step : (plan : Plan) (s : Setting) (steps : List Step)
    → told_ends (map (step_of plan s) steps) ≡ ends_of steps
told-step plan s [] = refl
told-step plan s (Start t ∷ steps) = told-step plan s steps
told-step plan s (End t x ∷ steps) = ap (λ es. t ∷ es) (told-step plan s steps)

told-more : (steps more : List Told) → told_ends (steps ++ more) ≡ told_ends steps ++ told_ends more
told-more [] more = refl
told-more (told.Start c ∷ steps) more = told-more steps more
told-more (told.End e ∷ steps) more = ap (λ es. e.place ∷ es) (told-more steps more)

-- ---- what stays as it is

only-undone : (plan : Plan) (now : Now) (one two three : FileMap)
    → OnlyUndone plan now.states one two → OnlyUndone plan now.states two three
    → OnlyUndone plan now.states one three
only-undone plan now one two three first second path each = second path each ∙ first path each

-- the files of a halt may change, as long as those of tasks that were done stay
halts-unsaid : (plan : Plan) (o : Opening) (now : Now) (least : ℕ) (files later : FileMap)
    (pairs : List Pair) (room : ℕ) (steps : List Told) (late : List Step)
    → HaltsWith plan o now least files pairs room steps late
    → OnlyUndone plan now.states files later
    → HaltsWith plan o now least later pairs room steps late
halts-unsaid plan o now least files later pairs room steps late with_late undone =
    let halts = with_late.halts in
    record {
      halts = record {
        late = halts.late;
        late_are = halts.late_are;
        steps_are = halts.steps_are;
        ends = halts.ends;
        undone = only-undone plan now now.files files later halts.undone undone;
        less = halts.less;
        least_is = halts.least_is;
        within = halts.within;
        pairs_are = halts.pairs_are;
      };
      late_is = with_late.late_is;
    }

-- and so may its pairs, as long as the first of them stay
halts-fewer : (plan : Plan) (o : Opening) (now : Now) (least fewest : ℕ) (files : FileMap)
    (pairs later : List Pair) (room : ℕ) (steps : List Told) (late : List Step)
    → HaltsWith plan o now least files pairs room steps late → now.lasting ≤ fewest
    → fewest ≤ least → AreFirst fewest pairs later
    → HaltsWith plan o now fewest files later room steps late
halts-fewer plan o now least fewest files pairs later room steps late with_late lasts fewer first =
    let halts = with_late.halts in
    record {
      halts = record {
        late = halts.late;
        late_are = halts.late_are;
        steps_are = halts.steps_are;
        ends = halts.ends;
        undone = halts.undone;
        less = halts.less;
        least_is = lasts;
        within = omega (arith, fewer, halts.within);
        pairs_are = first-again least fewest _ pairs later fewer halts.pairs_are first;
      };
      late_is = with_late.late_is;
    }

safe-later : (plan : Plan) (o : Opening) (room less : ℕ) (steps more : List Told)
    (pairs : List Pair) → less ≤ room → IsSafe plan o room steps pairs
    → IsSafe plan o less (steps ++ more) pairs
safe-later plan o room less steps more pairs le safe =
    let s = setting_of plan o in
    let p = stores plan s safe.notes in
    let done = map (step_of plan s) safe.mine in
    let ends = ends_of safe.mine in
    record {
      mine = safe.mine;
      late = safe.late ++ more;
      steps_are =
          ap (λ xs. xs ++ more) safe.steps_are
          ∙ append_assoc o.steps (done ++ safe.late) more
          ∙ ap (λ xs. o.steps ++ xs) (append_assoc done safe.late more);
      notes = safe.notes;
      noted = λ t.
          noted-less plan s room less t (ended safe.mine t) (safe.notes t) le (safe.noted t);
      put = safe.put;
      unput = safe.unput ++ filter p (told_ends more);
      due =
          ap (λ es. filter p (ends ++ es)) (told-more safe.late more)
          ∙ ap (filter p) (sym (append_assoc ends (told_ends safe.late) (told_ends more)))
          ∙ filter-append p (ends ++ told_ends safe.late) (told_ends more)
          ∙ ap (λ es. es ++ filter p (told_ends more)) safe.due
          ∙ append_assoc safe.put safe.unput (filter p (told_ends more));
      pairs_are = safe.pairs_are;
      good = safe.good;
    }

module _ (grounds : HaltGrounds) (plan : Plan) (o : Opening) (now : Now)
    (stands : Stands plan o now) where
  abbrev s : Setting
  s = setting_of plan o

  abbrev story : Story plan o now
  story = stands.story

  abbrev notes : ℕ → Note
  notes = notes_in now.reports

  abbrev status_at : ℕ → ℕ
  status_at = λ t. (effect_at s t).status

  -- ---- steps

  -- an end of a command that runs is told as that of its task
  told-end : (end : Ended) → now.states end.place ≡ state.Running
      → end.log ≡ (now.will end.place).log
      → told.End end ≡ step_of plan s (End end.place end.status)
  told-end end running log_is =
      let effect = running-effect grounds.laws plan o now stands end.place running in
      let log = log_is ∙ ap (λ x. x.log) (sym effect) in
      λ i. told.End (record { place = end.place; status = end.status; log = log i })

  ends-well : (end : Ended) → now.states end.place ≡ state.Running
      → end.status ≡ (now.will end.place).status
      → HaveStatus (End end.place end.status ∷ []) status_at
  ends-well end running status_is =
      have-one status_at end.place end.status
      (status_is ∙ ap (λ x. x.status)
      (sym (running-effect grounds.laws plan o now stands end.place running)))

  mine-end : HaveStatus story.mine status_at
  mine-end t x h =
      sym (told-status grounds.laws plan o now stands t x
      (ap stage_of ((agrees grounds.laws plan o now stands t).status x h)))

  -- ---- a turn that failed

  halts-before : (least : ℕ) (files : FileMap) (pairs : List Pair) (room : ℕ)
      → OnlyUndone plan now.states now.files files → now.lasting ≤ least
      → least ≤ length now.pairs → AreFirst least now.pairs pairs → room ≤ now.room
      → HaltsWith plan o now least files pairs room now.steps []
  halts-before least files pairs room undone lasts within first le = record {
    halts = record {
      late = [];
      late_are = tt;
      steps_are = sym (append-nil now.steps);
      ends = λ t x h. absurd (false≢true h);
      undone = undone;
      less = le;
      least_is = lasts;
      within = within;
      pairs_are = subst (λ ps. AreFirst least ps pairs) (sym (append-nil now.pairs)) first;
    };
    late_is = refl;
  }

  -- the note of a command that runs is the one of a result that is put
  unnoted : (t : ℕ) → now.states t ≡ state.Running → notes t ≡ Stored
  unnoted t running =
      ap note_in (none-now grounds.laws plan o now stands t
      (ap (λ x. has_script (part_at plan.listing t) && is_done x) running
      ∙ and_right (has_script (part_at plan.listing t)) false refl))

  module _ (end : Ended) (sound : Bool) (ends : EndsNow plan now end sound) where
    abbrev t : ℕ
    t = end.place

    is-stored : (pairs : List Pair) → IsPut plan now end sound pairs → stores plan s notes t ≡ true
    is-stored pairs is =
        and_from (may_store plan s t) (is_stored (notes t))
        (may-is grounds.laws plan o now stands end sound ends ∙ is.may)
        (ap is_stored (unnoted t ends.running))

    is-clean : (pairs : List Pair) → IsPut plan now end sound pairs
        → pairs ≡ now.pairs ++ clean_pair s t ∷ []
    is-clean pairs is =
        is.pairs_are ∙ ap (λ p. now.pairs ++ p ∷ [])
        (pair-is grounds.laws plan o now stands end sound ends is.taken is.taken_are
        ∙ ap (due_pair plan.listing t)
        (sym (same-effect grounds.laws plan o now stands end sound ends)))

    -- what is first of the pairs that may have been put is first of those that this end adds
    first-due : (least : ℕ) (added pairs : List Pair) → least ≤ length now.pairs
        → MayBePut plan now end sound added → AreFirst least added pairs
        → AreFirst least (now.pairs ++ due_pairs plan s notes (t ∷ [])) pairs
    first-due least added pairs within (inl same) first =
        first_more least now.pairs (due_pairs plan s notes (t ∷ [])) pairs within
        (subst (λ ps. AreFirst least ps pairs) same first)
    first-due least added pairs within (inr is) first =
        rw (is-stored added is) (subst (λ ps. AreFirst least ps pairs) (is-clean added is) first)

    pub halts-at : (least : ℕ) (files : FileMap) (added pairs : List Pair) (room : ℕ)
        → OnlyUndone plan now.states now.files files → MayBePut plan now end sound added
        → now.lasting ≤ least → least ≤ length now.pairs → AreFirst least added pairs
        → room ≤ now.room
        → HaltsWith plan o now least files pairs room (now.steps ++ told.End end ∷ [])
        (End t end.status ∷ [])
    halts-at least files added pairs room undone may lasts within first le = record {
      halts = record {
        late = End t end.status ∷ [];
        late_are = (ends.running, tt);
        steps_are = ap (λ x. now.steps ++ x ∷ []) (told-end end ends.running ends.log);
        ends = ends-well end ends.running ends.status;
        undone = undone;
        less = le;
        least_is = lasts;
        within = within;
        pairs_are = first-due least added pairs within may first;
      };
      late_is = refl;
    }

  -- ---- ends behind it

  halts-behind : (least : ℕ) (files later : FileMap) (pairs : List Pair) (room : ℕ)
      (steps : List Told) (late : List Step) (end : Ended)
      → HaltsWith plan o now least files pairs room steps late
      → now.states end.place ≡ state.Running → ended late end.place ≡ false
      → end.status ≡ (now.will end.place).status → end.log ≡ (now.will end.place).log
      → OnlyUndone plan now.states files later
      → HaltsWith plan o now least later pairs room (steps ++ told.End end ∷ [])
      (late ++ End end.place end.status ∷ [])
  halts-behind least files later pairs room steps late end with_late running free status_is log_is
      undone =
      let halts = with_late.halts in
      let last = End end.place end.status ∷ [] in
      let due = due_pairs plan s notes (ends_of halts.late) in
      let more = due_pairs plan s notes (end.place ∷ []) in
      let free_here : ended halts.late end.place ≡ false =
      ap (λ xs. ended xs end.place) with_late.late_is ∙ free in
      record {
        halts = record {
          late = halts.late ++ last;
          late_are =
              late-push now.states halts.late end.place end.status halts.late_are running
              free_here;
          steps_are =
              (λ i. halts.steps_are i ++ told-end end running log_is i ∷ [])
              ∙ append_assoc now.steps (map (step_of plan s) halts.late) (map (step_of plan s) last)
              ∙ ap (λ xs. now.steps ++ xs) (sym (map-append (step_of plan s) halts.late last));
          ends = have-both status_at halts.late last halts.ends (ends-well end running status_is);
          undone = only-undone plan now now.files files later halts.undone undone;
          less = halts.less;
          least_is = halts.least_is;
          within = halts.within;
          pairs_are =
              subst (λ ps. AreFirst least ps pairs)
              (append_assoc now.pairs due more
              ∙ ap (λ ps. now.pairs ++ ps)
              (sym (ap (due_pairs plan s notes) (ends-more halts.late last)
              ∙ due-more plan s notes (ends_of halts.late) (end.place ∷ []))))
              (first-behind least now.pairs due more pairs halts.within halts.pairs_are);
        };
        late_is = ap (λ xs. xs ++ last) with_late.late_is;
      }

  -- ---- files of tasks that were done

  shows-kept : (files : FileMap) → OnlyUndone plan now.states now.files files → (t : ℕ)
      → has_script (part_at plan.listing t) ≡ true → is_done (now.states t) ≡ true
      → Shows plan.mode o.book plan.listing t files
  shows-kept files undone t script done =
      let apart = stands.ready.apart in
      let other : (u : ℕ) → is_done (now.states u) ≡ false → t ≢ u =
      λ u not_done same. true≢false (sym done ∙ ap (λ v. is_done (now.states v)) same ∙ not_done) in
      let shown = grounds.shows plan.mode o.book plan.listing o.files now.files
      (λ u. stage_of (now.states u)) t stands.valid.ordered.lower
      (runs grounds.laws plan o now stands).holds script (finished-done (now.states t) ∙ done) in
      record {
        effect = shown.effect;
        ended = shown.ended;
        files = λ path own. undone path (λ u has not_done. (
          apart.outs t u (other u not_done) script has path own,
          λ same. true≢false (sym own ∙ ap (takes (part_at plan.listing t).outs) same
              ∙ apart.log_outs t u script has),
        )) ∙ shown.files path own;
        log = undone (log_path (part_at plan.listing t)) (λ u has not_done.
            (apart.log_outs u t has script, apart.logs t u (other u not_done) script has))
            ∙ shown.log;
      }

  -- ---- where it stopped

  module _ (least : ℕ) (files : FileMap) (pairs : List Pair) (room : ℕ) (steps : List Told)
      (halts : Halts plan o now least files pairs room steps) where
    noted-so : (t : ℕ) → NotedAs plan s room t (ended story.mine t) (notes t)
    noted-so t =
        subst (λ b. NotedAs plan s room t b (notes t))
        (sym (ends-as grounds.laws plan o now stands t))
        (noted-less plan s now.room room t (has_ended (now.states t)) (notes t) halts.less
        (story.noted t))

    steps-so : steps
        ≡ o.steps ++ (map (step_of plan s) story.mine ++ map (step_of plan s) halts.late)
    steps-so =
        halts.steps_are ∙ ap (λ xs. xs ++ map (step_of plan s) halts.late) story.steps
        ∙ append_assoc o.steps (map (step_of plan s) story.mine) (map (step_of plan s) halts.late)

    abbrev due : List Step → List Pair
    due ends = due_pairs plan s notes (ends_of ends)

    pairs-now : now.pairs ≡ o.pairs ++ due story.mine
    pairs-now =
        (runs grounds.laws plan o now stands).pairs
        ∙ ap (λ ts. o.pairs ++ map (clean_pair s) ts) story.puts

    all-due : now.pairs ++ due halts.late ≡ o.pairs ++ due (story.mine ++ halts.late)
    all-due =
        ap (λ ps. ps ++ due halts.late) pairs-now
        ∙ append_assoc o.pairs (due story.mine) (due halts.late)
        ∙ ap (λ ps. o.pairs ++ ps)
        (sym (ap (due_pairs plan s notes) (ends-more story.mine halts.late)
        ∙ due-more plan s notes (ends_of story.mine) (ends_of halts.late)))

    pairs-so : AreFirst least (o.pairs ++ due (story.mine ++ halts.late)) pairs
    pairs-so = subst (λ ps. AreFirst least ps pairs) all-due halts.pairs_are

    opening-lasts : length o.pairs ≤ least
    opening-lasts = omega (arith, story.lasts, halts.least_is)

    mine-there : length now.pairs ≤ least → length o.pairs + length (due story.mine) ≤ least
    mine-there kept =
        let size = ap length pairs-now ∙ length-append o.pairs (due story.mine) in
        omega (arith, size, kept)

    stays-good : IsGood o.book pairs
    stays-good =
        good-first o.book least (now.pairs ++ due halts.late) pairs halts.pairs_are
        (good-more grounds plan o now stands now.pairs
        (filter (stores plan s notes) (ends_of halts.late))
        (runs grounds.laws plan o now stands).good
        (late-due grounds plan o now stands notes halts.late halts.late_are))

    pub stops-at : StopsAt plan o (length now.pairs ≤ least) now.states notes files pairs room
        steps
    stops-at = record {
      mine = story.mine;
      at = story.at;
      late = halts.late;
      late_are = halts.late_are;
      steps_are = steps-so
          ∙ ap (λ xs. o.steps ++ xs) (sym (map-append (step_of plan s) story.mine halts.late));
      ends = have-both status_at story.mine halts.late mine-end halts.ends;
      leaves = shows-kept files halts.undone;
      noted = noted-so;
      least = least;
      least_is = opening-lasts;
      pairs_are = pairs-so;
      all = mine-there;
      good = stays-good;
    }

    pub safe-so : IsSafe plan o room steps pairs
    safe-so =
        let ends = ends_of (story.mine ++ halts.late) in
        let puts = filter (stores plan s notes) ends in
        let first = first-split least o.pairs (due_pairs plan s notes ends) pairs opening-lasts
        pairs-so in
        record {
          mine = story.mine;
          late = map (step_of plan s) halts.late;
          steps_are = steps-so;
          notes = notes;
          noted = noted-so;
          put = take first.0 puts;
          unput = drop first.0 puts;
          due =
              ap (λ es. filter (stores plan s notes) (ends_of story.mine ++ es))
              (told-step plan s halts.late)
              ∙ ap (filter (stores plan s notes)) (sym (ends-more story.mine halts.late))
              ∙ sym (take-append-drop first.0 puts);
          pairs_are = first.1
              ∙ ap (λ ps. o.pairs ++ ps) (take-map (clean_pair s) first.0 puts);
          good = stays-good;
        }

  -- ---- the pairs at each moment

  unchanged : OnlyUndone plan now.states now.files now.files
  unchanged path each = refl

  safe-now : (pairs : List Pair) → AreFirst now.lasting now.pairs pairs
      → IsSafe plan o now.room now.steps pairs
  safe-now pairs first =
      safe-so now.lasting now.files pairs now.room now.steps
      (halts-before now.lasting now.files pairs now.room unchanged (omega arith) story.within first
      (omega arith)).halts

  safe-at : (end : Ended) (sound : Bool) (added pairs : List Pair) → EndsNow plan now end sound
      → MayBePut plan now end sound added → AreFirst now.lasting added pairs
      → IsSafe plan o now.room (now.steps ++ told.End end ∷ []) pairs
  safe-at end sound added pairs ends may first =
      safe-so now.lasting now.files pairs now.room (now.steps ++ told.End end ∷ [])
      (halts-at end sound ends now.lasting now.files added pairs now.room unchanged may
      (omega arith) story.within first (omega arith)).halts

  has-run : (t : ℕ) → now.states t ≡ state.Running
      → (started story.mine t ≡ true) × (ended story.mine t ≡ false)
  has-run t running = (
    (agrees grounds.laws plan o now stands t).starts ∙ ap has_started running,
    ends-as grounds.laws plan o now stands t ∙ ap has_ended running,
  )

pub halt-law : HaltGrounds → HaltLaw
halt-law grounds = record {
  before_end = λ plan o now least files pairs room stands.
      halts-before grounds plan o now stands least files pairs room;
  at_end = λ plan o now end sound least files added pairs room stands calm ends.
      halts-at grounds plan o now stands end sound ends least files added pairs room;
  behind = λ plan o now least files later pairs room steps late end stands.
      halts-behind grounds plan o now stands least files later pairs room steps late end;
  unsaid = halts-unsaid;
  fewer = halts-fewer;
  stopped = λ plan o now least files pairs room steps stands.
      stops-at grounds plan o now stands least files pairs room steps;
  runs = λ plan o now t stands. has-run grounds plan o now stands t;
  safe = λ plan o now pairs stands. safe-now grounds plan o now stands pairs;
  safe_at_end = λ plan o now end sound added pairs stands calm ends.
      safe-at grounds plan o now stands end sound added pairs ends;
  safe_later = safe-later;
}

-- What a run over a shared file leaves, from what it leaves over the cache in it.
use Rattle.std.proofs.Common.{◌≡◌, ℕ, true, false, List, [], ◌++◌, map, Some, refl, sym, ◌∙◌, ap}
use Rattle.std.proofs.Common.{subst, append-nil}
use Rattle.std.specs.Prelude.{Option, None, ⊤}
use Rattle.rel_path.specs.Files.{FileMap}
use Rattle.store_dev.specs.Device.{LeavesOnly}
use Rattle.store_dev.specs.declared.device.StoreDevice.{Ghosts as DeviceGhosts}
use Rattle.cache_api.specs.Cache.{Keeps}
use Rattle.cache_api.specs.Moments.{Leaves}
use Rattle.cache_api.specs.Pairs.{Pair}
use Rattle.pair_frames.specs.Pairs.{pairs_in}
use Rattle.spawn_dev.specs.declared.command.Step.{Step}
use Rattle.spawn_dev.specs.Effects.{IsWellBehaved}
use Rattle.shared_runs.specs.declared.store.SharedStore.{SharedStore}
use Rattle.shared_runs.specs.declared.turn.Shared.{Ghosts}
use Rattle.shared_runs.specs.Frames.{StartWith}
use Rattle.shared_runs.specs.Opened.{IsOpened}
use Rattle.shared_runs.specs.Shared.{frames_in, coming_in, state_of, moment_of, left_of}
use Rattle.run_laws.specs.Effects.{Book}
use Rattle.run_laws.specs.Runs.{IsReady, clean_pair}
use Rattle.run_plan.specs.declared.plan.Plan.{Plan}
use Rattle.run_plan.specs.Answers.{Ran, IsSafe}
use Rattle.run_plan.specs.DryPages.{dry_page}
use Rattle.run_plan.specs.Openings.{Opening, setting_of, HoldsInputs}
use Rattle.run_plan.specs.Plans.{IsValidPlan}
use Rattle.runner.specs.Answers.{HasSafePairs, IsFurther}
use Rattle.answers.specs.declared.answer.Answer.{Answer}
use Rattle.answers.specs.Answers.{IfDone}
use Rattle.answers.specs.Facts.{if_fault, within}
use Rattle.answers.specs.Moments.{Moment}
use Rattle.answers.specs.Stops.{IfFault}
use Rattle.cache_runs.specs.Openings.{IsTrusted, opening_at}
use Rattle.cache_runs.specs.Stops.{StopsOver, StopsDry}
use Rattle.cache_runs.proofs.Finished.{done_as, done_both, done_under}
use Rattle.cache_runs.proofs.Ready.{is_ready}
use Rattle.file_runs.specs.Images.{IsOneOrAddedTo, IsDueBy}
use Rattle.file_runs.specs.Outcomes.{RanOver, RanDryOver}
use Rattle.file_runs.specs.Standing.{HoldsAdded}
use Rattle.file_runs.specs.Stops.{StopsLive, StopsDryOver}
use Rattle.file_runs.specs.Turns.{held_in_turn}
use Rattle.file_runs.proofs.Ending.{moved, held_first, holds_end, none_end, room_end, left_end}

no_some : {X : Type 0} {x : X} → None ≡ Some x → ⊥
no_some e = cc

some_same : {X : Type 0} {x y : X} → Some x ≡ Some y → x ≡ y
some_same e = cc

module _ {H D : Type 0} {G : Ghosts H D} {K : DeviceGhosts D} (file : H)
    (mid new : SharedStore H D G K) (opened : IsOpened G K file mid)
    (keeps : Keeps (state_of mid) (state_of new)) (end : H) (given : end ≡ new.turns.shared)
    (told : K.tells) (plan : Plan) (book : Book) (files after : FileMap) (steps done : List Step)
    (printed out : List ℕ) where
  abbrev old : Moment
  old = record {
    files = files;
    steps = steps;
    held = held_in_turn (G.content file) (G.coming file);
    printed = printed;
  }

  abbrev now : Moment
  now = record {
    files = after;
    steps = done;
    held = held_in_turn (G.content end) (G.coming end);
    printed = out;
  }

  abbrev before : List Pair
  before = pairs_in (G.coming file)

  -- as the cache says it
  abbrev opening : Opening
  opening = opening_at book old (state_of mid).pairs

  pairs_are : (state_of mid).pairs ≡ before
  pairs_are = opened.pairs told

  held_is : old.held.pairs ≡ Some before
  held_is = held_first file mid new opened keeps end given told

  -- ---- where nothing is put

  none_holds : (state_of new).pairs ≡ (state_of mid).pairs → HoldsAdded before [] (G.content end)
  none_holds = none_end file mid new opened keeps end given told

  dry_record : (Heard : Type 0) (status : ℕ) → (state_of new).pairs ≡ (state_of mid).pairs
      → after ≡ files → done ≡ steps → status ≡ 0
      → (Heard → out ≡ printed ++ dry_page plan (state_of mid).pairs)
      → RanDryOver plan Heard old now (G.content end) status
  dry_record Heard status same files_are steps_are zero page = record {
    before = before;
    opened = held_is;
    holds = none_holds same;
    files = files_are;
    steps = steps_are;
    page_is = λ heard. page heard ∙ ap (λ (l : List Pair). printed ++ dry_page plan l) pairs_are;
    status_is = zero;
  }

  pub ran_dry : (Heard : Type 0) (answer : Answer) → (state_of new).pairs ≡ (state_of mid).pairs
      → after ≡ files → done ≡ steps → IfDone answer (λ status. status ≡ 0)
      → (Heard → IfDone answer (λ _. out ≡ printed ++ dry_page plan (state_of mid).pairs))
      → IfDone answer (RanDryOver plan Heard old now (G.content end))
  ran_dry Heard answer same files_are steps_are zero page =
      done_both (λ status. status ≡ 0) _ (RanDryOver plan Heard old now (G.content end)) answer
      (λ status none said. dry_record Heard status same files_are steps_are none said)
      zero (done_under answer Heard _ page)

  pub stops_dry : (answer : Answer) → (state_of new).pairs ≡ (state_of mid).pairs
      → after ≡ files → done ≡ steps
      → IfFault answer (StopsDry plan (state_of mid).pairs printed out)
      → IfFault answer (StopsDryOver plan before old now (G.content end))
  stops_dry answer same files_are steps_are stops =
      if_fault answer _ (StopsDryOver plan before old now (G.content end))
      (λ cause line stop. record {
        holds = none_holds same;
        files = files_are;
        steps = steps_are;
        stopped = subst (λ (l : List Pair). StopsDry plan l printed out cause line) pairs_are stop;
      }) stops

  -- ---- where the run puts what is due

  module _ (valid : IsValidPlan plan) (behaved : IsWellBehaved book)
      (inputs : HoldsInputs plan files) (starts : StartWith (frames_in new) (coming_in new)) where
    ready : IsTrusted book plan before → IsReady (setting_of plan opening)
    ready trust = is_ready plan opening valid behaved inputs
        (subst (λ (l : List Pair). IsTrusted book plan l) (sym pairs_are) trust)

    room_is : (state_of new).room ≡ now.held.free
    room_is = room_end file mid new opened keeps end given told starts

    pub ran_live : (Heard : Type 0) (answer : Answer)
        → (IsReady (setting_of plan opening) → IfDone answer (Ran plan opening after
        (state_of new).pairs (state_of new).room done Heard printed out))
        → IfDone answer (RanOver book plan Heard old now (G.content end))
    ran_live Heard answer ran =
        let (added, is, holds) = holds_end file mid new opened keeps end given told in
        done_as _ (RanOver book plan Heard old now (G.content end)) answer
        (λ status by. record {
          before = before;
          opened = held_is;
          added = added;
          holds = holds;
          ran = λ trust. moved (λ p l n. Ran plan (opening_at book old p) after l n done Heard
              printed out status)
              (state_of mid).pairs before (state_of new).pairs (before ++ added)
              (state_of new).room now.held.free pairs_are is room_is (by (ready trust));
        })
        (done_under answer (IsReady (setting_of plan opening)) _ ran)

    pub stops_live : (Heard : Type 0) (answer : Answer)
        → (IsReady (setting_of plan opening) → IfFault answer (StopsOver plan opening after
        (state_of new).pairs (state_of new).room done Heard printed out))
        → IfFault answer (StopsLive book plan before Heard old now (G.content end))
    stops_live Heard answer stops =
        let (added, is, holds) = holds_end file mid new opened keeps end given told in
        if_fault answer _ (StopsLive book plan before Heard old now (G.content end))
        (λ cause line by. record {
          added = added;
          holds = holds;
          stopped = λ trust. moved (λ p l n. StopsOver plan (opening_at book old p) after l n done
              Heard printed out cause line)
              (state_of mid).pairs before (state_of new).pairs (before ++ added)
              (state_of new).room now.held.free pairs_are is room_is (by (ready trust));
        })
        (within answer (IsReady (setting_of plan opening)) _ stops)

    -- ---- at each moment

    safe_added : (view : List Pair)
        → HasSafePairs plan opening (state_of new).room done (Some view)
        → (added : List Pair) × (view ≡ before ++ added)
        × IsDueBy false book plan old now before added
    safe_added view (pairs, said, safe) =
        let added : List Pair = map (clean_pair (setting_of plan opening)) safe.put in
        let is : pairs ≡ before ++ added =
        safe.pairs_are ∙ ap (λ (l : List Pair). l ++ added) pairs_are in (
          added,
          some_same said ∙ is,
          moved (λ p l n. IsSafe plan (opening_at book old p) n done l)
              (state_of mid).pairs before pairs (before ++ added) (state_of new).room
              now.held.free pairs_are is room_is safe,
        )

    pub left_live : IsTrusted book plan before
        → (IsReady (setting_of plan opening) → Leaves moment_of left_of mid new
        (λ image. HasSafePairs plan opening (state_of new).room done image.pairs))
        → LeavesOnly G.moment G.images_since file end
        (IsOneOrAddedTo G file old (IsDueBy false book plan old now))
    left_live trust left =
        left_end file mid new opened keeps end given told
        (HasSafePairs plan opening (state_of new).room done)
        (λ safe. no_some safe.1) (left (ready trust)) old held_is
        (IsDueBy false book plan old now) safe_added

  dry_added : (view : List Pair) → Some view ≡ Some (state_of mid).pairs
      → (added : List Pair) × (view ≡ before ++ added)
      × IsDueBy true book plan old now before added
  dry_added view is =
      ([], some_same is ∙ pairs_are ∙ sym (append-nil before), refl)

  pub left_dry : Leaves moment_of left_of mid new (λ image. image.pairs ≡ Some (state_of mid).pairs)
      → LeavesOnly G.moment G.images_since file end
      (IsOneOrAddedTo G file old (IsDueBy true book plan old now))
  left_dry left =
      left_end file mid new opened keeps end given told
      (λ (o : Option (List Pair)). o ≡ Some (state_of mid).pairs) no_some left old held_is
      (IsDueBy true book plan old now) dry_added

  further_added : (view : List Pair) → IsFurther (state_of mid).pairs (Some view)
      → (added : List Pair) × (view ≡ before ++ added) × ⊤
  further_added view (more, is) =
      (more, some_same is ∙ ap (λ (l : List Pair). l ++ more) pairs_are, tt)

  -- whether it is trusted or not
  pub left_further : Leaves moment_of left_of mid new
      (λ image. IsFurther (state_of mid).pairs image.pairs)
      → LeavesOnly G.moment G.images_since file end (IsOneOrAddedTo G file old (λ _ _. ⊤))
  left_further left =
      left_end file mid new opened keeps end given told (IsFurther (state_of mid).pairs)
      (λ further. no_some further.1) left old held_is (λ _ _. ⊤) further_added

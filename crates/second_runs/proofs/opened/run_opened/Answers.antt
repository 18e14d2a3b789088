-- What a run over a relay says of its stores.
use Rattle.std.proofs.Common.{◌≡◌, ◌∙◌, ℕ, Bool, true, false, List, ◌++◌, Some, refl, ap, subst}
use Rattle.std.proofs.Math.Path.{transport}
use Rattle.std.specs.Prelude.{IsTrue, ⊤}
use Rattle.store_dev.specs.Device.{LeavesOnly}
use Rattle.store_dev.specs.Moments as device
use Rattle.store_dev.specs.declared.device.StoreDevice.{Ghosts}
use Rattle.cache_api.specs.Moments.{Leaves}
use Rattle.cache_api.specs.Moments as cache
use Rattle.cache_api.specs.Pairs.{Pair}
use Rattle.spawn_dev.specs.declared.command.Step.{Step}
use Rattle.artifact_store.specs.Pairs.{told_as}
use Rattle.cli_words.specs.declared.order.Access.{Access}
use Rattle.relay_store.specs.declared.relay.Relay.{Relay}
use Rattle.relay_store.specs.Laws.{GoesOn, Says}
use Rattle.relay_store.specs.Relays.{all_pairs, base_of, state_of, moment_of as clock_of, left_of, says}
use Rattle.relay_store.specs.Stores.{state_in, moment_in, images_in}
use Rattle.run_laws.specs.Effects.{Book}
use Rattle.run_laws.specs.Runs.{IsReady}
use Rattle.run_plan.specs.declared.plan.Plan.{Plan}
use Rattle.run_plan.specs.Answers.{Ran, IsSafe}
use Rattle.run_plan.specs.DryPages.{dry_page}
use Rattle.run_plan.specs.Openings.{setting_of}
use Rattle.runner.specs.Answers.{HasSafePairs, IsFurther}
use Rattle.answers.specs.Answers.{IfDone, HasRunCause, counts_at}
use Rattle.answers.specs.Moments.{moment_of}
use Rattle.answers.specs.Stops.{IfFault}
use Rattle.cache_runs.specs.Openings.{IsTrusted, IsTrustedRun, opening_at}
use Rattle.cache_runs.specs.Stops.{StopsRun}
use Rattle.cache_runs.proofs.Finished.{dry_done, live_done, done_as}
use Rattle.cache_runs.proofs.Ready.{is_ready}
use Rattle.cache_runs.proofs.Stopped.{stops_dry, stops_live}
use Rattle.second_runs.specs.Images.{IsLeftBy}
use Rattle.second_runs.specs.Moments.{Moment, both_of}
use Rattle.second_runs.specs.Opened.{held_of}
use Rattle.second_runs.specs.Outcomes.{AreStores, RanPlan, RanPlanDry, RanSecond}
use Rattle.second_runs.proofs.Behind.{goes_behind, goes_left, goes_same, both_added}
use Rattle.second_runs.proofs.Relaying.{local_there, second_there, room_stays, faults_began}
use Rattle.second_runs.proofs.Relaying.{faults_end, local_stays, second_stays}
use Rattle.second_runs.proofs.Relaying.{local_goes_on, second_goes_on}
use Rattle.second_runs.proofs.opened.run_opened.Goals as goal

-- ---- the stores

pub returns-clause-whole : goal.returns-clause-whole
returns-clause-whole g c =
    done_as _ _ c.run_over-answer.result.0 (λ status whole. c.parts-local.ensures.whole whole)
    c.run_over-answer.ensures.whole

pub returns-clause-local_there : goal.returns-clause-local_there
returns-clause-local_there g c =
    local_there c.new-cache.result c.run_over-answer.result.1 c.args.access c.args.local c.args.second
    c.parts-local.result c.new-cache.ensures.stores c.parts-local.ensures.stores
    c.new-cache.ensures.access c.run_over-answer.ensures.keeps.base

pub returns-clause-second_there : goal.returns-clause-second_there
returns-clause-second_there g c =
    second_there c.new-cache.result c.run_over-answer.result.1 c.args.access c.args.local c.args.second
    c.parts-local.result c.new-cache.ensures.stores c.parts-local.ensures.stores
    c.new-cache.ensures.access c.run_over-answer.ensures.keeps.base

pub returns-clause-cause : goal.returns-clause-cause
returns-clause-cause g c =
    let old = faults_began c.new-cache.result c.run_over-answer.result.1 c.args.access c.args.local c.args.second
    c.parts-local.result c.new-cache.ensures.stores c.parts-local.ensures.stores
    c.new-cache.ensures.access c.run_over-answer.ensures.keeps.base in
    let new = faults_end c.new-cache.result c.run_over-answer.result.1 c.args.access c.args.local c.args.second
    c.parts-local.result c.new-cache.ensures.stores c.parts-local.ensures.stores
    c.new-cache.ensures.access c.run_over-answer.ensures.keeps.base in
    transport (λ i. HasRunCause
    (counts_at (g.W.Tree.state c.args.world.now) (g.W.Spawner.runs c.args.world.now) (old i) (g.K.Sink.faults c.args.out.now))
    (counts_at (g.W.Tree.state c.run_over-answer.new.world) (g.W.Spawner.runs c.run_over-answer.new.world) (new i) (g.K.Sink.faults c.run_over-answer.new.out))
    c.run_over-answer.result.0) c.run_over-answer.ensures.cause

-- ---- a run that came to its end

pub returns-clause-ran : goal.returns-clause-ran
returns-clause-ran g c told t u held is_local is_second = by c.args.is_dry refl
  where
    plan : Plan
    plan = c.args.plan.now

    access : Access
    access = c.args.access

    book : Book
    book = g.W.Spawner.effect (g.W.Spawner.runs c.args.world.now).book

    all : List Pair
    all = all_pairs access c.args.local c.args.second

    before : (state_of c.new-cache.result).pairs ≡ all
    before = c.new-cache.ensures.pairs t u

    after : List Pair
    after = (state_of c.run_over-answer.result.1).pairs

    both : AreStores held
    both = record { local = (state_in c.args.local).pairs; second = (state_in c.args.second).pairs; local_is = is_local; second_is = is_second }

    old : Moment
    old = moment_of (g.W.Tree.state c.args.world.now) (g.W.Spawner.runs c.args.world.now) held (g.K.Sink.written c.args.out.now)

    new : Moment
    new = moment_of (g.W.Tree.state c.run_over-answer.new.world) (g.W.Spawner.runs c.run_over-answer.new.world) (both_of (held_of c.parts-local.result.0) (held_of c.parts-local.result.1)) (g.K.Sink.written c.run_over-answer.new.out)

    ready : IsTrusted book plan all → IsReady (setting_of plan (opening_at book old all))
    ready = is_ready plan (opening_at book old all) c.requires.plan
        (g.met.W.Spawner.well_behaved (g.W.Spawner.runs c.args.world.now).book)
        (c.requires.inputs told)

    local_now : IsTrue (state_of c.run_over-answer.result.1).whole → GoesOn access.local_puts all (state_in c.args.local).pairs (λ pairs. pairs ≡ after) (Some (state_in c.parts-local.result.0).pairs)
    local_now whole =
        local_stays c.new-cache.result c.run_over-answer.result.1 access c.args.local c.args.second
        c.parts-local.result c.new-cache.ensures.stores c.parts-local.ensures.stores
        c.new-cache.ensures.access c.run_over-answer.ensures.keeps.base t u (c.new-cache.ensures.local_pairs t) (c.new-cache.ensures.second_pairs u) after
        (c.parts-local.ensures.local t u whole)

    second_now : IsTrue (state_of c.run_over-answer.result.1).whole → GoesOn access.second_puts all (state_in c.args.second).pairs (λ pairs. pairs ≡ after) (Some (state_in c.parts-local.result.1).pairs)
    second_now whole =
        second_stays c.new-cache.result c.run_over-answer.result.1 access c.args.local c.args.second
        c.parts-local.result c.new-cache.ensures.stores c.parts-local.ensures.stores
        c.new-cache.ensures.access c.run_over-answer.ensures.keeps.base t u (c.new-cache.ensures.local_pairs t) (c.new-cache.ensures.second_pairs u) after
        (c.parts-local.ensures.second t u whole)

    by : (dry : Bool) → c.args.is_dry ≡ dry → IfDone c.run_over-answer.result.0 (RanSecond dry access book plan g.K.Sink.tells old new)
    by true is =
        let still : after ≡ all = rw is at (c.run_over-answer.ensures.dry_pairs (t, u)) ∙ before in
        dry_done (RanPlanDry access plan g.K.Sink.tells old new) c.run_over-answer.result.0 c.run_over-answer.ensures.whole (rw is at c.run_over-answer.ensures.dry_status) (λ heard. rw is at (c.run_over-answer.ensures.dry_page (t, u) heard))
        (λ status whole zero page. record {
          both = both;
          local = goes_same access.local_puts all (state_in c.args.local).pairs _
              (subst (λ (l : List Pair). GoesOn access.local_puts all (state_in c.args.local).pairs (λ pairs. pairs ≡ l) (Some (state_in c.parts-local.result.0).pairs)) still (local_now whole));
          second = goes_same access.second_puts all (state_in c.args.second).pairs _
              (subst (λ (l : List Pair). GoesOn access.second_puts all (state_in c.args.second).pairs (λ pairs. pairs ≡ l) (Some (state_in c.parts-local.result.1).pairs)) still (second_now whole));
          files = rw is at c.run_over-answer.ensures.dry_files;
          steps = rw is at c.run_over-answer.ensures.dry_steps;
          page_is = λ heard. page heard ∙ ap (λ (l : List Pair). old.printed ++ dry_page plan l) before;
          status_is = zero;
        })
    by false is =
        let ran = subst (λ (l : List Pair). IsReady (setting_of plan (opening_at book old l)) → IfDone c.run_over-answer.result.0 (Ran plan (opening_at book old l) new.files after (state_of c.run_over-answer.result.1).room new.steps g.K.Sink.tells old.printed new.printed)) before (rw is at (c.run_over-answer.ensures.ran told (t, u))) in
        live_done _ (RanPlan access book plan g.K.Sink.tells old new) c.run_over-answer.result.0 c.run_over-answer.ensures.whole ran
        (λ status whole ended.
        let a = both_added access.local_puts access.second_puts all (state_in c.args.local).pairs (state_in c.args.second).pairs after
        (state_in c.parts-local.result.0).pairs (state_in c.parts-local.result.1).pairs c.requires.access.puts (local_now whole) (second_now whole) in
        record {
          both = both;
          added = a.added;
          local = a.local_is;
          second = a.second_is;
          room = (state_of c.run_over-answer.result.1).room;
          room_is = room_stays c.new-cache.result c.run_over-answer.result.1 access c.args.local c.args.second
              c.parts-local.result c.new-cache.ensures.stores c.parts-local.ensures.stores
              c.new-cache.ensures.access c.run_over-answer.ensures.keeps.base;
          ran = λ trust. subst (λ (l : List Pair). Ran plan (opening_at book old all) new.files l
              (state_of c.run_over-answer.result.1).room new.steps g.K.Sink.tells old.printed
              new.printed status) a.now_is (ended (ready trust));
        })

-- ---- a run that was stopped

pub returns-clause-stopped : goal.returns-clause-stopped
returns-clause-stopped g c told t u heard held kept = by c.args.is_dry refl
  where
    plan : Plan
    plan = c.args.plan.now

    book : Book
    book = g.W.Spawner.effect (g.W.Spawner.runs c.args.world.now).book

    all : List Pair
    all = all_pairs c.args.access c.args.local c.args.second

    before : (state_of c.new-cache.result).pairs ≡ all
    before = c.new-cache.ensures.pairs t u

    old : Moment
    old = moment_of (g.W.Tree.state c.args.world.now) (g.W.Spawner.runs c.args.world.now) held (g.K.Sink.written c.args.out.now)

    new : Moment
    new = moment_of (g.W.Tree.state c.run_over-answer.new.world) (g.W.Spawner.runs c.run_over-answer.new.world) kept (g.K.Sink.written c.run_over-answer.new.out)

    by : (dry : Bool) → c.args.is_dry ≡ dry → IfFault c.run_over-answer.result.0
        (StopsRun dry book plan all g.K.Sink.tells old new)
    by true is =
        let run = c.run_over-answer in
        stops_dry plan book old new (state_of c.new-cache.result).pairs all before g.K.Sink.tells
        run.result.0 (rw is at run.ensures.dry_files) (rw is at run.ensures.dry_steps)
        (rw is at (run.ensures.dry_stopped (t, u) heard))
    by false is =
        let run = c.run_over-answer in
        stops_live plan book old new (state_of c.new-cache.result).pairs all before g.K.Sink.tells
        run.result.0 c.requires.plan
        (g.met.W.Spawner.well_behaved (g.W.Spawner.runs c.args.world.now).book)
        (c.requires.inputs told) (state_of run.result.1).pairs (state_of run.result.1).room
        (rw is at (run.ensures.stopped told (t, u) heard))

-- ---- at every moment

-- whatever is said is some list of pairs
some_said : {S R : Type 0} {G : Ghosts S} {H : Ghosts R} (old new : Relay S R G H)
    → Leaves clock_of left_of old new (λ image. IsFurther (state_of old).pairs (says (base_of old) image))
    → Leaves clock_of left_of old new (λ image. Says (λ _. ⊤) (says (base_of old) image))
some_said old new leaves =
    cache.leaves_more clock_of left_of old new _ _ leaves
    (λ image further. let (more, is) = further in ((state_of old).pairs ++ more, is, tt))

pub returns-clause-local_sound : goal.returns-clause-local_sound
returns-clause-local_sound g c t u =
    device.leaves_more moment_in images_in c.args.local c.parts-local.result.0 _ _
    (local_goes_on c.new-cache.result c.run_over-answer.result.1 c.args.access c.args.local c.args.second
    c.parts-local.result c.new-cache.ensures.stores c.parts-local.ensures.stores
    c.new-cache.ensures.access c.run_over-answer.ensures.keeps.base t u (c.new-cache.ensures.local_pairs t) (c.new-cache.ensures.second_pairs u)
    (λ _. ⊤) (some_said c.new-cache.result c.run_over-answer.result.1 (c.run_over-answer.ensures.images (t, u))))
    (λ image goes. goes_behind c.args.access.local_puts _ (state_in c.args.local).pairs _ _ goes)

pub returns-clause-second_sound : goal.returns-clause-second_sound
returns-clause-second_sound g c t u =
    device.leaves_more moment_in images_in c.args.second c.parts-local.result.1 _ _
    (second_goes_on c.new-cache.result c.run_over-answer.result.1 c.args.access c.args.local c.args.second
    c.parts-local.result c.new-cache.ensures.stores c.parts-local.ensures.stores
    c.new-cache.ensures.access c.run_over-answer.ensures.keeps.base t u (c.new-cache.ensures.local_pairs t) (c.new-cache.ensures.second_pairs u)
    (λ _. ⊤) (some_said c.new-cache.result c.run_over-answer.result.1 (c.run_over-answer.ensures.images (t, u))))
    (λ image goes. goes_behind c.args.access.second_puts _ (state_in c.args.second).pairs _ _ goes)

-- a dry run leaves the pairs of the cache
same_said : {S R : Type 0} {G : Ghosts S} {H : Ghosts R} (old new : Relay S R G H) (all : List Pair)
    → (state_of old).pairs ≡ all
    → Leaves clock_of left_of old new (λ image. says (base_of old) image ≡ Some (state_of old).pairs)
    → Leaves clock_of left_of old new (λ image. Says (λ pairs. pairs ≡ all) (says (base_of old) image))
same_said old new all before leaves =
    cache.leaves_more clock_of left_of old new _ _ leaves
    (λ image is. ((state_of old).pairs, is, before))

pub returns-clause-local_left : goal.returns-clause-local_left
returns-clause-local_left g c told t u held trusted = by c.args.is_dry refl trusted
  where
    plan : Plan
    plan = c.args.plan.now

    book : Book
    book = g.W.Spawner.effect (g.W.Spawner.runs c.args.world.now).book

    all : List Pair
    all = all_pairs c.args.access c.args.local c.args.second

    before : (state_of c.new-cache.result).pairs ≡ all
    before = c.new-cache.ensures.pairs t u

    old : Moment
    old = moment_of (g.W.Tree.state c.args.world.now) (g.W.Spawner.runs c.args.world.now) held (g.K.Sink.written c.args.out.now)

    steps : List Step
    steps = (g.W.Spawner.runs c.run_over-answer.new.world).steps

    room : ℕ
    room = (state_of c.run_over-answer.result.1).room

    ready : IsTrusted book plan all → IsReady (setting_of plan (opening_at book old all))
    ready = is_ready plan (opening_at book old all) c.requires.plan
        (g.met.W.Spawner.well_behaved (g.W.Spawner.runs c.args.world.now).book)
        (c.requires.inputs told)

    goes : (P : List Pair → Type 0) → Leaves clock_of left_of c.new-cache.result c.run_over-answer.result.1 (λ image. Says P (says (base_of c.new-cache.result) image))
        → LeavesOnly moment_in images_in c.args.local c.parts-local.result.0 (λ image. GoesOn c.args.access.local_puts all (state_in c.args.local).pairs P (told_as (state_in c.args.local).base image))
    goes P leaves =
        local_goes_on c.new-cache.result c.run_over-answer.result.1 c.args.access c.args.local c.args.second
        c.parts-local.result c.new-cache.ensures.stores c.parts-local.ensures.stores
        c.new-cache.ensures.access c.run_over-answer.ensures.keeps.base t u (c.new-cache.ensures.local_pairs t) (c.new-cache.ensures.second_pairs u) P leaves

    by : (dry : Bool) → c.args.is_dry ≡ dry → IsTrustedRun dry book plan all
        → LeavesOnly moment_in images_in c.args.local c.parts-local.result.0 (λ image. IsLeftBy dry c.args.access.local_puts book plan old steps all (state_in c.args.local).pairs (told_as (state_in c.args.local).base image))
    by true is trust =
        device.leaves_more moment_in images_in c.args.local c.parts-local.result.0 _ _
        (goes (λ pairs. pairs ≡ all) (same_said c.new-cache.result c.run_over-answer.result.1 all before (rw is at (c.run_over-answer.ensures.dry_left (t, u)))))
        (λ image same. goes_same c.args.access.local_puts all (state_in c.args.local).pairs _ same)
    by false is trust =
        let live = subst (λ (l : List Pair). IsReady (setting_of plan (opening_at book old l)) → Leaves clock_of left_of c.new-cache.result c.run_over-answer.result.1 (λ image. HasSafePairs plan (opening_at book old l) room steps (says (base_of c.new-cache.result) image))) before (rw is at (c.run_over-answer.ensures.left told (t, u))) in
        device.leaves_more moment_in images_in c.args.local c.parts-local.result.0 _ _
        (goes (λ pairs. IsSafe plan (opening_at book old all) room steps pairs) (live (ready trust)))
        (λ image safe. goes_left c.args.access.local_puts plan (opening_at book old all) room steps (state_in c.args.local).pairs _ safe)

pub returns-clause-second_left : goal.returns-clause-second_left
returns-clause-second_left g c told t u held trusted = by c.args.is_dry refl trusted
  where
    plan : Plan
    plan = c.args.plan.now

    book : Book
    book = g.W.Spawner.effect (g.W.Spawner.runs c.args.world.now).book

    all : List Pair
    all = all_pairs c.args.access c.args.local c.args.second

    before : (state_of c.new-cache.result).pairs ≡ all
    before = c.new-cache.ensures.pairs t u

    old : Moment
    old = moment_of (g.W.Tree.state c.args.world.now) (g.W.Spawner.runs c.args.world.now) held (g.K.Sink.written c.args.out.now)

    steps : List Step
    steps = (g.W.Spawner.runs c.run_over-answer.new.world).steps

    room : ℕ
    room = (state_of c.run_over-answer.result.1).room

    ready : IsTrusted book plan all → IsReady (setting_of plan (opening_at book old all))
    ready = is_ready plan (opening_at book old all) c.requires.plan
        (g.met.W.Spawner.well_behaved (g.W.Spawner.runs c.args.world.now).book)
        (c.requires.inputs told)

    goes : (P : List Pair → Type 0) → Leaves clock_of left_of c.new-cache.result c.run_over-answer.result.1 (λ image. Says P (says (base_of c.new-cache.result) image))
        → LeavesOnly moment_in images_in c.args.second c.parts-local.result.1 (λ image. GoesOn c.args.access.second_puts all (state_in c.args.second).pairs P (told_as (state_in c.args.second).base image))
    goes P leaves =
        second_goes_on c.new-cache.result c.run_over-answer.result.1 c.args.access c.args.local c.args.second
        c.parts-local.result c.new-cache.ensures.stores c.parts-local.ensures.stores
        c.new-cache.ensures.access c.run_over-answer.ensures.keeps.base t u (c.new-cache.ensures.local_pairs t) (c.new-cache.ensures.second_pairs u) P leaves

    by : (dry : Bool) → c.args.is_dry ≡ dry → IsTrustedRun dry book plan all
        → LeavesOnly moment_in images_in c.args.second c.parts-local.result.1 (λ image. IsLeftBy dry c.args.access.second_puts book plan old steps all (state_in c.args.second).pairs (told_as (state_in c.args.second).base image))
    by true is trust =
        device.leaves_more moment_in images_in c.args.second c.parts-local.result.1 _ _
        (goes (λ pairs. pairs ≡ all) (same_said c.new-cache.result c.run_over-answer.result.1 all before (rw is at (c.run_over-answer.ensures.dry_left (t, u)))))
        (λ image same. goes_same c.args.access.second_puts all (state_in c.args.second).pairs _ same)
    by false is trust =
        let live = subst (λ (l : List Pair). IsReady (setting_of plan (opening_at book old l)) → Leaves clock_of left_of c.new-cache.result c.run_over-answer.result.1 (λ image. HasSafePairs plan (opening_at book old l) room steps (says (base_of c.new-cache.result) image))) before (rw is at (c.run_over-answer.ensures.left told (t, u))) in
        device.leaves_more moment_in images_in c.args.second c.parts-local.result.1 _ _
        (goes (λ pairs. IsSafe plan (opening_at book old all) room steps pairs) (live (ready trust)))
        (λ image safe. goes_left c.args.access.second_puts plan (opening_at book old all) room steps (state_in c.args.second).pairs _ safe)

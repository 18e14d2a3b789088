-- What stopped, dry or not.
use Rattle.std.proofs.Common.{◌≡◌, ℕ, Bool, true, false, List, refl, ◌∙◌, ap, Some}
use Rattle.cache_api.specs.Pairs.{Pair}
use Rattle.run_laws.specs.Effects.{Book}
use Rattle.run_laws.specs.Runs.{IsReady}
use Rattle.run_plan.specs.declared.plan.Plan.{Plan}
use Rattle.run_plan.specs.Openings.{Opening, setting_of}
use Rattle.runner.specs.Answers.{HasSafePairs, IsFurther, opening_of}
use Rattle.spawn_dev.specs.declared.command.Step.{Step}
use Rattle.store_dev.specs.Device.{LeavesOnly}
use Rattle.artifact_store.specs.Store.{device_of, state_of}
use Rattle.artifact_store.specs.Pairs.{told_as}
use Rattle.answers.specs.Answers.{IfDone}
use Rattle.cache_runs.specs.Openings.{IsTrusted, IsTrustedRun}
use Rattle.run_orders.specs.Images.{IsLeftByRun}
use Rattle.answers.specs.Moments.{Moment, moment_of}
use Rattle.run_orders.specs.Outcomes.{RanAs, RanPlan, RanPlanDry}
use Rattle.answers.specs.Stops.{IfFault}
use Rattle.cache_runs.specs.Stops.{StopsRun}
use Rattle.cache_runs.proofs.Finished.{done_as, dry_done, live_done}
use Rattle.cache_runs.proofs.Ready.{is_ready}
use Rattle.cache_runs.proofs.Stopped.{stops_dry, stops_live}
use Rattle.run_orders.proofs.Left.{handed}
use Rattle.store_answers.specs.Stores.{held_by}
use Rattle.run_orders.proofs.over_store.run_store.Goals as goal

pub returns-clause-stopped : goal.returns-clause-stopped
returns-clause-stopped g c told store heard held kept = by c.args.is_dry refl
  where
    plan : Plan
    plan = c.args.plan.now

    pairs : List Pair
    pairs = (state_of c.args.store).pairs

    book : Book
    book = g.W.Spawner.effect (g.W.Spawner.runs c.args.world.now).book

    old : Moment
    old = moment_of (g.W.Tree.state c.args.world.now) (g.W.Spawner.runs c.args.world.now) held
        (g.K.Sink.written c.args.out.now)

    new : Moment
    new = moment_of (g.W.Tree.state c.run_over-answer.new.world)
        (g.W.Spawner.runs c.run_over-answer.new.world) kept
        (g.K.Sink.written c.run_over-answer.new.out)

    by : (dry : Bool) → c.args.is_dry ≡ dry → IfFault c.run_over-answer.result.0
        (StopsRun dry book plan pairs g.K.Sink.tells old new)
    by true is =
        stops_dry plan book old new pairs pairs refl g.K.Sink.tells c.run_over-answer.result.0
        (rw is at c.run_over-answer.ensures.dry_files)
        (rw is at c.run_over-answer.ensures.dry_steps)
        (rw is at (c.run_over-answer.ensures.dry_stopped store heard))
    by false is =
        let after = state_of c.run_over-answer.result.1 in
        stops_live plan book old new pairs pairs refl g.K.Sink.tells c.run_over-answer.result.0
        c.requires.plan
        (g.met.W.Spawner.well_behaved (g.W.Spawner.runs c.args.world.now).book)
        (c.requires.inputs told) after.pairs after.room
        (rw is at (c.run_over-answer.ensures.stopped told store heard))

pub returns-clause-ran : goal.returns-clause-ran
returns-clause-ran g c told store held opened = by c.args.is_dry refl
  where
    plan : Plan
    plan = c.args.plan.now

    pairs : List Pair
    pairs = (state_of c.args.store).pairs

    book : Book
    book = g.W.Spawner.effect (g.W.Spawner.runs c.args.world.now).book

    old : Moment
    old = moment_of (g.W.Tree.state c.args.world.now) (g.W.Spawner.runs c.args.world.now) held
        (g.K.Sink.written c.args.out.now)

    new : Moment
    new = moment_of (g.W.Tree.state c.run_over-answer.new.world)
        (g.W.Spawner.runs c.run_over-answer.new.world)
        (held_by (g.S.StoreDevice.content c.device.result))
        (g.K.Sink.written c.run_over-answer.new.out)

    opening : Opening
    opening = opening_of g.W.Spawner.effect (g.W.Spawner.runs c.args.world.now)
        (g.W.Tree.state c.args.world.now) (state_of c.args.store)

    ready : IsTrusted book plan pairs → IsReady (setting_of plan opening)
    ready = is_ready plan opening c.requires.plan (g.met.W.Spawner.well_behaved
        (g.W.Spawner.runs c.args.world.now).book) (c.requires.inputs told)

    by : (dry : Bool) → c.args.is_dry ≡ dry → IfDone c.run_over-answer.result.0
        (RanAs dry book plan g.K.Sink.tells old new)
    by true is =
        dry_done (RanPlanDry plan g.K.Sink.tells old new) c.run_over-answer.result.0
        c.run_over-answer.ensures.whole (rw is at c.run_over-answer.ensures.dry_status)
        (λ heard. rw is at (c.run_over-answer.ensures.dry_page store heard))
        (λ status whole zero page. record {
          pairs = pairs;
          opened = opened;
          left = c.device.ensures.pairs store whole ∙ ap (λ (l : List Pair). Some l)
              (rw is at (c.run_over-answer.ensures.dry_pairs store));
          files = rw is at c.run_over-answer.ensures.dry_files;
          steps = rw is at c.run_over-answer.ensures.dry_steps;
          page_is = page;
          status_is = zero;
        })
    by false is =
        live_done _ (RanPlan book plan g.K.Sink.tells old new) c.run_over-answer.result.0
        c.run_over-answer.ensures.whole (rw is at (c.run_over-answer.ensures.ran told store))
        (λ status whole ran. record {
          before = pairs;
          opened = opened;
          after = (state_of c.run_over-answer.result.1).pairs;
          left = c.device.ensures.pairs store whole;
          room = (state_of c.run_over-answer.result.1).room;
          room_is = c.device.ensures.free store whole;
          ran = λ trust. ran (ready trust);
        })

pub returns-clause-sound : goal.returns-clause-sound
returns-clause-sound g c store =
    let base = (state_of c.args.store).base in
    let pairs = (state_of c.args.store).pairs in
    handed c.args.store c.run_over-answer.result.1 c.device.result c.device.ensures.device
    (λ image. IsFurther pairs (told_as base image)) _
    (c.run_over-answer.ensures.images store) (λ image further. further)

pub returns-clause-lasts : goal.returns-clause-lasts
returns-clause-lasts g c store = done_as _ _ c.run_over-answer.result.0
    (λ status whole. c.device.ensures.lasts store whole) c.run_over-answer.ensures.whole

pub returns-clause-left : goal.returns-clause-left
returns-clause-left g c told store trusted = by c.args.is_dry refl trusted
  where
    plan : Plan
    plan = c.args.plan.now

    pairs : List Pair
    pairs = (state_of c.args.store).pairs

    base : ℕ
    base = (state_of c.args.store).base

    book : Book
    book = g.W.Spawner.effect (g.W.Spawner.runs c.args.world.now).book

    opening : Opening
    opening = opening_of g.W.Spawner.effect (g.W.Spawner.runs c.args.world.now)
        (g.W.Tree.state c.args.world.now) (state_of c.args.store)

    steps : List Step
    steps = (g.W.Spawner.runs c.run_over-answer.new.world).steps

    room : ℕ
    room = (state_of c.run_over-answer.result.1).room

    ready : IsTrusted book plan pairs → IsReady (setting_of plan opening)
    ready = is_ready plan opening c.requires.plan (g.met.W.Spawner.well_behaved
        (g.W.Spawner.runs c.args.world.now).book) (c.requires.inputs told)

    by : (dry : Bool) → c.args.is_dry ≡ dry → IsTrustedRun dry book plan pairs
        → LeavesOnly g.S.StoreDevice.moment g.S.StoreDevice.images_since (device_of c.args.store)
        c.device.result (λ image. IsLeftByRun dry plan opening steps (told_as base image))
    by true is trust =
        handed c.args.store c.run_over-answer.result.1 c.device.result c.device.ensures.device
        (λ image. told_as base image ≡ Some pairs) _
        (rw is at (c.run_over-answer.ensures.dry_left store)) (λ image said. said)
    by false is trust =
        let live = rw is at (c.run_over-answer.ensures.left told store) in
        handed c.args.store c.run_over-answer.result.1 c.device.result c.device.ensures.device
        (λ image. HasSafePairs plan opening room steps (told_as base image)) _
        (live (ready trust)) (λ image safe. (room, safe))

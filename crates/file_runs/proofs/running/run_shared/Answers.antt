-- A run over a shared file, which was opened or not.
use Rattle.std.proofs.Common.{◌≡◌, inl, inr, ℕ, Bool, true, false, List, Some, refl}
use Rattle.cache_api.specs.Pairs.{Pair}
use Rattle.pair_frames.specs.Pairs.{pairs_in}
use Rattle.run_laws.specs.Effects.{Book}
use Rattle.run_plan.specs.declared.plan.Plan.{Plan}
use Rattle.run_plan.specs.Answers.{Cause}
use Rattle.shared_runs.specs.Frames.{HoldsOneOrMore}
use Rattle.shared_runs.specs.Shared.{state_of}
use Rattle.runner.specs.Answers.{IsFurther}
use Rattle.store_dev.specs.Device.{LeavesOnly}
use Rattle.store_dev.specs.Moments.{leaves_more}
use Rattle.answers.specs.Answers.{IfDone}
use Rattle.answers.specs.Facts.{if_fault, if_refused}
use Rattle.answers.specs.Moments.{Moment}
use Rattle.answers.specs.Stops.{IfFault}
use Rattle.refusals.specs.declared.refusal.StoreFile.TheVariants.{Shared}
use Rattle.store_answers.specs.Facts.{no_store, no_some}
use Rattle.store_answers.specs.Refused.{IsNoStore}
use Rattle.cache_runs.specs.Openings.{IsTrustedRun}
use Rattle.cache_runs.proofs.Finished.{done_as}
use Rattle.cache_runs.proofs.Stopped.{unstarted}
use Rattle.file_runs.specs.Images.{IsOneOrAddedTo, IsDueBy}
use Rattle.file_runs.specs.Outcomes.{RanAs}
use Rattle.file_runs.specs.Stops.{StopsOpening}
use Rattle.file_runs.specs.Turns.{at_moment}
use Rattle.file_runs.proofs.Ending.{cause_unopened, cause_end, only_end, held_first, sound_end}
use Rattle.file_runs.proofs.Leaving.{goes_leaves}
use Rattle.file_runs.proofs.Outcomes.{ran_dry, ran_live, stops_dry, stops_live, left_dry, left_live, left_further}
use Rattle.file_runs.proofs.running.run_shared.Goals as goal

-- ---- where it was not opened

pub returns-in-Err-clause-cause : goal.returns-in-Err-clause-cause
returns-in-Err-clause-cause g c =
    let tree = (g.W.Tree.state c.args.world.now).faults in
    let start = (g.W.Spawner.runs c.args.world.now).faults in
    let before = g.H.Shared.store_faults c.args.shared in
    let after = g.H.Shared.store_faults c.in-Err.field-0.store in
    cause_unopened tree start (g.K.Sink.faults c.args.out.now) (g.K.Sink.faults c.unopened.new.out)
    before after c.unopened.result
    (c.unopened.ensures.cause tree start before after c.in-Err.ensures.unopened.cause)

pub returns-in-Err-clause-refused : goal.returns-in-Err-clause-refused
returns-in-Err-clause-refused g c store =
    if_refused c.unopened.result _ _
    (no_store Shared c.in-Err.field-0.fault (g.H.Shared.content c.args.shared)
    (c.in-Err.ensures.unopened.fault store)) c.unopened.ensures.refused

pub returns-in-Err-clause-stopped : goal.returns-in-Err-clause-stopped
returns-in-Err-clause-stopped g c told store heard =
    if_fault c.unopened.result _ _
    (λ cause line early. inl (unstarted _ _
    (no_store Shared c.in-Err.field-0.fault (g.H.Shared.content c.args.shared)
    (c.in-Err.ensures.unopened.fault store)) _ _ refl refl cause line early))
    (c.unopened.ensures.stopped heard)

pub returns-in-Err-clause-sound : goal.returns-in-Err-clause-sound
returns-in-Err-clause-sound g c store = (c.in-Err.ensures.unopened.images store).sound

pub returns-in-Err-clause-grows : goal.returns-in-Err-clause-grows
returns-in-Err-clause-grows g c store =
    let h = g.H.Shared in
    let shared = c.args.shared in
    let one = HoldsOneOrMore (h.images shared) (h.content shared) (h.coming shared) in
    leaves_more h.moment h.images_since shared c.in-Err.field-0.store one _
    (goes_leaves h.moment h.images_since shared c.in-Err.field-0.store one
    (c.in-Err.ensures.unopened.images store).goes) (λ image was. inl was)

pub returns-in-Err-clause-left : goal.returns-in-Err-clause-left
returns-in-Err-clause-left g c told store trusted =
    let h = g.H.Shared in
    let shared = c.args.shared in
    let one = HoldsOneOrMore (h.images shared) (h.content shared) (h.coming shared) in
    leaves_more h.moment h.images_since shared c.in-Err.field-0.store one _
    (goes_leaves h.moment h.images_since shared c.in-Err.field-0.store one
    (c.in-Err.ensures.unopened.images store).goes) (λ image was. inl was)

-- ---- where the run went over it

pub returns-in-Ok-clause-cause : goal.returns-in-Ok-clause-cause
returns-in-Ok-clause-cause g c =
    let run = c.run_over-answer in
    cause_end c.args.shared c.in-Ok.opened run.result.1 c.in-Ok.ensures.opened run.ensures.keeps
    c.shared.result c.shared.ensures.file
    (g.W.Tree.state c.args.world.now).faults (g.W.Spawner.runs c.args.world.now).faults
    (g.K.Sink.faults c.args.out.now) (g.W.Tree.state run.new.world).faults
    (g.W.Spawner.runs run.new.world).faults (g.K.Sink.faults run.new.out) run.result.0
    run.ensures.cause

pub returns-in-Ok-clause-lasts : goal.returns-in-Ok-clause-lasts
returns-in-Ok-clause-lasts g c store =
    let run = c.run_over-answer in
    done_as _ _ run.result.0
    (λ status whole. only_end c.args.shared c.in-Ok.opened run.result.1 c.in-Ok.ensures.opened
    run.ensures.keeps c.shared.result c.shared.ensures.file store whole)
    run.ensures.whole

pub returns-in-Ok-clause-sound : goal.returns-in-Ok-clause-sound
returns-in-Ok-clause-sound g c store =
    let run = c.run_over-answer in
    sound_end c.args.shared c.in-Ok.opened run.result.1 c.in-Ok.ensures.opened
    run.ensures.keeps c.shared.result c.shared.ensures.file store
    (IsFurther (state_of c.in-Ok.opened).pairs) (λ further. no_some further.1)
    (run.ensures.images store)

pub returns-in-Ok-clause-grows : goal.returns-in-Ok-clause-grows
returns-in-Ok-clause-grows g c store =
    let run = c.run_over-answer in
    let runs = g.W.Spawner.runs c.args.world.now in
    left_further c.args.shared c.in-Ok.opened run.result.1 c.in-Ok.ensures.opened
    run.ensures.keeps c.shared.result c.shared.ensures.file store
    c.args.plan.now (g.W.Spawner.effect runs.book) (g.W.Tree.state c.args.world.now).files
    (g.W.Tree.state run.new.world).files runs.steps (g.W.Spawner.runs run.new.world).steps
    (g.K.Sink.written c.args.out.now) (g.K.Sink.written run.new.out)
    (run.ensures.images store)

-- what it left, dry or not
pub returns-in-Ok-clause-ran : goal.returns-in-Ok-clause-ran
returns-in-Ok-clause-ran g c told store = by c.args.is_dry refl
  where
    plan : Plan
    plan = c.args.plan.now

    book : Book
    book = g.W.Spawner.effect (g.W.Spawner.runs c.args.world.now).book

    old : Moment
    old = at_moment g.W.Tree.state g.W.Spawner.runs g.H.Shared.content g.H.Shared.coming
        g.K.Sink.written c.args.world.now c.args.shared c.args.out.now

    now : Moment
    now = at_moment g.W.Tree.state g.W.Spawner.runs g.H.Shared.content g.H.Shared.coming
        g.K.Sink.written c.run_over-answer.new.world c.shared.result c.run_over-answer.new.out

    by : (dry : Bool) → c.args.is_dry ≡ dry → IfDone c.run_over-answer.result.0
        (RanAs dry book plan g.K.Sink.tells old now (g.H.Shared.content c.shared.result))
    by true is =
        let run = c.run_over-answer in
        ran_dry c.args.shared c.in-Ok.opened run.result.1 c.in-Ok.ensures.opened
        run.ensures.keeps c.shared.result c.shared.ensures.file store plan book old.files now.files
        old.steps now.steps old.printed now.printed g.K.Sink.tells run.result.0
        (rw is at (run.ensures.dry_pairs store)) (rw is at run.ensures.dry_files)
        (rw is at run.ensures.dry_steps) (rw is at run.ensures.dry_status)
        (λ heard. rw is at (run.ensures.dry_page store heard))
    by false is =
        let run = c.run_over-answer in
        ran_live c.args.shared c.in-Ok.opened run.result.1 c.in-Ok.ensures.opened
        run.ensures.keeps c.shared.result c.shared.ensures.file store plan book old.files now.files
        old.steps now.steps old.printed now.printed c.requires.plan
        (g.met.W.Spawner.well_behaved (g.W.Spawner.runs c.args.world.now).book)
        (c.requires.inputs told)
        (g.met.H.Shared.stays run.result.1.turns.shared store (run.result.1.sees store).sound)
        g.K.Sink.tells run.result.0 (rw is at (run.ensures.ran told store))

pub returns-in-Ok-clause-stopped : goal.returns-in-Ok-clause-stopped
returns-in-Ok-clause-stopped g c told store heard = by c.args.is_dry refl
  where
    plan : Plan
    plan = c.args.plan.now

    book : Book
    book = g.W.Spawner.effect (g.W.Spawner.runs c.args.world.now).book

    old : Moment
    old = at_moment g.W.Tree.state g.W.Spawner.runs g.H.Shared.content g.H.Shared.coming
        g.K.Sink.written c.args.world.now c.args.shared c.args.out.now

    now : Moment
    now = at_moment g.W.Tree.state g.W.Spawner.runs g.H.Shared.content g.H.Shared.coming
        g.K.Sink.written c.run_over-answer.new.world c.shared.result c.run_over-answer.new.out

    before : List Pair
    before = pairs_in (g.H.Shared.coming c.args.shared)

    opened : old.held.pairs ≡ Some before
    opened = held_first c.args.shared c.in-Ok.opened c.run_over-answer.result.1
        c.in-Ok.ensures.opened c.run_over-answer.ensures.keeps c.shared.result
        c.shared.ensures.file store

    Stops : Bool → Cause → List ℕ → Type 0
    Stops dry = StopsOpening (IsNoStore Shared (g.H.Shared.content c.args.shared)) dry book plan
        g.K.Sink.tells old now (g.H.Shared.content c.shared.result)

    by : (dry : Bool) → c.args.is_dry ≡ dry → IfFault c.run_over-answer.result.0 (Stops dry)
    by true is =
        let run = c.run_over-answer in
        if_fault run.result.0 _ (Stops true) (λ cause line stops. inr (before, opened, stops))
        (stops_dry c.args.shared c.in-Ok.opened run.result.1 c.in-Ok.ensures.opened
        run.ensures.keeps c.shared.result c.shared.ensures.file store plan book old.files now.files
        old.steps now.steps old.printed now.printed run.result.0
        (rw is at (run.ensures.dry_pairs store)) (rw is at run.ensures.dry_files)
        (rw is at run.ensures.dry_steps) (rw is at (run.ensures.dry_stopped store heard)))
    by false is =
        let run = c.run_over-answer in
        if_fault run.result.0 _ (Stops false) (λ cause line stops. inr (before, opened, stops))
        (stops_live c.args.shared c.in-Ok.opened run.result.1 c.in-Ok.ensures.opened
        run.ensures.keeps c.shared.result c.shared.ensures.file store plan book old.files now.files
        old.steps now.steps old.printed now.printed c.requires.plan
        (g.met.W.Spawner.well_behaved (g.W.Spawner.runs c.args.world.now).book)
        (c.requires.inputs told)
        (g.met.H.Shared.stays run.result.1.turns.shared store (run.result.1.sees store).sound)
        g.K.Sink.tells run.result.0 (rw is at (run.ensures.stopped told store heard)))

pub returns-in-Ok-clause-left : goal.returns-in-Ok-clause-left
returns-in-Ok-clause-left g c told store trusted =
    by c.args.is_dry refl (trusted before opened)
  where
    plan : Plan
    plan = c.args.plan.now

    book : Book
    book = g.W.Spawner.effect (g.W.Spawner.runs c.args.world.now).book

    old : Moment
    old = at_moment g.W.Tree.state g.W.Spawner.runs g.H.Shared.content g.H.Shared.coming
        g.K.Sink.written c.args.world.now c.args.shared c.args.out.now

    now : Moment
    now = at_moment g.W.Tree.state g.W.Spawner.runs g.H.Shared.content g.H.Shared.coming
        g.K.Sink.written c.run_over-answer.new.world c.shared.result c.run_over-answer.new.out

    before : List Pair
    before = pairs_in (g.H.Shared.coming c.args.shared)

    opened : old.held.pairs ≡ Some before
    opened = held_first c.args.shared c.in-Ok.opened c.run_over-answer.result.1
        c.in-Ok.ensures.opened c.run_over-answer.ensures.keeps c.shared.result
        c.shared.ensures.file store

    by : (dry : Bool) → c.args.is_dry ≡ dry → IsTrustedRun dry book plan before
        → LeavesOnly g.H.Shared.moment g.H.Shared.images_since c.args.shared c.shared.result
        (IsOneOrAddedTo g.H.Shared c.args.shared old (IsDueBy dry book plan old now))
    by true is trust =
        let run = c.run_over-answer in
        left_dry c.args.shared c.in-Ok.opened run.result.1 c.in-Ok.ensures.opened
        run.ensures.keeps c.shared.result c.shared.ensures.file store plan book old.files now.files
        old.steps now.steps old.printed now.printed (rw is at (run.ensures.dry_left store))
    by false is trust =
        let run = c.run_over-answer in
        left_live c.args.shared c.in-Ok.opened run.result.1 c.in-Ok.ensures.opened
        run.ensures.keeps c.shared.result c.shared.ensures.file store plan book old.files now.files
        old.steps now.steps old.printed now.printed c.requires.plan
        (g.met.W.Spawner.well_behaved (g.W.Spawner.runs c.args.world.now).book)
        (c.requires.inputs told)
        (g.met.H.Shared.stays run.result.1.turns.shared store (run.result.1.sees store).sound)
        trust (rw is at (run.ensures.left told store))

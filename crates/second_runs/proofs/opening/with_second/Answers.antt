-- The second store is opened, and its device is handed back.
use Rattle.std.proofs.Common.{◌+◌, ℕ, List, inl, inr, refl, sym, ap, subst, arith}
use Rattle.std.proofs.Math.Path.{transport}
use Rattle.std.specs.Prelude.{Option, IsTrue}
use Rattle.cache_api.specs.Pairs.{Pair}
use Rattle.record_log.specs.Frames.{ReadsAsOneOf}
use Rattle.artifact_store.specs.Store.{device_of, lengths_of, state_of}
use Rattle.artifact_store.specs.Pairs.{told_as}
use Rattle.compact.specs.Current.{generation_in}
use Rattle.store_dev.specs.Moments.{leaves_more, leaves_then}
use Rattle.relay_store.specs.Stores.{state_in}
use Rattle.refusals.specs.declared.refusal.StoreFile.TheVariants as file
use Rattle.answers.specs.Answers.{HasRunCause, counts_at}
use Rattle.answers.specs.Facts.{cause_of_run, if_fault, if_refused}
use Rattle.answers.specs.Moments.{Held, moment_of}
use Rattle.cache_runs.proofs.Causes.{cause_in_sum}
use Rattle.cache_runs.proofs.Finished.{done_as, done_both}
use Rattle.cache_runs.proofs.Stopped.{unstarted}
use Rattle.store_answers.specs.Facts.{no_store}
use Rattle.store_answers.specs.Stores.{held_by}
use Rattle.second_runs.specs.Images.{IsLeftBy, IsLeftInSecond}
use Rattle.second_runs.specs.Moments.{both_of}
use Rattle.second_runs.specs.Opened.{held_of}
use Rattle.second_runs.specs.Outcomes.{AreStores, RanSecond, pairs_of}
use Rattle.second_runs.proofs.Handing.{access_by, faults_of, handed, opened_adds, opened_generation, unopened_reread}
use Rattle.second_runs.proofs.Reading.{reads_add, reads_left}
use Rattle.second_runs.proofs.opening.with_second.Goals as goal

-- ---- it was opened

pub run_opened-answer-requires-clause-access : goal.run_opened-answer-requires-clause-access
run_opened-answer-requires-clause-access g c =
    access_by c.args.access c.args.local c.args.second c.in-Ok.opened c.requires.access

pub returns-in-Ok-clause-whole : goal.returns-in-Ok-clause-whole
returns-in-Ok-clause-whole g c =
    done_as _ _ c.run_opened-answer.result.0 (λ status whole. whole.0) c.run_opened-answer.ensures.whole

pub returns-in-Ok-clause-ran : goal.returns-in-Ok-clause-ran
returns-in-Ok-clause-ran g c told t u own is =
    let pairs = c.in-Ok.ensures.opened.pairs u in
    let held = both_of own (held_by (g.R.StoreDevice.content c.args.second)) in
    let runs = g.W.Spawner.runs c.args.world.now in
    let book = g.W.Spawner.effect runs.book in
    let old = moment_of (g.W.Tree.state c.args.world.now) runs held (g.K.Sink.written c.args.out.now) in
    let ran = c.run_opened-answer.ensures.ran told t u held is pairs in
    let Now : Held → ℕ → Type 0 = λ h status. RanSecond c.args.is_dry c.args.access book c.args.plan.now g.K.Sink.tells old
    (moment_of (g.W.Tree.state c.run_opened-answer.new.world) (g.W.Spawner.runs c.run_opened-answer.new.world) (both_of (held_of c.run_opened-answer.result.1) h) (g.K.Sink.written c.run_opened-answer.new.out)) status in
    done_both (λ status. IsTrue (state_in c.run_opened-answer.result.1).whole × IsTrue (state_in c.run_opened-answer.result.2).whole)
    (Now (held_of c.run_opened-answer.result.2)) (Now (held_by (g.R.StoreDevice.content c.device_in.result))) c.run_opened-answer.result.0
    (λ status whole was. subst (λ (h : Held). Now h status) (sym (c.device_in.ensures.held u whole.1)) was)
    c.run_opened-answer.ensures.whole ran

pub returns-in-Ok-clause-lasts : goal.returns-in-Ok-clause-lasts
returns-in-Ok-clause-lasts g c u =
    done_as _ _ c.run_opened-answer.result.0 (λ status whole. c.device_in.ensures.lasts u whole.1) c.run_opened-answer.ensures.whole

pub returns-in-Ok-clause-stopped : goal.returns-in-Ok-clause-stopped
returns-in-Ok-clause-stopped g c told t u heard own is kept =
    let pairs = c.in-Ok.ensures.opened.pairs u in
    let held = both_of own (held_by (g.R.StoreDevice.content c.args.second)) in
    let both : AreStores held = record { local = (state_in c.args.local).pairs; second = (state_of c.in-Ok.opened).pairs; local_is = is; second_is = pairs } in
    if_fault c.run_opened-answer.result.0 _ _ (λ cause line stops. inr (both, stops))
    (c.run_opened-answer.ensures.stopped told t u heard held kept)

pub returns-in-Ok-clause-sound : goal.returns-in-Ok-clause-sound
returns-in-Ok-clause-sound g c t u = inr (c.run_opened-answer.ensures.local_sound t u)

pub returns-in-Ok-clause-second_sound : goal.returns-in-Ok-clause-second_sound
returns-in-Ok-clause-second_sound g c t u =
    opened_adds c.args.second (lengths_of c.in-Ok.opened) c.in-Ok.opened c.in-Ok.ensures.opened u c.args.access.second_puts
    (g.met.R.StoreDevice.as_it_reads c.args.second u) c.device_in.result
    (handed c.in-Ok.opened c.run_opened-answer.result.2 c.device_in.result c.device_in.ensures.device _ (c.run_opened-answer.ensures.second_sound t u))

pub returns-in-Ok-clause-left : goal.returns-in-Ok-clause-left
returns-in-Ok-clause-left g c told t u own is trusted =
    let pairs = c.in-Ok.ensures.opened.pairs u in
    let held = both_of own (held_by (g.R.StoreDevice.content c.args.second)) in
    let both : AreStores held = record { local = (state_in c.args.local).pairs; second = (state_of c.in-Ok.opened).pairs; local_is = is; second_is = pairs } in
    inr (leaves_more _ _ c.args.local c.run_opened-answer.result.1 _ _
    (c.run_opened-answer.ensures.local_left told t u held (trusted both)) (λ image left. (both, left)))

pub returns-in-Ok-clause-second_left : goal.returns-in-Ok-clause-second_left
returns-in-Ok-clause-second_left g c told t u own is trusted =
    let r = g.R.StoreDevice in
    let images = r.images c.args.second in
    let opened = c.in-Ok.ensures.opened in
    let held = both_of own (held_by (r.content c.args.second)) in
    let both : AreStores held = record { local = (state_in c.args.local).pairs; second = (state_of c.in-Ok.opened).pairs; local_is = is; second_is = opened.pairs u } in
    let runs = g.W.Spawner.runs c.args.world.now in
    let old = moment_of (g.W.Tree.state c.args.world.now) runs held (g.K.Sink.written c.args.out.now) in
    let steps = (g.W.Spawner.runs c.run_opened-answer.new.world).steps in
    let left = λ (told_pairs : Option (List Pair)). IsLeftBy c.args.is_dry c.args.access.second_puts (g.W.Spawner.effect runs.book) c.args.plan.now old steps (pairs_of c.args.access both) both.second told_pairs in
    leaves_then r.moment r.images_since c.args.second (device_of c.in-Ok.opened) c.device_in.result (ReadsAsOneOf images)
    (λ image. left (told_as (state_of c.in-Ok.opened).base image))
    (IsLeftInSecond c.args.is_dry c.args.access (g.W.Spawner.effect runs.book) c.args.plan.now old steps (generation_in (r.content c.args.second)) images)
    (opened.images u)
    (handed c.in-Ok.opened c.run_opened-answer.result.2 c.device_in.result c.device_in.ensures.device _ (c.run_opened-answer.ensures.second_left told t u held (trusted both)))
    (λ image one. inl one)
    (λ image was. inr (both, subst (λ (n : ℕ). left (told_as n image)) (opened_generation c.args.second (lengths_of c.in-Ok.opened) c.in-Ok.opened opened u) was))

pub returns-in-Ok-clause-cause : goal.returns-in-Ok-clause-cause
returns-in-Ok-clause-cause g c =
    let local = (state_in c.args.local).faults in
    let old = ap (λ (n : ℕ). local + n) c.in-Ok.ensures.opened.cause in
    let new = ap (λ (n : ℕ). (state_in c.run_opened-answer.result.1).faults + n) (faults_of c.run_opened-answer.result.2 c.device_in.result c.device_in.ensures.device) in
    transport (λ i. HasRunCause
    (counts_at (g.W.Tree.state c.args.world.now) (g.W.Spawner.runs c.args.world.now) (old i) (g.K.Sink.faults c.args.out.now))
    (counts_at (g.W.Tree.state c.run_opened-answer.new.world) (g.W.Spawner.runs c.run_opened-answer.new.world) (new i) (g.K.Sink.faults c.run_opened-answer.new.out))
    c.run_opened-answer.result.0) c.run_opened-answer.ensures.cause

-- ---- it was not

pub returns-in-Err-clause-refused : goal.returns-in-Err-clause-refused
returns-in-Err-clause-refused g c u =
    if_refused c.unopened.result _ _
    (no_store file.Second c.in-Err.field-0.fault (g.R.StoreDevice.content c.args.second) (c.in-Err.ensures.unopened.fault u))
    c.unopened.ensures.refused

pub returns-in-Err-clause-reread : goal.returns-in-Err-clause-reread
returns-in-Err-clause-reread g c u =
    if_refused c.unopened.result _ _
    (λ reason is. unopened_reread c.args.second c.in-Err.field-0 c.in-Err.ensures.unopened u) c.unopened.ensures.refused

pub returns-in-Err-clause-kept : goal.returns-in-Err-clause-kept
returns-in-Err-clause-kept g c = if_refused c.unopened.result _ _ (λ reason is. refl) c.unopened.ensures.refused

pub returns-in-Err-clause-stopped : goal.returns-in-Err-clause-stopped
returns-in-Err-clause-stopped g c told t u heard own is kept =
    if_fault c.unopened.result _ _
    (λ cause line early. inl (unstarted _ _
    (no_store file.Second c.in-Err.field-0.fault (g.R.StoreDevice.content c.args.second)
    (c.in-Err.ensures.unopened.fault u)) _ _ refl refl cause line early))
    (c.unopened.ensures.stopped heard)

pub returns-in-Err-clause-sound : goal.returns-in-Err-clause-sound
returns-in-Err-clause-sound g c t u = inl refl

pub returns-in-Err-clause-second_sound : goal.returns-in-Err-clause-second_sound
returns-in-Err-clause-second_sound g c t u =
    reads_add g.R.StoreDevice c.args.second c.in-Err.field-0.store (c.in-Err.ensures.unopened.images u) c.args.access.second_puts

pub returns-in-Err-clause-left : goal.returns-in-Err-clause-left
returns-in-Err-clause-left g c told t u own is trusted = inl refl

pub returns-in-Err-clause-second_left : goal.returns-in-Err-clause-second_left
returns-in-Err-clause-second_left g c told t u own is trusted =
    reads_left g.R.StoreDevice c.args.second c.in-Err.field-0.store (c.in-Err.ensures.unopened.images u) _

pub returns-in-Err-clause-cause : goal.returns-in-Err-clause-cause
returns-in-Err-clause-cause g c =
    let tree = (g.W.Tree.state c.args.world.now).faults in
    let start = (g.W.Spawner.runs c.args.world.now).faults in
    let before = g.R.StoreDevice.store_faults c.args.second in
    let after = g.R.StoreDevice.store_faults c.in-Err.field-0.store in
    cause_in_sum tree tree start start (g.K.Sink.faults c.args.out.now)
    (g.K.Sink.faults c.unopened.new.out) before after (state_in c.args.local).faults _ _
    c.unopened.result (omega arith) (omega arith)
    (cause_of_run _ _ c.unopened.result
    (c.unopened.ensures.cause tree start before after c.in-Err.ensures.unopened.cause))

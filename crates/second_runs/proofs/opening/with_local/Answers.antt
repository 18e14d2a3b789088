-- The local store is opened, and its device is handed back.
use Rattle.std.proofs.Common.{◌+◌, ℕ, List, inl, inr, refl, sym, ap, subst}
use Rattle.std.proofs.Math.Path.{transport}
use Rattle.std.specs.Prelude.{Option, IsTrue}
use Rattle.cache_api.specs.Pairs.{Pair}
use Rattle.artifact_store.specs.Store.{lengths_of, state_of}
use Rattle.artifact_store.specs.Pairs.{told_as}
use Rattle.compact.specs.Current.{generation_in}
use Rattle.relay_store.specs.Stores.{state_in}
use Rattle.answers.specs.Answers.{HasRunCause, counts_at}
use Rattle.answers.specs.Facts.{cause_of_run, if_fault, if_refused}
use Rattle.answers.specs.Moments.{Held, moment_of}
use Rattle.cache_runs.proofs.Causes.{cause_in_sum}
use Rattle.cache_runs.proofs.Finished.{done_as, done_both}
use Rattle.cache_runs.proofs.Stopped.{unstarted}
use Rattle.store_answers.specs.Facts.{no_store}
use Rattle.store_answers.specs.Stores.{held_by}
use Rattle.second_runs.specs.Images.{AddsTo, IsLeftOfLocal, IsLeftInLocal}
use Rattle.second_runs.specs.Moments.{both_of}
use Rattle.second_runs.specs.Opened.{held_of}
use Rattle.second_runs.specs.Outcomes.{RanSecond}
use Rattle.second_runs.proofs.Handing.{access_both, faults_of, further, kept_reread, opened_generation, opened_sound, stays_or, unopened_reread}
use Rattle.second_runs.proofs.Reading.{alone, alone_reread, reads_add, reads_left}
use Rattle.second_runs.proofs.Stopping.{stops_as}
use Rattle.second_runs.proofs.opening.with_local.Goals as goal

-- ---- it was opened

pub with_second-answer-requires-clause-access : goal.with_second-answer-requires-clause-access
with_second-answer-requires-clause-access g c =
    access_both c.args.access c.args.local c.args.second c.in-Ok.opened c.args.second c.requires.access

pub returns-in-Ok-clause-ran : goal.returns-in-Ok-clause-ran
returns-in-Ok-clause-ran g c told t u =
    let own = held_by (g.D.StoreDevice.content c.args.local) in
    let held = both_of own (held_by (g.R.StoreDevice.content c.args.second)) in
    let runs = g.W.Spawner.runs c.args.world.now in
    let book = g.W.Spawner.effect runs.book in
    let old = moment_of (g.W.Tree.state c.args.world.now) runs held (g.K.Sink.written c.args.out.now) in
    let ran = c.with_second-answer.ensures.ran told t u own (c.in-Ok.ensures.opened.pairs t) in
    let Now : Held → ℕ → Type 0 = λ h status. RanSecond c.args.is_dry c.args.access book c.args.plan.now g.K.Sink.tells old
    (moment_of (g.W.Tree.state c.with_second-answer.new.world) (g.W.Spawner.runs c.with_second-answer.new.world) (both_of h (held_by (g.R.StoreDevice.content c.with_second-answer.result.2))) (g.K.Sink.written c.with_second-answer.new.out)) status in
    done_both (λ status. IsTrue (state_in c.with_second-answer.result.1).whole)
    (Now (held_of c.with_second-answer.result.1)) (Now (held_by (g.D.StoreDevice.content c.device_in.result))) c.with_second-answer.result.0
    (λ status whole was. subst (λ (h : Held). Now h status) (sym (c.device_in.ensures.held t whole)) was)
    c.with_second-answer.ensures.whole ran

pub returns-in-Ok-clause-lasts : goal.returns-in-Ok-clause-lasts
returns-in-Ok-clause-lasts g c t =
    done_as _ _ c.with_second-answer.result.0 (λ status whole. c.device_in.ensures.lasts t whole) c.with_second-answer.ensures.whole

pub returns-in-Ok-clause-refused : goal.returns-in-Ok-clause-refused
returns-in-Ok-clause-refused g c t u =
    if_refused c.with_second-answer.result.0 _ _
    (λ reason bad. inr (opened_sound c.args.local (lengths_of c.in-Ok.opened) c.in-Ok.opened c.in-Ok.ensures.opened t, bad))
    (c.with_second-answer.ensures.refused u)

pub returns-in-Ok-clause-reread : goal.returns-in-Ok-clause-reread
returns-in-Ok-clause-reread g c t =
    if_refused c.with_second-answer.result.0 _ _
    (λ reason kept. kept_reread c.args.local (lengths_of c.in-Ok.opened) c.in-Ok.opened c.in-Ok.ensures.opened t c.with_second-answer.result.1 c.device_in.result c.device_in.ensures.device kept)
    c.with_second-answer.ensures.kept

pub returns-in-Ok-clause-stopped : goal.returns-in-Ok-clause-stopped
returns-in-Ok-clause-stopped g c told t u heard kept =
    let sound = opened_sound c.args.local (lengths_of c.in-Ok.opened) c.in-Ok.opened c.in-Ok.ensures.opened t in
    if_fault c.with_second-answer.result.0 _ _
    (stops_as _ _ (λ reason bad. inr (sound, bad)) c.args.is_dry c.args.access _ c.args.plan.now _ _ _)
    (c.with_second-answer.ensures.stopped told t u heard (held_by (g.D.StoreDevice.content c.args.local)) (c.in-Ok.ensures.opened.pairs t) kept)

pub returns-in-Ok-clause-sound : goal.returns-in-Ok-clause-sound
returns-in-Ok-clause-sound g c t u =
    stays_or c.args.local (lengths_of c.in-Ok.opened) c.in-Ok.opened c.in-Ok.ensures.opened t c.with_second-answer.result.1 c.device_in.result c.device_in.ensures.device
    _ (AddsTo c.args.access.local_puts (g.D.StoreDevice.images c.args.local)) (c.with_second-answer.ensures.sound t u)
    (λ image one. let (d, now, is) = one in (d, now, inl is))
    (further c.args.local (lengths_of c.in-Ok.opened) c.in-Ok.opened c.in-Ok.ensures.opened t c.args.access.local_puts (g.met.D.StoreDevice.as_it_reads c.args.local t))

pub returns-in-Ok-clause-left : goal.returns-in-Ok-clause-left
returns-in-Ok-clause-left g c told t u trusted =
    let d = g.D.StoreDevice in
    let own = held_by (d.content c.args.local) in
    let held = both_of own (held_by (g.R.StoreDevice.content c.args.second)) in
    let opened = c.in-Ok.ensures.opened in
    let runs = g.W.Spawner.runs c.args.world.now in
    let old = moment_of (g.W.Tree.state c.args.world.now) runs held (g.K.Sink.written c.args.out.now) in
    let steps = (g.W.Spawner.runs c.with_second-answer.new.world).steps in
    let left = λ (told_pairs : Option (List Pair)). IsLeftOfLocal c.args.is_dry c.args.access (g.W.Spawner.effect runs.book) c.args.plan.now old steps told_pairs in
    stays_or c.args.local (lengths_of c.in-Ok.opened) c.in-Ok.opened opened t c.with_second-answer.result.1 c.device_in.result c.device_in.ensures.device
    (λ image. left (told_as (state_of c.in-Ok.opened).base image))
    (IsLeftInLocal c.args.is_dry c.args.access (g.W.Spawner.effect runs.book) c.args.plan.now old steps (generation_in (d.content c.args.local)) (d.images c.args.local))
    (c.with_second-answer.ensures.left told t u own (opened.pairs t) trusted)
    (λ image one. inl one)
    (λ image was. inr (subst (λ (n : ℕ). left (told_as n image)) (opened_generation c.args.local (lengths_of c.in-Ok.opened) c.in-Ok.opened opened t) was))

pub returns-in-Ok-clause-second_left : goal.returns-in-Ok-clause-second_left
returns-in-Ok-clause-second_left g c told t u trusted =
    c.with_second-answer.ensures.second_left told t u (held_by (g.D.StoreDevice.content c.args.local)) (c.in-Ok.ensures.opened.pairs t) trusted

pub returns-in-Ok-clause-cause : goal.returns-in-Ok-clause-cause
returns-in-Ok-clause-cause g c =
    let old = ap (λ (n : ℕ). n + g.R.StoreDevice.store_faults c.args.second) c.in-Ok.ensures.opened.cause in
    let new = ap (λ (n : ℕ). n + g.R.StoreDevice.store_faults c.with_second-answer.result.2) (faults_of c.with_second-answer.result.1 c.device_in.result c.device_in.ensures.device) in
    transport (λ i. HasRunCause
    (counts_at (g.W.Tree.state c.args.world.now) (g.W.Spawner.runs c.args.world.now) (old i) (g.K.Sink.faults c.args.out.now))
    (counts_at (g.W.Tree.state c.with_second-answer.new.world) (g.W.Spawner.runs c.with_second-answer.new.world) (new i) (g.K.Sink.faults c.with_second-answer.new.out))
    c.with_second-answer.result.0) c.with_second-answer.ensures.cause

-- ---- it was not

pub returns-in-Err-clause-refused : goal.returns-in-Err-clause-refused
returns-in-Err-clause-refused g c t u =
    if_refused c.unopened.result _ _
    (λ reason is. inl (no_store c.args.file c.in-Err.field-0.fault (g.D.StoreDevice.content c.args.local) (c.in-Err.ensures.unopened.fault t) reason is))
    c.unopened.ensures.refused

pub returns-in-Err-clause-reread : goal.returns-in-Err-clause-reread
returns-in-Err-clause-reread g c t =
    if_refused c.unopened.result _ _
    (λ reason is. unopened_reread c.args.local c.in-Err.field-0 c.in-Err.ensures.unopened t) c.unopened.ensures.refused

pub returns-in-Err-clause-second_reread : goal.returns-in-Err-clause-second_reread
returns-in-Err-clause-second_reread g c u =
    if_refused c.unopened.result _ _
    (λ reason is. alone_reread g.R.StoreDevice c.args.second (g.met.R.StoreDevice.only_now c.args.second)) c.unopened.ensures.refused

pub returns-in-Err-clause-stopped : goal.returns-in-Err-clause-stopped
returns-in-Err-clause-stopped g c told t u heard kept =
    if_fault c.unopened.result _ _
    (λ cause line early. inl (unstarted _ _
    (λ reason is. inl (no_store c.args.file c.in-Err.field-0.fault
    (g.D.StoreDevice.content c.args.local) (c.in-Err.ensures.unopened.fault t) reason is))
    _ _ refl refl cause line early))
    (c.unopened.ensures.stopped heard)

pub returns-in-Err-clause-sound : goal.returns-in-Err-clause-sound
returns-in-Err-clause-sound g c t u =
    reads_add g.D.StoreDevice c.args.local c.in-Err.field-0.store (c.in-Err.ensures.unopened.images t) c.args.access.local_puts

pub returns-in-Err-clause-second_sound : goal.returns-in-Err-clause-second_sound
returns-in-Err-clause-second_sound g c t u =
    reads_add g.R.StoreDevice c.args.second c.args.second (alone g.R.StoreDevice c.args.second (g.met.R.StoreDevice.only_now c.args.second)) c.args.access.second_puts

pub returns-in-Err-clause-left : goal.returns-in-Err-clause-left
returns-in-Err-clause-left g c told t u trusted =
    reads_left g.D.StoreDevice c.args.local c.in-Err.field-0.store (c.in-Err.ensures.unopened.images t) _

pub returns-in-Err-clause-second_left : goal.returns-in-Err-clause-second_left
returns-in-Err-clause-second_left g c told t u trusted =
    reads_left g.R.StoreDevice c.args.second c.args.second (alone g.R.StoreDevice c.args.second (g.met.R.StoreDevice.only_now c.args.second)) _

pub returns-in-Err-clause-cause : goal.returns-in-Err-clause-cause
returns-in-Err-clause-cause g c =
    let tree = (g.W.Tree.state c.args.world.now).faults in
    let start = (g.W.Spawner.runs c.args.world.now).faults in
    let before = g.D.StoreDevice.store_faults c.args.local in
    let after = g.D.StoreDevice.store_faults c.in-Err.field-0.store in
    cause_in_sum tree tree start start (g.K.Sink.faults c.args.out.now)
    (g.K.Sink.faults c.unopened.new.out) before after (g.R.StoreDevice.store_faults c.args.second)
    _ _ c.unopened.result refl refl
    (cause_of_run _ _ c.unopened.result
    (c.unopened.ensures.cause tree start before after c.in-Err.ensures.unopened.cause))

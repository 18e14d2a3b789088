-- A run over the current one of two stores.
use Rattle.std.proofs.Common.{◌+◌, inl, refl, arith}
use Rattle.std.proofs.Math.Path.{transport}
use Rattle.store_dev.specs.Device.{LeavesOnly}
use Rattle.compact.specs.declared.side.Side.TheVariants.{First, Spare}
use Rattle.compact.specs.Current.{generation_in}
use Rattle.answers.specs.Answers.{IfDone}
use Rattle.answers.specs.Stops.{IfFault}
use Rattle.answers.specs.Facts.{cause_of_run, if_fault, if_refused}
use Rattle.answers.specs.Moments.{moment_of}
use Rattle.cache_runs.proofs.Causes.{cause_in_sum}
use Rattle.cache_runs.proofs.Finished.{done_all, refused_all}
use Rattle.cache_runs.proofs.Stopped.{unstarted}
use Rattle.store_answers.specs.Stores.{held_by}
use Rattle.second_runs.specs.Images.{IsLeftInLocal, IsLeftInSecond, IsLeftOfLocal, IsTrustedSecond}
use Rattle.second_runs.specs.Moments.{both_of}
use Rattle.second_runs.specs.Outcomes.{RanSecond}
use Rattle.second_runs.specs.Refused.{IsNoneBehind}
use Rattle.second_runs.specs.Stops.{StopsSecond}
use Rattle.refusals.specs.declared.refusal.StoreFile.TheVariants as file
use Rattle.second_runs.proofs.Currents.{are_opened, counted_of, held_now_first, held_now_spare}
use Rattle.second_runs.proofs.Currents.{held_was_first, held_was_spare, mid_generation, none_first}
use Rattle.second_runs.proofs.Currents.{none_of, none_spare, raised_of, rests_of}
use Rattle.second_runs.proofs.Currents.{still_first, still_spare, turn_generation}
use Rattle.second_runs.proofs.Handing.{access_there}
use Rattle.second_runs.proofs.Reading.{adds_then, alone, alone_reread, ends_behind, left_then}
use Rattle.second_runs.proofs.Reading.{reads_add, reads_left, reread_then}
use Rattle.second_runs.proofs.Stopping.{stops_as}
use Rattle.second_runs.proofs.runs.over_current.Goals as goal

pub with_local-answer-requires-clause-access : goal.with_local-answer-requires-clause-access
with_local-answer-requires-clause-access g c =
    access_there c.args.access c.current-found.result.1 c.args.second c.requires.access c.requires.reads c.requires.second

pub with_local-answer-requires-in-Ok-Spare-clause-access : goal.with_local-answer-requires-in-Ok-Spare-clause-access
with_local-answer-requires-in-Ok-Spare-clause-access g c =
    access_there c.args.access c.current-found.result.2 c.args.second c.requires.access c.requires.reads c.requires.second

-- ---- the store is current

pub returns-in-Ok-First-clause-ran : goal.returns-in-Ok-First-clause-ran
returns-in-Ok-First-clause-ran g c told t v u =
    let s = g.S.StoreDevice in
    let p = g.P.StoreDevice in
    let found = c.current-found in
    let store = c.args.store in
    let spare = c.args.spare in
    let mid = found.result.1 in
    let turn = found.result.2 in
    let x = are_opened s p store mid spare turn found.result.0 c.in-Ok-First.field-0 First c.in-Ok-First.is (rw c.in-Ok-First.is at c.in-Ok-First.field-0-is) (found.ensures.side t v) (found.ensures.first t) (found.ensures.spare v) in
    let held = held_was_first s p store mid spare turn First x c.args.access c.requires.reads refl in
    let behind = ends_behind s mid c.with_local-answer.result.1 c.args.access.local_puts (c.with_local-answer.ensures.sound t u) x.first.rests.alone (g.met.S.StoreDevice.counts_now c.with_local-answer.result.1) (g.met.S.StoreDevice.as_it_reads c.with_local-answer.result.1 t) in
    let after = held_now_first s p store mid spare turn First x c.args.access c.requires.reads refl c.args.access.local_puts c.with_local-answer.result.1 behind in
    transport (λ i. IfDone c.with_local-answer.result.0 (RanSecond c.args.is_dry c.args.access (g.W.Spawner.effect (g.W.Spawner.runs c.args.world.now).book) c.args.plan.now g.K.Sink.tells
    (moment_of (g.W.Tree.state c.args.world.now) (g.W.Spawner.runs c.args.world.now) (both_of (held i) (held_by (g.R.StoreDevice.content c.args.second))) (g.K.Sink.written c.args.out.now))
    (moment_of (g.W.Tree.state c.with_local-answer.new.world) (g.W.Spawner.runs c.with_local-answer.new.world) (both_of (after i) (held_by (g.R.StoreDevice.content c.with_local-answer.result.2))) (g.K.Sink.written c.with_local-answer.new.out))))
    (c.with_local-answer.ensures.ran told t u)

pub returns-in-Ok-First-clause-current : goal.returns-in-Ok-First-clause-current
returns-in-Ok-First-clause-current g c t v u =
    let s = g.S.StoreDevice in
    let p = g.P.StoreDevice in
    let found = c.current-found in
    let store = c.args.store in
    let spare = c.args.spare in
    let mid = found.result.1 in
    let turn = found.result.2 in
    let x = are_opened s p store mid spare turn found.result.0 c.in-Ok-First.field-0 First c.in-Ok-First.is (rw c.in-Ok-First.is at c.in-Ok-First.field-0-is) (found.ensures.side t v) (found.ensures.first t) (found.ensures.spare v) in
    let behind = ends_behind s mid c.with_local-answer.result.1 c.args.access.local_puts (c.with_local-answer.ensures.sound t u) x.first.rests.alone (g.met.S.StoreDevice.counts_now c.with_local-answer.result.1) (g.met.S.StoreDevice.as_it_reads c.with_local-answer.result.1 t) in
    let still = still_first s p store mid spare turn First x c.args.access.local_puts
    c.with_local-answer.result.1 behind in
    done_all _ c.with_local-answer.result.0 (λ status. still)

pub returns-in-Ok-First-clause-spare_lasts : goal.returns-in-Ok-First-clause-spare_lasts
returns-in-Ok-First-clause-spare_lasts g c v reads =
    let s = g.S.StoreDevice in
    let p = g.P.StoreDevice in
    let found = c.current-found in
    let store = c.args.store in
    let spare = c.args.spare in
    let mid = found.result.1 in
    let turn = found.result.2 in
    let still = rests_of p spare turn found.result.0 c.in-Ok-First.field-0 c.in-Ok-First.is
    (found.ensures.spare v) in
    done_all _ c.with_local-answer.result.0 (λ status. still.rests.alone)

pub returns-in-Ok-First-clause-refused : goal.returns-in-Ok-First-clause-refused
returns-in-Ok-First-clause-refused g c t v u =
    let s = g.S.StoreDevice in
    let p = g.P.StoreDevice in
    let found = c.current-found in
    let store = c.args.store in
    let spare = c.args.spare in
    let mid = found.result.1 in
    let turn = found.result.2 in
    let x = are_opened s p store mid spare turn found.result.0 c.in-Ok-First.field-0 First c.in-Ok-First.is (rw c.in-Ok-First.is at c.in-Ok-First.field-0-is) (found.ensures.side t v) (found.ensures.first t) (found.ensures.spare v) in
    if_refused c.with_local-answer.result.0 _ _ (none_first s p store mid spare turn First x c.args.access c.requires.reads (g.R.StoreDevice.content c.args.second))
    (c.with_local-answer.ensures.refused t u)

pub returns-in-Ok-First-clause-reread : goal.returns-in-Ok-First-clause-reread
returns-in-Ok-First-clause-reread g c t =
    let s = g.S.StoreDevice in
    let p = g.P.StoreDevice in
    let found = c.current-found in
    let store = c.args.store in
    let spare = c.args.spare in
    let mid = found.result.1 in
    let turn = found.result.2 in
    if_refused c.with_local-answer.result.0 _ _ (λ reason more. reread_then s store mid (found.ensures.first_left t) (g.met.S.StoreDevice.counts_now mid) c.with_local-answer.result.1 more)
    (c.with_local-answer.ensures.reread t)

pub returns-in-Ok-First-clause-stopped : goal.returns-in-Ok-First-clause-stopped
returns-in-Ok-First-clause-stopped g c told t v u heard kept =
    let s = g.S.StoreDevice in
    let p = g.P.StoreDevice in
    let found = c.current-found in
    let store = c.args.store in
    let spare = c.args.spare in
    let mid = found.result.1 in
    let turn = found.result.2 in
    let x = are_opened s p store mid spare turn found.result.0 c.in-Ok-First.field-0 First c.in-Ok-First.is (rw c.in-Ok-First.is at c.in-Ok-First.field-0-is) (found.ensures.side t v) (found.ensures.first t) (found.ensures.spare v) in
    let held = held_was_first s p store mid spare turn First x c.args.access c.requires.reads refl in
    let known = transport (λ i. IfFault c.with_local-answer.result.0 (StopsSecond (IsNoneBehind file.Store (s.content mid) (g.R.StoreDevice.content c.args.second)) c.args.is_dry c.args.access (g.W.Spawner.effect (g.W.Spawner.runs c.args.world.now).book) c.args.plan.now g.K.Sink.tells
    (moment_of (g.W.Tree.state c.args.world.now) (g.W.Spawner.runs c.args.world.now) (both_of (held i) (held_by (g.R.StoreDevice.content c.args.second))) (g.K.Sink.written c.args.out.now))
    (moment_of (g.W.Tree.state c.with_local-answer.new.world) (g.W.Spawner.runs c.with_local-answer.new.world) kept (g.K.Sink.written c.with_local-answer.new.out))))
    (c.with_local-answer.ensures.stopped told t u heard kept) in
    if_fault c.with_local-answer.result.0 _ _
    (stops_as _ _ (none_first s p store mid spare turn First x c.args.access c.requires.reads (g.R.StoreDevice.content c.args.second)) c.args.is_dry c.args.access _ c.args.plan.now _ _ _) known

pub returns-in-Ok-First-clause-sound : goal.returns-in-Ok-First-clause-sound
returns-in-Ok-First-clause-sound g c t v u =
    let s = g.S.StoreDevice in
    let p = g.P.StoreDevice in
    let found = c.current-found in
    let store = c.args.store in
    let spare = c.args.spare in
    let mid = found.result.1 in
    let turn = found.result.2 in
    adds_then s store mid (found.ensures.first_left t) (g.met.S.StoreDevice.counts_now mid) c.args.access.local_puts c.with_local-answer.result.1 (c.with_local-answer.ensures.sound t u)

pub returns-in-Ok-First-clause-spare_sound : goal.returns-in-Ok-First-clause-spare_sound
returns-in-Ok-First-clause-spare_sound g c t v u =
    let s = g.S.StoreDevice in
    let p = g.P.StoreDevice in
    let found = c.current-found in
    let store = c.args.store in
    let spare = c.args.spare in
    let mid = found.result.1 in
    let turn = found.result.2 in
    reads_add p spare turn (found.ensures.spare_left v).images c.args.access.local_puts

pub returns-in-Ok-First-clause-left : goal.returns-in-Ok-First-clause-left
returns-in-Ok-First-clause-left g c told t v u trusted =
    let s = g.S.StoreDevice in
    let p = g.P.StoreDevice in
    let found = c.current-found in
    let store = c.args.store in
    let spare = c.args.spare in
    let mid = found.result.1 in
    let turn = found.result.2 in
    let x = are_opened s p store mid spare turn found.result.0 c.in-Ok-First.field-0 First c.in-Ok-First.is (rw c.in-Ok-First.is at c.in-Ok-First.field-0-is) (found.ensures.side t v) (found.ensures.first t) (found.ensures.spare v) in
    let held = held_was_first s p store mid spare turn First x c.args.access c.requires.reads refl in
    let known = transport (λ i. IsTrustedSecond c.args.is_dry c.args.access (g.W.Spawner.effect (g.W.Spawner.runs c.args.world.now).book) c.args.plan.now (moment_of (g.W.Tree.state c.args.world.now) (g.W.Spawner.runs c.args.world.now) (both_of (held i) (held_by (g.R.StoreDevice.content c.args.second))) (g.K.Sink.written c.args.out.now))
    → LeavesOnly s.moment s.images_since mid c.with_local-answer.result.1 (IsLeftInLocal c.args.is_dry c.args.access (g.W.Spawner.effect (g.W.Spawner.runs c.args.world.now).book) c.args.plan.now (moment_of (g.W.Tree.state c.args.world.now) (g.W.Spawner.runs c.args.world.now) (both_of (held i) (held_by (g.R.StoreDevice.content c.args.second))) (g.K.Sink.written c.args.out.now)) (g.W.Spawner.runs c.with_local-answer.new.world).steps (generation_in (s.content mid)) (s.images mid)))
    (c.with_local-answer.ensures.left told t u) in
    left_then s store mid (found.ensures.first_left t) (g.met.S.StoreDevice.counts_now mid)
    (IsLeftOfLocal c.args.is_dry c.args.access (g.W.Spawner.effect (g.W.Spawner.runs c.args.world.now).book) c.args.plan.now (moment_of (g.W.Tree.state c.args.world.now) (g.W.Spawner.runs c.args.world.now) (both_of (held 1) (held_by (g.R.StoreDevice.content c.args.second))) (g.K.Sink.written c.args.out.now)) (g.W.Spawner.runs c.with_local-answer.new.world).steps)
    (generation_in (s.content mid)) (generation_in (s.content store)) c.with_local-answer.result.1 (mid_generation s p store mid spare turn First x) (known trusted)

pub returns-in-Ok-First-clause-spare_left : goal.returns-in-Ok-First-clause-spare_left
returns-in-Ok-First-clause-spare_left g c told t v u trusted =
    let s = g.S.StoreDevice in
    let p = g.P.StoreDevice in
    let found = c.current-found in
    let store = c.args.store in
    let spare = c.args.spare in
    let mid = found.result.1 in
    let turn = found.result.2 in
    reads_left p spare turn (found.ensures.spare_left v).images _

pub returns-in-Ok-First-clause-second_left : goal.returns-in-Ok-First-clause-second_left
returns-in-Ok-First-clause-second_left g c told t v u trusted =
    let s = g.S.StoreDevice in
    let p = g.P.StoreDevice in
    let found = c.current-found in
    let store = c.args.store in
    let spare = c.args.spare in
    let mid = found.result.1 in
    let turn = found.result.2 in
    let x = are_opened s p store mid spare turn found.result.0 c.in-Ok-First.field-0 First c.in-Ok-First.is (rw c.in-Ok-First.is at c.in-Ok-First.field-0-is) (found.ensures.side t v) (found.ensures.first t) (found.ensures.spare v) in
    let held = held_was_first s p store mid spare turn First x c.args.access c.requires.reads refl in
    let r = g.R.StoreDevice in
    transport (λ i. IsTrustedSecond c.args.is_dry c.args.access (g.W.Spawner.effect (g.W.Spawner.runs c.args.world.now).book) c.args.plan.now (moment_of (g.W.Tree.state c.args.world.now) (g.W.Spawner.runs c.args.world.now) (both_of (held i) (held_by (g.R.StoreDevice.content c.args.second))) (g.K.Sink.written c.args.out.now))
    → LeavesOnly r.moment r.images_since c.args.second c.with_local-answer.result.2 (IsLeftInSecond c.args.is_dry c.args.access (g.W.Spawner.effect (g.W.Spawner.runs c.args.world.now).book) c.args.plan.now (moment_of (g.W.Tree.state c.args.world.now) (g.W.Spawner.runs c.args.world.now) (both_of (held i) (held_by (g.R.StoreDevice.content c.args.second))) (g.K.Sink.written c.args.out.now)) (g.W.Spawner.runs c.with_local-answer.new.world).steps (generation_in (r.content c.args.second)) (r.images c.args.second)))
    (c.with_local-answer.ensures.second_left told t u) trusted

pub returns-in-Ok-First-clause-cause : goal.returns-in-Ok-First-clause-cause
returns-in-Ok-First-clause-cause g c =
    let s = g.S.StoreDevice in
    let p = g.P.StoreDevice in
    let found = c.current-found in
    let store = c.args.store in
    let spare = c.args.spare in
    let mid = found.result.1 in
    let turn = found.result.2 in
    let r = g.R.StoreDevice in
    let same = counted_of (s.store_faults store) (s.store_faults mid) (p.store_faults spare) (p.store_faults turn) found.result.0 c.in-Ok-First.field-0 c.in-Ok-First.is found.ensures.cause in
    let run = c.with_local-answer in
    cause_in_sum (g.W.Tree.state c.args.world.now).faults (g.W.Tree.state run.new.world).faults
    (g.W.Spawner.runs c.args.world.now).faults (g.W.Spawner.runs run.new.world).faults
    (g.K.Sink.faults c.args.out.now) (g.K.Sink.faults run.new.out)
    (s.store_faults mid + r.store_faults c.args.second)
    (s.store_faults run.result.1 + r.store_faults run.result.2) (p.store_faults turn) _ _
    run.result.0 (omega (arith, same.0, same.1)) (omega arith) run.ensures.cause

-- ---- the spare one is current

pub returns-in-Ok-Spare-clause-ran : goal.returns-in-Ok-Spare-clause-ran
returns-in-Ok-Spare-clause-ran g c told t v u =
    let s = g.S.StoreDevice in
    let p = g.P.StoreDevice in
    let found = c.current-found in
    let store = c.args.store in
    let spare = c.args.spare in
    let mid = found.result.1 in
    let turn = found.result.2 in
    let x = are_opened s p store mid spare turn found.result.0 c.in-Ok-Spare.field-0 Spare c.in-Ok-Spare.is (rw c.in-Ok-Spare.is at c.in-Ok-Spare.field-0-is) (found.ensures.side t v) (found.ensures.first t) (found.ensures.spare v) in
    let held = held_was_spare s p store mid spare turn Spare x c.args.access c.requires.reads refl in
    let behind = ends_behind p turn c.with_local-answer-in-Ok-Spare.result.1 c.args.access.local_puts (c.with_local-answer-in-Ok-Spare.ensures.sound v u) x.second.rests.alone (g.met.P.StoreDevice.counts_now c.with_local-answer-in-Ok-Spare.result.1) (g.met.P.StoreDevice.as_it_reads c.with_local-answer-in-Ok-Spare.result.1 v) in
    let after = held_now_spare s p store mid spare turn Spare x c.args.access c.requires.reads refl c.args.access.local_puts c.with_local-answer-in-Ok-Spare.result.1 behind in
    transport (λ i. IfDone c.with_local-answer-in-Ok-Spare.result.0 (RanSecond c.args.is_dry c.args.access (g.W.Spawner.effect (g.W.Spawner.runs c.args.world.now).book) c.args.plan.now g.K.Sink.tells
    (moment_of (g.W.Tree.state c.args.world.now) (g.W.Spawner.runs c.args.world.now) (both_of (held i) (held_by (g.R.StoreDevice.content c.args.second))) (g.K.Sink.written c.args.out.now))
    (moment_of (g.W.Tree.state c.with_local-answer-in-Ok-Spare.new.world) (g.W.Spawner.runs c.with_local-answer-in-Ok-Spare.new.world) (both_of (after i) (held_by (g.R.StoreDevice.content c.with_local-answer-in-Ok-Spare.result.2))) (g.K.Sink.written c.with_local-answer-in-Ok-Spare.new.out))))
    (c.with_local-answer-in-Ok-Spare.ensures.ran told v u)

pub returns-in-Ok-Spare-clause-current : goal.returns-in-Ok-Spare-clause-current
returns-in-Ok-Spare-clause-current g c t v u =
    let s = g.S.StoreDevice in
    let p = g.P.StoreDevice in
    let found = c.current-found in
    let store = c.args.store in
    let spare = c.args.spare in
    let mid = found.result.1 in
    let turn = found.result.2 in
    let x = are_opened s p store mid spare turn found.result.0 c.in-Ok-Spare.field-0 Spare c.in-Ok-Spare.is (rw c.in-Ok-Spare.is at c.in-Ok-Spare.field-0-is) (found.ensures.side t v) (found.ensures.first t) (found.ensures.spare v) in
    let behind = ends_behind p turn c.with_local-answer-in-Ok-Spare.result.1 c.args.access.local_puts (c.with_local-answer-in-Ok-Spare.ensures.sound v u) x.second.rests.alone (g.met.P.StoreDevice.counts_now c.with_local-answer-in-Ok-Spare.result.1) (g.met.P.StoreDevice.as_it_reads c.with_local-answer-in-Ok-Spare.result.1 v) in
    let still = still_spare s p store mid spare turn Spare x c.args.access.local_puts
    c.with_local-answer-in-Ok-Spare.result.1 behind in
    done_all _ c.with_local-answer-in-Ok-Spare.result.0 (λ status. still)

pub returns-in-Ok-Spare-clause-lasts : goal.returns-in-Ok-Spare-clause-lasts
returns-in-Ok-Spare-clause-lasts g c t reads =
    let s = g.S.StoreDevice in
    let p = g.P.StoreDevice in
    let found = c.current-found in
    let store = c.args.store in
    let spare = c.args.spare in
    let mid = found.result.1 in
    let turn = found.result.2 in
    let still = rests_of s store mid found.result.0 c.in-Ok-Spare.field-0 c.in-Ok-Spare.is
    (found.ensures.first t) in
    done_all _ c.with_local-answer-in-Ok-Spare.result.0 (λ status. still.rests.alone)

pub returns-in-Ok-Spare-clause-refused : goal.returns-in-Ok-Spare-clause-refused
returns-in-Ok-Spare-clause-refused g c t v u =
    let s = g.S.StoreDevice in
    let p = g.P.StoreDevice in
    let found = c.current-found in
    let store = c.args.store in
    let spare = c.args.spare in
    let mid = found.result.1 in
    let turn = found.result.2 in
    let x = are_opened s p store mid spare turn found.result.0 c.in-Ok-Spare.field-0 Spare c.in-Ok-Spare.is (rw c.in-Ok-Spare.is at c.in-Ok-Spare.field-0-is) (found.ensures.side t v) (found.ensures.first t) (found.ensures.spare v) in
    if_refused c.with_local-answer-in-Ok-Spare.result.0 _ _ (none_spare s p store mid spare turn Spare x c.args.access c.requires.reads (g.R.StoreDevice.content c.args.second))
    (c.with_local-answer-in-Ok-Spare.ensures.refused v u)

pub returns-in-Ok-Spare-clause-spare_reread : goal.returns-in-Ok-Spare-clause-spare_reread
returns-in-Ok-Spare-clause-spare_reread g c v =
    let s = g.S.StoreDevice in
    let p = g.P.StoreDevice in
    let found = c.current-found in
    let store = c.args.store in
    let spare = c.args.spare in
    let mid = found.result.1 in
    let turn = found.result.2 in
    if_refused c.with_local-answer-in-Ok-Spare.result.0 _ _ (λ reason more. reread_then p spare turn (found.ensures.spare_left v) (g.met.P.StoreDevice.counts_now turn) c.with_local-answer-in-Ok-Spare.result.1 more)
    (c.with_local-answer-in-Ok-Spare.ensures.reread v)

pub returns-in-Ok-Spare-clause-stopped : goal.returns-in-Ok-Spare-clause-stopped
returns-in-Ok-Spare-clause-stopped g c told t v u heard kept =
    let s = g.S.StoreDevice in
    let p = g.P.StoreDevice in
    let found = c.current-found in
    let store = c.args.store in
    let spare = c.args.spare in
    let mid = found.result.1 in
    let turn = found.result.2 in
    let x = are_opened s p store mid spare turn found.result.0 c.in-Ok-Spare.field-0 Spare c.in-Ok-Spare.is (rw c.in-Ok-Spare.is at c.in-Ok-Spare.field-0-is) (found.ensures.side t v) (found.ensures.first t) (found.ensures.spare v) in
    let held = held_was_spare s p store mid spare turn Spare x c.args.access c.requires.reads refl in
    let known = transport (λ i. IfFault c.with_local-answer-in-Ok-Spare.result.0 (StopsSecond (IsNoneBehind file.Spare (p.content turn) (g.R.StoreDevice.content c.args.second)) c.args.is_dry c.args.access (g.W.Spawner.effect (g.W.Spawner.runs c.args.world.now).book) c.args.plan.now g.K.Sink.tells
    (moment_of (g.W.Tree.state c.args.world.now) (g.W.Spawner.runs c.args.world.now) (both_of (held i) (held_by (g.R.StoreDevice.content c.args.second))) (g.K.Sink.written c.args.out.now))
    (moment_of (g.W.Tree.state c.with_local-answer-in-Ok-Spare.new.world) (g.W.Spawner.runs c.with_local-answer-in-Ok-Spare.new.world) kept (g.K.Sink.written c.with_local-answer-in-Ok-Spare.new.out))))
    (c.with_local-answer-in-Ok-Spare.ensures.stopped told v u heard kept) in
    if_fault c.with_local-answer-in-Ok-Spare.result.0 _ _
    (stops_as _ _ (none_spare s p store mid spare turn Spare x c.args.access c.requires.reads (g.R.StoreDevice.content c.args.second)) c.args.is_dry c.args.access _ c.args.plan.now _ _ _) known

pub returns-in-Ok-Spare-clause-spare_sound : goal.returns-in-Ok-Spare-clause-spare_sound
returns-in-Ok-Spare-clause-spare_sound g c t v u =
    let s = g.S.StoreDevice in
    let p = g.P.StoreDevice in
    let found = c.current-found in
    let store = c.args.store in
    let spare = c.args.spare in
    let mid = found.result.1 in
    let turn = found.result.2 in
    adds_then p spare turn (found.ensures.spare_left v) (g.met.P.StoreDevice.counts_now turn) c.args.access.local_puts c.with_local-answer-in-Ok-Spare.result.1 (c.with_local-answer-in-Ok-Spare.ensures.sound v u)

pub returns-in-Ok-Spare-clause-sound : goal.returns-in-Ok-Spare-clause-sound
returns-in-Ok-Spare-clause-sound g c t v u =
    let s = g.S.StoreDevice in
    let p = g.P.StoreDevice in
    let found = c.current-found in
    let store = c.args.store in
    let spare = c.args.spare in
    let mid = found.result.1 in
    let turn = found.result.2 in
    reads_add s store mid (found.ensures.first_left t).images c.args.access.local_puts

pub returns-in-Ok-Spare-clause-spare_left : goal.returns-in-Ok-Spare-clause-spare_left
returns-in-Ok-Spare-clause-spare_left g c told t v u trusted =
    let s = g.S.StoreDevice in
    let p = g.P.StoreDevice in
    let found = c.current-found in
    let store = c.args.store in
    let spare = c.args.spare in
    let mid = found.result.1 in
    let turn = found.result.2 in
    let x = are_opened s p store mid spare turn found.result.0 c.in-Ok-Spare.field-0 Spare c.in-Ok-Spare.is (rw c.in-Ok-Spare.is at c.in-Ok-Spare.field-0-is) (found.ensures.side t v) (found.ensures.first t) (found.ensures.spare v) in
    let held = held_was_spare s p store mid spare turn Spare x c.args.access c.requires.reads refl in
    let known = transport (λ i. IsTrustedSecond c.args.is_dry c.args.access (g.W.Spawner.effect (g.W.Spawner.runs c.args.world.now).book) c.args.plan.now (moment_of (g.W.Tree.state c.args.world.now) (g.W.Spawner.runs c.args.world.now) (both_of (held i) (held_by (g.R.StoreDevice.content c.args.second))) (g.K.Sink.written c.args.out.now))
    → LeavesOnly p.moment p.images_since turn c.with_local-answer-in-Ok-Spare.result.1 (IsLeftInLocal c.args.is_dry c.args.access (g.W.Spawner.effect (g.W.Spawner.runs c.args.world.now).book) c.args.plan.now (moment_of (g.W.Tree.state c.args.world.now) (g.W.Spawner.runs c.args.world.now) (both_of (held i) (held_by (g.R.StoreDevice.content c.args.second))) (g.K.Sink.written c.args.out.now)) (g.W.Spawner.runs c.with_local-answer-in-Ok-Spare.new.world).steps (generation_in (p.content turn)) (p.images turn)))
    (c.with_local-answer-in-Ok-Spare.ensures.left told v u) in
    left_then p spare turn (found.ensures.spare_left v) (g.met.P.StoreDevice.counts_now turn)
    (IsLeftOfLocal c.args.is_dry c.args.access (g.W.Spawner.effect (g.W.Spawner.runs c.args.world.now).book) c.args.plan.now (moment_of (g.W.Tree.state c.args.world.now) (g.W.Spawner.runs c.args.world.now) (both_of (held 1) (held_by (g.R.StoreDevice.content c.args.second))) (g.K.Sink.written c.args.out.now)) (g.W.Spawner.runs c.with_local-answer-in-Ok-Spare.new.world).steps)
    (generation_in (p.content turn)) (generation_in (p.content spare)) c.with_local-answer-in-Ok-Spare.result.1 (turn_generation s p store mid spare turn Spare x) (known trusted)

pub returns-in-Ok-Spare-clause-left : goal.returns-in-Ok-Spare-clause-left
returns-in-Ok-Spare-clause-left g c told t v u trusted =
    let s = g.S.StoreDevice in
    let p = g.P.StoreDevice in
    let found = c.current-found in
    let store = c.args.store in
    let spare = c.args.spare in
    let mid = found.result.1 in
    let turn = found.result.2 in
    reads_left s store mid (found.ensures.first_left t).images _

pub returns-in-Ok-Spare-clause-second_left : goal.returns-in-Ok-Spare-clause-second_left
returns-in-Ok-Spare-clause-second_left g c told t v u trusted =
    let s = g.S.StoreDevice in
    let p = g.P.StoreDevice in
    let found = c.current-found in
    let store = c.args.store in
    let spare = c.args.spare in
    let mid = found.result.1 in
    let turn = found.result.2 in
    let x = are_opened s p store mid spare turn found.result.0 c.in-Ok-Spare.field-0 Spare c.in-Ok-Spare.is (rw c.in-Ok-Spare.is at c.in-Ok-Spare.field-0-is) (found.ensures.side t v) (found.ensures.first t) (found.ensures.spare v) in
    let held = held_was_spare s p store mid spare turn Spare x c.args.access c.requires.reads refl in
    let r = g.R.StoreDevice in
    transport (λ i. IsTrustedSecond c.args.is_dry c.args.access (g.W.Spawner.effect (g.W.Spawner.runs c.args.world.now).book) c.args.plan.now (moment_of (g.W.Tree.state c.args.world.now) (g.W.Spawner.runs c.args.world.now) (both_of (held i) (held_by (g.R.StoreDevice.content c.args.second))) (g.K.Sink.written c.args.out.now))
    → LeavesOnly r.moment r.images_since c.args.second c.with_local-answer-in-Ok-Spare.result.2 (IsLeftInSecond c.args.is_dry c.args.access (g.W.Spawner.effect (g.W.Spawner.runs c.args.world.now).book) c.args.plan.now (moment_of (g.W.Tree.state c.args.world.now) (g.W.Spawner.runs c.args.world.now) (both_of (held i) (held_by (g.R.StoreDevice.content c.args.second))) (g.K.Sink.written c.args.out.now)) (g.W.Spawner.runs c.with_local-answer-in-Ok-Spare.new.world).steps (generation_in (r.content c.args.second)) (r.images c.args.second)))
    (c.with_local-answer-in-Ok-Spare.ensures.second_left told v u) trusted

pub returns-in-Ok-Spare-clause-cause : goal.returns-in-Ok-Spare-clause-cause
returns-in-Ok-Spare-clause-cause g c =
    let s = g.S.StoreDevice in
    let p = g.P.StoreDevice in
    let found = c.current-found in
    let store = c.args.store in
    let spare = c.args.spare in
    let mid = found.result.1 in
    let turn = found.result.2 in
    let r = g.R.StoreDevice in
    let same = counted_of (s.store_faults store) (s.store_faults mid) (p.store_faults spare) (p.store_faults turn) found.result.0 c.in-Ok-Spare.field-0 c.in-Ok-Spare.is found.ensures.cause in
    let run = c.with_local-answer-in-Ok-Spare in
    cause_in_sum (g.W.Tree.state c.args.world.now).faults (g.W.Tree.state run.new.world).faults
    (g.W.Spawner.runs c.args.world.now).faults (g.W.Spawner.runs run.new.world).faults
    (g.K.Sink.faults c.args.out.now) (g.K.Sink.faults run.new.out)
    (p.store_faults turn + r.store_faults c.args.second)
    (p.store_faults run.result.1 + r.store_faults run.result.2) (s.store_faults mid) _ _
    run.result.0 (omega (arith, same.0, same.1)) (omega arith) run.ensures.cause

-- ---- one of them is no store

pub returns-in-Err-clause-refused : goal.returns-in-Err-clause-refused
returns-in-Err-clause-refused g c t v u =
    let found = c.current-found in
    if_refused c.not_current.result _ _
    (none_of c.args.access c.requires.reads (g.S.StoreDevice.content c.args.store) (g.P.StoreDevice.content c.args.spare) (g.R.StoreDevice.content c.args.second)
    found.result.0 c.in-Err.fault c.in-Err.is (found.ensures.first_fault t) (found.ensures.spare_fault v)) c.not_current.ensures.refused

pub returns-in-Err-clause-second_reread : goal.returns-in-Err-clause-second_reread
returns-in-Err-clause-second_reread g c u =
    let same = alone_reread g.R.StoreDevice c.args.second
    (g.met.R.StoreDevice.only_now c.args.second) in
    refused_all _ c.not_current.result (λ reason. same)

pub returns-in-Err-clause-stopped : goal.returns-in-Err-clause-stopped
returns-in-Err-clause-stopped g c told t v u heard kept =
    let found = c.current-found in
    if_fault c.not_current.result _ _
    (λ cause line early. inl (unstarted _ _
    (none_of c.args.access c.requires.reads (g.S.StoreDevice.content c.args.store)
    (g.P.StoreDevice.content c.args.spare) (g.R.StoreDevice.content c.args.second)
    found.result.0 c.in-Err.fault c.in-Err.is (found.ensures.first_fault t)
    (found.ensures.spare_fault v)) _ _ refl refl cause line early))
    (c.not_current.ensures.stopped heard)

pub returns-in-Err-clause-sound : goal.returns-in-Err-clause-sound
returns-in-Err-clause-sound g c t v u =
    reads_add g.S.StoreDevice c.args.store c.current-found.result.1 (c.current-found.ensures.first_left t).images c.args.access.local_puts

pub returns-in-Err-clause-spare_sound : goal.returns-in-Err-clause-spare_sound
returns-in-Err-clause-spare_sound g c t v u =
    reads_add g.P.StoreDevice c.args.spare c.current-found.result.2 (c.current-found.ensures.spare_left v).images c.args.access.local_puts

pub returns-in-Err-clause-second_sound : goal.returns-in-Err-clause-second_sound
returns-in-Err-clause-second_sound g c t v u =
    reads_add g.R.StoreDevice c.args.second c.args.second (alone g.R.StoreDevice c.args.second (g.met.R.StoreDevice.only_now c.args.second)) c.args.access.second_puts

pub returns-in-Err-clause-left : goal.returns-in-Err-clause-left
returns-in-Err-clause-left g c told t v u trusted =
    reads_left g.S.StoreDevice c.args.store c.current-found.result.1 (c.current-found.ensures.first_left t).images _

pub returns-in-Err-clause-spare_left : goal.returns-in-Err-clause-spare_left
returns-in-Err-clause-spare_left g c told t v u trusted =
    reads_left g.P.StoreDevice c.args.spare c.current-found.result.2 (c.current-found.ensures.spare_left v).images _

pub returns-in-Err-clause-second_left : goal.returns-in-Err-clause-second_left
returns-in-Err-clause-second_left g c told t v u trusted =
    reads_left g.R.StoreDevice c.args.second c.args.second (alone g.R.StoreDevice c.args.second (g.met.R.StoreDevice.only_now c.args.second)) _

pub returns-in-Err-clause-cause : goal.returns-in-Err-clause-cause
returns-in-Err-clause-cause g c =
    let s = g.S.StoreDevice in
    let p = g.P.StoreDevice in
    let found = c.current-found in
    let tree = (g.W.Tree.state c.args.world.now).faults in
    let start = (g.W.Spawner.runs c.args.world.now).faults in
    let a = s.store_faults c.args.store in
    let now_a = s.store_faults found.result.1 in
    let b = p.store_faults c.args.spare in
    let now_b = p.store_faults found.result.2 in
    cause_in_sum tree tree start start (g.K.Sink.faults c.args.out.now)
    (g.K.Sink.faults c.not_current.new.out) (a + b) (now_a + now_b)
    (g.R.StoreDevice.store_faults c.args.second) _ _ c.not_current.result refl refl
    (cause_of_run _ _ c.not_current.result (c.not_current.ensures.cause tree start a now_a b now_b
    (raised_of _ _ _ _ found.result.0 c.in-Err.fault c.in-Err.is found.ensures.cause)))

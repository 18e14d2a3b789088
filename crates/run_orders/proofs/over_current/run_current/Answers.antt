-- The current one was run over, and the other one left as it was opened.
use Rattle.std.proofs.Common.{inl, true, refl, sym, subst, arith}
use Rattle.compact.specs.declared.side.Side.TheVariants.{First, Spare}
use Rattle.compact.specs.Current.{generation_in}
use Rattle.compact.specs.Left.{IsReread, StillRests}
use Rattle.refusals.specs.declared.refusal.Refusal.{Refusal}
use Rattle.refusals.specs.declared.refusal.StoreFile.TheVariants as file
use Rattle.store_dev.specs.Device.{LeavesOnly, Only}
use Rattle.answers.specs.Facts.{cause_of_run, not_done, if_fault, if_refused}
use Rattle.answers.specs.Moments.{Held, moment_of}
use Rattle.answers.specs.Stops.{IfFault}
use Rattle.store_answers.specs.Facts.{generation_same, no_stores}
use Rattle.store_answers.specs.Refused.{IsNoStore, IsNoStores, IsCurrentRefusal}
use Rattle.store_answers.specs.Stores.{stores_of, held_in}
use Rattle.cache_runs.proofs.Causes.{cause_in_sum}
use Rattle.cache_runs.proofs.Finished.{done_all, refused_all}
use Rattle.cache_runs.proofs.Stopped.{unstarted}
use Rattle.second_runs.proofs.Currents.{are_opened, counted_of, raised_of, not_spare}
use Rattle.second_runs.proofs.Currents.{held_was_first, held_now_first}
use Rattle.second_runs.proofs.Currents.{held_was_spare, held_now_spare}
use Rattle.second_runs.proofs.Pairs.{both_read, pairs_left}
use Rattle.second_runs.proofs.Reading.{adds_then, ends_behind, left_then, reads_add, reads_left}
use Rattle.run_orders.specs.Facts.{reread_other}
use Rattle.run_orders.specs.Images.{IsLeftInStore, IsLeftOfHeld, IsTrustedPlan, RereadsOther}
use Rattle.run_orders.specs.Outcomes.{RanAs}
use Rattle.run_orders.specs.Stops.{StopsPlan}
use Rattle.run_orders.proofs.Found.{local_access, on_found, holding, done_holding, held_tells}
use Rattle.run_orders.proofs.Found.{is_store, stops_for}
use Rattle.run_orders.proofs.over_current.run_current.Goals as goal

-- ---- the first one is current

pub returns-in-Ok-First-clause-ran : goal.returns-in-Ok-First-clause-ran
returns-in-Ok-First-clause-ran g c world told tells =
    let s = g.S.StoreDevice in
    let p = g.P.StoreDevice in
    let found = c.current-found in
    let run = c.run_plan-answer in
    let store = c.args.store in
    let mid = found.result.1 in
    let spare = c.args.spare in
    let turn = found.result.2 in
    let known = rw c.in-Ok-First.is at c.in-Ok-First.field-0-is in
    let x = are_opened s p store mid spare turn found.result.0 c.in-Ok-First.field-0 First
    c.in-Ok-First.is known (found.ensures.side told tells) (found.ensures.first told)
    (found.ensures.spare tells) in
    let holds = held_was_first s p store mid spare turn First x local_access refl refl in
    let last = run.result.1 in
    let behind = ends_behind s mid last true (run.ensures.sound told) x.first.rests.alone
    (g.met.S.StoreDevice.counts_now last) (g.met.S.StoreDevice.as_it_reads last told) in
    let holds_then = held_now_first s p store mid spare turn First x local_access refl refl true
    last behind in
    let plan = c.args.plan.now in
    let runs = g.W.Spawner.runs c.args.world.now in
    let tree = g.W.Tree.state c.args.world.now in
    let book = g.W.Spawner.effect runs.book in
    let printed = g.K.Sink.written c.args.out.now in
    let then = g.W.Spawner.runs run.new.world in
    let now = g.W.Tree.state run.new.world in
    let after = g.K.Sink.written run.new.out in
    done_holding run.result.0 (λ a b. RanAs c.args.is_dry book plan g.K.Sink.tells
    (moment_of tree runs a printed) (moment_of now then b after)) _ _ _ _ holds holds_then
    (run.ensures.ran world told)

pub returns-in-Ok-First-clause-spare_lasts : goal.returns-in-Ok-First-clause-spare_lasts
returns-in-Ok-First-clause-spare_lasts g c tells =
    let p = g.P.StoreDevice in
    let found = c.current-found in
    let still = on_found (StillRests p c.args.spare found.result.2) found.result.0
    c.in-Ok-First.field-0 c.in-Ok-First.is (found.ensures.spare tells) in
    done_all (λ _. Only (p.content found.result.2) (p.images found.result.2))
    c.run_plan-answer.result.0 (λ status. still.rests.alone)

pub returns-in-Ok-First-clause-refused : goal.returns-in-Ok-First-clause-refused
returns-in-Ok-First-clause-refused g c told tells =
    let s = g.S.StoreDevice in
    let p = g.P.StoreDevice in
    let found = c.current-found in
    let run = c.run_plan-answer in
    let store = c.args.store in
    let mid = found.result.1 in
    let spare = c.args.spare in
    let turn = found.result.2 in
    let known = rw c.in-Ok-First.is at c.in-Ok-First.field-0-is in
    let x = are_opened s p store mid spare turn found.result.0 c.in-Ok-First.field-0 First
    c.in-Ok-First.is known (found.ensures.side told tells) (found.ensures.first told)
    (found.ensures.spare tells) in
    if_refused run.result.0 (IsNoStore file.Store (s.content mid))
    (IsNoStores (stores_of (s.content store) (p.content spare)))
    (λ reason none. absurd (is_store file.Store (s.content mid) reason x.first.rests.sound none))
    (run.ensures.refused told)

pub returns-in-Ok-First-clause-reread : goal.returns-in-Ok-First-clause-reread
returns-in-Ok-First-clause-reread g c told =
    let s = g.S.StoreDevice in
    let found = c.current-found in
    let run = c.run_plan-answer in
    let still = on_found (StillRests s c.args.store found.result.1) found.result.0
    c.in-Ok-First.field-0 c.in-Ok-First.is (found.ensures.first told) in
    let reading = s.content found.result.1 in
    if_refused run.result.0 (IsNoStore file.Store reading)
    (λ _. IsReread s c.args.store run.result.1)
    (λ reason none. absurd (is_store file.Store reading reason still.rests.sound none))
    (run.ensures.refused told)

pub returns-in-Ok-First-clause-spare_reread : goal.returns-in-Ok-First-clause-spare_reread
returns-in-Ok-First-clause-spare_reread g c tells =
    let found = c.current-found in
    refused_all (λ _. IsReread g.P.StoreDevice c.args.spare found.result.2)
    c.run_plan-answer.result.0 (λ reason. found.ensures.spare_left tells)

pub returns-in-Ok-First-clause-other : goal.returns-in-Ok-First-clause-other
returns-in-Ok-First-clause-other g c told tells =
    let s = g.S.StoreDevice in
    let p = g.P.StoreDevice in
    let found = c.current-found in
    let run = c.run_plan-answer in
    let store = c.args.store in
    let mid = found.result.1 in
    let spare = c.args.spare in
    let turn = found.result.2 in
    let known = rw c.in-Ok-First.is at c.in-Ok-First.field-0-is in
    let x = are_opened s p store mid spare turn found.result.0 c.in-Ok-First.field-0 First
    c.in-Ok-First.is known (found.ensures.side told tells) (found.ensures.first told)
    (found.ensures.spare tells) in
    subst (λ side. RereadsOther s p side store run.result.1 spare turn) (sym x.is)
    (found.ensures.spare_left tells)

pub returns-in-Ok-First-clause-stopped : goal.returns-in-Ok-First-clause-stopped
returns-in-Ok-First-clause-stopped g c world told tells heard =
    let s = g.S.StoreDevice in
    let p = g.P.StoreDevice in
    let found = c.current-found in
    let run = c.run_plan-answer in
    let store = c.args.store in
    let mid = found.result.1 in
    let spare = c.args.spare in
    let turn = found.result.2 in
    let known = rw c.in-Ok-First.is at c.in-Ok-First.field-0-is in
    let x = are_opened s p store mid spare turn found.result.0 c.in-Ok-First.field-0 First
    c.in-Ok-First.is known (found.ensures.side told tells) (found.ensures.first told)
    (found.ensures.spare tells) in
    let holds = held_was_first s p store mid spare turn First x local_access refl refl in
    let plan = c.args.plan.now in
    let runs = g.W.Spawner.runs c.args.world.now in
    let tree = g.W.Tree.state c.args.world.now in
    let book = g.W.Spawner.effect runs.book in
    let printed = g.K.Sink.written c.args.out.now in
    let then = g.W.Spawner.runs run.new.world in
    let now = g.W.Tree.state run.new.world in
    let after = g.K.Sink.written run.new.out in
    let kept = held_in (stores_of (s.content run.result.1) (p.content turn)) in
    let stores = stores_of (s.content store) (p.content spare) in
    let old = moment_of tree runs (held_in stores) printed in
    let new = moment_of now then kept after in
    let stops = λ (reasons : Refusal → Type 0) (h : Held). StopsPlan reasons c.args.is_dry book
    plan g.K.Sink.tells (moment_of tree runs h printed) new in
    let none = IsNoStore file.Store (s.content mid) in
    let never = is_store file.Store (s.content mid) in
    if_fault run.result.0 (stops none (held_in stores)) (stops (IsNoStores stores) (held_in stores))
    (stops_for none (IsNoStores stores) (λ reason is. absurd (never reason x.first.rests.sound is))
    c.args.is_dry book plan g.K.Sink.tells old new)
    (subst (λ h. IfFault run.result.0 (stops none h)) holds
    (run.ensures.stopped world told heard kept))

pub returns-in-Ok-First-clause-sound : goal.returns-in-Ok-First-clause-sound
returns-in-Ok-First-clause-sound g c told =
    let s = g.S.StoreDevice in
    let found = c.current-found in
    let run = c.run_plan-answer in
    adds_then s c.args.store found.result.1 (found.ensures.first_left told)
    (g.met.S.StoreDevice.counts_now found.result.1) true run.result.1 (run.ensures.sound told)

pub returns-in-Ok-First-clause-spare_sound : goal.returns-in-Ok-First-clause-spare_sound
returns-in-Ok-First-clause-spare_sound g c tells =
    let found = c.current-found in
    reads_add g.P.StoreDevice c.args.spare found.result.2 (found.ensures.spare_left tells).images
    true

pub returns-in-Ok-First-clause-left : goal.returns-in-Ok-First-clause-left
returns-in-Ok-First-clause-left g c world told tells trusted =
    let s = g.S.StoreDevice in
    let p = g.P.StoreDevice in
    let found = c.current-found in
    let run = c.run_plan-answer in
    let store = c.args.store in
    let mid = found.result.1 in
    let spare = c.args.spare in
    let turn = found.result.2 in
    let known = rw c.in-Ok-First.is at c.in-Ok-First.field-0-is in
    let x = are_opened s p store mid spare turn found.result.0 c.in-Ok-First.field-0 First
    c.in-Ok-First.is known (found.ensures.side told tells) (found.ensures.first told)
    (found.ensures.spare tells) in
    let holds = held_was_first s p store mid spare turn First x local_access refl refl in
    let plan = c.args.plan.now in
    let runs = g.W.Spawner.runs c.args.world.now in
    let tree = g.W.Tree.state c.args.world.now in
    let book = g.W.Spawner.effect runs.book in
    let printed = g.K.Sink.written c.args.out.now in
    let steps = (g.W.Spawner.runs run.new.world).steps in
    let old = moment_of tree runs (held_in (stores_of (s.content store) (p.content spare)))
    printed in
    let tried = λ (h : Held). LeavesOnly s.moment s.images_since mid run.result.1
    (IsLeftInStore c.args.is_dry book plan (moment_of tree runs h printed) steps
    (generation_in (s.content mid)) (s.images mid)) in
    let ran = holding (λ h. IsTrustedPlan c.args.is_dry book plan (moment_of tree runs h printed))
    tried _ _ holds (run.ensures.left world told) trusted in
    let dues = IsLeftOfHeld c.args.is_dry book plan old steps in
    let left = left_then s store mid (found.ensures.first_left told)
    (g.met.S.StoreDevice.counts_now mid) dues _ _ run.result.1 (generation_same _ _ x.first.reads)
    ran in
    let rests = reads_left p spare turn (found.ensures.spare_left tells).images _ in
    pairs_left s p store run.result.1 spare turn dues (held_tells c.args.is_dry book plan old steps)
    (g.met.S.StoreDevice.as_it_reads store told) (g.met.P.StoreDevice.as_it_reads spare tells)
    (λ is. absurd (not_spare _ x.is is)) (λ _. found.ensures.spare_left tells) left rests

pub returns-in-Ok-First-clause-cause : goal.returns-in-Ok-First-clause-cause
returns-in-Ok-First-clause-cause g c =
    let s = g.S.StoreDevice in
    let p = g.P.StoreDevice in
    let found = c.current-found in
    let run = c.run_plan-answer in
    let both = counted_of _ _ _ _ found.result.0 c.in-Ok-First.field-0 c.in-Ok-First.is
    found.ensures.cause in
    cause_in_sum _ _ _ _ _ _ (s.store_faults found.result.1) (s.store_faults run.result.1)
    (p.store_faults c.args.spare) _ _ run.result.0 (omega (arith, both.0))
    (omega (arith, both.1)) run.ensures.cause

-- ---- the spare one is current

pub returns-in-Ok-Spare-clause-ran : goal.returns-in-Ok-Spare-clause-ran
returns-in-Ok-Spare-clause-ran g c world told tells =
    let s = g.S.StoreDevice in
    let p = g.P.StoreDevice in
    let found = c.current-found in
    let run = c.run_plan-answer-in-Ok-Spare in
    let store = c.args.store in
    let mid = found.result.1 in
    let spare = c.args.spare in
    let turn = found.result.2 in
    let known = rw c.in-Ok-Spare.is at c.in-Ok-Spare.field-0-is in
    let x = are_opened s p store mid spare turn found.result.0 c.in-Ok-Spare.field-0 Spare
    c.in-Ok-Spare.is known (found.ensures.side told tells) (found.ensures.first told)
    (found.ensures.spare tells) in
    let holds = held_was_spare s p store mid spare turn Spare x local_access refl refl in
    let last = run.result.1 in
    let behind = ends_behind p turn last true (run.ensures.sound tells) x.second.rests.alone
    (g.met.P.StoreDevice.counts_now last) (g.met.P.StoreDevice.as_it_reads last tells) in
    let holds_then = held_now_spare s p store mid spare turn Spare x local_access refl refl true
    last behind in
    let plan = c.args.plan.now in
    let runs = g.W.Spawner.runs c.args.world.now in
    let tree = g.W.Tree.state c.args.world.now in
    let book = g.W.Spawner.effect runs.book in
    let printed = g.K.Sink.written c.args.out.now in
    let then = g.W.Spawner.runs run.new.world in
    let now = g.W.Tree.state run.new.world in
    let after = g.K.Sink.written run.new.out in
    done_holding run.result.0 (λ a b. RanAs c.args.is_dry book plan g.K.Sink.tells
    (moment_of tree runs a printed) (moment_of now then b after)) _ _ _ _ holds holds_then
    (run.ensures.ran world tells)

pub returns-in-Ok-Spare-clause-lasts : goal.returns-in-Ok-Spare-clause-lasts
returns-in-Ok-Spare-clause-lasts g c told =
    let s = g.S.StoreDevice in
    let found = c.current-found in
    let still = on_found (StillRests s c.args.store found.result.1) found.result.0
    c.in-Ok-Spare.field-0 c.in-Ok-Spare.is (found.ensures.first told) in
    done_all (λ _. Only (s.content found.result.1) (s.images found.result.1))
    c.run_plan-answer-in-Ok-Spare.result.0 (λ status. still.rests.alone)

pub returns-in-Ok-Spare-clause-refused : goal.returns-in-Ok-Spare-clause-refused
returns-in-Ok-Spare-clause-refused g c told tells =
    let s = g.S.StoreDevice in
    let p = g.P.StoreDevice in
    let found = c.current-found in
    let run = c.run_plan-answer-in-Ok-Spare in
    let store = c.args.store in
    let mid = found.result.1 in
    let spare = c.args.spare in
    let turn = found.result.2 in
    let known = rw c.in-Ok-Spare.is at c.in-Ok-Spare.field-0-is in
    let x = are_opened s p store mid spare turn found.result.0 c.in-Ok-Spare.field-0 Spare
    c.in-Ok-Spare.is known (found.ensures.side told tells) (found.ensures.first told)
    (found.ensures.spare tells) in
    if_refused run.result.0 (IsNoStore file.Spare (p.content turn))
    (IsNoStores (stores_of (s.content store) (p.content spare)))
    (λ reason none. absurd (is_store file.Spare (p.content turn) reason x.second.rests.sound none))
    (run.ensures.refused tells)

pub returns-in-Ok-Spare-clause-spare_reread : goal.returns-in-Ok-Spare-clause-spare_reread
returns-in-Ok-Spare-clause-spare_reread g c tells =
    let p = g.P.StoreDevice in
    let found = c.current-found in
    let run = c.run_plan-answer-in-Ok-Spare in
    let still = on_found (StillRests p c.args.spare found.result.2) found.result.0
    c.in-Ok-Spare.field-0 c.in-Ok-Spare.is (found.ensures.spare tells) in
    let reading = p.content found.result.2 in
    if_refused run.result.0 (IsNoStore file.Spare reading)
    (λ _. IsReread p c.args.spare run.result.1)
    (λ reason none. absurd (is_store file.Spare reading reason still.rests.sound none))
    (run.ensures.refused tells)

pub returns-in-Ok-Spare-clause-reread : goal.returns-in-Ok-Spare-clause-reread
returns-in-Ok-Spare-clause-reread g c told =
    let found = c.current-found in
    refused_all (λ _. IsReread g.S.StoreDevice c.args.store found.result.1)
    c.run_plan-answer-in-Ok-Spare.result.0 (λ reason. found.ensures.first_left told)

pub returns-in-Ok-Spare-clause-other : goal.returns-in-Ok-Spare-clause-other
returns-in-Ok-Spare-clause-other g c told tells =
    let s = g.S.StoreDevice in
    let p = g.P.StoreDevice in
    let found = c.current-found in
    let run = c.run_plan-answer-in-Ok-Spare in
    let store = c.args.store in
    let mid = found.result.1 in
    let spare = c.args.spare in
    let turn = found.result.2 in
    let known = rw c.in-Ok-Spare.is at c.in-Ok-Spare.field-0-is in
    let x = are_opened s p store mid spare turn found.result.0 c.in-Ok-Spare.field-0 Spare
    c.in-Ok-Spare.is known (found.ensures.side told tells) (found.ensures.first told)
    (found.ensures.spare tells) in
    subst (λ side. RereadsOther s p side store mid spare run.result.1) (sym x.is)
    (found.ensures.first_left told)

pub returns-in-Ok-Spare-clause-stopped : goal.returns-in-Ok-Spare-clause-stopped
returns-in-Ok-Spare-clause-stopped g c world told tells heard =
    let s = g.S.StoreDevice in
    let p = g.P.StoreDevice in
    let found = c.current-found in
    let run = c.run_plan-answer-in-Ok-Spare in
    let store = c.args.store in
    let mid = found.result.1 in
    let spare = c.args.spare in
    let turn = found.result.2 in
    let known = rw c.in-Ok-Spare.is at c.in-Ok-Spare.field-0-is in
    let x = are_opened s p store mid spare turn found.result.0 c.in-Ok-Spare.field-0 Spare
    c.in-Ok-Spare.is known (found.ensures.side told tells) (found.ensures.first told)
    (found.ensures.spare tells) in
    let holds = held_was_spare s p store mid spare turn Spare x local_access refl refl in
    let plan = c.args.plan.now in
    let runs = g.W.Spawner.runs c.args.world.now in
    let tree = g.W.Tree.state c.args.world.now in
    let book = g.W.Spawner.effect runs.book in
    let printed = g.K.Sink.written c.args.out.now in
    let then = g.W.Spawner.runs run.new.world in
    let now = g.W.Tree.state run.new.world in
    let after = g.K.Sink.written run.new.out in
    let kept = held_in (stores_of (s.content mid) (p.content run.result.1)) in
    let stores = stores_of (s.content store) (p.content spare) in
    let old = moment_of tree runs (held_in stores) printed in
    let new = moment_of now then kept after in
    let stops = λ (reasons : Refusal → Type 0) (h : Held). StopsPlan reasons c.args.is_dry book
    plan g.K.Sink.tells (moment_of tree runs h printed) new in
    let none = IsNoStore file.Spare (p.content turn) in
    let never = is_store file.Spare (p.content turn) in
    if_fault run.result.0 (stops none (held_in stores)) (stops (IsNoStores stores) (held_in stores))
    (stops_for none (IsNoStores stores) (λ reason is. absurd (never reason x.second.rests.sound is))
    c.args.is_dry book plan g.K.Sink.tells old new)
    (subst (λ h. IfFault run.result.0 (stops none h)) holds
    (run.ensures.stopped world tells heard kept))

pub returns-in-Ok-Spare-clause-spare_sound : goal.returns-in-Ok-Spare-clause-spare_sound
returns-in-Ok-Spare-clause-spare_sound g c tells =
    let p = g.P.StoreDevice in
    let found = c.current-found in
    let run = c.run_plan-answer-in-Ok-Spare in
    adds_then p c.args.spare found.result.2 (found.ensures.spare_left tells)
    (g.met.P.StoreDevice.counts_now found.result.2) true run.result.1 (run.ensures.sound tells)

pub returns-in-Ok-Spare-clause-sound : goal.returns-in-Ok-Spare-clause-sound
returns-in-Ok-Spare-clause-sound g c told =
    let found = c.current-found in
    reads_add g.S.StoreDevice c.args.store found.result.1 (found.ensures.first_left told).images
    true

pub returns-in-Ok-Spare-clause-left : goal.returns-in-Ok-Spare-clause-left
returns-in-Ok-Spare-clause-left g c world told tells trusted =
    let s = g.S.StoreDevice in
    let p = g.P.StoreDevice in
    let found = c.current-found in
    let run = c.run_plan-answer-in-Ok-Spare in
    let store = c.args.store in
    let mid = found.result.1 in
    let spare = c.args.spare in
    let turn = found.result.2 in
    let known = rw c.in-Ok-Spare.is at c.in-Ok-Spare.field-0-is in
    let x = are_opened s p store mid spare turn found.result.0 c.in-Ok-Spare.field-0 Spare
    c.in-Ok-Spare.is known (found.ensures.side told tells) (found.ensures.first told)
    (found.ensures.spare tells) in
    let holds = held_was_spare s p store mid spare turn Spare x local_access refl refl in
    let plan = c.args.plan.now in
    let runs = g.W.Spawner.runs c.args.world.now in
    let tree = g.W.Tree.state c.args.world.now in
    let book = g.W.Spawner.effect runs.book in
    let printed = g.K.Sink.written c.args.out.now in
    let steps = (g.W.Spawner.runs run.new.world).steps in
    let old = moment_of tree runs (held_in (stores_of (s.content store) (p.content spare)))
    printed in
    let tried = λ (h : Held). LeavesOnly p.moment p.images_since turn run.result.1
    (IsLeftInStore c.args.is_dry book plan (moment_of tree runs h printed) steps
    (generation_in (p.content turn)) (p.images turn)) in
    let ran = holding (λ h. IsTrustedPlan c.args.is_dry book plan (moment_of tree runs h printed))
    tried _ _ holds (run.ensures.left world tells) trusted in
    let dues = IsLeftOfHeld c.args.is_dry book plan old steps in
    let left = left_then p spare turn (found.ensures.spare_left tells)
    (g.met.P.StoreDevice.counts_now turn) dues _ _ run.result.1 (generation_same _ _ x.second.reads)
    ran in
    let rests = reads_left s store mid (found.ensures.first_left told).images _ in
    pairs_left s p store mid spare run.result.1 dues (held_tells c.args.is_dry book plan old steps)
    (g.met.S.StoreDevice.as_it_reads store told) (g.met.P.StoreDevice.as_it_reads spare tells)
    (λ _. found.ensures.first_left told) (λ is. absurd (not_spare _ is x.is)) rests left

pub returns-in-Ok-Spare-clause-cause : goal.returns-in-Ok-Spare-clause-cause
returns-in-Ok-Spare-clause-cause g c =
    let s = g.S.StoreDevice in
    let p = g.P.StoreDevice in
    let found = c.current-found in
    let run = c.run_plan-answer-in-Ok-Spare in
    let both = counted_of _ _ _ _ found.result.0 c.in-Ok-Spare.field-0 c.in-Ok-Spare.is
    found.ensures.cause in
    cause_in_sum _ _ _ _ _ _ (p.store_faults found.result.2) (p.store_faults run.result.1)
    (s.store_faults c.args.store) _ _ run.result.0 (omega (arith, both.1))
    (omega (arith, both.0)) run.ensures.cause

-- ---- none was found

pub returns-in-Err-clause-ran : goal.returns-in-Err-clause-ran
returns-in-Err-clause-ran g c world told tells =
    not_done c.not_current.result _ c.not_current.ensures.not_done

pub returns-in-Err-clause-lasts : goal.returns-in-Err-clause-lasts
returns-in-Err-clause-lasts g c told =
    not_done c.not_current.result _ c.not_current.ensures.not_done

pub returns-in-Err-clause-spare_lasts : goal.returns-in-Err-clause-spare_lasts
returns-in-Err-clause-spare_lasts g c tells =
    not_done c.not_current.result _ c.not_current.ensures.not_done

pub returns-in-Err-clause-refused : goal.returns-in-Err-clause-refused
returns-in-Err-clause-refused g c told tells =
    let found = c.current-found in
    let a = g.S.StoreDevice.content c.args.store in
    let b = g.P.StoreDevice.content c.args.spare in
    let reasons = no_stores c.in-Err.fault a b (rw c.in-Err.is at (found.ensures.first_fault told))
    (rw c.in-Err.is at (found.ensures.spare_fault tells)) in
    if_refused c.not_current.result (IsCurrentRefusal c.in-Err.fault) (IsNoStores (stores_of a b))
    reasons c.not_current.ensures.refused

pub returns-in-Err-clause-reread : goal.returns-in-Err-clause-reread
returns-in-Err-clause-reread g c told =
    let found = c.current-found in
    refused_all (λ _. IsReread g.S.StoreDevice c.args.store found.result.1) c.not_current.result
    (λ reason. found.ensures.first_left told)

pub returns-in-Err-clause-spare_reread : goal.returns-in-Err-clause-spare_reread
returns-in-Err-clause-spare_reread g c tells =
    let found = c.current-found in
    refused_all (λ _. IsReread g.P.StoreDevice c.args.spare found.result.2) c.not_current.result
    (λ reason. found.ensures.spare_left tells)

pub returns-in-Err-clause-other : goal.returns-in-Err-clause-other
returns-in-Err-clause-other g c told tells =
    let found = c.current-found in
    reread_other g.S.StoreDevice g.P.StoreDevice c.args.store found.result.1 c.args.spare
    found.result.2 (found.ensures.first_left told) (found.ensures.spare_left tells) _

pub returns-in-Err-clause-stopped : goal.returns-in-Err-clause-stopped
returns-in-Err-clause-stopped g c world told tells heard =
    let found = c.current-found in
    let a = g.S.StoreDevice.content c.args.store in
    let b = g.P.StoreDevice.content c.args.spare in
    let reasons = no_stores c.in-Err.fault a b (rw c.in-Err.is at (found.ensures.first_fault told))
    (rw c.in-Err.is at (found.ensures.spare_fault tells)) in
    if_fault c.not_current.result _ _
    (λ cause line early. inl (unstarted (IsCurrentRefusal c.in-Err.fault)
    (IsNoStores (stores_of a b)) reasons _ _ refl refl cause line early))
    (c.not_current.ensures.stopped heard)

pub returns-in-Err-clause-sound : goal.returns-in-Err-clause-sound
returns-in-Err-clause-sound g c told =
    let found = c.current-found in
    reads_add g.S.StoreDevice c.args.store found.result.1 (found.ensures.first_left told).images
    true

pub returns-in-Err-clause-spare_sound : goal.returns-in-Err-clause-spare_sound
returns-in-Err-clause-spare_sound g c tells =
    let found = c.current-found in
    reads_add g.P.StoreDevice c.args.spare found.result.2 (found.ensures.spare_left tells).images
    true

pub returns-in-Err-clause-left : goal.returns-in-Err-clause-left
returns-in-Err-clause-left g c world told tells trusted f t since after =
    let found = c.current-found in
    inl (both_read (g.S.StoreDevice.images c.args.store) (g.P.StoreDevice.images c.args.spare) f t
    ((found.ensures.first_left told).images.each f since)
    ((found.ensures.spare_left tells).images.each t after))

pub returns-in-Err-clause-cause : goal.returns-in-Err-clause-cause
returns-in-Err-clause-cause g c =
    let found = c.current-found in
    cause_of_run _ _ c.not_current.result
    (c.not_current.ensures.cause (g.W.Tree.state c.args.world.now).faults
    (g.W.Spawner.runs c.args.world.now).faults
    (g.S.StoreDevice.store_faults c.args.store) (g.S.StoreDevice.store_faults found.result.1)
    (g.P.StoreDevice.store_faults c.args.spare) (g.P.StoreDevice.store_faults found.result.2)
    (raised_of _ _ _ _ found.result.0 c.in-Err.fault c.in-Err.is found.ensures.cause))

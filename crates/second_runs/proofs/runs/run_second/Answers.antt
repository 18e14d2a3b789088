-- Where the local store is not read, the store and the spare one are left alone.
use Rattle.std.proofs.Common.{◌≡◌, ◌∙◌, None, inl, refl, ap}
use Rattle.std.proofs.Math.Path.{transport}
use Rattle.answers.specs.Answers.{IfDone}
use Rattle.answers.specs.Stops.{IfFault}
use Rattle.answers.specs.Facts.{if_refused, if_fault}
use Rattle.answers.specs.Moments.{moment_of}
use Rattle.store_answers.specs.Stores.{held_by, stores_of}
use Rattle.refusals.specs.declared.refusal.StoreFile.TheVariants as file
use Rattle.store_answers.specs.Refused.{IsNoStore}
use Rattle.second_runs.specs.Images.{IsLeftOfLocal}
use Rattle.second_runs.specs.Moments.{at_moment, both_of, nothing}
use Rattle.second_runs.specs.Opened.{held_of}
use Rattle.second_runs.specs.Outcomes.{RanSecond}
use Rattle.second_runs.specs.Stops.{StopsSecond}
use Rattle.second_runs.proofs.Currents.{local_none, none_alone}
use Rattle.second_runs.proofs.Handing.{access_alone}
use Rattle.second_runs.proofs.Only.{only_none}
use Rattle.second_runs.proofs.Pairs.{both_read, local_tells, pairs_left}
use Rattle.second_runs.proofs.Reading.{alone}
use Rattle.second_runs.proofs.Stopping.{stops_as}
use Rattle.second_runs.proofs.runs.run_second.Goals as goal

-- ---- it is read

pub returns-then-access-clause-only : goal.returns-then-access-clause-only
returns-then-access-clause-only g c told t v u =
    let stores = stores_of (g.S.StoreDevice.content c.args.store) (g.P.StoreDevice.content c.args.spare) in
    let book = g.W.Spawner.effect (g.W.Spawner.runs c.args.world.now).book in
    only_none c.args.access stores (g.R.StoreDevice.content c.args.second) c.args.is_dry book c.args.plan.now g.K.Sink.tells _ _ c.over_current.result.0 refl
    (c.over_current.ensures.ran told t v u) (c.over_current.ensures.refused t v u)

pub returns-then-access-clause-pairs_left : goal.returns-then-access-clause-pairs_left
returns-then-access-clause-pairs_left g c told t v u trusted =
    let s = g.S.StoreDevice in
    let p = g.P.StoreDevice in
    let runs = g.W.Spawner.runs c.args.world.now in
    let book = g.W.Spawner.effect runs.book in
    let old = at_moment g.W.Tree.state g.W.Spawner.runs s.content p.content g.R.StoreDevice.content g.K.Sink.written c.args.access c.args.world.now c.args.store c.args.spare c.args.second c.args.out.now in
    let steps = (g.W.Spawner.runs c.over_current.new.world).steps in
    pairs_left s p c.args.store c.over_current.result.1 c.args.spare c.over_current.result.2
    (IsLeftOfLocal c.args.is_dry c.args.access book c.args.plan.now old steps)
    (local_tells c.args.is_dry c.args.access book c.args.plan.now old steps)
    (g.met.S.StoreDevice.as_it_reads c.args.store t) (g.met.P.StoreDevice.as_it_reads c.args.spare v)
    (c.over_current.ensures.other t v) (c.over_current.ensures.spare_other t v)
    (c.over_current.ensures.left told t v u trusted) (c.over_current.ensures.spare_left told t v u trusted)

-- ---- it is not

pub with_second-answer-requires-clause-access : goal.with_second-answer-requires-clause-access
with_second-answer-requires-clause-access g c =
    access_alone c.args.access None c.args.second refl c.requires.access c.if-access.false c.requires.second

pub returns-clause-only : goal.returns-clause-only
returns-clause-only g c told t v u =
    let stores = stores_of (g.S.StoreDevice.content c.args.store) (g.P.StoreDevice.content c.args.spare) in
    let second = g.R.StoreDevice.content c.args.second in
    let runs = g.W.Spawner.runs c.args.world.now in
    let book = g.W.Spawner.effect runs.book in
    let answer = c.with_second-answer.result.0 in
    let held = local_none c.args.access stores c.if-access.false in
    let after : held_of c.with_second-answer.result.1 ≡ nothing = ap held_of c.in-None.is in
    let ran = c.with_second-answer.ensures.ran told t u nothing refl in
    let known = transport (λ i. IfDone answer (RanSecond c.args.is_dry c.args.access book c.args.plan.now g.K.Sink.tells
    (moment_of (g.W.Tree.state c.args.world.now) runs (both_of (held i) (held_by second)) (g.K.Sink.written c.args.out.now))
    (moment_of (g.W.Tree.state c.with_second-answer.new.world) (g.W.Spawner.runs c.with_second-answer.new.world) (both_of ((after ∙ held) i) (held_by (g.R.StoreDevice.content c.with_second-answer.result.2))) (g.K.Sink.written c.with_second-answer.new.out))))
    ran in
    let refused = if_refused answer _ _ (none_alone c.args.access stores second c.if-access.false) (c.with_second-answer.ensures.refused u) in
    only_none c.args.access stores second c.args.is_dry book c.args.plan.now g.K.Sink.tells _ _ answer refl known refused

pub returns-clause-stopped : goal.returns-clause-stopped
returns-clause-stopped g c told t v u heard kept =
    let stores = stores_of (g.S.StoreDevice.content c.args.store) (g.P.StoreDevice.content c.args.spare) in
    let second = g.R.StoreDevice.content c.args.second in
    let runs = g.W.Spawner.runs c.args.world.now in
    let book = g.W.Spawner.effect runs.book in
    let held = local_none c.args.access stores c.if-access.false in
    let known = transport (λ i. IfFault c.with_second-answer.result.0 (StopsSecond (IsNoStore file.Second second) c.args.is_dry c.args.access book c.args.plan.now g.K.Sink.tells
    (moment_of (g.W.Tree.state c.args.world.now) runs (both_of (held i) (held_by second)) (g.K.Sink.written c.args.out.now))
    (moment_of (g.W.Tree.state c.with_second-answer.new.world) (g.W.Spawner.runs c.with_second-answer.new.world) kept (g.K.Sink.written c.with_second-answer.new.out))))
    (c.with_second-answer.ensures.stopped told t u heard nothing refl kept) in
    if_fault c.with_second-answer.result.0 _ _
    (stops_as _ _ (none_alone c.args.access stores second c.if-access.false) c.args.is_dry c.args.access _ c.args.plan.now _ _ _) known

pub returns-clause-pairs_left : goal.returns-clause-pairs_left
returns-clause-pairs_left g c told t v u trusted f s one two =
    inl (both_read _ _ f s ((alone g.S.StoreDevice c.args.store (g.met.S.StoreDevice.only_now c.args.store)).each f one)
    ((alone g.P.StoreDevice c.args.spare (g.met.P.StoreDevice.only_now c.args.spare)).each s two))

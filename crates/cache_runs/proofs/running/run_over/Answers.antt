-- What a run leaves over a cache that holds results back, said of the cache that is handed back.
use Rattle.std.proofs.Common.{◌≡◌, ◌++◌, Some, refl, sym, ap, ◌∙◌, subst}
use Rattle.std.specs.Bool.{OnFalse, OnTrue}
use Rattle.std.proofs.lemmas.Bool.{OnTrue_at, OnTrue_from}
use Rattle.cache_api.specs.Cache.{Keeps, AllLast}
use Rattle.cache_api.specs.Moments.{Leaves}
use Rattle.run_laws.specs.Runs.{IsReady}
use Rattle.run_plan.specs.Answers.{Ran}
use Rattle.run_plan.specs.DryPages.{dry_page}
use Rattle.run_plan.specs.Openings.{setting_of}
use Rattle.runner.specs.Answers.{HasSafePairs, IsFurther, opening_of}
use Rattle.answers.specs.Answers.{IfDone, HasRunCause, counts_at}
use Rattle.answers.specs.Facts.{if_fault}
use Rattle.answers.specs.Stops.{IfFault}
use Rattle.held_results.specs.Held.{below_of, held_pairs, state_of}
use Rattle.cache_runs.specs.Stops.{StopsDry, StopsOver}
use Rattle.cache_runs.proofs.Finished.{done_as, done_both}
use Rattle.cache_runs.proofs.Holding.{given_last, handed, on_false, still_there, taken}
use Rattle.cache_runs.proofs.Losing.{loses}
use Rattle.cache_runs.proofs.running.run_over.Goals as goal

pub returns-clause-whole : goal.returns-clause-whole
returns-clause-whole g c =
    let answer = c.run_either-answer.result in
    done_as _ _ answer (λ status whole. c.into_inner.ensures.whole whole) c.run_either-answer.ensures.whole

pub returns-clause-last : goal.returns-clause-last
returns-clause-last g c told =
    let later = c.run_either-answer.new.cache in
    let left = c.into_inner.result in
    let out = c.into_inner.ensures.below in
    let answer = c.run_either-answer.result in
    done_as _ _ answer (λ status last. given_last later left out (c.into_inner.ensures.all told last) last)
    (c.run_either-answer.ensures.last told)

pub returns-clause-ran : goal.returns-clause-ran
returns-clause-ran g c world told =
    let h = c.new-held.result in
    let later = c.run_either-answer.new.cache in
    let cache = c.args.cache in
    let left = c.into_inner.result in
    let out = c.into_inner.ensures.below in
    let answer = c.run_either-answer.result in
    let plan = c.args.plan.now in
    let dry = c.args.is_dry in
    let files = (g.W.Tree.state c.run_either-answer.new.world).files in
    let steps = (g.W.Spawner.runs c.run_either-answer.new.world).steps in
    let before = g.K.Sink.written c.args.out.now in
    let after = g.K.Sink.written c.run_either-answer.new.out in
    let effect = g.W.Spawner.effect in
    let runs = g.W.Spawner.runs c.args.world.now in
    let tree = g.W.Tree.state c.args.world.now in
    let same : AllLast (state_of later) → (g.C.Cache.state (below_of later)).pairs ≡ (state_of later).pairs =
    λ last. ap (λ x. (g.C.Cache.state x).pairs) (sym c.into_inner.ensures.below) ∙ c.into_inner.ensures.all told last in
    handed h later cache left c.new-held.ensures.below c.new-held.ensures.none c.new-held.ensures.whole out
    (λ s x y. OnFalse dry (IsReady (setting_of plan (opening_of effect runs tree s))
    → IfDone answer (Ran plan (opening_of effect runs tree s) files (g.C.Cache.state y).pairs (g.C.Cache.state y).room
    steps g.K.Sink.tells before after)))
    (on_false dry _ _ (λ live ready. done_both _ _ _ answer
    (λ status ran last. subst (λ ps. Ran plan (opening_of effect runs tree (state_of h)) files ps
    (state_of later).room steps g.K.Sink.tells before after status) (sym (same last)) ran)
    (live ready) (c.run_either-answer.ensures.last told))
    (c.run_either-answer.ensures.ran world told))

pub returns-clause-dry_page : goal.returns-clause-dry_page
returns-clause-dry_page g c told heard =
    let h = c.new-held.result in
    let later = c.run_either-answer.new.cache in
    let cache = c.args.cache in
    let left = c.into_inner.result in
    let out = c.into_inner.ensures.below in
    let answer = c.run_either-answer.result in
    let plan = c.args.plan.now in
    let dry = c.args.is_dry in
    let before = g.K.Sink.written c.args.out.now in
    let after = g.K.Sink.written c.run_either-answer.new.out in
    handed h later cache left c.new-held.ensures.below c.new-held.ensures.none c.new-held.ensures.whole out
    (λ s x y. OnTrue dry (IfDone answer (λ status. after ≡ before ++ dry_page plan s.pairs)))
    (c.run_either-answer.ensures.dry_page told heard)

pub returns-clause-stopped : goal.returns-clause-stopped
returns-clause-stopped g c world told heard =
    let h = c.new-held.result in
    let later = c.run_either-answer.new.cache in
    let cache = c.args.cache in
    let left = c.into_inner.result in
    let out = c.into_inner.ensures.below in
    let answer = c.run_either-answer.result in
    let plan = c.args.plan.now in
    let dry = c.args.is_dry in
    let files = (g.W.Tree.state c.run_either-answer.new.world).files in
    let steps = (g.W.Spawner.runs c.run_either-answer.new.world).steps in
    let before = g.K.Sink.written c.args.out.now in
    let after = g.K.Sink.written c.run_either-answer.new.out in
    let effect = g.W.Spawner.effect in
    let runs = g.W.Spawner.runs c.args.world.now in
    let tree = g.W.Tree.state c.args.world.now in
    let last = subst (λ s. AllLast s) (sym (taken h cache c.new-held.ensures.below c.new-held.ensures.none c.new-held.ensures.whole)) (c.requires.last told) in
    let long = still_there h later last (c.run_either-answer.ensures.lasting told) (g.met.C.Cache.within (below_of later) told) in
    let o = opening_of effect runs tree (state_of h) in
    let below = g.C.Cache.state (below_of later) in
    handed h later cache left c.new-held.ensures.below c.new-held.ensures.none c.new-held.ensures.whole out
    (λ s x y. OnFalse dry (IsReady (setting_of plan (opening_of effect runs tree s))
    → IfFault answer (StopsOver plan (opening_of effect runs tree s) files (g.C.Cache.state y).pairs (g.C.Cache.state y).room
    steps g.K.Sink.tells before after)))
    (on_false dry _ _ (λ live ready. if_fault answer _ _
    (λ cause line stops. (
      stops.0,
      loses plan o ⊥ files below.pairs (held_pairs later) (state_of later).pairs below.room steps cause
          g.K.Sink.tells before stops.0 refl long stops.1,
      stops.2,
    )) (live ready))
    (c.run_either-answer.ensures.stopped world told heard))

pub returns-clause-dry_stopped : goal.returns-clause-dry_stopped
returns-clause-dry_stopped g c told heard =
    let h = c.new-held.result in
    let later = c.run_either-answer.new.cache in
    let cache = c.args.cache in
    let left = c.into_inner.result in
    let out = c.into_inner.ensures.below in
    let answer = c.run_either-answer.result in
    let plan = c.args.plan.now in
    let dry = c.args.is_dry in
    let before = g.K.Sink.written c.args.out.now in
    let after = g.K.Sink.written c.run_either-answer.new.out in
    handed h later cache left c.new-held.ensures.below c.new-held.ensures.none c.new-held.ensures.whole out
    (λ s x y. OnTrue dry (IfFault answer (StopsDry plan s.pairs before after)))
    (c.run_either-answer.ensures.dry_stopped told heard)

pub returns-clause-keeps : goal.returns-clause-keeps
returns-clause-keeps g c =
    let h = c.new-held.result in
    let later = c.run_either-answer.new.cache in
    let cache = c.args.cache in
    let left = c.into_inner.result in
    let out = c.into_inner.ensures.below in
    let keeps = c.run_either-answer.ensures.keeps in
    handed h later cache left c.new-held.ensures.below c.new-held.ensures.none c.new-held.ensures.whole out
    (λ s x y. Keeps s (g.C.Cache.state y))
    (record { base = keeps.base; room = keeps.room; probes = keeps.probes })

pub returns-clause-dry_pairs : goal.returns-clause-dry_pairs
returns-clause-dry_pairs g c told =
    let h = c.new-held.result in
    let later = c.run_either-answer.new.cache in
    let cache = c.args.cache in
    let left = c.into_inner.result in
    let out = c.into_inner.ensures.below in
    let dry = c.args.is_dry in
    let same : AllLast (state_of later) → (g.C.Cache.state (below_of later)).pairs ≡ (state_of later).pairs =
    λ last. ap (λ x. (g.C.Cache.state x).pairs) (sym c.into_inner.ensures.below) ∙ c.into_inner.ensures.all told last in
    let last = c.run_either-answer.ensures.dry_last told in
    let pairs = c.run_either-answer.ensures.dry_pairs told in
    handed h later cache left c.new-held.ensures.below c.new-held.ensures.none c.new-held.ensures.whole out
    (λ s x y. OnTrue dry ((g.C.Cache.state y).pairs ≡ s.pairs))
    (OnTrue_from dry _ (λ is. same (OnTrue_at is last) ∙ OnTrue_at is pairs))

pub returns-clause-images : goal.returns-clause-images
returns-clause-images g c told =
    let h = c.new-held.result in
    let later = c.run_either-answer.new.cache in
    let cache = c.args.cache in
    let left = c.into_inner.result in
    let out = c.into_inner.ensures.below in
    handed h later cache left c.new-held.ensures.below c.new-held.ensures.none c.new-held.ensures.whole out
    (λ s x y. Leaves g.C.Cache.moment g.C.Cache.left x y
    (λ image. IsFurther s.pairs (g.C.Cache.says s.base image)))
    (c.run_either-answer.ensures.images told)

pub returns-clause-left : goal.returns-clause-left
returns-clause-left g c world told =
    let h = c.new-held.result in
    let later = c.run_either-answer.new.cache in
    let cache = c.args.cache in
    let left = c.into_inner.result in
    let out = c.into_inner.ensures.below in
    let plan = c.args.plan.now in
    let dry = c.args.is_dry in
    let steps = (g.W.Spawner.runs c.run_either-answer.new.world).steps in
    let effect = g.W.Spawner.effect in
    let runs = g.W.Spawner.runs c.args.world.now in
    let tree = g.W.Tree.state c.args.world.now in
    handed h later cache left c.new-held.ensures.below c.new-held.ensures.none c.new-held.ensures.whole out
    (λ s x y. OnFalse dry (IsReady (setting_of plan (opening_of effect runs tree s))
    → Leaves g.C.Cache.moment g.C.Cache.left x y
    (λ image. HasSafePairs plan (opening_of effect runs tree s) (g.C.Cache.state y).room steps (g.C.Cache.says s.base image))))
    (c.run_either-answer.ensures.left world told)

pub returns-clause-dry_left : goal.returns-clause-dry_left
returns-clause-dry_left g c told =
    let h = c.new-held.result in
    let later = c.run_either-answer.new.cache in
    let cache = c.args.cache in
    let left = c.into_inner.result in
    let out = c.into_inner.ensures.below in
    let dry = c.args.is_dry in
    handed h later cache left c.new-held.ensures.below c.new-held.ensures.none c.new-held.ensures.whole out
    (λ s x y. OnTrue dry (Leaves g.C.Cache.moment g.C.Cache.left x y
    (λ image. g.C.Cache.says s.base image ≡ Some s.pairs)))
    (c.run_either-answer.ensures.dry_left told)

pub returns-clause-cause : goal.returns-clause-cause
returns-clause-cause g c =
    let h = c.new-held.result in
    let later = c.run_either-answer.new.cache in
    let cache = c.args.cache in
    let left = c.into_inner.result in
    let out = c.into_inner.ensures.below in
    let answer = c.run_either-answer.result in
    let runs = g.W.Spawner.runs c.args.world.now in
    let tree = g.W.Tree.state c.args.world.now in
    handed h later cache left c.new-held.ensures.below c.new-held.ensures.none c.new-held.ensures.whole out
    (λ s x y. HasRunCause (counts_at tree runs s.faults (g.K.Sink.faults c.args.out.now))
    (counts_at (g.W.Tree.state c.run_either-answer.new.world) (g.W.Spawner.runs c.run_either-answer.new.world)
    (g.C.Cache.state y).faults (g.K.Sink.faults c.run_either-answer.new.out)) answer)
    c.run_either-answer.ensures.cause

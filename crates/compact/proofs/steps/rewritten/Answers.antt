use Rattle.std.proofs.Common.{List, [], Option, subst}
use Rattle.std.specs.Prelude.{IfOk}
use Rattle.std.proofs.lemmas.Result.{err_from_is_err_and, IfErr-weaker}
use Rattle.cache_api.specs.Pairs.{Pair}
use Rattle.record_log.specs.Frames.{frames_of}
use Rattle.artifact_store.specs.Store.{state_of}
use Rattle.compact.specs.Answers.{IsNoRoomWhere}
use Rattle.compact.specs.Current.{generation_in}
use Rattle.compact.specs.Left.{ReadsAs, RestsAs, IsUnsealed}
use Rattle.compact.specs.Picks.{pairs_at}
use Rattle.compact.specs.Room.{Lack}
use Rattle.compact.specs.Sources.{answered, handed, LeavesRefused}
use Rattle.compact.proofs.Telling.{store_tells}
use Rattle.compact.proofs.Renewing.{step_lacks, step_put, refused_by, refused_more, unsealed_zero, unsealed_filled, renewing_two, renewing_more, renewing_three}
use Rattle.compact.proofs.steps.rewritten.Goals as goal

pub returns-in_err-to-2-clause-room : goal.returns-in_err-to-2-clause-room
returns-in_err-to-2-clause-room g c told tells =
    let pairs = pairs_at (state_of c.args.from.now).pairs c.args.numbers.now in
    let u = c.in_err-to-2.field-0.0 in
    let p = err_from_is_err_and c.from_residual-in_err-to-2.result c.from_residual-in_err-to-2.ensures.1 in
    rw (p.1, p.2) (step_lacks u.fault [] [] pairs (c.in_err-to-2.ensures.room told tells) c.args.generation)

pub returns-in_err-to-2-clause-images : goal.returns-in_err-to-2-clause-images
returns-in_err-to-2-clause-images g c told tells =
    let s = g.P.StoreDevice in
    let pairs = pairs_at (state_of c.args.from.now).pairs c.args.numbers.now in
    let u = c.in_err-to-2.field-0.0 in
    let was = generation_in (s.content c.args.to) in
    let p = err_from_is_err_and c.from_residual-in_err-to-2.result c.from_residual-in_err-to-2.ensures.1 in
    rw (p.1, p.2) (renewing_more s.moment s.images_since was c.args.generation pairs c.args.to u.store
    (renewing_two s.moment s.images_since was c.args.generation pairs c.args.to c.in_ok-to.to u.store (c.in_ok-to.ensures.images tells) (c.in_err-to-2.ensures.images tells)))

pub returns-in_err-to-2-clause-refused : goal.returns-in_err-to-2-clause-refused
returns-in_err-to-2-clause-refused g c told tells =
    let s = g.P.StoreDevice in
    let u = c.in_err-to-2.field-0.0 in
    let was = generation_in (s.content c.args.to) in
    let images = c.in_err-to-2.ensures.images tells in
    let p = err_from_is_err_and c.from_residual-in_err-to-2.result c.from_residual-in_err-to-2.ensures.1 in
    rw (p.1, p.2) (refused_by u.fault (s.images u.store) (IsUnsealed was)
    (λ f now. unsealed_zero was f (images.each f (g.met.P.StoreDevice.counts_now u.store (s.moment c.in_ok-to.to) f images.later now))))

pub returns-clause-renewed : goal.returns-clause-renewed
returns-clause-renewed g c told tells =
    let s = g.P.StoreDevice in
    let pairs = pairs_at (state_of c.args.from.now).pairs c.args.numbers.now in
    let to = c.in_ok-to-2.to in
    let filled = c.in_ok-to-2.ensures.pairs told tells in
    subst (λ (l : List Pair). IfOk c.sealed.result (RestsAs s c.args.generation l)) (store_tells 0 pairs (s.content to) filled.is).pairs (c.sealed.ensures.sealed tells)

pub returns-clause-room : goal.returns-clause-room
returns-clause-room g c told tells =
    let pairs = pairs_at (state_of c.args.from.now).pairs c.args.numbers.now in
    let fs = frames_of (g.P.StoreDevice.content c.in_ok-to-2.to) in
    subst (λ (l : Option Lack). IsNoRoomWhere (answered c.sealed.result) l) (step_put [] fs pairs (c.in_ok-to-2.ensures.room told tells) c.args.generation) (c.sealed.ensures.room tells)

pub returns-clause-images : goal.returns-clause-images
returns-clause-images g c told tells =
    let s = g.P.StoreDevice in
    let pairs = pairs_at (state_of c.args.from.now).pairs c.args.numbers.now in
    let to = c.in_ok-to-2.to in
    let was = generation_in (s.content c.args.to) in
    let filled = c.in_ok-to-2.ensures.pairs told tells in
    renewing_three s.moment s.images_since was c.args.generation pairs c.args.to to (handed c.sealed.result) (s.content to) filled.is
    (renewing_two s.moment s.images_since was c.args.generation pairs c.args.to c.in_ok-to.to to (c.in_ok-to.ensures.images tells) (c.in_ok-to-2.ensures.images tells))
    (c.sealed.ensures.images tells)

pub returns-clause-refused : goal.returns-clause-refused
returns-clause-refused g c told tells =
    let s = g.P.StoreDevice in
    let pairs = pairs_at (state_of c.args.from.now).pairs c.args.numbers.now in
    let to = c.in_ok-to-2.to in
    let was = generation_in (s.content c.args.to) in
    let filled = c.in_ok-to-2.ensures.pairs told tells in
    IfErr-weaker c.sealed.result (λ u. LeavesRefused u.fault (s.images u.store) (ReadsAs (s.content to))) (λ u. LeavesRefused u.fault (s.images u.store) (IsUnsealed was))
    (λ u x. refused_more u.fault (s.images u.store) (ReadsAs (s.content to)) (IsUnsealed was) (λ f reads. unsealed_filled was pairs (s.content to) f filled.is reads) x)
    (c.sealed.ensures.refused tells)

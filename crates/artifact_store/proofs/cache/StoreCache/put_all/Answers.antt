use Rattle.std.proofs.Common.{◌≡◌, ◌⊎◌, inl, inr, ⊎_elim, ◌++◌, ◌-◌, List, length, ◌∙◌, ap, subst, arith}
use Rattle.std.proofs.lemmas.Result.{err_from_is_err_and}
use Rattle.store_dev.specs.Device.{LeavesOnly}
use Rattle.cache_api.specs.declared.error.CacheErr.TheVariants.{Failed}
use Rattle.cache_api.specs.declared.puts.Puts.{Puts}
use Rattle.cache_api.specs.Keys.{new_pairs}
use Rattle.cache_api.specs.Moments.{leaves_more}
use Rattle.cache_api.specs.Pairs.{Pair, chosen, IsPartSince}
use Rattle.cache_api.proofs.Firsts.{part_more}
use Rattle.record_log.specs.Kinds.{Entry}
use Rattle.record_log.specs.Batch.{IsBeforeOrAll}
use Rattle.blob_pool.specs.Laws.{frames_read}
use Rattle.pair_frames.specs.Pairs.{pairs_in}
use Rattle.pair_writer.specs.Staged.{entries, taken}
use Rattle.artifact_store.specs.Pairs.{told_as}
use Rattle.artifact_store.specs.Store.{device_of, frames_of, state_of, moment_of, left_of, stores}
use Rattle.artifact_store.specs.Fits.{are_to_put, are_put_less}
use Rattle.artifact_store.proofs.After.{cache_reads, hits_after, after_err, after_both, no_fewer, images_after, put_left, generation_same}
use Rattle.artifact_store.proofs.cache.StoreCache.put_all.Goals as goal

pub returns-in_err-staged-clause-pairs : goal.returns-in_err-staged-clause-pairs
returns-in_err-staged-clause-pairs g c told =
    let store = c.args.self.now in
    let same : pairs_in (frames_of c.stage.new.self) ≡ pairs_in (frames_of store) =
    ap pairs_in (frames_read store.log c.stage.new.self.log c.stage.ensures.reads.log) in
    let e = c.in_err-staged.field-0.0 in
    let p = err_from_is_err_and c.from_residual.result c.from_residual.ensures.1 in
    rw (p.1, p.2) (after_err Puts e (pairs_in (frames_of store)) (chosen (new_pairs c.args.pairs.now) (stores store (new_pairs c.args.pairs.now))) (pairs_in (frames_of c.stage.new.self)) c.in_err-staged.ensures.answers (inr same) (inl same))

pub returns-in_err-staged-clause-full : goal.returns-in_err-staged-clause-full
returns-in_err-staged-clause-full g c told = are_to_put c.args.self.now (new_pairs c.args.pairs.now)

pub returns-in_err-staged-clause-lasting : goal.returns-in_err-staged-clause-lasting
returns-in_err-staged-clause-lasting g c told =
    let store = c.args.self.now in
    let same = ap pairs_in (frames_read store.log c.stage.new.self.log c.stage.ensures.reads.log) in
    omega (arith, ap length same)

pub returns-in_err-staged-clause-left : goal.returns-in_err-staged-clause-left
returns-in_err-staged-clause-left g c told =
    let store = c.args.self.now in
    let mid = c.stage.new.self in
    let news = new_pairs c.args.pairs.now in
    let reads = cache_reads store mid c.requires (g.met.S.StoreDevice.only_now (device_of store)) c.stage.ensures.reads in
    leaves_more moment_of left_of store mid
    (λ c. IsPartSince (state_of store).lasting (state_of store).pairs (told_as store.generation c))
    (λ c. IsPartSince (state_of store).lasting ((state_of store).pairs ++ chosen news (stores store news)) (told_as store.generation c))
    (reads.left told)
    (λ c is. part_more (state_of store).lasting (state_of store).pairs (chosen news (stores store news)) (told_as store.generation c)
    (omega arith) is)

pub returns-in_err-add-clause-images : goal.returns-in_err-add-clause-images
returns-in_err-add-clause-images g c told =
    let store = c.args.self.now in
    let mid = c.stage.new.self in
    let new = c.add.new.self in
    let news = new_pairs c.args.pairs.now in
    let es = entries c.in_ok-staged.staged in
    subst (λ (l : List Entry). LeavesOnly g.S.StoreDevice.moment g.S.StoreDevice.images_since (device_of store) (device_of new) (IsBeforeOrAll (frames_of store) l))
    (c.in_ok-staged.ensures.staged told)
    (images_after store mid new c.requires told (g.met.S.StoreDevice.only_now (device_of store)) c.stage.ensures.reads es (c.add.ensures.images told))

pub returns-in_err-add-clause-pairs : goal.returns-in_err-add-clause-pairs
returns-in_err-add-clause-pairs g c told =
    let store = c.args.self.now in
    let mid = c.stage.new.self in
    let new = c.add.new.self in
    let news = new_pairs c.args.pairs.now in
    let es = entries c.in_ok-staged.staged in
    let fs = frames_of store in
    let same : frames_of mid ≡ fs = frames_read store.log mid.log c.stage.ensures.reads.log in
    let chosen_are : chosen news c.in_ok-staged.puts ≡ chosen news (stores store news) = ap (chosen news) (c.in_ok-staged.ensures.puts told) in
    let pairs = c.in_ok-staged.ensures.pairs told ∙ ap (λ (l : List Pair). pairs_in fs ++ l) chosen_are in
    let e = c.in_err-add.field-0.0 in
    let p = err_from_is_err_and c.from_residual-in_err-add.result c.from_residual-in_err-add.ensures.1 in
    let unchanged : (e ≡ Failed) ⊎ (pairs_in (frames_of new) ≡ pairs_in fs) =
    ⊎_elim (λ failed. inl failed) (λ is. inr (ap pairs_in (is ∙ same))) (c.in_err-add.ensures.unchanged told) in
    let after : (pairs_in (frames_of new) ≡ pairs_in fs) ⊎ (pairs_in (frames_of new) ≡ pairs_in fs ++ chosen news (stores store news)) =
    ⊎_elim (λ is. inl (ap pairs_in is)) (λ is. inr (ap pairs_in is ∙ pairs))
    (after_both store mid new es c.stage.ensures.reads (c.add.ensures.after told)) in
    rw (p.1, p.2) (after_err Puts e (pairs_in fs) (chosen news (stores store news)) (pairs_in (frames_of new)) c.in_err-add.ensures.answers unchanged after)

pub returns-in_err-add-clause-lasting : goal.returns-in_err-add-clause-lasting
returns-in_err-add-clause-lasting g c told =
    let store = c.args.self.now in
    let mid = c.stage.new.self in
    let new = c.add.new.self in
    let news = new_pairs c.args.pairs.now in
    let es = entries c.in_ok-staged.staged in
    let chosen_are : chosen news c.in_ok-staged.puts ≡ chosen news (stores store news) = ap (chosen news) (c.in_ok-staged.ensures.puts told) in
    let pairs = c.in_ok-staged.ensures.pairs told ∙ ap (λ (l : List Pair). pairs_in (frames_of store) ++ l) chosen_are in
    no_fewer (pairs_in (frames_of store)) (chosen news (stores store news)) (pairs_in (frames_of new))
    (⊎_elim (λ is. inl (ap pairs_in is)) (λ is. inr (ap pairs_in is ∙ pairs))
    (after_both store mid new es c.stage.ensures.reads (c.add.ensures.after told)))

pub returns-in_err-add-clause-full : goal.returns-in_err-add-clause-full
returns-in_err-add-clause-full g c told = are_to_put c.args.self.now (new_pairs c.args.pairs.now)

pub returns-in_err-add-clause-left : goal.returns-in_err-add-clause-left
returns-in_err-add-clause-left g c told =
    let store = c.args.self.now in
    let mid = c.stage.new.self in
    let new = c.add.new.self in
    let news = new_pairs c.args.pairs.now in
    let es = entries c.in_ok-staged.staged in
    let chosen_are : chosen news c.in_ok-staged.puts ≡ chosen news (stores store news) = ap (chosen news) (c.in_ok-staged.ensures.puts told) in
    let pairs = c.in_ok-staged.ensures.pairs told ∙ ap (λ (l : List Pair). pairs_in (frames_of store) ++ l) chosen_are in
    put_left store mid new c.requires told (g.met.S.StoreDevice.only_now (device_of store)) c.stage.ensures.reads es
    (chosen news (stores store news)) (generation_same (frames_of store) c.in_ok-staged.staged.frames.items) pairs (c.add.ensures.images told)

pub returns-in_err-add-clause-hits : goal.returns-in_err-add-clause-hits
returns-in_err-add-clause-hits g c =
    let store = c.args.self.now in
    let mid = c.stage.new.self in
    let new = c.add.new.self in
    let news = new_pairs c.args.pairs.now in
    let es = entries c.in_ok-staged.staged in
    hits_after store new es (λ told. after_both store mid new es c.stage.ensures.reads (c.add.ensures.after told))

pub returns-clause-put : goal.returns-clause-put
returns-clause-put g c =
    let store = c.args.self.now in
    are_put_less ((state_of store).room - taken c.in_ok-staged.staged) (state_of c.add.new.self).room (new_pairs c.args.pairs.now) c.in_ok-staged.puts
    (omega (arith, c.in_ok-add.ensures.taken, c.stage.ensures.reads.log.room)) c.in_ok-staged.ensures.full

pub returns-clause-images : goal.returns-clause-images
returns-clause-images g c told =
    let store = c.args.self.now in
    let mid = c.stage.new.self in
    let new = c.add.new.self in
    let news = new_pairs c.args.pairs.now in
    let es = entries c.in_ok-staged.staged in
    subst (λ (l : List Entry). LeavesOnly g.S.StoreDevice.moment g.S.StoreDevice.images_since (device_of store) (device_of new) (IsBeforeOrAll (frames_of store) l))
    (c.in_ok-staged.ensures.staged told)
    (images_after store mid new c.requires told (g.met.S.StoreDevice.only_now (device_of store)) c.stage.ensures.reads es (c.add.ensures.images told))

pub returns-clause-lasting : goal.returns-clause-lasting
returns-clause-lasting g c told =
    let store = c.args.self.now in
    let mid = c.stage.new.self in
    let new = c.add.new.self in
    let news = new_pairs c.args.pairs.now in
    let es = entries c.in_ok-staged.staged in
    let chosen_are : chosen news c.in_ok-staged.puts ≡ chosen news (stores store news) = ap (chosen news) (c.in_ok-staged.ensures.puts told) in
    let pairs = c.in_ok-staged.ensures.pairs told ∙ ap (λ (l : List Pair). pairs_in (frames_of store) ++ l) chosen_are in
    no_fewer (pairs_in (frames_of store)) (chosen news (stores store news)) (pairs_in (frames_of new))
    (⊎_elim (λ is. inl (ap pairs_in is)) (λ is. inr (ap pairs_in is ∙ pairs))
    (after_both store mid new es c.stage.ensures.reads (c.add.ensures.after told)))

pub returns-clause-full : goal.returns-clause-full
returns-clause-full g c told = are_to_put c.args.self.now (new_pairs c.args.pairs.now)

pub returns-clause-left : goal.returns-clause-left
returns-clause-left g c told =
    let store = c.args.self.now in
    let mid = c.stage.new.self in
    let new = c.add.new.self in
    let news = new_pairs c.args.pairs.now in
    let es = entries c.in_ok-staged.staged in
    let chosen_are : chosen news c.in_ok-staged.puts ≡ chosen news (stores store news) = ap (chosen news) (c.in_ok-staged.ensures.puts told) in
    let pairs = c.in_ok-staged.ensures.pairs told ∙ ap (λ (l : List Pair). pairs_in (frames_of store) ++ l) chosen_are in
    put_left store mid new c.requires told (g.met.S.StoreDevice.only_now (device_of store)) c.stage.ensures.reads es
    (chosen news (stores store news)) (generation_same (frames_of store) c.in_ok-staged.staged.frames.items) pairs (c.add.ensures.images told)

pub returns-clause-hits : goal.returns-clause-hits
returns-clause-hits g c =
    let store = c.args.self.now in
    let mid = c.stage.new.self in
    let new = c.add.new.self in
    let news = new_pairs c.args.pairs.now in
    let es = entries c.in_ok-staged.staged in
    hits_after store new es (λ told. after_both store mid new es c.stage.ensures.reads (c.add.ensures.after told))

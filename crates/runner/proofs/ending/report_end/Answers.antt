use Rattle.std.proofs.Common.{◌≡◌, ◌∙◌, ap, sym, refl, inl, cond}
use Rattle.std.proofs.lemmas.Result.{err_from_is_err_and}
use Rattle.sha2.specs.Sha256.{sha256}
use Rattle.cache_api.specs.Keys.{own_text}
use Rattle.cache_api.specs.Moments.{leaves_more}
use Rattle.listing.specs.Fingerprint.{printed}
use Rattle.page.specs.declared.blocks.Mark.TheVariants as printed_mark
use Rattle.run_laws.specs.Ancestors.{part_at}
use Rattle.run_plan.specs.StoryLaws.{to_put}
use Rattle.task_devices.specs.Keeping.{IsPartOf, MayBeKept}
use Rattle.task_devices.proofs.KeepFacts.{same_first}
use Rattle.runner.specs.Ends.{MayBeKeptOf, with_log}
use Rattle.runner.proofs.CacheFacts.{cache-none}
use Rattle.runner.proofs.EndFacts.{first-as, kept-as, part-as, rests-kept}
use Rattle.runner.proofs.FileFacts.{only-same, only-then}
use Rattle.runner.proofs.ending.report_end.Goals as goal

-- ---- where the cache was not called

pub key_with-key-requires : goal.key_with-key-requires
key_with-key-requires g c print is =
    c.requires.known print is ∙ ap sha256 (sym c.in_ok-text.ensures.key)

pub returns-in_err-keep_log-clause-failed : goal.returns-in_err-keep_log-clause-failed
returns-in_err-keep_log-clause-failed g c told store =
    let cache = g.C.Cache.state c.args.cache.now in
    let p = err_from_is_err_and c.from_residual.result
    c.from_residual.ensures.1 in
    rw p.1 (cache.pairs, inl refl, same_first cache.lasting cache.pairs cache.pairs refl)

pub returns-in_err-keep_log-clause-left : goal.returns-in_err-keep_log-clause-left
returns-in_err-keep_log-clause-left g c told store =
    rests-kept g.C.Cache.state g.C.Cache.moment g.C.Cache.left g.C.Cache.says c.args.plan.now
    c.args.ended.now c.args.sound (g.W.Tree.state c.args.world.now).files c.args.cache.now
    (λ image left. g.met.C.Cache.at_rest c.args.cache.now image store c.requires.whole left)

pub returns-in_err-keep_log-clause-cache : goal.returns-in_err-keep_log-clause-cache
returns-in_err-keep_log-clause-cache g c =
    cache-none g.C.Cache.state g.C.Cache.moment g.C.Cache.left g.C.Cache.says g.C.Cache.tells
    c.args.cache.now
    (λ store image left. g.met.C.Cache.at_rest c.args.cache.now image store c.requires.whole left)

pub returns-in_err-text-clause-failed : goal.returns-in_err-text-clause-failed
returns-in_err-text-clause-failed g c told store =
    let cache = g.C.Cache.state c.args.cache.now in
    let p = err_from_is_err_and c.from_residual-in_err-text.result
    c.from_residual-in_err-text.ensures.1 in
    rw p.1 (cache.pairs, inl refl, same_first cache.lasting cache.pairs cache.pairs refl)

pub returns-in_err-text-clause-left : goal.returns-in_err-text-clause-left
returns-in_err-text-clause-left g c told store =
    rests-kept g.C.Cache.state g.C.Cache.moment g.C.Cache.left g.C.Cache.says c.args.plan.now
    c.args.ended.now c.args.sound (g.W.Tree.state c.args.world.now).files c.args.cache.now
    (λ image left. g.met.C.Cache.at_rest c.args.cache.now image store c.requires.whole left)

pub returns-in_err-text-clause-cache : goal.returns-in_err-text-clause-cache
returns-in_err-text-clause-cache g c =
    cache-none g.C.Cache.state g.C.Cache.moment g.C.Cache.left g.C.Cache.says g.C.Cache.tells
    c.args.cache.now
    (λ store image left. g.met.C.Cache.at_rest c.args.cache.now image store c.requires.whole left)

pub returns-in_err-digits-clause-failed : goal.returns-in_err-digits-clause-failed
returns-in_err-digits-clause-failed g c told store =
    let cache = g.C.Cache.state c.args.cache.now in
    let p = err_from_is_err_and c.from_residual-in_err-digits.result
    c.from_residual-in_err-digits.ensures.1 in
    rw p.1 (cache.pairs, inl refl, same_first cache.lasting cache.pairs cache.pairs refl)

pub returns-in_err-digits-clause-left : goal.returns-in_err-digits-clause-left
returns-in_err-digits-clause-left g c told store =
    rests-kept g.C.Cache.state g.C.Cache.moment g.C.Cache.left g.C.Cache.says c.args.plan.now
    c.args.ended.now c.args.sound (g.W.Tree.state c.args.world.now).files c.args.cache.now
    (λ image left. g.met.C.Cache.at_rest c.args.cache.now image store c.requires.whole left)

pub returns-in_err-digits-clause-cache : goal.returns-in_err-digits-clause-cache
returns-in_err-digits-clause-cache g c =
    cache-none g.C.Cache.state g.C.Cache.moment g.C.Cache.left g.C.Cache.says g.C.Cache.tells
    c.args.cache.now
    (λ store image left. g.met.C.Cache.at_rest c.args.cache.now image store c.requires.whole left)

-- ---- where it was

pub returns-in_err-note-clause-others : goal.returns-in_err-note-clause-others
returns-in_err-note-clause-others g c told =
    only-then c.args.plan.now c.args.ended.now.place _ _ _ (c.in_ok-keep_log.ensures.others told)
    (only-same c.args.plan.now c.args.ended.now.place _ _ c.in_err-note.ensures.files)

pub returns-in_err-note-clause-left : goal.returns-in_err-note-clause-left
returns-in_err-note-clause-left g c told store =
    let plan = c.args.plan.now in
    let ended = c.args.ended.now in
    let cache = g.C.Cache.state c.args.cache.now in
    let files = (g.W.Tree.state c.args.world.now).files in
    let logged = (g.W.Tree.state c.keep_log.new.world).files in
    let written : logged ≡ with_log plan ended files =
    c.in_ok-keep_log.ensures.logged told ∙ ap (λ log. with_log plan (record ended { log = log }) files)
    c.as_slice.ensures in
    let key = c.key_with-key.ensures ∙ c.in_ok-text.ensures.key in
    leaves_more g.C.Cache.moment g.C.Cache.left c.args.cache.now c.keep.new.cache
    (λ image. IsPartOf cache.lasting (MayBeKept (to_put plan c.args.sound ended.place ended.status)
    logged (part_at plan.listing ended.place).outs plan.limit (own_text c.key_with-key.result)
    ended.log cache.pairs) (g.C.Cache.says cache.base image))
    (λ image. IsPartOf cache.lasting (MayBeKeptOf plan ended c.args.sound files cache.pairs)
    (g.C.Cache.says cache.base image))
    (c.in_err-note.ensures.left told store)
    (λ image is. part-as plan ended c.args.sound files logged (own_text c.key_with-key.result)
    written key cache.lasting cache.pairs (g.C.Cache.says cache.base image) is)

pub returns-in_err-note-clause-cache : goal.returns-in_err-note-clause-cache
returns-in_err-note-clause-cache g c = record {
  keeps = c.in_err-note.ensures.keeps;
  lasts = λ store. c.in_err-note.ensures.lasts store;
}

pub returns-clause-others : goal.returns-clause-others
returns-clause-others g c told =
    only-then c.args.plan.now c.args.ended.now.place _ _ _ (c.in_ok-keep_log.ensures.others told)
    (only-same c.args.plan.now c.args.ended.now.place _ _ c.in_ok-note.ensures.files)

pub returns-clause-left : goal.returns-clause-left
returns-clause-left g c told store =
    let plan = c.args.plan.now in
    let ended = c.args.ended.now in
    let cache = g.C.Cache.state c.args.cache.now in
    let files = (g.W.Tree.state c.args.world.now).files in
    let logged = (g.W.Tree.state c.keep_log.new.world).files in
    let written : logged ≡ with_log plan ended files =
    c.in_ok-keep_log.ensures.logged told ∙ ap (λ log. with_log plan (record ended { log = log }) files)
    c.as_slice.ensures in
    let key = c.key_with-key.ensures ∙ c.in_ok-text.ensures.key in
    leaves_more g.C.Cache.moment g.C.Cache.left c.args.cache.now c.keep.new.cache
    (λ image. IsPartOf cache.lasting (MayBeKept (to_put plan c.args.sound ended.place ended.status)
    logged (part_at plan.listing ended.place).outs plan.limit (own_text c.key_with-key.result)
    ended.log cache.pairs) (g.C.Cache.says cache.base image))
    (λ image. IsPartOf cache.lasting (MayBeKeptOf plan ended c.args.sound files cache.pairs)
    (g.C.Cache.says cache.base image))
    (c.in_ok-note.ensures.left told store)
    (λ image is. part-as plan ended c.args.sound files logged (own_text c.key_with-key.result)
    written key cache.lasting cache.pairs (g.C.Cache.says cache.base image) is)

pub returns-clause-cache : goal.returns-clause-cache
returns-clause-cache g c = record {
  keeps = c.in_ok-note.ensures.keeps;
  lasts = λ store. c.in_ok-note.ensures.lasts store;
}

pub returns-in_err-note-clause-failed : goal.returns-in_err-note-clause-failed
returns-in_err-note-clause-failed g c told store =
    let plan = c.args.plan.now in
    let ended = c.args.ended.now in
    let cache = g.C.Cache.state c.args.cache.now in
    let files = (g.W.Tree.state c.args.world.now).files in
    let logged = (g.W.Tree.state c.keep_log.new.world).files in
    let written : logged ≡ with_log plan ended files =
    c.in_ok-keep_log.ensures.logged told ∙ ap (λ log. with_log plan (record ended { log = log }) files)
    c.as_slice.ensures in
    let key = c.key_with-key.ensures ∙ c.in_ok-text.ensures.key in
    let p = err_from_is_err_and c.from_residual-in_err-note.result
    c.from_residual-in_err-note.ensures.1 in
    rw p.1 (first-as plan ended c.args.sound files logged (own_text c.key_with-key.result) written
    key cache.lasting cache.pairs (g.C.Cache.state c.keep.new.cache).pairs
    (c.in_err-note.ensures.failed told store))

pub returns-clause-logged : goal.returns-clause-logged
returns-clause-logged g c told =
    c.in_ok-note.ensures.files ∙ c.in_ok-keep_log.ensures.logged told
    ∙ ap (λ log. with_log c.args.plan.now (record c.args.ended.now { log = log })
    (g.W.Tree.state c.args.world.now).files) c.as_slice.ensures

pub returns-clause-report : goal.returns-clause-report
returns-clause-report g c =
    let key = c.as_key.ensures ∙ c.key_with-key.ensures ∙ c.in_ok-text.ensures.key in
    let mark = c.mark_of.ensures
    ∙ ap (λ b. cond b printed_mark.Bypass printed_mark.Miss) c.bypasses.ensures in
    let digits = c.in_ok-digits.ensures.digits
    ∙ ap printed (c.print.ensures ∙ ap sha256 key) in
    λ i. record {
      mark = mark i;
      digits = digits i;
      status = c.args.ended.now.status;
      note = c.in_ok-note.note;
    }

pub returns-clause-kept : goal.returns-clause-kept
returns-clause-kept g c told store =
    let plan = c.args.plan.now in
    let ended = c.args.ended.now in
    let cache = g.C.Cache.state c.args.cache.now in
    let files = (g.W.Tree.state c.args.world.now).files in
    let logged = (g.W.Tree.state c.keep_log.new.world).files in
    let written : logged ≡ with_log plan ended files =
    c.in_ok-keep_log.ensures.logged told ∙ ap (λ log. with_log plan (record ended { log = log }) files)
    c.as_slice.ensures in
    let key = c.key_with-key.ensures ∙ c.in_ok-text.ensures.key in
    let last = g.C.Cache.state c.keep.new.cache in
    kept-as plan ended c.args.sound files logged (own_text c.key_with-key.result) written key
    cache.pairs last.room last.pairs c.in_ok-note.note (c.in_ok-note.ensures.kept told store)

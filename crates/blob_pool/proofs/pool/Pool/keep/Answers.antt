use Rattle.std.proofs.Common.{rules, ◌≡◌, ◌≤◌, ◌++◌, ◌∷◌, [], List, ℕ, Bool, Some, length, refl, sym, ◌∙◌, ap, subst, arith}
use Rattle.std.specs.Prelude.{◌-◌, IsTrue}
use Rattle.std.proofs.lemmas.List.{append-nil}
use Rattle.rel_path.specs.Limits.{store_limit}
use Rattle.record_log.specs.declared.kind.TheConstants.{CONTENT, DIGEST_BYTES}
use Rattle.record_log.specs.Kinds.{Entry, entry}
use Rattle.record_log.specs.Frames.{ends}
use Rattle.record_log.specs.Batch.{room_for_all}
use Rattle.record_log.specs.Log.{frames_in, is_whole}
use Rattle.blob_pool.specs.declared.pool.BlobId.{BlobId}
use Rattle.blob_pool.specs.Contents.{contents_of}
use Rattle.blob_pool.specs.Pool.{first_of, missing}
use Rattle.blob_pool.specs.Known.{known_in, places_in}
use Rattle.blob_pool.specs.Answers.{IsFullFor}
use Rattle.blob_pool.specs.First.{first_push}
use Rattle.blob_pool.specs.Laws.{contents_in, known_whole, frames_read, knows_read, knows_held, knows_behind, knows_next}
use Rattle.blob_pool.proofs.Keeping.{content_formed, full_from, here, none_missing, nowhere, one_missing, read_leaves, append_leaves}
use Rattle.blob_pool.proofs.pool.Pool.keep.Goals as goal

-- ---- where the bytes are kept already

pub returns-in-Some-clause-id : goal.returns-in-Some-clause-id
returns-in-Some-clause-id g c told =
    let old = c.args.log.now in
    let bytes = c.args.bytes.now in
    ap (λ (l : List Entry). first_of l bytes) (frames_read old c.kept_by.new.log c.kept_by.ensures.log)
    ∙ here old c.requires.whole told bytes c.in-Some.id c.in-Some.is (c.in_ok-id.ensures.found told)

pub returns-in-Some-clause-frames : goal.returns-in-Some-clause-frames
returns-in-Some-clause-frames g c told =
    let old = c.args.log.now in
    let none = none_missing old c.requires.whole told c.args.bytes.now c.in-Some.id c.in-Some.is (c.in_ok-id.ensures.found told) in
    frames_read old c.kept_by.new.log c.kept_by.ensures.log
    ∙ sym (append-nil (frames_in old))
    ∙ ap (λ (l : List Entry). frames_in old ++ l) (sym none)

pub returns-in-Some-clause-images : goal.returns-in-Some-clause-images
returns-in-Some-clause-images g c told =
    let all = missing (frames_in c.args.log.now) c.args.bytes.now in
    read_leaves g.met.S.StoreDevice.only_now c.args.log.now c.kept_by.new.log c.requires.whole told c.kept_by.ensures.log all

pub returns-in-Some-clause-full : goal.returns-in-Some-clause-full
returns-in-Some-clause-full g c told =
    let old = c.args.log.now in
    let none = none_missing old c.requires.whole told c.args.bytes.now c.in-Some.id c.in-Some.is (c.in_ok-id.ensures.found told) in
    subst (λ (l : List Entry). room_for_all l ≤ store_limit - ends (frames_in old)) (sym none) (omega arith)

-- ---- where a call before the append fails

pub returns-in_err-id-clause-images : goal.returns-in_err-id-clause-images
returns-in_err-id-clause-images g c told =
    let all = missing (frames_in c.args.log.now) c.args.bytes.now in
    read_leaves g.met.S.StoreDevice.only_now c.args.log.now c.kept_by.new.log c.requires.whole told c.kept_by.ensures.log all

pub returns-in_err-reserve-clause-images : goal.returns-in_err-reserve-clause-images
returns-in_err-reserve-clause-images g c told =
    let all = missing (frames_in c.args.log.now) c.args.bytes.now in
    read_leaves g.met.S.StoreDevice.only_now c.args.log.now c.kept_by.new.log c.requires.whole told c.kept_by.ensures.log all

-- ---- where they are not kept

pub append_all-requires-clause-form : goal.append_all-requires-clause-form
append_all-requires-clause-form g c told =
    let len : length c.digest_of-digest.result ≡ DIGEST_BYTES = search rules in
    content_formed (frames_in c.kept_by.new.log) c.digest_of-digest.result c.args.bytes.now len c.requires.short

pub returns-in_err-place-clause-images : goal.returns-in_err-place-clause-images
returns-in_err-place-clause-images g c told =
    let old = c.args.log.now in
    let one = one_missing old c.requires.whole told c.args.bytes.now c.digest_of-digest.result c.digest_of-digest.ensures c.in_default.is (c.in_ok-id.ensures.found told) in
    append_leaves g.met.S.StoreDevice.only_now old c.kept_by.new.log c.requires.whole told c.kept_by.ensures.log c.append_all.new.self _ _ one (c.append_all.ensures.images told)

pub returns-in_err-place-clause-full : goal.returns-in_err-place-clause-full
returns-in_err-place-clause-full g c told =
    let old = c.args.log.now in
    let answer = c.from_residual-in_err-place.result in
    let e = entry CONTENT c.digest_of-digest.result c.args.bytes.now in
    let one = one_missing old c.requires.whole told c.args.bytes.now c.digest_of-digest.result c.digest_of-digest.ensures c.in_default.is (c.in_ok-id.ensures.found told) in
    let same = frames_read old c.kept_by.new.log c.kept_by.ensures.log in
    subst (λ (l : List Entry). IsFullFor answer (room_for_all l) (store_limit - ends (frames_in old))) (sym one)
    (subst (λ (l : List Entry). IsFullFor answer (room_for_all (e ∷ [])) (store_limit - ends l)) same
    (full_from ℕ BlobId c.append_all.result answer c.in_err-place.field-0.0 _ _ c.in_err-place.was (search rules) (c.append_all.ensures.full told)))

pub returns-in_err-place-clause-pool : goal.returns-in_err-place-clause-pool
returns-in_err-place-clause-pool g c =
    let mid = c.kept_by.new.log in
    let known = knows_read c.args.self.now c.args.log.now mid c.requires.pool c.kept_by.ensures.log in
    let held = knows_held c.args.self.now c.reserve.new.self mid known c.in_ok-reserve.ensures.same in
    knows_behind c.reserve.new.self mid c.append_all.new.self _ held c.in_err-place.ensures.same_count c.append_all.ensures.after

pub returns-in_err-learn-clause-images : goal.returns-in_err-learn-clause-images
returns-in_err-learn-clause-images g c told =
    let old = c.args.log.now in
    let one = one_missing old c.requires.whole told c.args.bytes.now c.digest_of-digest.result c.digest_of-digest.ensures c.in_default.is (c.in_ok-id.ensures.found told) in
    append_leaves g.met.S.StoreDevice.only_now old c.kept_by.new.log c.requires.whole told c.kept_by.ensures.log c.append_all.new.self _ _ one (c.append_all.ensures.images told)

pub returns-clause-frames : goal.returns-clause-frames
returns-clause-frames g c told =
    let old = c.args.log.now in
    let one = one_missing old c.requires.whole told c.args.bytes.now c.digest_of-digest.result c.digest_of-digest.ensures c.in_default.is (c.in_ok-id.ensures.found told) in
    c.in_ok-place.ensures.frames told ∙ (λ i. frames_read old c.kept_by.new.log c.kept_by.ensures.log i ++ sym one i)

pub returns-clause-id : goal.returns-clause-id
returns-clause-id g c told =
    let old = c.args.log.now in
    let bytes = c.args.bytes.now in
    let found = c.in_ok-id.ensures.found told in
    let one = one_missing old c.requires.whole told bytes c.digest_of-digest.result c.digest_of-digest.ensures c.in_default.is found in
    let frames : frames_in c.append_all.new.self ≡ frames_in old ++ missing (frames_in old) bytes =
    c.in_ok-place.ensures.frames told ∙ (λ i. frames_read old c.kept_by.new.log c.kept_by.ensures.log i ++ sym one i) in
    let all : length (contents_of (known_in old)) ≡ length (contents_of (frames_in old)) =
    ap (λ (l : List Entry). length (contents_of l)) (known_whole old c.requires.whole told) in
    let contents = contents_in c.args.self.now (known_in old) (c.requires.pool.told told) in
    let held = ap length c.in_ok-reserve.ensures.same.places in
    let count : length (contents_of (frames_in old)) ≡ c.count-number.result = omega (arith, all, contents, held, c.count-number.ensures) in
    ap (λ (l : List Entry). first_of l bytes) frames
    ∙ first_push (frames_in old) bytes (nowhere old c.requires.whole told bytes c.in_default.is found)
    ∙ ap (λ (n : ℕ). Some n) count

pub returns-clause-images : goal.returns-clause-images
returns-clause-images g c told =
    let old = c.args.log.now in
    let one = one_missing old c.requires.whole told c.args.bytes.now c.digest_of-digest.result c.digest_of-digest.ensures c.in_default.is (c.in_ok-id.ensures.found told) in
    append_leaves g.met.S.StoreDevice.only_now old c.kept_by.new.log c.requires.whole told c.kept_by.ensures.log c.append_all.new.self _ _ one (c.append_all.ensures.images told)

pub returns-clause-pool : goal.returns-clause-pool
returns-clause-pool g c =
    let mid = c.kept_by.new.log in
    let new = c.append_all.new.self in
    let reads = c.kept_by.ensures.log in
    let appended = c.in_ok-place.ensures in
    let e = entry CONTENT c.digest_of-digest.result c.args.bytes.now in
    let known = knows_read c.args.self.now c.args.log.now mid c.requires.pool reads in
    let held = knows_held c.args.self.now c.reserve.new.self mid known c.in_ok-reserve.ensures.same in
    let whole : IsTrue (is_whole mid) = subst (λ (b : Bool). IsTrue b) (sym reads.whole) c.requires.whole in
    let whole_then : IsTrue (is_whole new) = subst (λ (b : Bool). IsTrue b) (sym appended.whole) whole in
    let places = c.in_ok-learn.ensures.places ∙ ap (λ (n : ℕ). places_in c.reserve.new.self ++ n ∷ []) appended.number in
    knows_next c.reserve.new.self c.learn.new.self mid new e held appended.count
    (λ told.
    known_whole new whole_then told
    ∙ appended.frames told
    ∙ ap (λ (l : List Entry). l ++ e ∷ []) (sym (known_whole mid whole told)))
    refl places c.in_ok-learn.ensures.digests

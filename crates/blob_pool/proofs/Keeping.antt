-- A content that is kept.
use Rattle.std.proofs.Common.{◌≡◌, inl, ℕ, ◌<◌, true, List, [], ◌∷◌, length, Option, Some, None, Result, Err, refl, sym, ◌∙◌, ap, subst, arith}
use Rattle.std.specs.Prelude.{IsTrue}
use Rattle.std.proofs.lemmas.Bool.{and_from, lt-ltb}
use Rattle.store_dev.specs.Device.{LeavesOnly}
use Rattle.store_dev.specs.Moments.{reads_leave, leaves_then}
use Rattle.store_dev.specs.declared.device.StoreDevice.{Ghosts}
use Rattle.codes.specs.Views.{found_as}
use Rattle.sha2.specs.Sha256.{sha256}
use Rattle.record_log.specs.declared.log.Log.{Log}
use Rattle.record_log.specs.declared.kind.TheConstants.{CONTENT, DIGEST_BYTES}
use Rattle.record_log.specs.declared.error.LogErr.{LogErr}
use Rattle.record_log.specs.declared.error.LogErr.TheVariants.{NotAStore, Damaged, Full, Failed, OutOfMemory}
use Rattle.record_log.specs.Kinds.{Entry, entry, limit_of, has_form}
use Rattle.record_log.specs.Forms.{form_2}
use Rattle.record_log.specs.Frames.{all_formed}
use Rattle.record_log.specs.Several.{images_read}
use Rattle.record_log.specs.Batch.{IsBeforeOrAll}
use Rattle.record_log.specs.Answers.{IsFullWhere}
use Rattle.record_log.specs.Log.{device_of, frames_in, is_whole}
use Rattle.blob_pool.specs.declared.pool.BlobId.{BlobId}
use Rattle.blob_pool.specs.Pool.{first_of, missing}
use Rattle.blob_pool.specs.Known.{known_in, OnlyReadsLog}
use Rattle.blob_pool.specs.Answers.{IsFullFor}
use Rattle.blob_pool.specs.First.{missing_some, missing_none}
use Rattle.blob_pool.specs.Laws.{known_whole, frames_read}

-- the frame of a content has its kind's form, wherever it stands
pub content_formed : (fs : List Entry) (key value : List ℕ) → length key ≡ DIGEST_BYTES
    → length value < limit_of CONTENT → all_formed fs (entry CONTENT key value ∷ []) ≡ true
unfolding has_form
content_formed fs key value len short =
    and_from _ _ (and_from _ _ (form_2 _ (entry CONTENT key value) refl len) (and_from _ _ (lt-ltb _ _ (omega (arith, len))) (lt-ltb _ _ short))) refl

-- a refused append says what the pool says, where the sizes are known
full_err : (T U : Type 0) (e : LogErr) (need free : ℕ) → IsFullWhere {T = T} (Err e) need free
    → IsFullFor {T = U} (Err e) need free
full_err T U NotAStore need free is = tt
full_err T U (Damaged at) need free is = tt
full_err T U (Full n f) need free is = is
full_err T U Failed need free is = tt
full_err T U OutOfMemory need free is = tt

pub full_from : (T U : Type 0) (r : Result T LogErr) (s : Result U LogErr) (e : LogErr) (need free : ℕ)
    → r ≡ Err e → s ≡ Err e → IsFullWhere r need free → IsFullFor s need free
full_from T U r s e need free was is full =
    subst (λ (t : Result U LogErr). IsFullFor t need free) (sym is) (full_err T U e need free (subst (λ (t : Result T LogErr). IsFullWhere t need free) was full))

-- what a search among the known frames of a whole log found, it found among all
module _ {S : Type 0} {G : Ghosts S} (old : Log S G) (whole : IsTrue (is_whole old)) (told : G.tells) (bytes : List ℕ) where
  among_all : (found : Option BlobId) → found_as (λ id. id.number) found ≡ first_of (known_in old) bytes
      → first_of (frames_in old) bytes ≡ found_as (λ id. id.number) found
  among_all found kept =
      ap (λ (l : List Entry). first_of l bytes) (sym (known_whole old whole told)) ∙ sym kept

  pub here : {found : Option BlobId} (id : BlobId) → found ≡ Some id
      → found_as (λ x. x.number) found ≡ first_of (known_in old) bytes
      → first_of (frames_in old) bytes ≡ Some id.number
  here {found} id some kept = among_all found kept ∙ ap (found_as (λ x. x.number)) some

  pub none_missing : {found : Option BlobId} (id : BlobId) → found ≡ Some id
      → found_as (λ x. x.number) found ≡ first_of (known_in old) bytes
      → missing (frames_in old) bytes ≡ []
  none_missing id some kept = missing_some (frames_in old) bytes id.number (here id some kept)

  pub nowhere : {found : Option BlobId} → found ≡ None
      → found_as (λ x. x.number) found ≡ first_of (known_in old) bytes
      → first_of (frames_in old) bytes ≡ None
  nowhere {found} none kept = among_all found kept ∙ ap (found_as (λ x. x.number)) none

  pub one_missing : {found : Option BlobId} (digest : List ℕ) → digest ≡ sha256 bytes → found ≡ None
      → found_as (λ x. x.number) found ≡ first_of (known_in old) bytes
      → missing (frames_in old) bytes ≡ entry CONTENT digest bytes ∷ []
  one_missing digest right none kept =
      missing_none (frames_in old) bytes (nowhere none kept)
      ∙ ap (λ (k : List ℕ). entry CONTENT k bytes ∷ []) (sym right)

module _ {S : Type 0} {G : Ghosts S} (only_now : (d : S) (c : List ℕ) → G.images_since d (G.moment d) c → G.images d c)
    (old mid : Log S G) (whole : IsTrue (is_whole old)) (told : G.tells) (reads : OnlyReadsLog old mid) where
  -- a crash while the log is read leaves its frames
  pub read_leaves : (es : List Entry)
      → LeavesOnly G.moment G.images_since (device_of old) (device_of mid) (IsBeforeOrAll (frames_in old) es)
  read_leaves es =
      reads_leave G.content G.images G.moment G.images_since (device_of old) (device_of mid) (IsBeforeOrAll (frames_in old) es) reads.device
      (only_now (device_of old)) (λ c now. inl (images_read (old.kept whole told) c now))

  -- and while it is appended to then, its frames or these and the new ones
  pub append_leaves : (new : Log S G) (es added : List Entry) → es ≡ added
      → LeavesOnly G.moment G.images_since (device_of mid) (device_of new) (IsBeforeOrAll (frames_in mid) added)
      → LeavesOnly G.moment G.images_since (device_of old) (device_of new) (IsBeforeOrAll (frames_in old) es)
  append_leaves new es added is appends =
      let P = IsBeforeOrAll (frames_in old) es in
      leaves_then G.moment G.images_since (device_of old) (device_of mid) (device_of new) P (IsBeforeOrAll (frames_in mid) added) P
      (read_leaves es) appends (λ c was. was)
      (λ c was. subst (λ (l : List Entry). IsBeforeOrAll (frames_in old) l c) (sym is)
      (subst (λ (l : List Entry). IsBeforeOrAll l added c) (frames_read old mid reads) was))

-- The contents of a pair, and the frames that are added for them.
use Rattle.std.proofs.Common.{◌≡◌, ℕ, ◌≤◌, ◌<◌, Bool, true, false, cond, List, [], ◌∷◌, ◌++◌, length, take, drop, Option, Some, None, refl, sym, ◌∙◌, ap, subst, arith, append_assoc}
use Rattle.std.specs.Prelude.{bytes_eq}
use Rattle.std.proofs.lemmas.Bool.{and_parts, and_from, lt-ltb, leb-true}
use Rattle.std.proofs.lemmas.List.{append-nil}
use Rattle.sha2.proofs.Facts256.{length-sha256}
use Rattle.codes.specs.Codes.{Taken, Each, str, read_str}
use Rattle.rel_path.specs.Limits.{file_limit}
use Rattle.cache_api.specs.Pairs.{Pair}
use Rattle.record_log.specs.declared.kind.TheConstants.{DIGEST_BYTES}
use Rattle.record_log.specs.Kinds.{Entry, limit_of, is_known, has_form, blobs}
use Rattle.record_log.specs.Forms.{form_2}
use Rattle.record_log.specs.Frames.{all_formed}
use Rattle.record_log.specs.Batch.{AllKnown, EachWithin}
use Rattle.blob_pool.specs.Pool.{first_of, blob, unless_found, missing}
use Rattle.blob_pool.specs.First.{first_stays, kept_after}
use Rattle.pair_frames.specs.declared.limits.TheConstants.{MIN_CONTENT_BYTES, MAGIC_BYTES}
use Rattle.pair_frames.specs.Runs.{Run, contents_in, is_content, NamedBytes, file_runs, read_files, list_runs, key_magic, key_runs, value_by, value_runs}
use Rattle.pair_frames.specs.Runs.Run.{Plain, Whole}
use Rattle.pair_frames.specs.Pairs.{holds_pair, HoldNoPair}
use Rattle.pair_frames.specs.Puts.{blobs_for, pair_contents, pair_blobs}
use Rattle.pair_frames.specs.Laws.{IsNew, AreNew}

-- ---- each content is as long as one may be

abbrev pub IsContent : List ℕ → Type 0
IsContent bytes = is_content bytes ≡ true

each_append : {A : Type 0} (P : A → Type 0) (xs ys : List A) → Each P xs → Each P ys
    → Each P (xs ++ ys)
each_append P [] ys each more = more
each_append P (x ∷ xs) ys each more = (each.0, each_append P xs ys each.1 more)

file_contents : (b : Bool) (bytes : List ℕ) (runs : List Run) → is_content bytes ≡ b
    → Each IsContent (contents_in runs)
    → Each IsContent (contents_in (cond b (Whole bytes) (Plain bytes) ∷ runs))
file_contents true bytes runs is more = (is, more)
file_contents false bytes runs is more = more

files_contents : (files : List NamedBytes) (runs : List Run) → Each IsContent (contents_in runs)
    → Each IsContent (contents_in (file_runs files ++ runs))
files_contents [] runs more = more
files_contents (f ∷ fs) runs more =
    file_contents (is_content f.1) f.1 (file_runs fs ++ runs) refl (files_contents fs runs more)

list_contents : (whole head : List ℕ) (t : Taken (List NamedBytes))
    → Each IsContent (contents_in (list_runs whole head t))
list_contents whole head None = tt
list_contents whole head (Some (files, rest)) = files_contents files (Plain rest ∷ []) tt

key_contents_by : (b : Bool) (key : List ℕ) (t : Taken (List NamedBytes))
    → Each IsContent (contents_in (cond b (list_runs key key_magic t) (Plain key ∷ [])))
key_contents_by true key t = list_contents key key_magic t
key_contents_by false key t = tt

pub key_contents : (key : List ℕ) → Each IsContent (contents_in (key_runs key))
unfolding key_runs
key_contents key =
    let is_key = bytes_eq (take MAGIC_BYTES key) key_magic in
    key_contents_by is_key key (read_files (drop MAGIC_BYTES key))

value_contents_by : (value : List ℕ) (t : Taken (List ℕ))
    → Each IsContent (contents_in (value_by value t))
value_contents_by value None = tt
value_contents_by value (Some (log, rest)) = list_contents value (str log) (read_files rest)

pub value_contents : (value : List ℕ) → Each IsContent (contents_in (value_runs value))
unfolding value_runs
value_contents value = value_contents_by value (read_str value)

pub each_content : (pair : Pair) → Each IsContent (pair_contents pair)
each_content pair =
    each_append IsContent (contents_in (key_runs pair.0)) (contents_in (value_runs pair.1))
    (key_contents pair.0) (value_contents pair.1)

pub at_least : (bytes : List ℕ) → IsContent bytes → MIN_CONTENT_BYTES ≤ length bytes
at_least bytes is = leb-true MIN_CONTENT_BYTES (length bytes) (and_parts _ _ is).0

at_most : (bytes : List ℕ) → IsContent bytes → length bytes ≤ file_limit
at_most bytes is = leb-true (length bytes) file_limit (and_parts _ _ is).1

-- ---- each is kept

abbrev pub IsKept : List Entry → List ℕ → Type 0
IsKept fs bytes = (k : ℕ) × (first_of fs bytes ≡ Some k)

kept_more : (fs gs : List Entry) (bytes : List ℕ) → IsKept fs bytes → IsKept (fs ++ gs) bytes
kept_more fs gs bytes (k, is) = (k, first_stays fs gs bytes k is)

all_kept : (cs : List (List ℕ)) (fs : List Entry) → Each (IsKept (fs ++ blobs_for fs cs)) cs
all_kept [] fs = tt
all_kept (c ∷ cs) fs =
    let more : List Entry = blobs_for (fs ++ missing fs c) cs in
    subst (λ (l : List Entry). Each (IsKept l) (c ∷ cs)) (append_assoc fs (missing fs c) more)
    (kept_more (fs ++ missing fs c) more c (kept_after fs c), all_kept cs (fs ++ missing fs c))

each_front : {A : Type 0} (P : A → Type 0) (xs ys : List A) → Each P (xs ++ ys) → Each P xs
each_front P [] ys each = tt
each_front P (x ∷ xs) ys each = (each.0, each_front P xs ys each.1)

each_back : {A : Type 0} (P : A → Type 0) (xs ys : List A) → Each P (xs ++ ys) → Each P ys
each_back P [] ys each = each
each_back P (x ∷ xs) ys each = each_back P xs ys each.1

pub key_kept : (fs : List Entry) (pair : Pair)
    → Each (IsKept (fs ++ pair_blobs fs pair)) (contents_in (key_runs pair.0))
key_kept fs pair =
    each_front (IsKept (fs ++ pair_blobs fs pair)) (contents_in (key_runs pair.0))
    (contents_in (value_runs pair.1)) (all_kept (pair_contents pair) fs)

pub value_kept : (fs : List Entry) (pair : Pair)
    → Each (IsKept (fs ++ pair_blobs fs pair)) (contents_in (value_runs pair.1))
value_kept fs pair =
    each_back (IsKept (fs ++ pair_blobs fs pair)) (contents_in (key_runs pair.0))
    (contents_in (value_runs pair.1)) (all_kept (pair_contents pair) fs)

-- ---- what is added

-- a frame that keeps a content which none before it keeps
pub record IsNewBlob (before : List Entry) (e : Entry) : Type 0 where
  pub bytes : List ℕ
  pub is : e ≡ blob bytes
  pub content : IsContent bytes
  pub fresh : first_of before bytes ≡ None

abbrev pub AreNewBlobs : List Entry → List Entry → Type 0
AreNewBlobs before [] = Unit {0}
AreNewBlobs before (e ∷ es) = IsNewBlob before e × AreNewBlobs (before ++ e ∷ []) es

new_then : (o : Option ℕ) (fs : List Entry) (bytes : List ℕ) (more : List Entry)
    → first_of fs bytes ≡ o → IsContent bytes
    → AreNewBlobs (fs ++ unless_found o bytes) more → AreNewBlobs fs (unless_found o bytes ++ more)
new_then (Some k) fs bytes more found is others =
    subst (λ (l : List Entry). AreNewBlobs l more) (append-nil fs) others
new_then None fs bytes more found is others =
    (record { bytes = bytes; is = refl; content = is; fresh = found }, others)

new_blobs : (cs : List (List ℕ)) (fs : List Entry) → Each IsContent cs
    → AreNewBlobs fs (blobs_for fs cs)
new_blobs [] fs each = tt
new_blobs (c ∷ cs) fs each =
    new_then (first_of fs c) fs c (blobs_for (fs ++ missing fs c) cs) refl each.0
    (new_blobs cs (fs ++ missing fs c) each.1)

pub pair_new : (fs : List Entry) (pair : Pair) → AreNewBlobs fs (pair_blobs fs pair)
pair_new fs pair = new_blobs (pair_contents pair) fs (each_content pair)

-- ---- what is said of such frames

pub known_with : (before es more : List Entry) → AreNewBlobs before es → AllKnown more
    → AllKnown (es ++ more)
known_with before [] more new known = known
known_with before (e ∷ es) more new known =
    let here : is_known e.kind ≡ true = ap (λ (x : Entry). is_known x.kind) new.0.is in
    (here, known_with (before ++ e ∷ []) es more new.1 known)

key_within : (before : List Entry) (e : Entry) → IsNewBlob before e
    → length e.key < limit_of e.kind
key_within before e new =
    subst (λ (x : Entry). length x.key < limit_of x.kind) (sym new.is)
    (omega (arith, length-sha256 new.bytes))

value_within : (before : List Entry) (e : Entry) → IsNewBlob before e
    → length e.value < limit_of e.kind
value_within before e new =
    subst (λ (x : Entry). length x.value < limit_of x.kind) (sym new.is)
    (omega (arith, at_most new.bytes new.content))

pub within_with : (before es more : List Entry) → AreNewBlobs before es → EachWithin more
    → EachWithin (es ++ more)
within_with before [] more new short = short
within_with before (e ∷ es) more new short = (
  key_within before e new.0,
  value_within before e new.0,
  within_with (before ++ e ∷ []) es more new.1 short,
)

blob_form : (before : List Entry) (e : Entry) → IsNewBlob before e → has_form before e ≡ true
unfolding has_form
blob_form before e new =
    let key : length e.key ≡ DIGEST_BYTES =
    ap (λ (x : Entry). length x.key) new.is ∙ length-sha256 new.bytes in
    and_from _ _ (form_2 (blobs before) e (ap (λ (x : Entry). x.kind) new.is) key)
    (and_from _ _ (lt-ltb _ _ (key_within before e new)) (lt-ltb _ _ (value_within before e new)))

pub formed_with : (before es more : List Entry) → AreNewBlobs before es
    → all_formed (before ++ es) more ≡ true → all_formed before (es ++ more) ≡ true
formed_with before [] more new formed =
    ap (λ (l : List Entry). all_formed l more) (sym (append-nil before)) ∙ formed
formed_with before (e ∷ es) more new formed =
    let there : all_formed ((before ++ e ∷ []) ++ es) more ≡ true =
    ap (λ (l : List Entry). all_formed l more) (append_assoc before (e ∷ []) es) ∙ formed in
    and_from _ _ (blob_form before e new.0) (formed_with (before ++ e ∷ []) es more new.1 there)

pub no_pair : (before es : List Entry) → AreNewBlobs before es → HoldNoPair es
no_pair before [] new = tt
no_pair before (e ∷ es) new =
    (ap (λ (x : Entry). holds_pair x.kind) new.0.is, no_pair (before ++ e ∷ []) es new.1)

pub new_with : (before es more : List Entry) → AreNewBlobs before es → AreNew (before ++ es) more
    → AreNew before (es ++ more)
new_with before [] more new others =
    subst (λ (l : List Entry). AreNew l more) (append-nil before) others
new_with before (e ∷ es) more new others =
    let same = sym (append_assoc before (e ∷ []) es) in
    let there = subst (λ (l : List Entry). AreNew l more) same others in
    let here : IsNew before e = λ kind. (new.0.bytes, new.0.is, new.0.fresh) in
    (here, new_with (before ++ e ∷ []) es more new.1 there)

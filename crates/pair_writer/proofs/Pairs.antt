-- A pair whose two texts were cut, and its record behind them.
use Rattle.std.proofs.Common.{◌≡◌, ℕ, ◌+◌, ◌≤◌, ◌<◌, Bool, true, false, cond, List, [], ◌∷◌, ◌++◌, length, map, take, refl, sym, ◌∙◌, ap, arith, append_assoc, length-append}
use Rattle.std.specs.Prelude.{nat_le}
use Rattle.std.specs.Int.{w64}
use Rattle.std.proofs.lemmas.Bool.{le-leb, lt-leb}
use Rattle.std.proofs.lemmas.List.{append-nil, take_at}
use Rattle.sha2.specs.Sha256.{sha256}
use Rattle.sha2.proofs.Facts256.{length-sha256}
use Rattle.codes.specs.Codes.{AreBytes, Each, word, str, items, list, both}
use Rattle.listing.specs.KeyText.{path_text, path_code, file_code}
use Rattle.cache_api.specs.declared.puts.Put.TheVariants.{Stored, Full}
use Rattle.cache_api.specs.Artifacts.{File, Artifact, artifact_text, IsTold}
use Rattle.cache_api.specs.Pairs.{Pair}
use Rattle.cache_api.specs.Cache.{ample}
use Rattle.record_log.specs.declared.kind.TheConstants.{LONG_RECORD}
use Rattle.record_log.specs.Kinds.{Entry, entry, width_of, text, size_in, size}
use Rattle.record_log.specs.Pieces.{Piece, record_text}
use Rattle.record_log.specs.Frames.{opened}
use Rattle.record_log.specs.Texts.{length-text, opened_append}
use Rattle.pair_frames.specs.Runs.{Run, flat, contents_in, is_content, file_run, file_runs, named_file, key_runs, artifact_runs}
use Rattle.pair_frames.specs.Runs.Run.{Plain, Whole}
use Rattle.pair_frames.specs.Puts.{literal_before, pieces_from, blobs_for, pair_blobs, record_for, record_frame, put_frames}
use Rattle.pair_frames.specs.Cuts.{pieces_from-append, closed, open_bytes}
use Rattle.pair_frames.specs.Steps.{left_behind}
use Rattle.pair_frames.proofs.Contents.{IsKept}
use Rattle.pair_frames.proofs.Texts.{key_flat, artifact_cut}
use Rattle.pair_writer.specs.declared.staged.Staged.{Staged}
use Rattle.pair_writer.specs.declared.pieces.Pieces.{Pieces}
use Rattle.pair_writer.specs.Staged.{entries, taken, Extends}
use Rattle.pair_writer.specs.Pieces.{open_in, Adds, ArePieces, weight}
use Rattle.pair_writer.specs.Cuts.{IsCutInto, IsCut}
use Rattle.pair_writer.specs.Putting.{put_of, IsOffered}
use Rattle.pair_writer.proofs.Adding.{are_more}
use Rattle.pair_writer.proofs.Cuts.{flat_both, closed_stays, cut_kept, blobs_both}

-- ---- the text of an artifact

flat_file : (bytes : List ℕ) (runs : List Run) → flat (file_run bytes ∷ runs) ≡ bytes ++ flat runs
flat_file bytes runs = by (is_content bytes)
  where
    by : (b : Bool) → flat (cond b (Whole bytes) (Plain bytes) ∷ runs) ≡ bytes ++ flat runs
    by true = refl
    by false = refl

regroup : (a b c d : List ℕ) → (a ++ b) ++ (c ++ d) ≡ (a ++ (b ++ c)) ++ d
regroup a b c d = simp append_assoc

flat_files : (files : List File) → flat (file_runs (map named_file files)) ≡ items file_code files
unfolding both path_code str
flat_files [] = refl
flat_files (f ∷ fs) =
    ap (λ (l : List ℕ). (str (path_text f.0) ++ word (length f.1)) ++ l)
    (flat_file f.1 (file_runs (map named_file fs)) ∙ ap (λ (l : List ℕ). f.1 ++ l) (flat_files fs))
    ∙ regroup (str (path_text f.0)) (word (length f.1)) f.1 (items file_code fs)

pub flat_artifact : (a : Artifact) → flat (artifact_runs a) ≡ artifact_text a
unfolding artifact_text list
flat_artifact a =
    let members = file_runs (map named_file a.1) in
    ap (λ (l : List ℕ). (str a.0 ++ word (length a.1)) ++ l)
    (flat_both members (Plain [] ∷ []) ∙ append-nil (flat members) ∙ flat_files a.1)
    ∙ append_assoc (str a.0) (word (length a.1)) (items file_code a.1)

-- ---- the record

-- the pieces of a text that was cut, the last literal among them, behind more frames
pieces_all : (fs more : List Entry) (p q : Pieces) (runs : List Run) → open_in p ≡ []
    → Each (IsKept fs) (contents_in runs)
    → Adds p q (closed fs (open_in p) runs) (open_bytes (open_in p) runs)
    → closed fs (open_in p) runs ++ literal_before (open_in q) []
    ≡ pieces_from (fs ++ more) [] runs
pieces_all fs more p q runs none kept added =
    let open_is = added.rest_is ∙ ap (λ (l : List ℕ). open_bytes l runs) none in
    let last = literal_before (open_bytes [] runs) [] in
    (λ i. closed fs (none i) runs ++ literal_before (open_is i) [])
    ∙ ap (λ (l : List Piece). l ++ last) (sym (closed_stays fs more [] runs kept))
    ∙ sym (pieces_from-append (fs ++ more) [] runs [])
    ∙ ap (pieces_from (fs ++ more) []) (append-nil runs)

abbrev pub IsTextOf : List ℕ → Pieces → Pieces → Type 0
IsTextOf text key value = (ks vs : List Piece) → ArePieces key ks → ArePieces value vs
    → text ≡ record_text w64
    (ks ++ literal_before (open_in key) [], vs ++ literal_before (open_in value) [])

-- a key and an artifact that were cut one after another, and the text of their record
pub record AreCut (fs : List Entry) (s t u : Staged) (k0 k v0 v : Pieces) (key : List ℕ)
    (a : Artifact) (text : List ℕ) : Type 0 where
  pub told : IsTold a
  pub key_cut : IsCutInto fs s t k0 k (key_runs key)
  pub value_cut : IsCutInto fs t u v0 v (artifact_runs a)
  pub key_none : ArePieces k0 []
  pub key_open : open_in k0 ≡ []
  pub value_none : ArePieces v0 []
  pub value_open : open_in v0 ≡ []
  pub text_is : IsTextOf text k v

pub stage_frames : (fs : List Entry) (s t u last : Staged) (k0 k v0 v : Pieces) (key : List ℕ)
    (a : Artifact) (text : List ℕ) → AreCut fs s t u k0 k v0 v key a text
    → entries last ≡ entries u ++ entry LONG_RECORD (sha256 key) text ∷ []
    → entries last ≡ entries s ++ put_frames (fs ++ entries s) (key, artifact_text a)
unfolding put_frames
stage_frames fs s t u last k0 k v0 v key a text x pushed =
    let pair : Pair = (key, artifact_text a) in
    let before = fs ++ entries s in
    let ks = key_runs key in
    let vs = artifact_runs a in
    let new = pair_blobs before pair in
    let mid = fs ++ entries t in
    let more = blobs_for mid (contents_in vs) in
    let same = sym (artifact_cut a x.told) in
    let blobs : entries u ≡ entries s ++ new =
    blobs_both fs (entries s) (entries t) (entries u) (contents_in ks) (contents_in vs)
    x.key_cut.frames x.value_cut.frames
    ∙ ap (λ (r : List Run). entries s ++ blobs_for before (contents_in ks ++ contents_in r)) same in
    let all : fs ++ entries u ≡ before ++ new =
    ap (λ (l : List Entry). fs ++ l) blobs ∙ sym (append_assoc fs (entries s) new) in
    let key_all : mid ++ more ≡ before ++ new =
    append_assoc fs (entries t) more
    ∙ ap (λ (l : List Entry). fs ++ l) (sym x.value_cut.frames)
    ∙ all in
    let key_pieces =
    pieces_all mid more k0 k ks x.key_open (cut_kept fs s t k0 k ks x.key_cut) x.key_cut.pieces
    ∙ ap (λ (l : List Entry). pieces_from l [] ks) key_all in
    let value_pieces =
    pieces_all (fs ++ entries u) [] v0 v vs x.value_open (cut_kept fs t u v0 v vs x.value_cut)
    x.value_cut.pieces
    ∙ ap (λ (l : List Entry). pieces_from l [] vs) (append-nil (fs ++ entries u) ∙ all)
    ∙ ap (pieces_from (before ++ new) []) same in
    let key_are =
    are_more k0 k [] (closed mid (open_in k0) ks) (open_bytes (open_in k0) ks) x.key_none
    x.key_cut.pieces in
    let value_are =
    are_more v0 v [] (closed (fs ++ entries u) (open_in v0) vs) (open_bytes (open_in v0) vs)
    x.value_none x.value_cut.pieces in
    let text_is : text ≡ record_text w64 (record_for (before ++ new) pair) =
    x.text_is (closed mid (open_in k0) ks) (closed (fs ++ entries u) (open_in v0) vs) key_are value_are
    ∙ (λ i. record_text w64 (key_pieces i, value_pieces i)) in
    pushed
    ∙ (λ i. blobs i ++ entry LONG_RECORD (sha256 key) (text_is i) ∷ [])
    ∙ append_assoc (entries s) new (record_frame (before ++ new) pair ∷ [])

-- ---- sizes

long_size : (e : Entry) → e.kind ≡ LONG_RECORD
    → length (opened (e ∷ [])) ≡ 18 + length e.key + length e.value
unfolding size
long_size e is =
    let long : size e ≡ size_in w64 e = ap (λ (k : ℕ). size_in (width_of k) e) is in
    omega (arith, length-append (text e) [], length-text e, long)

pub taken_push : (s t : Staged) (more : List Entry) → entries t ≡ entries s ++ more
    → taken t ≡ taken s + length (opened more)
taken_push s t more is =
    omega (
      arith,
      ap (λ (l : List Entry). length (opened l)) is,
      ap length (opened_append (entries s) more),
      length-append (opened (entries s)) (opened more),
    )

pub stage_size : (tells : Type 0) (fs : List Entry) (s t u last : Staged) (k0 k v0 v : Pieces)
    (key : List ℕ) (a : Artifact) (text : List ℕ) → AreBytes key
    → IsCut tells fs s t k0 k (key_runs key) → IsCut tells fs t u v0 v (artifact_runs a)
    → weight k0 ≡ 0 → weight v0 ≡ 0 → length text ≤ weight k + weight v + 34
    → entries last ≡ entries u ++ entry LONG_RECORD (sha256 key) text ∷ []
    → taken last ≤ taken s + ample (key, artifact_text a)
stage_size tells fs s t u last k0 k v0 v key a text fits x y none nothing short pushed =
    let e = entry LONG_RECORD (sha256 key) text in
    omega (
      arith,
      x.light,
      y.light,
      none,
      nothing,
      short,
      taken_push u last (e ∷ []) pushed,
      long_size e refl,
      length-sha256 key,
      ap length (key_flat key fits),
      ap length (flat_artifact a),
    )

-- ---- whether it fits

pub offer_fits : (room : ℕ) (fs : List Entry) (s t : Staged) (pair : Pair)
    → entries t ≡ entries s ++ put_frames (fs ++ entries s) pair → taken t ≤ room
    → IsOffered room fs s t pair Stored
offer_fits room fs s t pair is le =
    let put = put_frames (fs ++ entries s) pair in
    let fits : nat_le (length (opened put)) (left_behind room (entries s)) ≡ true =
    le-leb _ _ (omega (arith, taken_push s t put is, le)) in
    record {
      frames =
          is
          ∙ ap (λ (l : List Entry). entries s ++ l)
          (sym (append-nil put) ∙ ap (λ (b : Bool). cond b (put ++ []) []) (sym fits));
      answer = ap (λ (b : Bool). map put_of (cond b (true ∷ []) (false ∷ []))) (sym fits);
    }

pub offer_full : (room : ℕ) (fs : List Entry) (s t back : Staged) (pair : Pair)
    → entries t ≡ entries s ++ put_frames (fs ++ entries s) pair → taken s ≤ room → room < taken t
    → entries back ≡ entries s → IsOffered room fs s back pair Full
offer_full room fs s t back pair is le lt same =
    let put = put_frames (fs ++ entries s) pair in
    let full : nat_le (length (opened put)) (left_behind room (entries s)) ≡ false =
    lt-leb _ _ (omega (arith, taken_push s t put is, lt, le)) in
    record {
      frames =
          same
          ∙ sym (append-nil (entries s))
          ∙ ap (λ (b : Bool). entries s ++ cond b (put ++ []) []) (sym full);
      answer = ap (λ (b : Bool). map put_of (cond b (true ∷ []) (false ∷ []))) (sym full);
    }

-- what was staged behind frames is taken back
pub back_is : (es now back : List Entry) (n : ℕ) → Extends es now → n ≡ length es
    → back ≡ take n now → back ≡ es
back_is es now back n (more, is) same taken =
    taken ∙ ap (take n) is ∙ take_at es more n (sym same)

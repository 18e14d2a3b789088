-- Runs that are cut, one after another.
use Rattle.std.proofs.Common.{◌≡◌, inl, inr, ℕ, zero, suc, ◌+◌, ◌≤◌, true, List, [], ◌∷◌, ◌++◌, length, Option, Some, refl, sym, ◌∙◌, ap, subst, arith, append_assoc, length-append}
use Rattle.std.specs.Prelude.{unwrap_or}
use Rattle.std.proofs.lemmas.List.{append-nil}
use Rattle.sha2.proofs.Facts256.{length-sha256}
use Rattle.codes.specs.Codes.{AreBytes, Each, word, str}
use Rattle.record_log.specs.Kinds.{Entry, text}
use Rattle.record_log.specs.Pieces.{Piece}
use Rattle.record_log.specs.Pieces.Piece.{Content}
use Rattle.record_log.specs.Forms.{size_short}
use Rattle.record_log.specs.Frames.{opened}
use Rattle.record_log.specs.Texts.{length-text, opened_append}
use Rattle.blob_pool.specs.Pool.{first_of, blob, missing}
use Rattle.blob_pool.specs.First.{first_stays, kept_after}
use Rattle.pair_frames.specs.Runs.{Run, flat, contents_in, is_content, NamedBytes, file_run, file_runs}
use Rattle.pair_frames.specs.Runs.Run.{Plain, Whole}
use Rattle.pair_frames.specs.Puts.{literal_before, named, blobs_for}
use Rattle.pair_frames.specs.Cuts.{file_runs-append, contents_in-append, blobs_for-append, closed, open_bytes}
use Rattle.pair_frames.proofs.Contents.{IsKept, at_least}
use Rattle.pair_frames.proofs.Sizes.{piece_bytes_in, sum_cons}
use Rattle.pair_writer.specs.declared.staged.Staged.{Staged}
use Rattle.pair_writer.specs.declared.pieces.Pieces.{Pieces}
use Rattle.pair_writer.specs.Staged.{entries, Extends, MayKeep}
use Rattle.pair_writer.specs.Pieces.{open_in, Adds}
use Rattle.pair_writer.specs.Cuts.{IsCutInto, IsCut}
use Rattle.pair_writer.proofs.Adding.{adds_both, literal_size, weight_added}

-- ---- bytes

pub bytes_both : (xs ys : List ℕ) → AreBytes xs → AreBytes ys → AreBytes (xs ++ ys)
bytes_both [] ys first second i = second i
bytes_both (x ∷ xs) ys first second zero = first 0
bytes_both (x ∷ xs) ys first second (suc i) =
    bytes_both xs ys (λ j. first (suc j)) second i

pub bytes_none : AreBytes []
bytes_none i = omega arith

pub word_bytes : (n : ℕ) → AreBytes (word n)
unfolding word
word_bytes n zero = omega arith
word_bytes n (suc zero) = omega arith
word_bytes n (suc (suc zero)) = omega arith
word_bytes n (suc (suc (suc zero))) = omega arith
word_bytes n (suc (suc (suc (suc i)))) = omega arith

pub str_bytes : (text : List ℕ) → AreBytes text → AreBytes (str text)
unfolding str
str_bytes text fits = bytes_both (word (length text)) text (word_bytes (length text)) fits

pub flat_both : (xs ys : List Run) → flat (xs ++ ys) ≡ flat xs ++ flat ys
flat_both [] ys = refl
flat_both (Plain bytes ∷ xs) ys =
    ap (λ (l : List ℕ). bytes ++ l) (flat_both xs ys)
    ∙ sym (append_assoc bytes (flat xs) (flat ys))
flat_both (Whole bytes ∷ xs) ys =
    ap (λ (l : List ℕ). bytes ++ l) (flat_both xs ys)
    ∙ sym (append_assoc bytes (flat xs) (flat ys))

-- ---- pieces behind pieces

literal_in_front : (before : List ℕ) (xs ys : List Piece)
    → literal_before before (xs ++ ys) ≡ literal_before before xs ++ ys
literal_in_front [] xs ys = refl
literal_in_front (x ∷ before) xs ys = refl

closed_both : (fs : List Entry) (before : List ℕ) (xs ys : List Run)
    → closed fs before (xs ++ ys) ≡ closed fs before xs ++ closed fs (open_bytes before xs) ys
closed_both fs before [] ys = refl
closed_both fs before (Plain bytes ∷ xs) ys = closed_both fs (before ++ bytes) xs ys
closed_both fs before (Whole bytes ∷ xs) ys =
    let rest = closed fs (open_bytes [] xs) ys in
    ap (λ (l : List Piece). literal_before before (named fs bytes ∷ l)) (closed_both fs [] xs ys)
    ∙ literal_in_front before (named fs bytes ∷ closed fs [] xs) rest

open_both : (before : List ℕ) (xs ys : List Run)
    → open_bytes before (xs ++ ys) ≡ open_bytes (open_bytes before xs) ys
open_both before [] ys = refl
open_both before (Plain bytes ∷ xs) ys = open_both (before ++ bytes) xs ys
open_both before (Whole bytes ∷ xs) ys = open_both [] xs ys

-- ---- contents that are kept stay so

named_stays : (fs more : List Entry) (bytes : List ℕ) → IsKept fs bytes
    → named (fs ++ more) bytes ≡ named fs bytes
named_stays fs more bytes (k, is) =
    ap (λ (o : Option ℕ). Content (unwrap_or o 0)) (first_stays fs more bytes k is ∙ sym is)

pub closed_stays : (fs more : List Entry) (before : List ℕ) (runs : List Run)
    → Each (IsKept fs) (contents_in runs) → closed (fs ++ more) before runs ≡ closed fs before runs
closed_stays fs more before [] kept = refl
closed_stays fs more before (Plain bytes ∷ runs) kept =
    closed_stays fs more (before ++ bytes) runs kept
closed_stays fs more before (Whole bytes ∷ runs) kept =
    λ i. literal_before before
    (named_stays fs more bytes kept.0 i ∷ closed_stays fs more [] runs kept.1 i)

all_kept : (cs : List (List ℕ)) (fs : List Entry) → Each (IsKept (fs ++ blobs_for fs cs)) cs
all_kept [] fs = tt
all_kept (c ∷ cs) fs =
    let now = fs ++ missing fs c in
    let more : List Entry = blobs_for now cs in
    let (k, is) = kept_after fs c in
    subst (λ (l : List Entry). Each (IsKept l) (c ∷ cs)) (append_assoc fs (missing fs c) more)
    ((k, first_stays now more c k is), all_kept cs now)

pub cut_kept : (fs : List Entry) (s t : Staged) (p q : Pieces) (runs : List Run)
    → IsCutInto fs s t p q runs → Each (IsKept (fs ++ entries t)) (contents_in runs)
cut_kept fs s t p q runs x =
    let new = blobs_for (fs ++ entries s) (contents_in runs) in
    subst (λ (l : List Entry). Each (IsKept l) (contents_in runs))
    (append_assoc fs (entries s) new ∙ ap (λ (l : List Entry). fs ++ l) (sym x.frames))
    (all_kept (contents_in runs) (fs ++ entries s))

-- ---- runs behind runs

pub blobs_both : (fs es mid now : List Entry) (xs ys : List (List ℕ))
    → mid ≡ es ++ blobs_for (fs ++ es) xs → now ≡ mid ++ blobs_for (fs ++ mid) ys
    → now ≡ es ++ blobs_for (fs ++ es) (xs ++ ys)
blobs_both fs es mid now xs ys first second =
    let new = blobs_for (fs ++ es) xs in
    second
    ∙ (λ i. first i ++ blobs_for (fs ++ first i) ys)
    ∙ append_assoc es new (blobs_for (fs ++ (es ++ new)) ys)
    ∙ ap (λ (l : List Entry). es ++ (new ++ blobs_for l ys)) (sym (append_assoc fs es new))
    ∙ ap (λ (l : List Entry). es ++ l) (sym (blobs_for-append (fs ++ es) xs ys))

into_both : (fs : List Entry) (s t u : Staged) (p q r : Pieces) (xs ys : List Run)
    → IsCutInto fs s t p q xs → IsCutInto fs t u q r ys → IsCutInto fs s u p r (xs ++ ys)
into_both fs s t u p q r xs ys x y =
    let more = blobs_for (fs ++ entries t) (contents_in ys) in
    let all = fs ++ entries u in
    let whole : all ≡ (fs ++ entries t) ++ more =
    ap (λ (l : List Entry). fs ++ l) y.frames ∙ sym (append_assoc fs (entries t) more) in
    let stays : closed all (open_in p) xs ≡ closed (fs ++ entries t) (open_in p) xs =
    ap (λ (l : List Entry). closed l (open_in p) xs) whole
    ∙ closed_stays (fs ++ entries t) more (open_in p) xs (cut_kept fs s t p q xs x) in
    let pieces =
    (λ i. sym stays i ++ closed all (x.pieces.rest_is i) ys) ∙ sym (closed_both all (open_in p) xs ys) in
    let rest =
    ap (λ (l : List ℕ). open_bytes l ys) x.pieces.rest_is ∙ sym (open_both (open_in p) xs ys) in
    let both =
    adds_both p q r (closed (fs ++ entries t) (open_in p) xs) (closed all (open_in q) ys)
    (open_bytes (open_in p) xs) (open_bytes (open_in q) ys) x.pieces y.pieces in
    record {
      frames =
          blobs_both fs (entries s) (entries t) (entries u) (contents_in xs) (contents_in ys)
          x.frames y.frames
          ∙ ap (λ (l : List (List ℕ)). entries s ++ blobs_for (fs ++ entries s) l)
          (sym (contents_in-append xs ys));
      pieces =
          subst (λ (l : List Piece). Adds p r l (open_bytes (open_in p) (xs ++ ys))) pieces
          (subst (Adds p r (closed (fs ++ entries t) (open_in p) xs ++ closed all (open_in q) ys))
          rest both);
    }

pub extends_none : (es : List Entry) → Extends es es
extends_none es = ([], sym (append-nil es))

pub extends_both : (es mid now : List Entry) → Extends es mid → Extends mid now → Extends es now
extends_both es mid now (xs, x) (ys, y) =
    (xs ++ ys, y ∙ ap (λ (l : List Entry). l ++ ys) x ∙ append_assoc es xs ys)

pub cut_both : (tells : Type 0) (fs : List Entry) (s t u : Staged) (p q r : Pieces)
    (xs ys : List Run) → IsCut tells fs s t p q xs → IsCut tells fs t u q r ys
    → IsCut tells fs s u p r (xs ++ ys)
cut_both tells fs s t u p q r xs ys x y = record {
  told = λ told. into_both fs s t u p q r xs ys (x.told told) (y.told told);
  grown = extends_both (entries s) (entries t) (entries u) x.grown y.grown;
  light =
      omega (
        arith,
        x.light,
        y.light,
        ap length (flat_both xs ys),
        length-append (flat xs) (flat ys),
      );
  bytes = subst AreBytes (sym (flat_both xs ys)) (bytes_both (flat xs) (flat ys) x.bytes y.bytes);
}

-- ---- one run

pub cut_plain : (tells : Type 0) (fs : List Entry) (s : Staged) (p q : Pieces) (bytes : List ℕ)
    → AreBytes bytes → Adds p q [] (open_in p ++ bytes) → IsCut tells fs s s p q (Plain bytes ∷ [])
cut_plain tells fs s p q bytes fits added = record {
  told = λ told. record { frames = sym (append-nil (entries s)); pieces = added };
  grown = extends_none (entries s);
  light =
      omega (
        arith,
        weight_added p q [] (open_in p ++ bytes) added,
        length-append (open_in p) bytes,
        length-append bytes [],
      );
  bytes = bytes_both bytes [] fits bytes_none;
}

blob_size : (bytes : List ℕ) → length (opened (blob bytes ∷ [])) ≡ 42 + length bytes
blob_size bytes =
    let e = blob bytes in
    let short = size_short e (λ is. absurd (omega (arith, is))) in
    omega (arith, length-append (text e) [], length-text e, short, length-sha256 bytes)

may_grow : (es now : List Entry) (bytes : List ℕ) → MayKeep es bytes now → Extends es now
may_grow es now bytes (inl is) = ([], is ∙ sym (append-nil es))
may_grow es now bytes (inr is) = (blob bytes ∷ [], is)

may_take : (es now : List Entry) (bytes : List ℕ) → MayKeep es bytes now
    → length (opened now) ≤ length (opened es) + (42 + length bytes)
may_take es now bytes (inl is) = omega (arith, ap (λ (l : List Entry). length (opened l)) is)
may_take es now bytes (inr is) =
    omega (
      arith,
      ap (λ (l : List Entry). length (opened l)) is,
      ap length (opened_append es (blob bytes ∷ [])),
      length-append (opened es) (opened (blob bytes ∷ [])),
      blob_size bytes,
    )

-- what a content leaves, which has that number
pub record IsNamed (tells : Type 0) (fs : List Entry) (s t : Staged) (p q : Pieces)
    (bytes : List ℕ) (n : ℕ) : Type 0 where
  pub content : is_content bytes ≡ true
  pub fits : AreBytes bytes
  pub grown : MayKeep (entries s) bytes (entries t)
  pub frames : tells → entries t ≡ entries s ++ missing (fs ++ entries s) bytes
  pub number : tells → first_of (fs ++ entries t) bytes ≡ Some n
  pub added : Adds p q (literal_before (open_in p) (Content n ∷ [])) []

named_into : (tells : Type 0) (fs : List Entry) (s t : Staged) (p q : Pieces) (bytes : List ℕ)
    (n : ℕ) → IsNamed tells fs s t p q bytes n → tells → IsCutInto fs s t p q (Whole bytes ∷ [])
named_into tells fs s t p q bytes n x told =
    let name : Content n ≡ named (fs ++ entries t) bytes =
    ap (λ (o : Option ℕ). Content (unwrap_or o 0)) (sym (x.number told)) in
    record {
      frames =
          x.frames told
          ∙ ap (λ (l : List Entry). entries s ++ l)
          (sym (append-nil (missing (fs ++ entries s) bytes)));
      pieces =
          subst (λ (c : Piece). Adds p q (literal_before (open_in p) (c ∷ [])) []) name x.added;
    }

pub cut_whole : (tells : Type 0) (fs : List Entry) (s t : Staged) (p q : Pieces) (bytes : List ℕ)
    (n : ℕ) → IsNamed tells fs s t p q bytes n → IsCut tells fs s t p q (Whole bytes ∷ [])
cut_whole tells fs s t p q bytes n x = record {
  told = named_into tells fs s t p q bytes n x;
  grown = may_grow (entries s) (entries t) bytes x.grown;
  light =
      omega (
        arith,
        may_take (entries s) (entries t) bytes x.grown,
        weight_added p q (literal_before (open_in p) (Content n ∷ [])) [] x.added,
        literal_size (open_in p) (Content n ∷ []),
        sum_cons piece_bytes_in (Content n) [],
        at_least bytes x.content,
        length-append bytes [],
      );
  bytes = bytes_both bytes [] x.fits bytes_none;
}

-- a list of files, and one more behind it
pub cut_next : (tells : Type 0) (fs gs : List Entry) (s t u : Staged) (p q r : Pieces)
    (head : List ℕ) (files : List NamedBytes) (name bytes : List ℕ) → gs ≡ fs
    → IsCut tells fs s t p q (Plain head ∷ file_runs files)
    → IsCut tells gs t u q r (Plain (str name ++ word (length bytes)) ∷ file_run bytes ∷ [])
    → IsCut tells fs s u p r (Plain head ∷ file_runs (files ++ (name, bytes) ∷ []))
cut_next tells fs gs s t u p q r head files name bytes same x y =
    let one : List NamedBytes = (name, bytes) ∷ [] in
    subst (λ (l : List Run). IsCut tells fs s u p r (Plain head ∷ l))
    (sym (file_runs-append files one))
    (cut_both tells fs s t u p q r (Plain head ∷ file_runs files) (file_runs one) x
    (subst (λ (l : List Entry). IsCut tells l t u q r (file_runs one)) same y))

pub adds_two : (p q r : Pieces) (a b c : List ℕ) → Adds p q [] (open_in p ++ a)
    → Adds q r [] (open_in q ++ b) → a ≡ c → Adds p r [] (open_in p ++ (c ++ b))
adds_two p q r a b c x y same =
    let rest =
    ap (λ (l : List ℕ). l ++ b) x.rest_is
    ∙ append_assoc (open_in p) a b
    ∙ ap (λ (l : List ℕ). open_in p ++ (l ++ b)) same in
    subst (Adds p r []) rest (adds_both p q r [] [] (open_in p ++ a) (open_in q ++ b) x y)

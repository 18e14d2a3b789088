-- The text of an artifact, read back, and what is read as one.
use Rattle.std.proofs.Common.{◌≡◌, ◌≢◌, ◌&&◌, ℕ, Bool, true, false, cond, List, [], ◌∷◌, ◌++◌, Option, Some, None, refl, sym, ◌∙◌, ap}
use Rattle.std.specs.Str.{is_utf8}
use Rattle.std.specs.Ordering.{is_lt}
use Rattle.std.proofs.lemmas.List.{append-nil}
use Rattle.rel_path.specs.Paths.{Path, path_cmp}
use Rattle.codes.specs.Codes.{AreBytes, Taken, took, Reads, Each, str, IsShort, read_str, list, IsList, both, AreBoth, read_both, whole_of}
use Rattle.codes.specs.Reading.{str_reads, both_reads, list_reads, then_is, then_was}
use Rattle.listing.specs.KeyText.{path_text, path_code, file_code, PathFits}
use Rattle.cache_api.specs.Artifacts.{File, FileFits, Artifact, artifact_text, ascends_from, ascends, are_texts}
use Rattle.cache_api.specs.Reading.{path_in, then_rest, read_path, read_file, read_files, if_ascending, artifact_in, ReadsBack, ReadsText}
use Rattle.cache_api.proofs.Paths.{writes, known, path_back, not_before_root}

-- ---- a path, a file, the files

-- a path that is read back
record PathReads (path : Path) : Type 0 where
  pub below : path ≢ []
  pub fits : PathFits path
  pub text : is_utf8 (path_text path) ≡ true

FileReads : File → Type 0
FileReads = AreBoth PathReads IsShort

pub rest_was : (o : Option Path) (mid rest : List ℕ) (path : Path) → then_rest o mid ≡ Some (path, rest) → (o ≡ Some path) × (mid ≡ rest)
rest_was None mid rest path e = absurd (cc)
rest_was (Some p) mid rest path e = let same : took p mid ≡ took path rest = e in (ap first same, ap behind same)
  where
    first : Taken Path → Option Path
    first None = None
    first (Some t) = Some t.0

    behind : Taken Path → List ℕ
    behind None = rest
    behind (Some t) = t.1

path_reads : Reads path_code PathReads read_path
unfolding path_code read_path
path_reads = record { again = again; was = λ b p r f e. (was b p r f e).0; fits = λ b p r f e. (was b p r f e).1 }
  where
    again : (path : Path) (rest : List ℕ) → PathReads path → read_path (path_code path ++ rest) ≡ Some (path, rest)
    again path rest h =
        then_is _ (λ text more. then_rest (path_in text) more) (path_text path) rest (str_reads.again (path_text path) rest h.fits.text)
        ∙ ap (λ (o : Option Path). then_rest o rest) (path_back path h.below h.fits.names h.text)

    was : (bytes : List ℕ) (path : Path) (rest : List ℕ) → AreBytes bytes → read_path bytes ≡ Some (path, rest) → (bytes ≡ path_code path ++ rest) × PathReads path
    was bytes path rest fits e =
        let (text, mid, first, next) = then_was (read_str bytes) (λ text more. then_rest (path_in text) more) path rest e in
        let found = rest_was (path_in text) mid rest path next in
        let w = writes text path found.0 in
        let k = known text path w in (
          str_reads.was bytes text mid fits first ∙ (λ i. str (sym k.joined i) ++ found.1 i),
          record { below = k.below; fits = record { text = rw k.joined (str_reads.fits bytes text mid fits first); names = k.names }; text = rw k.joined w.utf8 },
        )

file_reads : Reads file_code FileReads read_file
unfolding read_file FileReads
file_reads = let r = both_reads path_code PathReads read_path str IsShort read_str path_reads str_reads in record { again = r.again; was = r.was; fits = r.fits }

files_reads : Reads (list file_code) (IsList FileReads) read_files
unfolding read_files
files_reads = let r = list_reads file_code FileReads read_file file_reads in record { again = r.again; was = r.was; fits = r.fits }

-- ---- log and files

text_reads : Reads artifact_text (AreBoth IsShort (IsList FileReads)) (read_both read_str read_files)
unfolding artifact_text both
text_reads = let r = both_reads str IsShort read_str (list file_code) (IsList FileReads) read_files str_reads files_reads in record { again = r.again; was = r.was; fits = r.fits }

-- ---- bytes that are one value and nothing behind it

whole_again : {A : Type 0} (x : A) → whole_of (took x []) ≡ Some x
unfolding whole_of
whole_again x = refl

pub whole_was : {A : Type 0} (t : Taken A) (x : A) → whole_of t ≡ Some x → t ≡ took x []
unfolding whole_of
whole_was None x e = absurd (cc)
whole_was (Some (y, [])) x e = let same : y ≡ x = cc in ap (λ z. took z []) same
whole_was (Some (y, n ∷ rest)) x e = let none : None ≡ Some x = e in absurd (cc)

by_order : (b a : Artifact) (t : Bool) → ascends b.1 ≡ t → cond t (Some b) None ≡ Some a → (b ≡ a) × (ascends a.1 ≡ true)
by_order b a true up e = let same : b ≡ a = cc in (same, ap (λ (x : Artifact). ascends x.1) (sym same) ∙ up)
by_order b a false up e = let none : None ≡ Some a = e in absurd (cc)

pub ascending_was : (o : Option Artifact) (a : Artifact) → if_ascending o ≡ Some a → (o ≡ Some a) × (ascends a.1 ≡ true)
ascending_was None a e = absurd (cc)
ascending_was (Some b) a e = let h = by_order b a (ascends b.1) refl e in (ap (λ (x : Artifact). Some x) h.0, h.1)

-- ---- files that fit and ascend

tests : (a b : Bool) → (a && b) ≡ true → (a ≡ true) × (b ≡ true)
tests true b e = (refl, e)
tests false b e = cc

both_true : (a b : Bool) → a ≡ true → b ≡ true → (a && b) ≡ true
both_true a b x y = rw (x, y) refl

each_reads : (last : Path) (files : List File) → ascends_from last files ≡ true → are_texts files ≡ true → Each (AreBoth PathFits IsShort) files → Each FileReads files
unfolding FileReads
each_reads last [] up texts short = tt
each_reads last (file ∷ files) up texts short =
    let order = tests (is_lt (path_cmp last file.0)) (ascends_from file.0 files) up in
    let utf8 = tests (is_utf8 (path_text file.0)) (are_texts files) texts in
    let below : file.0 ≢ [] = λ root. let none : is_lt (path_cmp last file.0) ≡ false = ap (λ (p : Path). is_lt (path_cmp last p)) root ∙ not_before_root last in absurd (cc (order.0, none)) in
    (record { first = record { below = below; fits = short.0.first; text = utf8.0 }; second = short.0.second }, each_reads file.0 files order.1 utf8.1 short.1)

each_short : (files : List File) → Each FileReads files → Each (AreBoth PathFits IsShort) files × (are_texts files ≡ true)
unfolding FileReads
each_short [] h = (tt, refl)
each_short (file ∷ files) h =
    let more = each_short files h.1 in
    ((record { first = h.0.first.fits; second = h.0.second }, more.0), both_true (is_utf8 (path_text file.0)) (are_texts files) h.0.first.text more.1)

-- ---- the law

pub text_back : ReadsBack artifact_in
unfolding artifact_in
text_back a fits =
    let reads : AreBoth IsShort (IsList FileReads) a = record { first = fits.log; second = record { short = fits.files.short; each = each_reads [] a.1 fits.ascend fits.texts fits.files.each } } in
    ap if_ascending (ap whole_of (ap (read_both read_str read_files) (sym (append-nil (artifact_text a))) ∙ text_reads.again a [] reads) ∙ whole_again a)
    ∙ ap (λ (b : Bool). cond b (Some a) None) fits.ascend

pub text_was : ReadsText artifact_in
unfolding artifact_in
text_was bytes a fits e =
    let (whole, up) = ascending_was (whole_of (read_both read_str read_files bytes)) a e in
    let read = whole_was (read_both read_str read_files bytes) a whole in
    let reads = text_reads.fits bytes a [] fits read in
    let short = each_short a.1 reads.second.each in (
      text_reads.was bytes a [] fits read ∙ append-nil (artifact_text a),
      record { log = reads.first; files = record { short = reads.second.short; each = short.0 }; texts = short.1; ascend = up },
    )

-- ---- files as they were written

pub each_fits : (files : List File) → Each FileFits files → Each (AreBoth PathFits IsShort) files × (are_texts files ≡ true)
each_fits [] h = (tt, refl)
each_fits (file ∷ files) h =
    let more = each_fits files h.1 in
    ((h.0.short, more.0), both_true (is_utf8 (path_text file.0)) (are_texts files) h.0.text more.1)

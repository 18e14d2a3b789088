-- The runs of a text are all of it, and those of an artifact's text are known.
use Rattle.std.proofs.Common.{◌≡◌, ℕ, Bool, true, false, cond, List, [], ◌∷◌, ◌++◌, length, take, drop, map, Some, None, refl, sym, ◌∙◌, ap, arith, append_assoc, take-append-drop}
use Rattle.std.specs.Prelude.{bytes_eq}
use Rattle.std.proofs.lemmas.List.{append-nil, length-map}
use Rattle.std.proofs.lemmas.Slice.Eq.{bytes_eq-Decides}
use Rattle.codes.specs.Codes.{AreBytes, Taken, took, Reads, word, str, IsShort, read_str, items, list, IsList, Each, both, AreBoth, read_both}
use Rattle.codes.specs.Reading.{AreBytes-drop, AreBytes-behind, str_reads, both_reads, list_reads}
use Rattle.listing.specs.KeyText.{path_code, file_code, PathFits}
use Rattle.cache_api.specs.Artifacts.{File, Artifact, artifact_text, IsTold}
use Rattle.pair_frames.specs.declared.limits.TheConstants.{MAGIC_BYTES}
use Rattle.pair_frames.specs.Runs.{Run, flat, is_content, NamedBytes, file_runs, read_files, list_runs, key_magic, key_runs, value_by, value_runs, named_file, artifact_runs}
use Rattle.pair_frames.specs.Runs.Run.{Plain, Whole}

-- ---- runs joined

flat-append : (xs ys : List Run) → flat (xs ++ ys) ≡ flat xs ++ flat ys
flat-append [] ys = refl
flat-append (Plain bytes ∷ xs) ys =
    ap (λ (l : List ℕ). bytes ++ l) (flat-append xs ys)
    ∙ sym (append_assoc bytes (flat xs) (flat ys))
flat-append (Whole bytes ∷ xs) ys =
    ap (λ (l : List ℕ). bytes ++ l) (flat-append xs ys)
    ∙ sym (append_assoc bytes (flat xs) (flat ys))

flat_file : (b : Bool) (bytes : List ℕ) (runs : List Run)
    → flat (cond b (Whole bytes) (Plain bytes) ∷ runs) ≡ bytes ++ flat runs
flat_file true bytes runs = refl
flat_file false bytes runs = refl

regroup : (a b c d : List ℕ) → (a ++ b) ++ (c ++ d) ≡ (a ++ (b ++ c)) ++ d
regroup a b c d = simp append_assoc

flat_files : (files : List NamedBytes) → flat (file_runs files) ≡ items (both str str) files
unfolding both str
flat_files [] = refl
flat_files (f ∷ fs) =
    ap (λ (l : List ℕ). (str f.0 ++ word (length f.1)) ++ l)
    (flat_file (is_content f.1) f.1 (file_runs fs) ∙ ap (λ (l : List ℕ). f.1 ++ l) (flat_files fs))
    ∙ regroup (str f.0) (word (length f.1)) f.1 (items (both str str) fs)

-- ---- what was read is the text

files_read : Reads (list (both str str)) (IsList (AreBoth IsShort IsShort)) read_files
unfolding read_files
files_read =
    list_reads (both str str) (AreBoth IsShort IsShort) (read_both read_str read_str)
    (both_reads str IsShort read_str str IsShort read_str str_reads str_reads)

list_flat : (whole head : List ℕ) (t : Taken (List NamedBytes))
    → ((files : List NamedBytes) (rest : List ℕ) → t ≡ took files rest
    → whole ≡ head ++ (list (both str str) files ++ rest))
    → flat (list_runs whole head t) ≡ whole
unfolding list
list_flat whole head None back = append-nil whole
list_flat whole head (Some (files, rest)) back =
    let members = flat-append (file_runs files) (Plain rest ∷ []) in
    ap (λ (l : List ℕ). (head ++ word (length files)) ++ l)
    (members ∙ (λ i. flat_files files i ++ append-nil rest i))
    ∙ regroup head (word (length files)) (items (both str str) files) rest
    ∙ append_assoc head (word (length files) ++ items (both str str) files) rest
    ∙ sym (back files rest refl)

key_by : (b : Bool) (key : List ℕ) → AreBytes key → bytes_eq (take MAGIC_BYTES key) key_magic ≡ b
    → flat (cond b (list_runs key key_magic (read_files (drop MAGIC_BYTES key))) (Plain key ∷ []))
    ≡ key
key_by false key fits apart = append-nil key
key_by true key fits is =
    let behind = drop MAGIC_BYTES key in
    let bytes = AreBytes-drop MAGIC_BYTES key fits in
    let front = (bytes_eq-Decides (take MAGIC_BYTES key) key_magic).0 is in
    let cut = sym (take-append-drop MAGIC_BYTES key) in
    list_flat key key_magic (read_files behind)
    (λ files rest e. cut ∙ (λ i. front i ++ files_read.was behind files rest bytes e i))

pub key_flat : (key : List ℕ) → AreBytes key → flat (key_runs key) ≡ key
unfolding key_runs
key_flat key fits = key_by (bytes_eq (take MAGIC_BYTES key) key_magic) key fits refl

value_flat_by : (value : List ℕ) (t : Taken (List ℕ)) → AreBytes value → read_str value ≡ t
    → flat (value_by value t) ≡ value
value_flat_by value None fits e = append-nil value
value_flat_by value (Some (log, rest)) fits e =
    let back : value ≡ str log ++ rest = str_reads.was value log rest fits e in
    let bytes = AreBytes-behind (str log) rest value fits back in
    list_flat value (str log) (read_files rest)
    (λ files more f. back ∙ (λ i. str log ++ files_read.was rest files more bytes f i))

pub value_flat : (value : List ℕ) → AreBytes value → flat (value_runs value) ≡ value
unfolding value_runs
value_flat value fits = value_flat_by value (read_str value) fits refl

-- ---- artifacts

items_named : (files : List File)
    → items file_code files ≡ items (both str str) (map named_file files)
unfolding both path_code
items_named [] = refl
items_named (f ∷ fs) = ap (λ (l : List ℕ). file_code f ++ l) (items_named fs)

list_named : (files : List File)
    → list file_code files ≡ list (both str str) (map named_file files)
unfolding list
list_named files = λ i. word (sym (length-map files named_file) i) ++ items_named files i

each_named : (files : List File) → Each (AreBoth PathFits IsShort) files
    → Each (AreBoth IsShort IsShort) (map named_file files)
each_named [] each = tt
each_named (f ∷ fs) each =
    (record { first = each.0.first.text; second = each.0.second }, each_named fs each.1)

named_fit : (files : List File) → IsList (AreBoth PathFits IsShort) files
    → IsList (AreBoth IsShort IsShort) (map named_file files)
named_fit files fits = record {
  short = omega (arith, fits.short, length-map files named_file);
  each = each_named files fits.each;
}

files_again : (files : List File) → IsList (AreBoth PathFits IsShort) files
    → read_files (list file_code files) ≡ took (map named_file files) []
files_again files fits =
    ap read_files (list_named files ∙ sym (append-nil (list (both str str) (map named_file files))))
    ∙ files_read.again (map named_file files) [] (named_fit files fits)

pub artifact_cut : (a : Artifact) → IsTold a → value_runs (artifact_text a) ≡ artifact_runs a
unfolding value_runs artifact_text
artifact_cut a told =
    let whole = str a.0 ++ list file_code a.1 in
    ap (value_by whole) (str_reads.again a.0 (list file_code a.1) told.log)
    ∙ ap (list_runs whole (str a.0)) (files_again a.1 told.files)
    ∙ ap (λ (n : ℕ). Plain (str a.0 ++ word n) ∷ (file_runs (map named_file a.1) ++ Plain [] ∷ []))
    (length-map a.1 named_file)

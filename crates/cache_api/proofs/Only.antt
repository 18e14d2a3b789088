-- From the text of an artifact nothing else is read.
use Rattle.std.proofs.Common.{◌≡◌, ℕ, List, [], ◌∷◌, ◌++◌, length, Some, sym, ◌∙◌, ap, append_assoc}
use Rattle.std.proofs.lemmas.List.{append-nil}
use Rattle.codes.specs.Codes.{Taken, Each, then_read, word, read_word, str, IsShort, read_str, items, read_items, list, IsList, read_list, both, AreBoth, read_both, whole_of}
use Rattle.codes.specs.Reading.{some_same, word_reads, str_reads, then_is, then_was}
use Rattle.listing.specs.KeyText.{path_text, path_code, file_code, PathFits}
use Rattle.cache_api.specs.Artifacts.{artifact_text}
use Rattle.cache_api.specs.Reading.{path_in, then_rest, read_path, read_file, read_files, artifact_in, ReadsOnly}
use Rattle.cache_api.proofs.Paths.{path_only}
use Rattle.cache_api.proofs.Text.{rest_was, whole_was, ascending_was}

-- what is read from the code of a value is that value, and what followed it is the rest
Only : {A : Type 0} → (A → List ℕ) → (A → Type 0) → (List ℕ → Taken A) → Type 0
Only {A} code Fits read = (x y : A) (rest more : List ℕ) → Fits x → read (code x ++ rest) ≡ Some (y, more) → (y ≡ x) × (more ≡ rest)

str_only : Only str IsShort read_str
unfolding Only
str_only x y rest more fits e = some_same y x more rest (sym e ∙ str_reads.again x rest fits)

path_only_read : Only path_code PathFits read_path
unfolding Only path_code read_path
path_only_read x y rest more fits e =
    let is = then_is _ (λ text end. then_rest (path_in text) end) (path_text x) rest (str_reads.again (path_text x) rest fits.text) in
    let found = rest_was (path_in (path_text x)) rest more y (sym is ∙ e) in
    (path_only x y fits.names found.0, sym found.1)

both_only : {A B : Type 0} (a : A → List ℕ) (F : A → Type 0) (r : List ℕ → Taken A) (b : B → List ℕ) (G : B → Type 0) (s : List ℕ → Taken B) → Only a F r → Only b G s → Only (both a b) (AreBoth F G) (read_both r s)
unfolding Only both read_both
both_only a F r b G s ra rb x y rest more fits e =
    let (u, mid, first, next) = then_was (r ((a x.0 ++ b x.1) ++ rest)) (λ u end. then_read (s end) (λ v last. Some ((u, v), last))) y more e in
    let p = ra x.0 u (b x.1 ++ rest) mid fits.first (ap r (sym (append_assoc (a x.0) (b x.1) rest)) ∙ first) in
    let (v, end, second, last) = then_was (s mid) (λ v last. Some ((u, v), last)) y more next in
    let q = rb x.1 v rest end fits.second (ap s (sym p.1) ∙ second) in
    let same = some_same (u, v) y end more last in
    (sym same.0 ∙ (λ i. (p.0 i, q.0 i)), sym same.1 ∙ q.1)

items_only : {A : Type 0} (code : A → List ℕ) (F : A → Type 0) (r : List ℕ → Taken A) → Only code F r → (found xs ys : List A) (rest more : List ℕ) → Each F xs → read_items r found (length xs) (items code xs ++ rest) ≡ Some (ys, more) → (ys ≡ found ++ xs) × (more ≡ rest)
unfolding Only
items_only code F r only found [] ys rest more fits e = let same = some_same found ys rest more e in (sym same.0 ∙ sym (append-nil found), sym same.1)
items_only code F r only found (x ∷ xs) ys rest more fits e =
    let (y, mid, first, next) = then_was (r ((code x ++ items code xs) ++ rest)) (λ z end. read_items r (found ++ z ∷ []) (length xs) end) ys more e in
    let p = only x y (items code xs ++ rest) mid fits.0 (ap r (sym (append_assoc (code x) (items code xs) rest)) ∙ first) in
    let moved = (λ i. read_items r (found ++ sym p.0 i ∷ []) (length xs) (sym p.1 i)) ∙ next in
    let q = items_only code F r only (found ++ x ∷ []) xs ys rest more fits.1 moved in
    (q.0 ∙ append_assoc found (x ∷ []) xs, q.1)

list_only : {A : Type 0} (code : A → List ℕ) (F : A → Type 0) (r : List ℕ → Taken A) → Only code F r → Only (list code) (IsList F) (read_list r)
unfolding Only list read_list
list_only code F r only x y rest more fits e =
    let is = then_is _ (λ n end. read_items r [] n end) (length x) (items code x ++ rest) (ap read_word (append_assoc (word (length x)) (items code x) rest) ∙ word_reads.again (length x) (items code x ++ rest) fits.short) in
    items_only code F r only [] x y rest more fits.each (sym is ∙ e)

file_only : Only file_code (AreBoth PathFits IsShort) read_file
unfolding Only read_file
file_only = both_only path_code PathFits read_path str IsShort read_str path_only_read str_only

files_only : Only (list file_code) (IsList (AreBoth PathFits IsShort)) read_files
unfolding Only read_files
files_only = list_only file_code (AreBoth PathFits IsShort) read_file file_only

parts_only : Only artifact_text (AreBoth IsShort (IsList (AreBoth PathFits IsShort))) (read_both read_str read_files)
unfolding Only artifact_text both
parts_only = both_only str IsShort read_str (list file_code) (IsList (AreBoth PathFits IsShort)) read_files str_only files_only

pub text_only : ReadsOnly artifact_in
unfolding artifact_in Only
text_only a b told e =
    let (whole, up) = ascending_was (whole_of (read_both read_str read_files (artifact_text a))) b e in
    let read = whole_was (read_both read_str read_files (artifact_text a)) b whole in
    (parts_only a b [] [] (record { first = told.log; second = told.files }) (ap (read_both read_str read_files) (append-nil (artifact_text a)) ∙ read)).0

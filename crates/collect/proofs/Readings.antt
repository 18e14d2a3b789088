-- Files that are read one by one.
use Rattle.std.proofs.Common.{◌≡◌, ℕ, ◌+◌, ◌<◌, Bool, true, false, List, [], ◌∷◌, ◌++◌, length, map, get_or, take, refl, sym, ap, ◌∙◌, arith}
use Rattle.std.specs.Prelude.{Option, Some, None, Ok, Err, zip, sum_by, is_some, bytes_eq}
use Rattle.std.specs.Option.{option_map}
use Rattle.std.specs.List.{cons_option}
use Rattle.std.proofs.lemmas.List.{take_more}
use Rattle.std.proofs.lemmas.List.Sums.{sum_by-cons}
use Rattle.std.proofs.lemmas.List.Elements.{filter_map-append}
use Rattle.std.proofs.lemmas.Option.{slice_get-get_or}
use Rattle.rel_path.specs.Paths.{Path}
use Rattle.rel_path.specs.Files.{FileMap}
use Rattle.ignore_rules.specs.declared.rule.Rule.{Rule}
use Rattle.ignore_rules.specs.Rules.{rules_of}
use Rattle.task_inputs.specs.Ignores.{is_ignore_file, ignore_name}
use Rattle.collect.specs.declared.error.CollectErr.{CollectErr}
use Rattle.collect.specs.declared.error.CollectErr.TheVariants.{Missing, TooLarge, TooMuch, Failed, OutOfMemory}
use Rattle.collect.specs.declared.reading.Gathered.{Gathered}
use Rattle.collect.specs.Listings.{with_bytes}
use Rattle.collect.specs.Refusals.{is_large}
use Rattle.collect.specs.Steps.{ReadsOne, ReadsAll, known_at, known_if, Adds, size_of, marked_files, GathersAll, Gathers, folder_of, rules_file}
use Rattle.collect.proofs.Lists.{found_at, not_at, got, there, get_zip, length_zip}

-- ---- the last name of a path

pub last_name : (above : Path) (last : List ℕ) → is_ignore_file (above ++ last ∷ []) ≡ bytes_eq last ignore_name
last_name [] last = refl
last_name (x ∷ []) last = refl
last_name (x ∷ y ∷ above) last = last_name (y ∷ above) last

pub folder_above : (above : Path) (last : List ℕ) → folder_of (above ++ last ∷ []) ≡ above
folder_above [] last = refl
folder_above (x ∷ []) last = refl
folder_above (x ∷ y ∷ above) last = ap (λ p. x ∷ p) (folder_above (y ∷ above) last)

pub folder_none : (path : Path) → length path ≡ 0 → folder_of path ≡ []
folder_none [] e = refl
folder_none (x ∷ path) e = absurd (omega (arith, e))

pub rules_same : (file : Path × List ℕ) (ignore : Path × List Rule) (folder : Path) (bytes : List ℕ) → ignore ≡ (folder, rules_of bytes) → folder ≡ folder_of file.0 → bytes ≡ file.1 → ignore ≡ rules_file file
rules_same file ignore folder bytes e f g = e ∙ ap (λ x. (x, rules_of bytes)) f ∙ ap (λ b. (folder_of file.0, rules_of b)) g

-- ---- ignore files

cons_known : (path : Path) (o : Option (List ℕ)) → cons_option (option_map (λ bytes. (path, bytes)) o) [] ≡ known_at path o
cons_known path None = refl
cons_known path (Some bytes) = refl

pub bytes_more : (files : FileMap) (paths : List Path) (i : ℕ) (d : Path) → i < length paths → with_bytes files (take (i + 1) paths) ≡ with_bytes files (take i paths) ++ known_at (get_or paths i d) (files (get_or paths i d))
bytes_more files paths i d lt =
    ap (with_bytes files) (take_more paths i d lt)
    ∙ filter_map-append (λ path. option_map (λ bytes. (path, bytes)) (files path)) (take i paths) (get_or paths i d ∷ [])
    ∙ ap (λ more. with_bytes files (take i paths) ++ more) (cons_known (get_or paths i d) (files (get_or paths i d)))

pub reads_next : (files : FileMap) (paths : List Path) (i : ℕ) (d : Path) (old new : List (Path × List ℕ)) (now : Option (List ℕ)) → i < length paths → ReadsAll files (take i paths) (Ok old) → ReadsOne (files (get_or paths i d)) (is_large (files (get_or paths i d))) (get_or paths i d) (Ok now)
    → new ≡ old ++ known_at (get_or paths i d) now → ReadsAll files (take (i + 1) paths) (Ok new)
reads_next files paths i d old new now lt so one is =
    (rw (is, so.0, one.0) (sym (bytes_more files paths i d lt)), not_at (λ path. is_large (files path)) paths i d lt so.1 one.1)

pub reads_stop : (files : FileMap) (paths : List Path) (i : ℕ) (d : Path) (old : List (Path × List ℕ)) (e : CollectErr) → i < length paths → d ≡ get_or paths i d → ReadsAll files (take i paths) (Ok old) → ReadsOne (files d) (is_large (files d)) d (Err e) → ReadsAll files paths (Err e)
reads_stop files paths i d old (Missing from name) lt at so one = absurd one
reads_stop files paths i d old (TooLarge path) lt at so one =
    let large : is_large (files (get_or paths i d)) ≡ true = ap (λ p. is_large (files p)) (sym at) ∙ one.1 in
    found_at (λ p. is_large (files p)) paths i d lt so.1 large ∙ slice_get-get_or paths i d lt ∙ ap Some (sym at ∙ sym one.0)
reads_stop files paths i d old (TooMuch total) lt at so one = absurd one
reads_stop files paths i d old Failed lt at so one = tt
reads_stop files paths i d old OutOfMemory lt at so one = tt

-- ---- marked files

abbrev total_of : List (Path × List ℕ) → ℕ
total_of files = sum_by (λ (f : Path × List ℕ). length f.1) files

total_more : (files more : List (Path × List ℕ)) → total_of (files ++ more) ≡ total_of files + total_of more
total_more [] more = let z : total_of [] ≡ 0 = refl in omega (arith, z)
total_more (f ∷ files) more = let e = total_more files more in let a = sum_by-cons (λ (x : Path × List ℕ). length x.1) f (files ++ more) in let b = sum_by-cons (λ (x : Path × List ℕ). length x.1) f files in omega (arith, a, b, e)

total_known : (path : Path) (o : Option (List ℕ)) → total_of (known_at path o) ≡ size_of o
total_known path None = refl
total_known path (Some bytes) = omega arith

marked_more : (files : FileMap) (ms : List (Bool × Path)) (i : ℕ) (d : Bool × Path) → i < length ms → marked_files files (take (i + 1) ms) ≡ marked_files files (take i ms) ++ known_at (get_or ms i d).1 (known_if files (get_or ms i d))
marked_more files ms i d lt =
    ap (marked_files files) (take_more ms i d lt)
    ∙ filter_map-append (λ (m : Bool × Path). option_map (λ bytes. (m.1, bytes)) (known_if files m)) (take i ms) (get_or ms i d ∷ [])
    ∙ ap (λ more. marked_files files (take i ms) ++ more) (cons_known (get_or ms i d).1 (known_if files (get_or ms i d)))

map_append : {X Y : Type 0} (f : X → Y) (xs ys : List X) → map f (xs ++ ys) ≡ map f xs ++ map f ys
map_append f [] ys = refl
map_append f (x ∷ xs) ys = ap (λ zs. f x ∷ zs) (map_append f xs ys)

pub gathers_next : (files : FileMap) (large : Bool × Path → Bool) (ms : List (Bool × Path)) (i : ℕ) (m : Bool × Path) (old new : Gathered) (now : Option (List ℕ)) → i < length ms → get_or ms i m ≡ m → GathersAll files large (take i ms) old
    → ReadsOne (known_if files m) (large m) m.1 (Ok now) → Adds m.1 now old new → GathersAll files large (take (i + 1) ms) new
gathers_next files large ms i m old new now lt at so one a = record {
  found = rw (a.found, so.found, one.0) (sym (ap (map (λ (x : Bool × Path). is_some (known_if files x))) more ∙ map_append (λ (x : Bool × Path). is_some (known_if files x)) (take i ms) (m ∷ [])));
  total = total;
  files_are = λ less. a.files less ∙ ap (λ fs. fs ++ known_at m.1 now) (so.files_are (omega (arith, less, a.total))) ∙ sym files_more;
  small = not_at large ms i m lt so.small (ap large at ∙ one.1);
}
  where
    more : take (i + 1) ms ≡ take i ms ++ m ∷ []
    more = take_more ms i m lt ∙ ap (λ x. take i ms ++ x ∷ []) at

    files_more : marked_files files (take (i + 1) ms) ≡ marked_files files (take i ms) ++ known_at m.1 now
    files_more = marked_more files ms i m lt ∙ ap (λ (x : Bool × Path). marked_files files (take i ms) ++ known_at x.1 (known_if files x)) at ∙ ap (λ o. marked_files files (take i ms) ++ known_at m.1 o) (sym one.0)

    total : new.total ≡ total_of (marked_files files (take (i + 1) ms))
    total = a.total ∙ ap (λ n. n + size_of now) so.total ∙ ap (λ n. total_of (marked_files files (take i ms)) + n) (sym (total_known m.1 now)) ∙ sym (total_more (marked_files files (take i ms)) (known_at m.1 now)) ∙ ap total_of (sym files_more)

pub gathers_stop : (files : FileMap) (large : Bool × Path → Bool) (ms : List (Bool × Path)) (i : ℕ) (m : Bool × Path) (old : Gathered) (e : CollectErr) → i < length ms → get_or ms i m ≡ m → GathersAll files large (take i ms) old
    → ReadsOne (known_if files m) (large m) m.1 (Err e) → Gathers files large ms (Err e)
gathers_stop files large ms i m old (Missing from name) lt at so one = absurd one
gathers_stop files large ms i m old (TooLarge path) lt at so one =
    ap (option_map (λ (x : Bool × Path). x.1)) (found_at large ms i m lt so.small (ap large at ∙ one.1) ∙ slice_get-get_or ms i m lt) ∙ ap Some (ap (λ (x : Bool × Path). x.1) at ∙ sym one.0)
gathers_stop files large ms i m old (TooMuch total) lt at so one = absurd one
gathers_stop files large ms i m old Failed lt at so one = tt
gathers_stop files large ms i m old OutOfMemory lt at so one = tt

get_same : {X : Type 0} (xs : List X) (i : ℕ) (d e : X) → i < length xs → get_or xs i d ≡ get_or xs i e
get_same xs i d e lt = let t = there xs i lt in got xs i t.0 d t.1 ∙ sym (got xs i t.0 e t.1)

pub marked_at : (marks : List Bool) (walk : List Path) (i : ℕ) (p : Path) → length marks ≡ length walk → i < length walk → p ≡ get_or walk i p → get_or (zip marks walk) i (get_or marks i false, p) ≡ (get_or marks i false, p)
marked_at marks walk i p same lt at =
    get_zip marks walk i (get_or marks i false) p (omega (arith, lt, same)) lt ∙ ap (λ b. (b, get_or walk i p)) (get_same marks i (get_or marks i false) false (omega (arith, lt, same))) ∙ ap (λ q. (get_or marks i false, q)) (sym at)

pub zip_long : (marks : List Bool) (walk : List Path) (i : ℕ) → length marks ≡ length walk → i < length walk → i < length (zip marks walk)
zip_long marks walk i same lt = omega (arith, lt, length_zip marks walk same)

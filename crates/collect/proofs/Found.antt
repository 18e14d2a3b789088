-- What was read, whatever the tree tells.
use Rattle.std.proofs.Common.{◌≡◌, ℕ, zero, suc, ◌+◌, ◌<◌, Bool, true, false, cond, List, [], ◌∷◌, ◌++◌, length, map, take, get_or, refl, sym, ap, ◌∙◌, arith}
use Rattle.std.specs.Prelude.{Option, None, Result, Ok, Err, IfOk, zip, is_some, sum_by}
use Rattle.std.specs.Option.{option_map}
use Rattle.std.specs.List.{cons_option, AllByRecursion}
use Rattle.std.specs.List.Sorted.{IsStrictlySortedBy}
use Rattle.std.specs.declared.cmp.Ordering.TheVariants.{Less}
use Rattle.rel_path.specs.Paths.{Path, path_eq, path_cmp}
use Rattle.rel_path.specs.Files.{FileMap, file_at}
use Rattle.rel_path.proofs.PathLaws.{path_same, path_self, path_cmp_self}
use Rattle.task_inputs.specs.Ignores.{is_ignore_file}
use Rattle.collect.specs.declared.error.CollectErr.{CollectErr}
use Rattle.collect.specs.declared.reading.Gathered.{Gathered}
use Rattle.collect.specs.Listings.{with_bytes}
use Rattle.collect.specs.Steps.{known, known_at, known_if, marked_files, Adds, GathersAll, ReadsSome, KnowsSome, GathersSome, never}
use Rattle.collect.proofs.Lists.{each_at}
use Rattle.collect.proofs.Readings.{bytes_more, gathers_next, marked_at, zip_long}

-- ---- one file more

-- the files with this one at the path
with_one : Path → Option (List ℕ) → FileMap → FileMap
with_one p now files = λ q. cond (path_eq p q) now (files q)

one_here : (p : Path) (now : Option (List ℕ)) (files : FileMap) → with_one p now files p ≡ now
unfolding with_one
one_here p now files = ap (λ b. cond b now (files p)) (path_self p)

one_other : (p : Path) (now : Option (List ℕ)) (files : FileMap) (q : Path) → path_eq p q ≡ false → with_one p now files q ≡ files q
unfolding with_one
one_other p now files q e = ap (λ b. cond b now (files q)) e

all_weaker : {X : Type 0} (P Q : X → Type 0) (xs : List X) → ((x : X) → P x → Q x) → AllByRecursion P xs → AllByRecursion Q xs
all_weaker P Q [] f all = tt
all_weaker P Q (x ∷ xs) f all = (f x all.0, all_weaker P Q xs f all.1)

-- of ascending paths none is one of those before it
others : (paths : List Path) (i : ℕ) (d : Path) → IsStrictlySortedBy path_cmp paths → i < length paths → AllByRecursion (λ q. path_eq (get_or paths i d) q ≡ false) (take i paths)
unfolding IsStrictlySortedBy
others paths zero d sorted lt = tt
others [] (suc i) d sorted lt = tt
others (p ∷ paths) (suc i) d sorted lt = (by (path_eq (get_or paths i d) p) refl, others paths i d sorted.1 (omega (arith, lt))) where
  less : path_cmp p (get_or paths i d) ≡ Less
  less = each_at (λ q. path_cmp p q ≡ Less) paths i d (omega (arith, lt)) sorted.0

  by : (b : Bool) → path_eq (get_or paths i d) p ≡ b → b ≡ false
  by true e = let self : path_cmp p p ≡ Less = ap (path_cmp p) (sym (path_same (get_or paths i d) p e)) ∙ less in let equal = path_cmp_self p in cc
  by false e = refl

-- ---- ignore files

pub bytes_same : (F G : FileMap) (paths : List Path) → AllByRecursion (λ q. F q ≡ G q) paths → with_bytes F paths ≡ with_bytes G paths
bytes_same F G [] all = refl
bytes_same F G (p ∷ paths) all = ap (λ o. cons_option (option_map (λ bytes. (p, bytes)) o) (with_bytes F paths)) all.0 ∙ ap (λ fs. cons_option (option_map (λ bytes. (p, bytes)) (G p)) fs) (bytes_same F G paths all.1)

pub read_more : (paths : List Path) (i : ℕ) (p : Path) (old new : List (Path × List ℕ)) (now : Option (List ℕ)) → IsStrictlySortedBy path_cmp paths → i < length paths → p ≡ get_or paths i p → new ≡ old ++ known_at p now → ReadsSome (take i paths) old → ReadsSome (take (i + 1) paths) new
read_more paths i p old new now sorted lt at is some = (files, is ∙ ap (λ fs. fs ++ known_at p now) (some.1 ∙ sym before) ∙ ap (λ o. with_bytes files (take i paths) ++ known_at p o) (sym (one_here p now some.0)) ∙ ap (λ q. with_bytes files (take i paths) ++ known_at q (files q)) at ∙ sym (bytes_more files paths i p lt)) where
  files : FileMap
  files = with_one p now some.0

  before : with_bytes files (take i paths) ≡ with_bytes some.0 (take i paths)
  before = bytes_same files some.0 (take i paths) (all_weaker (λ q. path_eq (get_or paths i p) q ≡ false) (λ q. files q ≡ some.0 q) (take i paths) (λ q e. one_other p now some.0 q (ap (λ x. path_eq x q) at ∙ e)) (others paths i p sorted lt))

-- ---- marked files

module _ (K L : FileMap) where
  found_same : (ms : List (Bool × Path)) → AllByRecursion (λ m. K m.1 ≡ L m.1) ms → map (λ m. is_some (known_if K m)) ms ≡ map (λ m. is_some (known_if L m)) ms
  found_same [] all = refl
  found_same (m ∷ ms) all = ap (λ o. is_some (cond m.0 o None) ∷ map (λ x. is_some (known_if K x)) ms) all.0 ∙ ap (λ bs. is_some (known_if L m) ∷ bs) (found_same ms all.1)

  marked_same : (ms : List (Bool × Path)) → AllByRecursion (λ m. K m.1 ≡ L m.1) ms → marked_files K ms ≡ marked_files L ms
  marked_same [] all = refl
  marked_same (m ∷ ms) all =
      ap (λ o. cons_option (option_map (λ bytes. (m.1, bytes)) (cond m.0 o None)) (marked_files K ms)) all.0 ∙ ap (λ fs. cons_option (option_map (λ bytes. (m.1, bytes)) (known_if L m)) fs) (marked_same ms all.1)

  gathers_same : (large : Bool × Path → Bool) (ms : List (Bool × Path)) (g : Gathered) → AllByRecursion (λ m. K m.1 ≡ L m.1) ms → GathersAll K large ms g → GathersAll L large ms g
  gathers_same large ms g all gs = record {
    found = gs.found ∙ found_same ms all;
    total = gs.total ∙ ap (sum_by (λ (f : Path × List ℕ). length f.1)) (marked_same ms all);
    files_are = λ less. gs.files_are less ∙ marked_same ms all;
    small = gs.small;
  }

zip_before : (P : Path → Type 0) (marks : List Bool) (walk : List Path) (i : ℕ) → AllByRecursion P (take i walk) → AllByRecursion (λ (m : Bool × Path). P m.1) (take i (zip marks walk))
zip_before P marks walk zero all = tt
zip_before P [] walk (suc i) all = tt
zip_before P (b ∷ marks) [] (suc i) all = tt
zip_before P (b ∷ marks) (w ∷ walk) (suc i) all = (all.0, zip_before P marks walk i all.1)

pub gather_more : (ignores : List (Path × List ℕ)) (marks : List Bool) (walk : List Path) (i : ℕ) (p : Path) (old new : Gathered) (now : Option (List ℕ)) → length marks ≡ length walk → IsStrictlySortedBy path_cmp walk → i < length walk → p ≡ get_or walk i p
    → GathersSome ignores (take i (zip marks walk)) old → KnowsSome ignores (get_or marks i false, p) now → Adds p now old new → GathersSome ignores (take (i + 1) (zip marks walk)) new
gather_more ignores marks walk i p old new now same sorted lt at some here adds = (files, gathers_next (known ignores files) never (zip marks walk) i (get_or marks i false, p) old new now (zip_long marks walk i same lt) (marked_at marks walk i p same lt at) before (found, refl) adds) where
  files : FileMap
  files = with_one p here.0 some.0

  found : now ≡ known_if (known ignores files) (get_or marks i false, p)
  found = here.1 ∙ ap (λ o. cond (get_or marks i false) (cond (is_ignore_file p) (file_at ignores p) o) None) (sym (one_here p here.0 some.0))

  before : GathersAll (known ignores files) never (take i (zip marks walk)) old
  before = gathers_same (known ignores some.0) (known ignores files) never (take i (zip marks walk)) old
      (zip_before (λ q. known ignores some.0 q ≡ known ignores files q) marks walk i
      (all_weaker (λ q. path_eq (get_or walk i p) q ≡ false) (λ q. known ignores some.0 q ≡ known ignores files q) (take i walk) (λ q e. ap (λ o. cond (is_ignore_file q) (file_at ignores q) o) (sym (one_other p here.0 some.0 q (ap (λ x. path_eq x q) at ∙ e)))) (others walk i p sorted lt)))
      some.1

-- ---- both together

-- the first files for ignore files, the second for all others
pub joined : FileMap → FileMap → FileMap
joined F G = λ q. cond (is_ignore_file q) (F q) (G q)

pub joined_rules : (F G : FileMap) (paths : List Path) → AllByRecursion (λ p. is_ignore_file p ≡ true) paths → with_bytes (joined F G) paths ≡ with_bytes F paths
unfolding joined
joined_rules F G paths all = bytes_same (joined F G) F paths (all_weaker (λ p. is_ignore_file p ≡ true) (λ p. joined F G p ≡ F p) paths (λ p e. ap (λ b. cond b (F p) (G p)) e) all)

pub joined_known : (ignores : List (Path × List ℕ)) (F G : FileMap) → known ignores (joined F G) ≡ known ignores G
unfolding joined
joined_known ignores F G = λ k q. same q (is_ignore_file q) k where
  same : (q : Path) (b : Bool) → cond b (file_at ignores q) (cond b (F q) (G q)) ≡ cond b (file_at ignores q) (G q)
  same q true = refl
  same q false = refl

-- ---- one look

pub knows_other : (ignores : List (Path × List ℕ)) (path : Path) (result : Result (Option (List ℕ)) CollectErr) → is_ignore_file path ≡ false → IfOk result (KnowsSome ignores (true, path))
knows_other ignores path (Ok now) e = (now, ap (λ b. cond b (file_at ignores path) now) (sym e))
knows_other ignores path (Err error) e = tt

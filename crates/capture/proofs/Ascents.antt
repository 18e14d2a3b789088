-- Lists of files whose paths ascend, each path before the next one or each before all behind it.
use Rattle.std.proofs.Common.{◌≡◌, ◌≢◌, Bool, true, false, ◌||◌, ◌&&◌, List, [], ◌∷◌, ◌++◌, refl, sym, ap, ◌∙◌}
use Rattle.std.specs.Prelude.{ℕ}
use Rattle.std.specs.List.{AllByRecursion, list_all}
use Rattle.std.specs.List.Sorted.{IsStrictlySortedBy}
use Rattle.std.specs.Cmp.{first_so, second_so}
use Rattle.std.specs.declared.cmp.Ordering.{Ordering}
use Rattle.std.specs.declared.cmp.Ordering.TheVariants.{Less, Equal, Greater}
use Rattle.std.specs.Ordering.{is_lt}
use Rattle.rel_path.specs.Paths.{Path, path_cmp, path_eq, is_among}
use Rattle.rel_path.proofs.PathLaws.{path_cmp_total, path_self, path_same}
use Rattle.globs.specs.declared.out_set.OutSet.{OutSet}
use Rattle.globs.specs.Outputs.{takes, shares}
use Rattle.globs.specs.OutLaws.{takes_within, shares_within, may_take, may_take-Within}
use Rattle.rel_path.specs.Paths.{strip}
use Rattle.cache_api.specs.Artifacts.{File, ascends, ascends_from}
use Rattle.cache_api.specs.Hits.{each_before}
use Rattle.globs.specs.OwnedFiles.{owns_all}
use Rattle.capture.specs.Owned.{paths_of, declares, AreBelow}

-- a path before another, and that one before all of these
below_all : (p q : Path) (ys : List Path) → path_cmp p q ≡ Less → AllByRecursion (λ y. path_cmp q y ≡ Less) ys → AllByRecursion (λ y. path_cmp p y ≡ Less) ys
below_all p q [] pq all = tt
below_all p q (y ∷ ys) pq all = (path_cmp_total.trans p q y pq all.0, below_all p q ys pq all.1)

is_Less : (o : Ordering) → is_lt o ≡ true → o ≡ Less
is_Less Less e = refl
is_Less Equal e = cc
is_Less Greater e = cc

sorted_from : (last : Path) (paths : List Path) → each_before last paths ≡ true
    → AllByRecursion (λ y. path_cmp last y ≡ Less) paths × IsStrictlySortedBy path_cmp paths
unfolding IsStrictlySortedBy
sorted_from last [] e = (tt, tt)
sorted_from last (p ∷ ps) e =
    let less = is_Less (path_cmp last p) (first_so (is_lt (path_cmp last p)) (each_before p ps) e) in
    let rest = sorted_from p ps (second_so (is_lt (path_cmp last p)) (each_before p ps) e) in
    ((less, below_all last p ps less rest.0), (rest.0, rest.1))

-- paths that ascend one by one ascend
pub sorted_paths : (paths : List Path) → each_before [] paths ≡ true → IsStrictlySortedBy path_cmp paths
sorted_paths paths e = (sorted_from [] paths e).1

one_by_one : (last : Path) (files : List File) → ascends_from last files ≡ each_before last (paths_of files)
one_by_one last [] = refl
one_by_one last (f ∷ fs) = ap (λ b. is_lt (path_cmp last f.0) && b) (one_by_one f.0 fs)

pub sorted_files : (files : List File) → ascends files ≡ true → IsStrictlySortedBy path_cmp (paths_of files)
sorted_files files e = sorted_paths (paths_of files) (sym (one_by_one [] files) ∙ e)

from_sorted : (last : Path) (files : List File) → AllByRecursion (λ y. path_cmp last y ≡ Less) (paths_of files) → IsStrictlySortedBy path_cmp (paths_of files) → ascends_from last files ≡ true
unfolding IsStrictlySortedBy
from_sorted last [] all sorted = refl
from_sorted last (f ∷ fs) all sorted = rw (all.0, from_sorted f.0 fs sorted.0 sorted.1) refl

-- the root stands before every other path
root_first : (path : Path) → path ≢ [] → path_cmp [] path ≡ Less
root_first [] other = absurd (other refl)
root_first (name ∷ names) other = refl

root_before : (paths : List Path) → ((path : Path) → is_among paths path ≡ true → path ≢ []) → AllByRecursion (λ y. path_cmp [] y ≡ Less) paths
root_before [] below = tt
root_before (p ∷ ps) below = (root_first p (below p (ap (λ b. b || is_among ps p) (path_self p))), root_before ps (λ q h. below q (later (path_eq p q) (is_among ps q) h)))
  where
    later : (a b : Bool) → b ≡ true → (a || b) ≡ true
    later true b h = refl
    later false b h = h

-- and the other way round, where none is the root
pub ascending : (files : List File) → AreBelow files → IsStrictlySortedBy path_cmp (paths_of files) → ascends files ≡ true
ascending files below sorted = from_sorted [] files (root_before (paths_of files) below) sorted

append_below : (folder names : Path) (name : List ℕ) → folder ++ name ∷ names ≢ []
append_below [] names name e = absurd (cc)
append_below (f ∷ fs) names name e = absurd (cc)

may_below : (folder path : Path) → may_take (strip folder path) ≡ true → path ≢ []
may_below folder path m e = let w = may_take-Within folder path m in append_below folder w.names w.name (sym w.is ∙ e)

-- what a task declares is not the root
pub declared_below : (outs : OutSet) (path : Path) → declares outs path ≡ true → path ≢ []
declared_below outs path d = by (takes outs path) (shares outs path) refl refl d
  where
    by : (t s : Bool) → takes outs path ≡ t → shares outs path ≡ s → (t || s) ≡ true → path ≢ []
    by true s et es h = may_below outs.folder path (takes_within outs path et)
    by false true et es h = may_below outs.folder path (shares_within outs path es)
    by false false et es h = absurd (let y : false ≡ true = h in cc)

-- a task owns each of the paths that it owns
pub owns_among : (outs : OutSet) (paths : List Path) → list_all (takes outs) paths ≡ true → (path : Path) → is_among paths path ≡ true → takes outs path ≡ true
owns_among outs [] all path h = absurd (let y : false ≡ true = h in cc)
owns_among outs (p ∷ ps) all path h = by (owns_among outs ps (second_so (takes outs p) (list_all (takes outs) ps) all) path) (path_eq p path) refl h
  where
    by : (is_among ps path ≡ true → takes outs path ≡ true) → (b : Bool) → path_eq p path ≡ b → (b || is_among ps path) ≡ true → takes outs path ≡ true
    by later true e k = ap (takes outs) (sym (path_same p path e)) ∙ first_so (takes outs p) (list_all (takes outs) ps) all
    by later false e k = later k

owns_one_by_one : (outs : OutSet) (files : List File) → owns_all outs files ≡ list_all (takes outs) (paths_of files)
owns_one_by_one outs [] = refl
owns_one_by_one outs (f ∷ fs) = ap (λ b. takes outs f.0 && b) (owns_one_by_one outs fs)

pub owns_each : (outs : OutSet) (files : List File) → owns_all outs files ≡ true → (path : Path) → is_among (paths_of files) path ≡ true → takes outs path ≡ true
owns_each outs files all = owns_among outs (paths_of files) (sym (owns_one_by_one outs files) ∙ all)

-- The walk of the files that stay is the paths that were picked.
use Rattle.std.proofs.Common.{◌≡◌, ◌≤◌, ℕ, Bool, true, false, cond, ◌&&◌, List, [], ◌∷◌, ◌++◌, length, refl, sym, ap, ◌∙◌, subst, le_trans}
use Rattle.std.specs.Prelude.{Option, Some, None, is_some, Ok}
use Rattle.std.specs.Cmp.{first_so, second_so}
use Rattle.std.specs.List.Sorted.{IsStrictlySortedBy}
use Rattle.std.proofs.lemmas.Bool.{false≢true}
use Rattle.std.proofs.lemmas.List.Kept.{IsStrictlySortedBy-filter}
use Rattle.rel_path.specs.Paths.{Path, path_eq, path_cmp, is_among}
use Rattle.rel_path.specs.Files.{FileMap, has}
use Rattle.rel_path.specs.Limits.{file_limit}
use Rattle.rel_path.proofs.PathLaws.{path_same}
use Rattle.tree_dev.specs.Tree.{within}
use Rattle.tree_walk.specs.Traversal.{Entering, passes, passes_if, reached}
use Rattle.tree_walk.specs.Walked.{walk_choice, is_open, is_walked, IsEntry, Walks}
use Rattle.repository.specs.Reading.{Contents, lockfile, lock_from}
use Rattle.pruned_files.specs.Pruned.{IsPrunedPath, lock_path, Pruning, IsPruning, pruned_files}
use Rattle.pruned_reading.proofs.Lists.{among_filter, filter_short}
use Rattle.pruned_reading.proofs.Read.{IsRead}
use Rattle.pruned_reading.proofs.Locks.{some_read, cut_some, IsWritten}

-- ---- folders that a walk enters

last_free : (enters : Entering) (at folder : Path) (name other : List ℕ) → passes enters at (folder ++ name ∷ []) ≡ passes enters at (folder ++ other ∷ [])
unfolding passes
last_free enters at [] name other = refl
last_free enters at (f ∷ []) name other = refl
last_free enters at (f ∷ g ∷ fs) name other = ap (λ b. enters at f && b) (last_free enters (at ++ f ∷ []) (g ∷ fs) name other)

-- whether a file is walked does not depend on its own name
pub open_beside : (folder : Path) (name other : List ℕ) → is_open (folder ++ name ∷ []) ≡ true → is_open (folder ++ other ∷ []) ≡ true
unfolding reached passes_if
open_beside folder name other e = last_free walk_choice.enters [] folder other name ∙ e

pub open_at_root : (name : List ℕ) → is_open (name ∷ []) ≡ true
unfolding reached passes_if passes
open_at_root name = refl

-- ---- what is there

and_true : (b : Bool) → (b && true) ≡ b
and_true true = refl
and_true false = refl

and_both : (a b : Bool) → (a ≡ true → b ≡ true) → a ≡ (a && b)
and_both true b f = sym (f refl)
and_both false b f = refl

module _ {files : FileMap} {contents : Contents} {targets : List (List ℕ)} {p : Pruning} (read : IsRead files contents) (is : IsPruning contents targets p) where
  pub among : (path : Path) → is_among p.paths path ≡ (is_among contents.walk path && is.picked.test path)
  among path = ap (λ paths. is_among paths path) is.picked.are ∙ among_filter is.picked.test contents.walk path

  pub walked : (path : Path) → is_among contents.walk path ≡ (has files path && is_open path)
  walked path = read.walk.exact path ∙ and_true (is_walked files path)

  pub was_walked : (path : Path) → is_among p.paths path ≡ true → is_among contents.walk path ≡ true
  was_walked path e = first_so (is_among contents.walk path) (is.picked.test path) (sym (among path) ∙ e)

  pub was_pruned : (path : Path) → is_among p.paths path ≡ true → IsPrunedPath contents p.set path
  was_pruned path e = is.picked.sound path (second_so (is_among contents.walk path) (is.picked.test path) (sym (among path) ∙ e))

  pub is_kept : (path : Path) → is_among contents.walk path ≡ true → IsPrunedPath contents p.set path → is_among p.paths path ≡ true
  is_kept path at there = let passes : is.picked.test path ≡ true = is.picked.whole path there in among path ∙ (λ j. at j && passes j)

  was_there : (path : Path) → is_among p.paths path ≡ true → has files path ≡ true
  was_there path e = first_so (has files path) (is_open path) (sym (walked path) ∙ was_walked path e)

  pub missing : (path : Path) → files path ≡ None → is_among p.paths path ≡ false
  missing path none = by (is_among p.paths path) refl where
    by : (b : Bool) → is_among p.paths path ≡ b → b ≡ false
    by true e = absurd (false≢true (sym (ap is_some none) ∙ was_there path e))
    by false e = refl

  pub gone : (path : Path) → is_among p.paths path ≡ false → pruned_files p files path ≡ None
  gone path e = ap (λ b. cond b (cond (path_eq path lock_path) p.text (files path)) None) e

  -- a file that stays and is not the lockfile is as it was
  pub stays : (path : Path) → IsPrunedPath contents p.set path → is_open path ≡ true → path_eq path lock_path ≡ false → pruned_files p files path ≡ files path
  stays path there entered other = by (files path) refl where
    by : (found : Option (List ℕ)) → files path ≡ found → pruned_files p files path ≡ files path
    by None e = gone path (missing path e) ∙ sym e
    by (Some bytes) e =
        let here : has files path ≡ true = ap is_some e in
        let at : is_among contents.walk path ≡ true = walked path ∙ (λ j. here j && entered j) in
        ap (λ b. cond b (cond (path_eq path lock_path) p.text (files path)) None) (is_kept path at there) ∙ ap (λ b. cond b p.text (files path)) other

  -- ---- the walk

  -- where the lockfile is there, its cut form has a text
  pub written : (bytes : List ℕ) → files lock_path ≡ Some bytes → IsWritten p.lock p.text
  unfolding lockfile
  written bytes e =
      let lock = some_read bytes contents.lock (ap (λ o. lock_from (within file_limit o)) (sym e) ∙ read.lock) in
      cut_some contents p.set contents.lock p.lock p.text lock.0 lock.1 is.cut

  has_text : has files lock_path ≡ true → is_some p.text ≡ true
  has_text here = by (files lock_path) refl here where
    by : (found : Option (List ℕ)) → files lock_path ≡ found → is_some found ≡ true → is_some p.text ≡ true
    by None e h = absurd (false≢true h)
    by (Some bytes) e h = ap is_some (written bytes e).its_text

  pub there : (path : Path) → has (pruned_files p files) path ≡ is_among p.paths path
  there path = by (is_among p.paths path) refl where
    at_lock : (b : Bool) → path_eq path lock_path ≡ b → is_among p.paths path ≡ true → is_some (cond b p.text (files path)) ≡ true
    at_lock true same e = has_text (ap (has files) (sym (path_same path lock_path same)) ∙ was_there path e)
    at_lock false same e = was_there path e

    by : (b : Bool) → is_among p.paths path ≡ b → is_some (cond b (cond (path_eq path lock_path) p.text (files path)) None) ≡ b
    by false e = refl
    by true e = at_lock (path_eq path lock_path) refl e

  was_entry : (path : Path) → IsEntry (pruned_files p files) path → IsEntry files path
  was_entry path way = record { reached = way.reached; rest = way.rest; there = was_there (path ++ way.rest) (sym (there (path ++ way.rest)) ∙ way.there) }

  ascend : IsStrictlySortedBy path_cmp p.paths
  ascend = subst (IsStrictlySortedBy path_cmp) (sym is.picked.are) (IsStrictlySortedBy-filter path_cmp is.picked.test contents.walk read.walk.ascend)

  few : length p.paths ≤ length contents.walk
  few = subst (λ paths. length paths ≤ length contents.walk) (sym is.picked.are) (filter_short is.picked.test contents.walk)

  opened : (path : Path) → is_among p.paths path ≡ true → is_open path ≡ true
  opened path e = read.few.kept path (was_walked path e)

  pub walks : Walks (Unit {0}) (pruned_files p files) (Ok p.paths)
  walks = (
    record { ascend = ascend; kept = opened; few = le_trans few read.few.few },
    λ told. record {
      ascend = ascend;
      exact = λ path. and_both (is_among p.paths path) (is_open path) (opened path) ∙ ap (λ b. b && is_open path) (sym (there path)) ∙ sym (and_true (is_walked (pruned_files p files) path));
      shallow = λ path way before. read.walk.shallow path (was_entry path way) before;
    },
  )

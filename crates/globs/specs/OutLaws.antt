-- Laws of output sets, for the crates that clear, restore and record what a task owns.
use Rattle.std.specs.Prelude.{◌≡◌, ◌++◌, ◌||◌, ◌&&◌, not, ℕ, Bool, true, false, List, [], ◌∷◌, Option, Some, None, refl}
use Rattle.std.proofs.Common.{◌∙◌, ap}
use Rattle.rel_path.specs.Paths.{Path, strip, IsBelow}
use Rattle.rel_path.proofs.PathLaws.{strip_is}
use Rattle.globs.specs.declared.out_set.OutSet.{OutSet}
use Rattle.globs.specs.Lists.{list_takes}
use Rattle.globs.specs.Outputs.{is_kept_folder, is_kept_file, may_declare, declares_below, declares, any_declares, takes, shares}

-- what is left of a path below a folder is there, and a task may declare it
abbrev pub may_take : Option Path → Bool
may_take None = false
may_take (Some rest) = may_declare rest

-- ---- tests
and_first : (a b : Bool) → (a && b) ≡ true → a ≡ true
and_first true b e = refl
and_first false b e = e

and_second : (a b : Bool) → (a && b) ≡ true → b ≡ true
and_second true b e = e
and_second false b e = cc

and_none : (a : Bool) → (a && false) ≡ false
and_none true = refl
and_none false = refl

not_true : (a : Bool) → not a ≡ true → a ≡ false
not_true true e = cc
not_true false e = refl

not_first : (a b : Bool) → (not a && b) ≡ true → a ≡ false
not_first true b e = cc
not_first false b e = refl

-- ---- where it lies

declared_may_take : (outputs : List (List ℕ)) (below : Option Path) → declares_below outputs below ≡ true → may_take below ≡ true
declared_may_take outputs None e = e
declared_may_take outputs (Some rest) e = and_first (may_declare rest) (list_takes outputs rest) e

-- what is taken may be declared
pub takes_within : (set : OutSet) (path : Path) → takes set path ≡ true → may_take (strip set.folder path) ≡ true
unfolding takes
takes_within set path e = declared_may_take set.mine (strip set.folder path) (and_first (declares set.mine set.folder path) (not (any_declares set.others set.folder path)) e)

-- what is shared may be declared
pub shares_within : (set : OutSet) (path : Path) → shares set path ≡ true → may_take (strip set.folder path) ≡ true
unfolding shares
shares_within set path e = declared_may_take set.mine (strip set.folder path) (and_first (declares set.mine set.folder path) (any_declares set.others set.folder path) e)

-- what may be declared lies below the folder, by a first name that is no kept folder, and that is no kept file where it is the only one
pub record Within (folder path : Path) : Type 0 where
  pub name : List ℕ
  pub names : Path
  pub is : path ≡ folder ++ name ∷ names
  pub outside : is_kept_folder name ≡ false
  pub no_file : names ≡ [] → is_kept_file name ≡ false

within : (folder path rest : Path) → path ≡ folder ++ rest → may_declare rest ≡ true → Within folder path
within folder path [] e m = cc
within folder path (name ∷ []) e m = record { name = name; names = []; is = e; outside = not_first (is_kept_folder name) (not (is_kept_file name)) m; no_file = λ none. not_true (is_kept_file name) (and_second (not (is_kept_folder name)) (not (is_kept_file name)) m) }
within folder path (name ∷ next ∷ rest) e m = record { name = name; names = next ∷ rest; is = e; outside = not_true (is_kept_folder name) m; no_file = λ none. cc }

pub may_take-Within : (folder path : Path) → may_take (strip folder path) ≡ true → Within folder path
may_take-Within folder path e = by (strip folder path) refl e
  where
    by : (below : Option Path) → strip folder path ≡ below → may_take below ≡ true → Within folder path
    by None s m = cc
    by (Some rest) s m = within folder path rest (strip_is folder path rest s) m

pub may_take-below : (folder path : Path) → may_take (strip folder path) ≡ true → IsBelow path folder
may_take-below folder path e = let w = may_take-Within folder path e in (w.name, w.names, w.is)

-- ---- taken and shared

-- no path is both
pub takes_not_shares : (set : OutSet) (path : Path) → takes set path ≡ true → shares set path ≡ false
unfolding takes shares
takes_not_shares set path e = by (declares set.mine set.folder path) (any_declares set.others set.folder path) e
  where
    by : (mine other : Bool) → (mine && not other) ≡ true → (mine && other) ≡ false
    by true true e = cc
    by true false e = refl
    by false other e = refl

-- a path is either where the task declares it
pub takes_or_shares : (set : OutSet) (path : Path) → (takes set path || shares set path) ≡ declares set.mine set.folder path
unfolding takes shares
takes_or_shares set path = by (declares set.mine set.folder path) (any_declares set.others set.folder path)
  where
    by : (mine other : Bool) → ((mine && not other) || (mine && other)) ≡ mine
    by true true = refl
    by true false = refl
    by false other = refl

-- ---- without globs

pub declares_nothing : (folder path : Path) → declares [] folder path ≡ false
unfolding list_takes
declares_nothing folder path = by (strip folder path)
  where
    by : (below : Option Path) → declares_below [] below ≡ false
    by None = refl
    by (Some rest) = and_none (may_declare rest)

pub takes_nothing : (set : OutSet) (path : Path) → set.mine ≡ [] → takes set path ≡ false
unfolding takes
takes_nothing set path e = ap (λ mine. declares mine set.folder path && not (any_declares set.others set.folder path)) e ∙ ap (λ mine. mine && not (any_declares set.others set.folder path)) (declares_nothing set.folder path)

pub shares_nothing : (set : OutSet) (path : Path) → set.mine ≡ [] → shares set path ≡ false
unfolding shares
shares_nothing set path e = ap (λ mine. declares mine set.folder path && any_declares set.others set.folder path) e ∙ ap (λ mine. mine && any_declares set.others set.folder path) (declares_nothing set.folder path)

-- a list without texts takes nothing
pub list_takes_nothing : (path : Path) → list_takes [] path ≡ false
unfolding list_takes
list_takes_nothing path = refl

-- Packages in the order of their folders, and their scripts.
use Rattle.std.proofs.Common.{◌≡◌, ◌≢◌, ℕ, zero, suc, ◌<◌, List, [], ◌∷◌, ◌++◌, length, get_or, drop, AllPairs, map, refl, sym, ap, ◌∙◌, subst, arith, append_assoc, append-nil, add-one, ◌+◌, ◌-◌, ◌≤◌}
use Rattle.std.specs.Prelude.{Some, None}
use Rattle.std.specs.List.{AllByRecursion, HoldsAt}
use Rattle.std.specs.BTreeMap.{insert_entry}
use Rattle.std.specs.declared.cmp.Ordering.{Ordering}
use Rattle.std.specs.declared.cmp.Ordering.TheVariants.{Less, Equal, Greater}
use Rattle.std.specs.Ordering.{match_ordering, is_eq}
use Rattle.rel_path.specs.Paths.{Path, path_cmp, strip}
use Rattle.rel_path.proofs.PathLaws.{path_same, path_ties, strip_append}
use Rattle.manifest.specs.declared.manifest.Manifest.{Manifest}
use Rattle.workspaces.specs.declared.member.Package.{Package}
use Rattle.workspaces.specs.Lists.{put_in, ascending}
use Rattle.workspaces.specs.Space.{AreApart}
use Rattle.repository.specs.Reading.{folder_cmp, homes_of, script_names}

-- ---- lists in ascending order

all-put_in : {X : Type 0} (P : X → Type 0) (cmp : X → X → Ordering) (x : X) (xs : List X) → P x → AllByRecursion P xs → AllByRecursion P (put_in cmp x xs)
all-put_in P cmp x [] here all = (here, tt)
all-put_in P cmp x (y ∷ ys) here all = by (cmp x y) (all-put_in P cmp x ys here all.1) where
  by : (r : Ordering) → AllByRecursion P (put_in cmp x ys) → AllByRecursion P (match_ordering r (x ∷ y ∷ ys) (y ∷ ys) (y ∷ put_in cmp x ys))
  by Less rest = (here, all)
  by Equal rest = all
  by Greater rest = (all.0, rest)

all-ascending : {X : Type 0} (P : X → Type 0) (cmp : X → X → Ordering) (xs : List X) → AllByRecursion P xs → AllByRecursion P (ascending cmp xs)
unfolding ascending
all-ascending P cmp [] all = tt
all-ascending P cmp (x ∷ xs) all = all-put_in P cmp x (ascending cmp xs) all.0 (all-ascending P cmp xs all.1)

-- ---- folders

abbrev home : Package → Path × List ℕ
home p = (p.folder, p.name)

differ : (f g : Path) → AreApart f g → path_cmp f g ≢ Equal
differ f g apart e =
    let same : f ≡ g = path_same f g (path_ties f g ∙ ap is_eq e) in
    let whole : strip f (f ++ []) ≡ Some [] = strip_append f [] in
    let found : strip f f ≡ Some [] = rw append-nil at whole in
    let none : strip f f ≡ None = subst (λ h. strip f h ≡ None) (sym same) apart.0 in
    cc

-- put among packages in other folders
put_home : (p : Package) (ps : List Package) → AllByRecursion (λ q. path_cmp p.folder q.folder ≢ Equal) ps → map home (put_in folder_cmp p ps) ≡ insert_entry path_cmp (map home ps) p.folder p.name
put_home p [] all = refl
put_home p (q ∷ qs) all = by (path_cmp p.folder q.folder) refl (put_home p qs all.1) where
  by : (r : Ordering) → path_cmp p.folder q.folder ≡ r → map home (put_in folder_cmp p qs) ≡ insert_entry path_cmp (map home qs) p.folder p.name
      → map home (match_ordering r (p ∷ q ∷ qs) (q ∷ qs) (q ∷ put_in folder_cmp p qs)) ≡ match_ordering r ((p.folder, p.name) ∷ home q ∷ map home qs) ((q.folder, p.name) ∷ map home qs) (home q ∷ insert_entry path_cmp (map home qs) p.folder p.name)
  by Less e rest = refl
  by Equal e rest = absurd (all.0 e)
  by Greater e rest = ap (λ es. home q ∷ es) rest

all_differ : (p : Package) (ps : List Package) → ((j : ℕ) (d : Package) → j < length ps → AreApart p.folder (get_or ps j d).folder) → AllByRecursion (λ q. path_cmp p.folder q.folder ≢ Equal) ps
all_differ p [] each = tt
all_differ p (q ∷ qs) each = (differ p.folder q.folder (each 0 q (omega arith)), all_differ p qs (λ j d less. each (suc j) d (omega arith)))

-- the homes of the packages from one on, by those behind it
pub one_home : (ps : List Package) (k : ℕ) (folder : Path) (name : List ℕ) → k < length ps → AllPairs (λ p q. AreApart p.folder q.folder) ps → HoldsAt (λ p. folder ≡ p.folder) ps k → HoldsAt (λ p. name ≡ p.name) ps k
    → insert_entry path_cmp (homes_of (drop (suc k) ps)) folder name ≡ homes_of (drop k ps)
unfolding ascending
one_home [] k folder name less apart f n = absurd (omega arith)
one_home (p ∷ ps) zero folder name less apart f n =
    let others = all_ascending_differ in
    rw (f p, n p) (sym (put_home p (ascending folder_cmp ps) others)) where
      all_ascending_differ : AllByRecursion (λ q. path_cmp p.folder q.folder ≢ Equal) (ascending folder_cmp ps)
      all_ascending_differ = all-ascending (λ q. path_cmp p.folder q.folder ≢ Equal) folder_cmp ps (all_differ p ps (λ j d below. apart 0 (suc j) d (omega arith) (omega arith)))
one_home (p ∷ ps) (suc k) folder name less apart f n =
    one_home ps k folder name (omega arith) (λ i j d before below. apart (suc i) (suc j) d (omega arith) (omega arith)) (λ d. f d) (λ d. n d)

pub home_before : (ps : List Package) (p : ℕ) (folder : Path) (name : List ℕ) → 0 < p → p ≤ length ps → AllPairs (λ p q. AreApart p.folder q.folder) ps → HoldsAt (λ q. folder ≡ q.folder) ps (p - 1) → HoldsAt (λ q. name ≡ q.name) ps (p - 1)
    → insert_entry path_cmp (homes_of (drop p ps)) folder name ≡ homes_of (drop (p - 1) ps)
home_before ps p folder name some below apart f n =
    let e : suc (p - 1) ≡ p = omega arith in
    subst (λ k. insert_entry path_cmp (homes_of (drop k ps)) folder name ≡ homes_of (drop (p - 1) ps)) e (one_home ps (p - 1) folder name (omega arith) apart f n)

pub no_homes : homes_of [] ≡ []
unfolding ascending
no_homes = refl

-- ---- scripts

abbrev scripts_in : Package → List (List ℕ)
scripts_in p = map (λ (script : List ℕ × List ℕ). script.0) p.manifest.scripts

-- the script names of the packages from one on
pub one_member : (ps : List Package) (k : ℕ) (manifest : Manifest) → k < length ps → HoldsAt (λ p. manifest ≡ p.manifest) ps k
    → map (λ (script : List ℕ × List ℕ). script.0) manifest.scripts ++ script_names (drop (suc k) ps) ≡ script_names (drop k ps)
one_member [] k manifest less m = absurd (omega arith)
one_member (p ∷ ps) zero manifest less m = rw (m p) refl
one_member (p ∷ ps) (suc k) manifest less m = one_member ps k manifest (omega arith) (λ d. m d)

pub next_member : (ps : List Package) (k : ℕ) (manifest : Manifest) (names new : List (List ℕ)) (scripts : List (List ℕ × List ℕ)) → k < length ps → HoldsAt (λ p. manifest ≡ p.manifest) ps k → scripts ≡ manifest.scripts
    → new ≡ names ++ map (λ (script : List ℕ × List ℕ). script.0) scripts → names ++ script_names (drop k ps) ≡ script_names ps → new ++ script_names (drop (k + 1) ps) ≡ script_names ps
next_member ps k manifest names new scripts less m is added before =
    let own = map (λ (script : List ℕ × List ℕ). script.0) manifest.scripts in
    rw (added, is, add-one) (append_assoc names own (script_names (drop (suc k) ps)) ∙ (ap (λ more. names ++ more) (one_member ps k manifest less m) ∙ before))

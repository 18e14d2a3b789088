-- Sets of folders, found by their names.
use Rattle.std.proofs.Common.{◌≡◌, ◌||◌, ◌&&◌, ◌+◌, ◌<◌, ℕ, zero, suc, Bool, true, false, cond, List, [], ◌∷◌, ◌++◌, length, take, map, refl, sym, ap, ◌∙◌, subst, arith}
use Rattle.std.specs.Prelude.{Option, Some, None, is_some, not, Vec}
use Rattle.std.specs.List.{list_any}
use Rattle.std.specs.BTreeSet.{insert_key}
use Rattle.std.specs.declared.alloc.Global.{Global}
use Rattle.std.specs.declared.cmp.Ordering.{Ordering}
use Rattle.std.specs.declared.cmp.Ordering.TheVariants.{Less, Equal, Greater}
use Rattle.std.specs.Ordering.{is_eq, match_ordering}
use Rattle.std.proofs.lemmas.List.{take_at, length-append}
use Rattle.std.proofs.lemmas.List.Folds.{list_any-append, Any-from_list_any, list_any-from_Any}
use Rattle.std.proofs.Math.Dec.{eqb-suc-zero}
use Rattle.std.proofs.lemmas.Bool.{false≢true}
use Rattle.rel_path.specs.Paths.{Path, path_cmp, path_eq, name_eq, strip}
use Rattle.rel_path.proofs.PathLaws.{path_ties, path_same, path_self, name_self, strip_is}
use Rattle.pruned_files.proofs.Bools.{or_false, or_swap, or_assoc, or_twice, and_left, and_right, and_both}
use Rattle.workspaces.specs.declared.member.Package.{Package}
use Rattle.workspaces.specs.Space.{Space, owners, root_package, is_proper, lies_below, is_root_folder, lies_in_some, is_home_of}
use Rattle.task_inputs.specs.Homes.{is_home}
use Rattle.pruned_files.specs.Folders.{Folders, is_folder, AreFoldersOf, IsBelowSome}

abbrev Key : Type 0
Key = Vec (List ℕ) Global

abbrev key_cmp : Key → Key → Ordering
key_cmp a b = path_cmp a.items b.items

abbrev at_key : Path → Key → Bool
at_key folder key = is_eq (path_cmp folder key.items)

order_same : (a b : Path) → path_cmp a b ≡ Equal → a ≡ b
order_same a b e = path_same a b (path_ties a b ∙ ap is_eq e)

-- ---- a folder more

key_put : (folder : Path) (keys : List Key) (key : Key) → list_any (at_key folder) (insert_key key_cmp keys key) ≡ (list_any (at_key folder) keys || at_key folder key)
key_put folder [] key = or_false (at_key folder key)
key_put folder (x ∷ xs) key = by (key_cmp key x) refl (key_put folder xs key)
  where
    by : (o : Ordering) → key_cmp key x ≡ o → list_any (at_key folder) (insert_key key_cmp xs key) ≡ (list_any (at_key folder) xs || at_key folder key)
        → list_any (at_key folder) (match_ordering o (key ∷ x ∷ xs) (x ∷ xs) (x ∷ insert_key key_cmp xs key)) ≡ (list_any (at_key folder) (x ∷ xs) || at_key folder key)
    by Less is more = or_swap (at_key folder key) (list_any (at_key folder) (x ∷ xs))
    by Equal is more =
        let same : at_key folder key ≡ at_key folder x = ap (λ names. is_eq (path_cmp folder names)) (order_same key.items x.items is) in
        or_twice (at_key folder x) (list_any (at_key folder) xs) ∙ ap (λ b. list_any (at_key folder) (x ∷ xs) || b) (sym same)
    by Greater is more = ap (λ b. at_key folder x || b) more ∙ sym (or_assoc (at_key folder x) (list_any (at_key folder) xs) (at_key folder key))

pub folder_put : (folder : Path) (old new : Folders) (key : Key) (names : Path) → key.items ≡ names → new.keys ≡ insert_key key_cmp old.keys key → is_folder new folder ≡ (is_folder old folder || path_eq folder names)
folder_put folder old new key names are is =
    ap (list_any (at_key folder)) is ∙ key_put folder old.keys key ∙ ap (λ b. is_folder old folder || b) (sym (path_ties folder key.items) ∙ ap (path_eq folder) are)

-- ---- folders that a folder lies in

pub root_above : (folder : Path) → path_eq folder [] ≡ is_some (strip folder [])
root_above [] = refl
root_above (name ∷ names) = refl

pub above_more : (folder names : Path) (d : ℕ) → d < length names → is_some (strip folder (take (suc d) names)) ≡ (is_some (strip folder (take d names)) || path_eq folder (take (suc d) names))
above_more folder [] d lt = absurd (omega arith)
above_more [] (n ∷ ns) zero lt = refl
above_more (f ∷ fs) (n ∷ ns) zero lt = by (name_eq f n) where
  by : (b : Bool) → is_some (cond b (strip fs []) None) ≡ (b && path_eq fs [])
  by true = sym (root_above fs)
  by false = refl
above_more [] (n ∷ ns) (suc d) lt = refl
above_more (f ∷ fs) (n ∷ ns) (suc d) lt = by (name_eq f n) (above_more fs ns d (omega arith)) where
  by : (b : Bool) → is_some (strip fs (take (suc d) ns)) ≡ (is_some (strip fs (take d ns)) || path_eq fs (take (suc d) ns))
      → is_some (cond b (strip fs (take (suc d) ns)) None) ≡ (is_some (cond b (strip fs (take d ns)) None) || (b && path_eq fs (take (suc d) ns)))
  by true more = more
  by false more = refl

pub above_turn : (folder names : Path) (d : ℕ) (old was now : Bool) → d < length names → was ≡ (old || is_some (strip folder (take d names))) → now ≡ (was || path_eq folder (take (d + 1) names)) → now ≡ (old || is_some (strip folder (take (d + 1) names)))
above_turn folder names d old was now lt before is =
    let one : d + 1 ≡ suc d = omega arith in
    let more : is_some (strip folder (take (d + 1) names)) ≡ (is_some (strip folder (take d names)) || path_eq folder (take (d + 1) names)) = subst (λ n. is_some (strip folder (take n names)) ≡ (is_some (strip folder (take d names)) || path_eq folder (take n names))) (sym one) (above_more folder names d lt) in
    is ∙ ap (λ b. b || path_eq folder (take (d + 1) names)) before ∙ or_assoc old (is_some (strip folder (take d names))) (path_eq folder (take (d + 1) names)) ∙ ap (λ b. old || b) (sym more)

-- ---- paths below folders of a set

strip_front : (path : Path) (d : ℕ) → d < length path → is_proper (strip (take d path) path) ≡ true
strip_front [] d lt = absurd (omega arith)
strip_front (n ∷ ns) zero lt = refl
strip_front (n ∷ ns) (suc d) lt = ap (λ b. is_proper (cond b (strip (take d ns) ns) None)) (name_self n) ∙ strip_front ns d (omega arith)

not_root : (name : List ℕ) (names : Path) → is_root_folder (name ∷ names) ≡ false
not_root name names = eqb-suc-zero (length names)

is_inner : (path : Path) (d : ℕ) → 0 < d → d < length path → not (is_root_folder (take d path)) ≡ true
is_inner [] d pos lt = absurd (omega arith)
is_inner (n ∷ ns) zero pos lt = absurd (omega arith)
is_inner (n ∷ ns) (suc d) pos lt = ap not (not_root n (take d ns))

abbrev pub lies_inside : Path → Package → Bool
lies_inside path p = not (is_root_folder p.folder) && lies_below path p.folder

inside_front : (path : Path) (p : Package) (d : ℕ) → 0 < d → d < length path → path_eq (take d path) p.folder ≡ true → lies_inside path p ≡ true
inside_front path p d pos lt e =
    subst (λ f. (not (is_root_folder f) && lies_below path f) ≡ true) (path_same (take d path) p.folder e) (and_both (not (is_root_folder (take d path))) (lies_below path (take d path)) (is_inner path d pos lt) (strip_front path d lt))

record IsFront (path folder : Path) : Type 0 where
  positive : 0 < length folder
  shorter : length folder < length path
  is : take (length folder) path ≡ folder

front_of : (path folder : Path) → not (is_root_folder folder) ≡ true → lies_below path folder ≡ true → IsFront path folder
front_of path folder inner lies = by (strip folder path) refl lies where
  positive : (f : Path) → not (is_root_folder f) ≡ true → 0 < length f
  positive [] e = absurd (false≢true e)
  positive (n ∷ ns) e = omega arith

  by : (o : Option Path) → strip folder path ≡ o → is_proper o ≡ true → IsFront path folder
  by None e proper = absurd (false≢true proper)
  by (Some []) e proper = absurd (false≢true proper)
  by (Some (name ∷ names)) e proper =
      let is : path ≡ folder ++ name ∷ names = strip_is folder path (name ∷ names) e in
      record { positive = positive folder inner; shorter = omega (arith, ap length is, length-append folder (name ∷ names)); is = ap (take (length folder)) is ∙ take_at folder (name ∷ names) (length folder) refl }

module _ (folders : Folders) (members : List Package) (of : AreFoldersOf members folders) (path : Path) where
  abbrev is_at : ℕ → Package → Bool
  is_at d p = path_eq (take d path) p.folder

  pub below_some : (r : Bool) → IsBelowSome folders path r → r ≡ list_any (λ p. not (is_root_folder p.folder) && lies_below path p.folder) members
  below_some true is =
      let a = Any-from_list_any (is_at is.0) members (sym (of (take is.0 path)) ∙ is.3) in
      sym (list_any-from_Any (lies_inside path) members (a.0, a.1, a.2, a.3, inside_front path a.1 is.0 is.1 is.2 a.4))
  below_some false none = by (list_any (lies_inside path) members) refl where
    by : (b : Bool) → list_any (lies_inside path) members ≡ b → false ≡ b
    by false e = refl
    by true e =
        let a = Any-from_list_any (lies_inside path) members e in
        let f = a.1.folder in
        let front : IsFront path f = front_of path f (and_left (not (is_root_folder f)) (lies_below path f) a.4) (and_right (not (is_root_folder f)) (lies_below path f) a.4) in
        let here : list_any (is_at (length f)) members ≡ true = list_any-from_Any (is_at (length f)) members (a.0, a.1, a.2, a.3, ap (λ q. path_eq q f) front.is ∙ path_self f) in
        sym (none (length f) front.positive front.shorter) ∙ of (take (length f) path) ∙ here

-- ---- homes

any_map : {X Y : Type 0} (f : X → Y) (test : Y → Bool) (xs : List X) → list_any test (map f xs) ≡ list_any (λ x. test (f x)) xs
any_map f test [] = refl
any_map f test (x ∷ xs) = ap (λ b. test (f x) || b) (any_map f test xs)

-- the path lies below the folder of a package
abbrev pub in_package : List Package → Path → Bool
in_package packages path = list_any (lies_inside path) packages

-- the packages, and behind them one in the root folder
pub in_owner : (packages : List Package) (root : Package) (path : Path) → root.folder ≡ [] → lies_in_some (map (λ q. q.folder) (packages ++ root ∷ [])) path ≡ in_package packages path
in_owner packages root path at =
    any_map (λ (q : Package). q.folder) (λ f. not (is_root_folder f) && lies_below path f) (packages ++ root ∷ [])
    ∙ list_any-append (lies_inside path) packages (root ∷ [])
    ∙ ap (λ b. in_package packages path || b) (ap (λ f. (not (is_root_folder f) && lies_below path f) || false) at)
    ∙ or_false (in_package packages path)

-- of some owners one is the home of the path
pub home_split : (owners : List Package) (members : List Package) (path : Path)
    → list_any (λ p. is_home owners p path) members ≡ (list_any (λ p. not (is_root_folder p.folder) && lies_below path p.folder) members
    || (lies_below path [] && (list_any (λ p. path_eq [] p.folder) members && not (lies_in_some (map (λ q. q.folder) owners) path))))
unfolding is_home_of
home_split owners [] path = by (lies_below path []) where
  by : (l : Bool) → false ≡ (l && false)
  by true = refl
  by false = refl
home_split owners (p ∷ members) path = by p.folder refl (home_split owners members path) where
  inner : Bool
  inner = lies_in_some (map (λ (q : Package). q.folder) owners) path

  some : Bool
  some = list_any (lies_inside path) members

  at_root : Bool
  at_root = list_any (λ (q : Package). path_eq [] q.folder) members

  root_case : (l b s r : Bool) → ((l && not b) || (s || (l && (r && not b)))) ≡ (s || (l && not b))
  root_case true true true true = refl
  root_case true true true false = refl
  root_case true true false true = refl
  root_case true true false false = refl
  root_case true false true true = refl
  root_case true false true false = refl
  root_case true false false true = refl
  root_case true false false false = refl
  root_case false b true r = refl
  root_case false b false r = refl

  inner_case : (o m l b s r : Bool) → o ≡ false → ((m && not (o && b)) || (s || (l && (r && not b)))) ≡ (((not o && m) || s) || (l && (r && not b)))
  inner_case true m l b s r e = absurd (false≢true (sym e))
  inner_case false true l b s r e = refl
  inner_case false false l b s r e = refl

  by : (f : Path) → p.folder ≡ f → list_any (λ q. is_home owners q path) members ≡ (some || (lies_below path [] && (at_root && not inner)))
      → ((lies_below path f && not (is_root_folder f && inner)) || list_any (λ q. is_home owners q path) members) ≡ (((not (is_root_folder f) && lies_below path f) || some) || (lies_below path [] && ((path_eq [] f || at_root) && not inner)))
  by [] e more = ap (λ x. (lies_below path [] && not inner) || x) more ∙ root_case (lies_below path []) inner some at_root
  by (n ∷ ns) e more = ap (λ x. (lies_below path (n ∷ ns) && not (is_root_folder (n ∷ ns) && inner)) || x) more ∙ inner_case (is_root_folder (n ∷ ns)) (lies_below path (n ∷ ns)) (lies_below path []) inner some at_root (not_root n ns)

pub root_home : (space : Space) (folders : Folders) → AreFoldersOf space.packages folders → (path : Path) (r : Bool) → IsBelowSome folders path r → r ≡ lies_in_some (map (λ q. q.folder) (owners space)) path
root_home space folders of path r is = below_some folders space.packages of path r is ∙ sym (in_owner space.packages (root_package space.root) path refl)

pub inner_path : (path : Path) → is_root_folder path ≡ false → is_proper (Some path) ≡ true
inner_path [] e = absurd (false≢true (sym e))
inner_path (name ∷ names) e = refl

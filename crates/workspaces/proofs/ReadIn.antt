-- Packages read from folders, one after another.
use Rattle.std.proofs.Common.{◌≡◌, ◌⊎◌, inl, inr, ℕ, ◌+◌, List, [], ◌∷◌, ◌++◌, map, take, drop, refl, sym, ap, ◌∙◌, subst, append-nil, append_assoc}
use Rattle.std.specs.Prelude.{Option, Some, None, Result, Ok, Err, MatchResult, IfSome}
use Rattle.workspaces.specs.declared.error.SpaceErr.TheVariants.{OutOfMemory, Failed}
use Rattle.std.proofs.Math.ListN.{take-append-drop}
use Rattle.std.specs.List.Sorted.{IsStrictlySortedBy}
use Rattle.std.specs.declared.cmp.Ordering.{Ordering}
use Rattle.std.specs.declared.cmp.Ordering.TheVariants.{Less}
use Rattle.tree_dev.specs.Tree.{within}
use Rattle.rel_path.specs.Paths.{Path, path_cmp}
use Rattle.rel_path.specs.Files.{FileMap}
use Rattle.manifest.specs.Manifest.{AreAscending}
use Rattle.workspaces.specs.declared.member.Package.{Package}
use Rattle.workspaces.specs.declared.error.SpaceErr.{SpaceErr}
use Rattle.workspaces.specs.Lists.{Has}
use Rattle.workspaces.specs.Space.{manifest_in, package_at, packages_at, and_more, Discovers}
use Rattle.rel_path.specs.Limits.{file_limit}
use Rattle.workspaces.specs.Reading.{IsReadIn, AreReadIn, with_package, and_then}
use Rattle.workspaces.proofs.Order.{all_from, all_has}

pub nothing_yet : (r : Result (List Package) SpaceErr) → r ≡ and_then [] r
nothing_yet (Ok packages) = refl
nothing_yet (Err fault) = refl

module _ (files : FileMap) (all left later : List Path) (folder : Path) (packages : List Package) where
  pub one_more : (member : Option Package) → packages_at files all ≡ and_then packages (packages_at files left) → left ≡ folder ∷ later → package_at folder (within file_limit (files (manifest_in folder))) ≡ Ok member
      → packages_at files all ≡ and_then (packages ++ with_package member) (packages_at files later)
  unfolding packages_at
  one_more member before next here = before ∙ rw (next, here) (joined member (packages_at files later)) where
    joined : (p : Option Package) (r : Result (List Package) SpaceErr) → and_then packages (and_more (Ok p) r) ≡ and_then (packages ++ with_package p) r
    joined None (Ok more) = ap (λ ps. Ok (ps ++ more)) (sym (append-nil packages))
    joined None (Err fault) = refl
    joined (Some p) (Ok more) = ap (λ ps. Ok ps) (sym (append_assoc packages (p ∷ []) more))
    joined (Some p) (Err fault) = refl

  pub refused : (fault : SpaceErr) → packages_at files all ≡ and_then packages (packages_at files left) → left ≡ folder ∷ later → package_at folder (within file_limit (files (manifest_in folder))) ≡ Err fault → packages_at files all ≡ Err fault
  unfolding packages_at
  refused fault before next here = before ∙ rw (next, here) refl

  pub refused_or : (fault : SpaceErr) → packages_at files all ≡ and_then packages (packages_at files left) → left ≡ folder ∷ later
      → (fault ≡ OutOfMemory) ⊎ ((fault ≡ Failed) ⊎ (package_at folder (within file_limit (files (manifest_in folder))) ≡ Err fault)) → (fault ≡ OutOfMemory) ⊎ ((fault ≡ Failed) ⊎ (packages_at files all ≡ Err fault))
  refused_or fault before next (inl memory) = inl memory
  refused_or fault before next (inr (inl failed)) = inr (inl failed)
  refused_or fault before next (inr (inr here)) = inr (inr (refused fault before next here))

-- the folders so far, the next one, and those behind it
pub opened : (folders : List Path) (i : ℕ) (folder : Path) → IsStrictlySortedBy path_cmp folders → drop i folders ≡ folder ∷ drop (i + 1) folders → IsStrictlySortedBy path_cmp (take i folders ++ folder ∷ drop (i + 1) folders)
opened folders i folder up next = rw (← next) (subst (λ fs. IsStrictlySortedBy path_cmp fs) (sym (take-append-drop i folders)) up)

pub all_read : (files : FileMap) (all left : List Path) (packages : List Package) → packages_at files all ≡ and_then packages (packages_at files left) → left ≡ [] → packages_at files all ≡ Ok packages
unfolding packages_at
all_read files all left packages before none = before ∙ rw none (ap (λ ps. Ok ps) (append-nil packages))

-- ---- where they were read

pub has-append : {X : Type 0} (xs ys : List X) (z : X) → Has (xs ++ ys) z → Has xs z ⊎ Has ys z
has-append [] ys z has = inr has
has-append (x ∷ xs) ys z (inl here) = inl (inl here)
has-append (x ∷ xs) ys z (inr later) = elim (has-append xs ys z later) [ inl first ↦ inl (inr first) | inr second ↦ inr second ]

pub has_left : {X : Type 0} (xs ys : List X) (z : X) → Has xs z → Has (xs ++ ys) z
has_left [] ys z has = absurd has
has_left (x ∷ xs) ys z (inl here) = inl here
has_left (x ∷ xs) ys z (inr later) = inr (has_left xs ys z later)

pub has_right : {X : Type 0} (xs ys : List X) (z : X) → Has ys z → Has (xs ++ ys) z
has_right [] ys z has = has
has_right (x ∷ xs) ys z has = inr (has_right xs ys z has)

module _ {X : Type 0} (R : X → X → Ordering) where
  pub before_next : (xs ys : List X) (y : X) → IsStrictlySortedBy R (xs ++ y ∷ ys) → (x : X) → Has xs x → R x y ≡ Less
  unfolding IsStrictlySortedBy
  before_next [] ys y up x has = absurd has
  before_next (z ∷ xs) ys y up x (inl here) = subst (λ w. R w y ≡ Less) here (all_has (λ w. R z w ≡ Less) (xs ++ y ∷ ys) y up.0 (has_right xs (y ∷ ys) y (inl refl)))
  before_next (z ∷ xs) ys y up x (inr later) = before_next xs ys y up.1 x later

  pub sorted-push : (xs : List X) (y : X) → IsStrictlySortedBy R xs → ((x : X) → Has xs x → R x y ≡ Less) → IsStrictlySortedBy R (xs ++ y ∷ [])
  unfolding IsStrictlySortedBy
  sorted-push [] y up less = (tt, tt)
  sorted-push (x ∷ xs) y up less =
      (all_from (λ w. R x w ≡ Less) (xs ++ y ∷ []) (λ w has. head w (has-append xs (y ∷ []) w has)), sorted-push xs y up.1 (λ w has. less w (inr has))) where
        head : (w : X) → Has xs w ⊎ Has (y ∷ []) w → R x w ≡ Less
        head w (inl among) = all_has (λ v. R x v ≡ Less) xs w up.0 among
        head w (inr (inl last)) = subst (λ v. R x v ≡ Less) last (less x (inl refl))
        head w (inr (inr none)) = absurd none

pub map-push : {X Y : Type 0} (f : X → Y) (xs : List X) (x : X) → map f (xs ++ x ∷ []) ≡ map f xs ++ f x ∷ []
map-push f [] x = refl
map-push f (y ∷ xs) x = ap (λ zs. f y ∷ zs) (map-push f xs x)

pub has-map : {X Y : Type 0} (f : X → Y) (xs : List X) (y : Y) → Has (map f xs) y → (x : X) × (Has xs x) × (f x ≡ y)
has-map f [] y has = absurd has
has-map f (x ∷ xs) y (inl here) = (x, inl refl, here)
has-map f (x ∷ xs) y (inr later) = let r = has-map f xs y later in (r.0, inr r.1, r.2)

pub none_read : AreReadIn [] []
unfolding IsStrictlySortedBy
none_read = record { ascend = tt; among = λ p has. absurd has; maps = λ p has. absurd has }

pub read_none : (done : List Path) (folder : Path) (packages : List Package) → AreReadIn done packages → AreReadIn (done ++ folder ∷ []) packages
read_none done folder packages before = record {
  ascend = before.ascend;
  among = λ p has. has_left done (folder ∷ []) p.folder (before.among p has);
  maps = before.maps;
}

pub read_one : (done later : List Path) (folder : Path) (packages : List Package) (p : Package) → IsStrictlySortedBy path_cmp (done ++ folder ∷ later) → AreReadIn done packages → IsReadIn folder p → AreReadIn (done ++ folder ∷ []) (packages ++ p ∷ [])
read_one done later folder packages p up before here = record {
  ascend = rw map-push (sorted-push path_cmp (map (λ (q : Package). q.folder) packages) p.folder before.ascend
      (λ f has. let q = has-map (λ (q : Package). q.folder) packages f has in
      rw (← q.2, here.0) (before_next path_cmp done later folder up q.0.folder (before.among q.0 q.1))));
  among = λ q has. among q (has-append packages (p ∷ []) q has);
  maps = λ q has. maps q (has-append packages (p ∷ []) q has);
} where
  among : (q : Package) → Has packages q ⊎ Has (p ∷ []) q → Has (done ++ folder ∷ []) q.folder
  among q (inl was) = has_left done (folder ∷ []) q.folder (before.among q was)
  among q (inr (inl is)) = subst (λ (r : Package). Has (done ++ folder ∷ []) r.folder) is (rw here.0 (has_right done (folder ∷ []) folder (inl refl)))
  among q (inr (inr none)) = absurd none

  maps : (q : Package) → Has packages q ⊎ Has (p ∷ []) q → AreAscending q.manifest
  maps q (inl was) = before.maps q was
  maps q (inr (inl is)) = subst (λ (r : Package). AreAscending r.manifest) is here.1
  maps q (inr (inr none)) = absurd none

pub read_some : (done later : List Path) (folder : Path) (packages : List Package) (member : Option Package) → IsStrictlySortedBy path_cmp (done ++ folder ∷ later) → AreReadIn done packages → IfSome member (IsReadIn folder) → AreReadIn (done ++ folder ∷ []) (packages ++ with_package member)
read_some done later folder packages None up before here = rw append-nil (read_none done folder packages before)
read_some done later folder packages (Some p) up before here = read_one done later folder packages p up before here

-- found as meant, where no file could not be read
pub discovers : {A : Type 0} (meant r : Result A SpaceErr) → MatchResult r (λ a. meant ≡ Ok a) (λ e. (e ≡ OutOfMemory) ⊎ (meant ≡ Err e)) → Discovers meant r
discovers meant (Ok a) found = found
discovers meant (Err e) (inl memory) = inl memory
discovers meant (Err e) (inr fault) = inr (inr fault)

-- Packages of which none lies in another, and none is the root's own folder.
use Rattle.std.proofs.Common.{◌≡◌, ◌≢◌, ◌⊎◌, inl, inr, ℕ, zero, suc, ◌<◌, ◌≤◌, Bool, true, false, cond, leb, List, [], ◌∷◌, length, get_or, AllPairs, map, refl, sym, ap, ◌∙◌, subst, arith, append-nil}
use Rattle.std.specs.Prelude.{Option, Some, None, filter}
use Rattle.std.specs.List.{AllByRecursion, filter_map}
use Rattle.std.specs.List.Sorted.{IsStrictlySortedBy}
use Rattle.std.specs.declared.cmp.Ordering.{Ordering}
use Rattle.std.specs.declared.cmp.Ordering.TheVariants.{Less, Equal, Greater}
use Rattle.std.specs.Ordering.{ordering_then, ordering_reverse}
use Rattle.std.specs.Cmp.Lexicographic.{nat_list_cmp_total}
use Rattle.std.proofs.lemmas.Bool.{false≢true}
use Rattle.std.proofs.lemmas.Bool.Decides.{eqb_tells, leb_tells}
use Rattle.rel_path.specs.Paths.{Path, name_eq, name_cmp, path_cmp, strip}
use Rattle.rel_path.proofs.PathLaws.{name_same, name_self, name_cmp_self, path_cmp_self, path_cmp_total, strip_is}
use Rattle.workspaces.specs.declared.member.Package.{Package}
use Rattle.workspaces.specs.declared.error.SpaceErr.TheVariants.{Inside}
use Rattle.workspaces.specs.Lists.{ascending, Has}
use Rattle.workspaces.specs.Order.{package_cmp, package_total}
use Rattle.workspaces.specs.Reading.{AreReadIn, DifferByFolder}
use Rattle.workspaces.specs.Space.{AreApart, is_proper, is_taken, folder_of, folders_in, lies_below, inside_fault}
use Rattle.workspaces.specs.Steps.{AscendingNames}
use Rattle.workspaces.proofs.Names.{name_tied, less_apart, rises}
use Rattle.workspaces.proofs.Order.{all_from, all_has, has-ascending}

-- ---- paths in order

-- what stands before a path is no extension of it
pub earlier_outside : (a b : Path) → path_cmp a b ≡ Less → strip b a ≡ None
earlier_outside [] [] less = cc
earlier_outside (x ∷ xs) [] less = cc
earlier_outside [] (y ∷ ys) less = refl
earlier_outside (x ∷ xs) (y ∷ ys) less = by (name_eq y x) refl (earlier_outside xs ys) where
  by : (t : Bool) → name_eq y x ≡ t → (path_cmp xs ys ≡ Less → strip ys xs ≡ None) → cond t (strip ys xs) None ≡ None
  by false e inner = refl
  by true e inner =
      let tied : name_cmp x y ≡ Equal = rw (name_same y x e) (name_cmp_self x) in
      inner (ap (λ o. ordering_then o (path_cmp xs ys)) (sym tied) ∙ less)

-- where the next path in order is no extension of the first, no later one is
pub later_outside : (a b c : Path) → path_cmp a b ≡ Less → path_cmp b c ≡ Less → strip a b ≡ None → strip a c ≡ None
later_outside [] b c first next none = cc
later_outside (x ∷ xs) [] c first next none = cc
later_outside (x ∷ xs) (y ∷ ys) [] first next none = refl
later_outside (x ∷ xs) (y ∷ ys) (z ∷ zs) first next none = by (name_eq x z) refl (name_cmp x y) refl (later_outside xs ys zs) where
  by : (t : Bool) → name_eq x z ≡ t → (o : Ordering) → name_cmp x y ≡ o → (path_cmp xs ys ≡ Less → path_cmp ys zs ≡ Less → strip xs ys ≡ None → strip xs zs ≡ None) → cond t (strip xs zs) None ≡ None
  by false e o tells inner = refl
  by true e Less tells inner =
      let back : name_cmp y x ≡ ordering_reverse (name_cmp x y) = nat_list_cmp_total.antisymm y x in
      let more : name_cmp y z ≡ Greater = rw (← name_same x z e) (back ∙ ap ordering_reverse tells) in
      let now : Greater ≡ Less = ap (λ o. ordering_then o (path_cmp ys zs)) (sym more) ∙ next in
      cc
  by true e Greater tells inner = let now : Greater ≡ Less = ap (λ o. ordering_then o (path_cmp xs ys)) (sym tells) ∙ first in cc
  by true e Equal tells inner =
      let same : x ≡ y = name_tied x y tells in
      let tied : name_cmp y z ≡ Equal = rw (← same, ← name_same x z e) (name_cmp_self x) in
      let equal : name_eq x y ≡ true = rw (← same) (name_self x) in
      inner
      (ap (λ o. ordering_then o (path_cmp xs ys)) (sym tells) ∙ first)
      (ap (λ o. ordering_then o (path_cmp ys zs)) (sym tied) ∙ next)
      (ap (λ t. cond t (strip xs ys) None) (sym equal) ∙ none)

-- the next path in order lies in the first, or is no extension of it
next_outside : (a b : Path) → path_cmp a b ≡ Less → lies_below b a ≡ false → strip a b ≡ None
next_outside a b less apart = by (strip a b) refl apart where
  by : (o : Option Path) → strip a b ≡ o → is_proper o ≡ false → o ≡ None
  by None e out = refl
  by (Some []) e out =
      let same : b ≡ a = strip_is a b [] e ∙ append-nil a in
      let tied : path_cmp a b ≡ Equal = rw same (path_cmp_self a) in
      cc
  by (Some (name ∷ names)) e out = cc

-- ---- packages in the order of their folders

no_fault : (p q : Package) (packages : List Package) → inside_fault (p ∷ q ∷ packages) ≡ None → (lies_below q.folder p.folder ≡ false) × (inside_fault (q ∷ packages) ≡ None)
unfolding inside_fault
no_fault p q packages none = by (lies_below q.folder p.folder) refl none where
  by : (t : Bool) → lies_below q.folder p.folder ≡ t → cond t (Some (Inside p.folder q.folder)) (inside_fault (q ∷ packages)) ≡ None → (t ≡ false) × (inside_fault (q ∷ packages) ≡ None)
  by true e none = cc
  by false e none = (refl, none)

abbrev folders_of : List Package → List Path
folders_of packages = map (λ (member : Package). member.folder) packages

has_folder : (packages : List Package) (p : Package) → Has packages p → Has (folders_of packages) p.folder
has_folder [] p has = absurd has
has_folder (q ∷ packages) p (inl here) = inl (ap (λ (m : Package). m.folder) here)
has_folder (q ∷ packages) p (inr later) = inr (has_folder packages p later)

first_apart : (p : Package) (packages : List Package) → DifferByFolder (p ∷ packages) → inside_fault (p ∷ packages) ≡ None → (q : Package) → Has packages q → AreApart p.folder q.folder
unfolding IsStrictlySortedBy
first_apart p [] up none q has = absurd has
first_apart p (next ∷ packages) up none q has = (by has, earlier_outside p.folder q.folder (all_has (λ f. path_cmp p.folder f ≡ Less) (folders_of (next ∷ packages)) q.folder up.0 (has_folder (next ∷ packages) q has))) where
  outside : strip p.folder next.folder ≡ None
  outside = next_outside p.folder next.folder up.0.0 (no_fault p next packages none).0

  by : (next ≡ q) ⊎ Has packages q → strip p.folder q.folder ≡ None
  by (inl here) = subst (λ (m : Package). strip p.folder m.folder ≡ None) here outside
  by (inr later) = later_outside p.folder next.folder q.folder up.0.0 (all_has (λ f. path_cmp next.folder f ≡ Less) (folders_of packages) q.folder up.1.0 (has_folder packages q later)) outside

rest_fine : (p : Package) (packages : List Package) → inside_fault (p ∷ packages) ≡ None → inside_fault packages ≡ None
unfolding inside_fault
rest_fine p [] none = refl
rest_fine p (q ∷ packages) none = (no_fault p q packages none).1

-- any two of them are one, or apart
abbrev pub AnyApart : List Package → Type 0
AnyApart packages = (p q : Package) → Has packages p → Has packages q → (p ≡ q) ⊎ AreApart p.folder q.folder

any_apart : (packages : List Package) → DifferByFolder packages → inside_fault packages ≡ None → AnyApart packages
unfolding IsStrictlySortedBy
any_apart [] up none p q has also = absurd has
any_apart (m ∷ packages) up none p q (inl here) (inl there) = inl (sym here ∙ there)
any_apart (m ∷ packages) up none p q (inl here) (inr later) = inr (subst (λ (w : Package). AreApart w.folder q.folder) here (first_apart m packages up none q later))
any_apart (m ∷ packages) up none p q (inr later) (inl there) = let apart = first_apart m packages up none p later in inr (subst (λ (w : Package). AreApart p.folder w.folder) there (apart.1, apart.0))
any_apart (m ∷ packages) up none p q (inr later) (inr more) = any_apart packages up.1 (rest_fine m packages none) p q later more

-- ---- packages in the order of their names

has_at : {X : Type 0} (xs : List X) (i : ℕ) (d : X) → i < length xs → Has xs (get_or xs i d)
has_at [] i d less = absurd (omega arith)
has_at (x ∷ xs) zero d less = inl refl
has_at (x ∷ xs) (suc i) d less = inr (has_at xs i d (omega arith))

pub all_apart : (packages : List Package) → DifferByFolder packages → inside_fault packages ≡ None → AscendingNames (ascending package_cmp packages) → AllPairs (λ p q. AreApart p.folder q.folder) (ascending package_cmp packages)
all_apart packages up none names i j d before within = by (any_apart packages up none (at i) (at j) (among i (omega arith)) (among j within)) where
  sorted : List Package
  sorted = ascending package_cmp packages

  at : ℕ → Package
  at k = get_or sorted k d

  among : (k : ℕ) → k < length sorted → Has packages (at k)
  among k less = has-ascending package_cmp package_total packages (at k) (has_at sorted k d less)

  by : (at i ≡ at j) ⊎ AreApart (at i).folder (at j).folder → AreApart (at i).folder (at j).folder
  by (inl same) = absurd (less_apart (at i).name (at j).name (rises (λ (m : Package). m.name) sorted names i j d before within) (ap (λ (m : Package). m.name) same))
  by (inr apart) = apart

place_of : {X : Type 0} (xs : List X) (x d : X) → Has xs x → (k : ℕ) × (k < length xs) × (get_or xs k d ≡ x)
place_of [] x d has = absurd has
place_of (y ∷ ys) x d (inl here) = (0, omega arith, here)
place_of (y ∷ ys) x d (inr later) = let r = place_of ys x d later in (suc r.0, omega (arith, r.1), r.2)

-- of any two places the packages are one, or apart
places_apart : (packages : List Package) → AllPairs (λ p q. AreApart p.folder q.folder) packages → (i j : ℕ) (d : Package) → i < length packages → j < length packages → i ≢ j → AreApart (get_or packages i d).folder (get_or packages j d).folder
places_apart packages pairs i j d within also other = by (leb_tells i j) where
  by : ((leb i j ≡ true) × (i ≤ j)) ⊎ ((leb i j ≡ false) × (j < i)) → AreApart (get_or packages i d).folder (get_or packages j d).folder
  by (inl before) = pairs i j d (omega (arith, before.1, other)) also
  by (inr after) = let apart = pairs j i d after.1 within in (apart.1, apart.0)

-- members that are not one are apart
pub members_apart : (packages : List Package) → AllPairs (λ p q. AreApart p.folder q.folder) packages → AnyApart packages
members_apart packages pairs p q has also = by (place_of packages p p has) (place_of packages q p also) where
  by : (k : ℕ) × (k < length packages) × (get_or packages k p ≡ p) → (k : ℕ) × (k < length packages) × (get_or packages k p ≡ q) → (p ≡ q) ⊎ AreApart p.folder q.folder
  by (i, within, is) (j, also, that) = elim (eqb_tells i j) [
    | inl same ↦ inl (sym is ∙ (ap (λ k. get_or packages k p) same.1 ∙ that))
    | inr other ↦ inr (subst (λ (w : Package). AreApart w.folder q.folder) is (subst (λ (w : Package). AreApart (get_or packages i p).folder w.folder) that (places_apart packages pairs i j p within also other.1)))
  ]

-- ---- below the root

has-filter : {X : Type 0} (test : X → Bool) (xs : List X) (x : X) → Has (filter test xs) x → test x ≡ true
has-filter test [] x has = absurd has
has-filter test (y ∷ ys) x has = by (test y) refl has (has-filter test ys x) where
  by : (t : Bool) → test y ≡ t → Has (cond t (y ∷ filter test ys) (filter test ys)) x → (Has (filter test ys) x → test x ≡ true) → test x ≡ true
  by true e (inl here) inner = subst (λ w. test w ≡ true) here e
  by true e (inr later) inner = inner later
  by false e has inner = inner has

not_root : (globs : List (List ℕ)) (folder : Path) → is_taken globs folder ≡ true → folder ≢ []
not_root globs [] taken root = false≢true taken
not_root globs (name ∷ names) taken root = cc

taken_below : (globs : List (List ℕ)) (walk : List Path) (folder : Path) → Has (folders_in globs walk) folder → folder ≢ []
unfolding folders_in
taken_below globs walk folder has = not_root globs folder (has-filter (is_taken globs) (filter_map folder_of walk) folder (has-ascending path_cmp path_cmp_total (filter (is_taken globs) (filter_map folder_of walk)) folder has))

pub all_below_root : (globs : List (List ℕ)) (walk folders : List Path) (packages : List Package) → folders ≡ folders_in globs walk → AreReadIn folders packages → AllByRecursion (λ member. member.folder ≢ []) (ascending package_cmp packages)
all_below_root globs walk folders packages are read =
    all_from (λ (m : Package). m.folder ≢ []) (ascending package_cmp packages)
    (λ m has. taken_below globs walk m.folder (subst (λ fs. Has fs m.folder) are (read.among m (has-ascending package_cmp package_total packages m has))))

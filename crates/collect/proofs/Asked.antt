-- The files that are asked for, of the walked ones.
use Rattle.std.proofs.Common.{◌≡◌, ℕ, zero, suc, Bool, true, false, cond, ◌||◌, ◌&&◌, List, [], ◌∷◌, ◌++◌, length, map, filter, refl, sym, ap, ◌∙◌, arith}
use Rattle.std.specs.Prelude.{Option, Some, None, find, zip, is_some}
use Rattle.std.specs.Option.{option_map}
use Rattle.std.specs.List.{slice_get, cons_option, AllByRecursion}
use Rattle.std.proofs.lemmas.Bool.{false≢true}
use Rattle.rel_path.specs.Paths.{Path, path_eq, is_among}
use Rattle.rel_path.specs.Files.{FileMap, file_at, has}
use Rattle.rel_path.proofs.PathLaws.{path_same, path_self}
use Rattle.collect.specs.Listings.{with_bytes}
use Rattle.collect.specs.Refusals.{is_large, first_large}
use Rattle.collect.specs.Steps.{known_if, marked, marked_files, large_at, is_large_at}

-- ---- known bytes

-- of files read at paths, those at these paths
pub file_known : (files : FileMap) (paths : List Path) (p : Path) → file_at (with_bytes files paths) p ≡ cond (is_among paths p) (files p) None
file_known files [] p = refl
file_known files (x ∷ paths) p = by (files x) refl (path_eq x p) refl (file_known files paths p) where
  by : (o : Option (List ℕ)) → files x ≡ o → (b : Bool) → path_eq x p ≡ b → file_at (with_bytes files paths) p ≡ cond (is_among paths p) (files p) None
      → file_at (cons_option (option_map (λ bytes. (x, bytes)) o) (with_bytes files paths)) p ≡ cond (b || is_among paths p) (files p) None
  by None e true f more = more ∙ none (is_among paths p) (ap files (sym (path_same x p f)) ∙ e) where
    none : (a : Bool) → files p ≡ None → cond a (files p) None ≡ files p
    none true g = refl
    none false g = sym g
  by None e false f more = more
  by (Some bytes) e true f more = rw f (sym e ∙ ap files (path_same x p f))
  by (Some bytes) e false f more = rw f more

pub among_filter : (test : Path → Bool) (walk : List Path) (p : Path) → is_among walk p ≡ true → test p ≡ true → is_among (filter test walk) p ≡ true
among_filter test [] p e t = e
among_filter test (w ∷ walk) p e t = by (path_eq w p) refl (test w) refl e (λ f. among_filter test walk p f t) where
  or_true : (b : Bool) → (b || true) ≡ true
  or_true true = refl
  or_true false = refl

  by : (b : Bool) → path_eq w p ≡ b → (a : Bool) → test w ≡ a → (b || is_among walk p) ≡ true → (is_among walk p ≡ true → is_among (filter test walk) p ≡ true) → is_among (cond a (w ∷ filter test walk) (filter test walk)) p ≡ true
  by true f true g h more = rw f refl
  by true f false g h more = absurd (false≢true (sym g ∙ ap test (path_same w p f) ∙ t))
  by false f true g h more = ap (λ b. path_eq w p || b) (more h) ∙ or_true (path_eq w p)
  by false f false g h more = more h

-- ---- marks

pub marks_are : (asked : Path → Bool) (marks : List Bool) (walk : List Path) → length marks ≡ length walk → ((j : ℕ) (p : Path) → slice_get walk j ≡ Some p → marked marks j ≡ asked p) → marks ≡ map asked walk
marks_are asked [] [] same each = refl
marks_are asked [] (w ∷ walk) same each = absurd (omega (arith, same))
marks_are asked (m ∷ marks) [] same each = absurd (omega (arith, same))
marks_are asked (m ∷ marks) (w ∷ walk) same each = let first : m ≡ asked w = each 0 w refl in ap (λ b. b ∷ marks) first ∙ ap (λ ms. asked w ∷ ms) (marks_are asked marks walk (omega (arith, same)) (λ j p e. each (suc j) p e))

module _ (files K : FileMap) (asked : Path → Bool) where
  pub same_files : (walk : List Path) → AllByRecursion (λ p. asked p ≡ true → K p ≡ files p) walk → marked_files K (zip (map asked walk) walk) ≡ with_bytes files (filter (λ p. has files p && asked p) walk)
  same_files [] all = refl
  same_files (w ∷ walk) all = by (asked w) (K w) (files w) refl all.0 (same_files walk all.1) where
    by : (a : Bool) (k o : Option (List ℕ)) → files w ≡ o → (a ≡ true → k ≡ o) → marked_files K (zip (map asked walk) walk) ≡ with_bytes files (filter (λ p. has files p && asked p) walk)
        → cons_option (option_map (λ bytes. (w, bytes)) (cond a k None)) (marked_files K (zip (map asked walk) walk)) ≡ with_bytes files (cond (is_some o && a) (w ∷ filter (λ p. has files p && asked p) walk) (filter (λ p. has files p && asked p) walk))
    by true k None e same more = rw (same refl) more
    by true k (Some bytes) e same more = rw (same refl, e) (ap (λ fs. (w, bytes) ∷ fs) more)
    by false k None e same more = more
    by false k (Some bytes) e same more = more

  pub same_found : (walk : List Path) → map (λ m. is_some (known_if K m)) (zip (map asked walk) walk) ≡ map (λ p. is_some (known_if K (asked p, p))) walk
  same_found [] = refl
  same_found (w ∷ walk) = ap (λ bs. is_some (known_if K (asked w, w)) ∷ bs) (same_found walk)

  pub same_large : (walk : List Path) → AllByRecursion (λ p. asked p ≡ true → large_at files p ≡ is_large (files p)) walk → option_map (λ (m : Bool × Path). m.1) (find (is_large_at files) (zip (map asked walk) walk)) ≡ first_large files (filter (λ p. has files p && asked p) walk)
  same_large [] all = refl
  same_large (w ∷ walk) all = by (asked w) (large_at files w) (files w) refl all.0 (same_large walk all.1) where
    by : (a l : Bool) (o : Option (List ℕ)) → files w ≡ o → (a ≡ true → l ≡ is_large o) → option_map (λ (m : Bool × Path). m.1) (find (is_large_at files) (zip (map asked walk) walk)) ≡ first_large files (filter (λ p. has files p && asked p) walk)
        → option_map (λ (m : Bool × Path). m.1) (cond (a && l) (Some (a, w)) (find (is_large_at files) (zip (map asked walk) walk))) ≡ first_large files (cond (is_some o && a) (w ∷ filter (λ p. has files p && asked p) walk) (filter (λ p. has files p && asked p) walk))
    by true l None e same more = rw (same refl) more
    by true l (Some bytes) e same more = rw (same refl, e) (large (is_large (Some bytes))) where
      large : (b : Bool) → option_map (λ (m : Bool × Path). m.1) (cond b (Some (true, w)) (find (is_large_at files) (zip (map asked walk) walk))) ≡ cond b (Some w) (first_large files (filter (λ p. has files p && asked p) walk))
      large true = refl
      large false = more
    by false l None e same more = more
    by false l (Some bytes) e same more = more

pub filter_same : (f g : Path → Bool) (walk : List Path) → AllByRecursion (λ p. f p ≡ g p) walk → filter f walk ≡ filter g walk
filter_same f g [] all = refl
filter_same f g (w ∷ walk) all = ap (λ b. cond b (w ∷ filter f walk) (filter f walk)) all.0 ∙ ap (λ ps. cond (g w) (w ∷ ps) ps) (filter_same f g walk all.1)

pub find_append : {X : Type 0} (test : X → Bool) (xs ys : List X) → find test xs ≡ None → find test (xs ++ ys) ≡ find test ys
find_append test [] ys none = refl
find_append test (x ∷ xs) ys none = by (test x) none (λ e. find_append test xs ys e) where
  by : (b : Bool) → cond b (Some x) (find test xs) ≡ None → (find test xs ≡ None → find test (xs ++ ys) ≡ find test ys) → cond b (Some x) (find test (xs ++ ys)) ≡ find test ys
  by true e more = cc
  by false e more = more e

pub find_first : {X : Type 0} (test : X → Bool) (xs ys : List X) (x : X) → find test xs ≡ Some x → find test (xs ++ ys) ≡ Some x
find_first test [] ys x e = cc
find_first test (y ∷ xs) ys x e = by (test y) e (λ f. find_first test xs ys x f) where
  by : (b : Bool) → cond b (Some y) (find test xs) ≡ Some x → (find test xs ≡ Some x → find test (xs ++ ys) ≡ Some x) → cond b (Some y) (find test (xs ++ ys)) ≡ Some x
  by true f more = f
  by false f more = more f

-- none of those that stand among them passes
pub none_found : (test : Path → Bool) (paths : List Path) (p : Path) → find test paths ≡ None → is_among paths p ≡ true → test p ≡ false
none_found test [] p none e = absurd (false≢true e)
none_found test (x ∷ paths) p none e = by (test x) refl (path_eq x p) refl none e (none_found test paths p) where
  by : (b : Bool) → test x ≡ b → (a : Bool) → path_eq x p ≡ a → cond b (Some x) (find test paths) ≡ None → (a || is_among paths p) ≡ true → (find test paths ≡ None → is_among paths p ≡ true → test p ≡ false) → test p ≡ false
  by true f a g n h more = cc
  by false f true g n h more = ap test (sym (path_same x p g)) ∙ f
  by false f false g n h more = more n h

pub among_get : (walk : List Path) (i : ℕ) (p : Path) → slice_get walk i ≡ Some p → is_among walk p ≡ true
among_get [] i p e = cc
among_get (w ∷ walk) zero p e = let same : w ≡ p = cc in ap (λ x. path_eq x p || is_among walk p) same ∙ ap (λ b. b || is_among walk p) (path_self p)
among_get (w ∷ walk) (suc i) p e = ap (λ b. path_eq w p || b) (among_get walk i p e) ∙ or_true (path_eq w p) where
  or_true : (b : Bool) → (b || true) ≡ true
  or_true true = refl
  or_true false = refl

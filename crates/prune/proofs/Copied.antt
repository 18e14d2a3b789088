-- Files, copied one after another.
use Rattle.std.proofs.Common.{◌≡◌, ◌<◌, ◌+◌, ◌||◌, ◌&&◌, ℕ, zero, suc, Bool, true, false, cond, List, [], ◌∷◌, ◌++◌, length, get_or, take, filter, refl, sym, ap, ◌∙◌, subst, arith}
use Rattle.std.specs.Prelude.{Option, Some, None, is_some, option_and_then, not}
use Rattle.std.specs.List.{AllByRecursion, find}
use Rattle.std.specs.List.Sorted.{IsStrictlySortedBy}
use Rattle.std.specs.declared.cmp.Ordering.TheVariants.{Less}
use Rattle.std.specs.Ordering.{is_lt, ordering_reverse}
use Rattle.std.proofs.lemmas.Map.Views.{any-filter_same}
use Rattle.std.proofs.lemmas.Bool.{false≢true}
use Rattle.std.proofs.lemmas.List.{take_more}
use Rattle.rel_path.specs.Paths.{Path, path_eq, path_cmp, strip, is_among}
use Rattle.rel_path.specs.Files.{FileMap, over, SameBut}
use Rattle.rel_path.proofs.PathLaws.{path_same, path_self, path_other, strip_is, strip_append, among_append, path_cmp_total, path_cmp_self}
use Rattle.pruned_files.proofs.Bools.{or_false, or_true}
use Rattle.workspaces.specs.Space.{lies_below}
use Rattle.collect.specs.Refusals.{is_large}
use Rattle.pruned_files.specs.Pruned.{lock_path, pruned_at}
use Rattle.prune.specs.Folders.{out_folder, moved_to, before, is_over, first_over}
use Rattle.prune.specs.Steps.{IsOut, IsOutside, IsSame, source, put_at, copied, copied_before}
use Rattle.prune.proofs.Targets.{moved_none, over_none}

-- ---- nothing is copied from the root folder

pub all_take : {X : Type 0} (P : X → Type 0) (xs : List X) (i : ℕ) → AllByRecursion P xs → AllByRecursion P (take i xs)
all_take P [] zero all = tt
all_take P [] (suc i) all = tt
all_take P (x ∷ xs) zero all = tt
all_take P (x ∷ xs) (suc i) all = (all.0, all_take P xs i all.1)

pub all_at : {X : Type 0} (P : X → Type 0) (xs : List X) (i : ℕ) (x : X) → i < length xs → x ≡ get_or xs i x → AllByRecursion P xs → P x
all_at P [] i x lt at all = absurd (omega arith)
all_at P (y ∷ xs) zero x lt at all = subst P (sym at) all.0
all_at P (y ∷ xs) (suc i) x lt at all = all_at P xs i x (omega arith) at all.1

not_root : (paths : List Path) → AllByRecursion IsOutside paths → is_among paths [] ≡ false
not_root [] all = refl
not_root (p ∷ paths) all = ap (λ b. b || is_among paths []) (path_other p [] all.0.inner) ∙ not_root paths all.1

pub root_none : (text : Option (List ℕ)) (paths : List Path) (files : FileMap) → AllByRecursion IsOutside paths → pruned_at paths text files [] ≡ None
root_none text paths files all = ap (λ b. cond b (cond (path_eq [] lock_path) text (files [])) None) (not_root paths all)

-- a path that is copied has the bytes that it had
pub copied_outside : (text : Option (List ℕ)) (folder : Path) (paths : List Path) (files : FileMap) (path : Path) → IsOut folder → AllByRecursion IsOutside paths → lies_below path out_folder ≡ false → copied text folder paths files path ≡ files path
copied_outside text folder paths files path out all outside =
    over_none path files (moved_to folder (pruned_at paths text files)) (moved_none folder path (pruned_at paths text files) out (root_none text paths files all) outside)

-- ---- one file more

among_push : (paths : List Path) (p q : Path) → is_among (paths ++ p ∷ []) q ≡ (is_among paths q || path_eq p q)
among_push paths p q = among_append paths (p ∷ []) q ∙ ap (λ b. is_among paths q || b) (or_false (path_eq p q))

module _ (text : Option (List ℕ)) (paths : List Path) (files : FileMap) (p : Path) where
  pushed_here : pruned_at (paths ++ p ∷ []) text files p ≡ source text files p
  pushed_here = ap (λ b. cond b (source text files p) None) (among_push paths p p ∙ ap (λ b. is_among paths p || b) (path_self p) ∙ or_true (is_among paths p))

  pushed_other : (q : Path) → path_eq p q ≡ false → pruned_at (paths ++ p ∷ []) text files q ≡ pruned_at paths text files q
  pushed_other q other = ap (λ b. cond b (source text files q) None) (among_push paths p q ∙ ap (λ b. is_among paths q || b) other ∙ or_false (is_among paths q))

  nothing_here : source text files p ≡ None → pruned_at paths text files p ≡ None
  nothing_here none = by (is_among paths p) where
    by : (b : Bool) → cond b (source text files p) None ≡ None
    by true = none
    by false = refl

  pub copied_push : (folder other : Path) → copied text folder (paths ++ p ∷ []) files other ≡ put_at (folder ++ p) (source text files p) (copied text folder paths files) other
  copied_push folder other = by (source text files p) refl (strip folder other) refl (path_eq other (folder ++ p)) refl where
    after : Option Path → Option (List ℕ)
    after o = option_and_then (pruned_at (paths ++ p ∷ []) text files) o

    was : Option Path → Option (List ℕ)
    was o = option_and_then (pruned_at paths text files) o

    kept : (o : Option (List ℕ)) → Option (List ℕ)
    kept o = cond (is_some o) o (files other)

    same : (o : Option Path) → strip folder other ≡ o → path_eq other (folder ++ p) ≡ false → after o ≡ was o
    same None s e = refl
    same (Some q) s e = pushed_other q (path_other p q (λ is. false≢true (sym e ∙ ap (λ r. path_eq r (folder ++ p)) (strip_is folder other q s ∙ ap (λ r. folder ++ r) (sym is)) ∙ path_self (folder ++ p))))

    here : path_eq other (folder ++ p) ≡ true → strip folder other ≡ Some p
    here e = ap (strip folder) (path_same other (folder ++ p) e) ∙ strip_append folder p

    by : (s : Option (List ℕ)) → source text files p ≡ s → (o : Option Path) → strip folder other ≡ o → (b : Bool) → path_eq other (folder ++ p) ≡ b
        → copied text folder (paths ++ p ∷ []) files other ≡ put_at (folder ++ p) s (copied text folder paths files) other
    by None s o t true e =
        let at = here e in
        ap (λ x. kept (after x)) at ∙ ap kept (pushed_here ∙ s ∙ sym (nothing_here s)) ∙ ap (λ x. kept (was x)) (sym at)
    by None s o t false e = ap kept (ap after t ∙ same o t e ∙ ap was (sym t))
    by (Some bytes) s o t true e =
        let at = here e in
        ap (λ x. kept (after x)) at ∙ ap kept (pushed_here ∙ s) ∙ sym (ap (λ b. cond b (Some bytes) (copied text folder paths files other)) e)
    by (Some bytes) s o t false e = ap kept (ap after t ∙ same o t e ∙ ap was (sym t)) ∙ sym (ap (λ b. cond b (Some bytes) (copied text folder paths files other)) e)

-- what is copied from a path that does not lie below `out`, is what stood there
source_same : (text : Option (List ℕ)) (old now : FileMap) (p : Path) → now p ≡ old p → source text now p ≡ source text old p
source_same text old now p e = ap (cond (path_eq p lock_path) text) e

put_same : (target other : Path) (s : Option (List ℕ)) (old now : FileMap) → now other ≡ old other → put_at target s now other ≡ put_at target s old other
put_same target other None old now e = e
put_same target other (Some bytes) old now e = ap (λ o. cond (path_eq other target) (Some bytes) o) e

pub copied_more : (text : Option (List ℕ)) (folder : Path) (paths : List Path) (i : ℕ) (p : Path) (old now new : FileMap) → IsOut folder → AllByRecursion IsOutside paths → i < length paths → p ≡ get_or paths i p
    → IsSame now (copied text folder (take i paths) old) → ((other : Path) → new other ≡ put_at (folder ++ p) (source text now p) now other) → IsSame new (copied text folder (take (i + 1) paths) old)
copied_more text folder paths i p old now new out all lt at was put other =
    put other ∙ ap (λ s. put_at (folder ++ p) s now other) (source_same text old now p (unchanged)) ∙ put_same (folder ++ p) other (source text old p) (copied text folder (take i paths) old) now (was other)
    ∙ sym (copied_push text (take i paths) old p folder other) ∙ ap (λ ps. copied text folder ps old other) (sym more)
  where
    its : IsOutside p
    its = all_at IsOutside paths i p lt at all

    unchanged : now p ≡ old p
    unchanged = was p ∙ copied_outside text folder (take i paths) old p out (all_take IsOutside paths i all) its.outside

    more : take (i + 1) paths ≡ take i paths ++ p ∷ []
    more = take_more paths i p lt ∙ ap (λ q. take i paths ++ q ∷ []) (sym at)

pub unchanged_at : (text : Option (List ℕ)) (folder : Path) (paths : List Path) (i : ℕ) (p : Path) (old now : FileMap) → IsOut folder → AllByRecursion IsOutside paths → i < length paths → p ≡ get_or paths i p
    → IsSame now (copied text folder (take i paths) old) → is_over now p ≡ is_over old p
unchanged_at text folder paths i p old now out all lt at was =
    ap (λ o. not (path_eq p lock_path) && is_large o) (was p ∙ copied_outside text folder (take i paths) old p out (all_take IsOutside paths i all) (all_at IsOutside paths i p lt at all).outside)

-- ---- those in front of one

all_among : (P : Path → Type 0) (paths : List Path) (q : Path) → AllByRecursion P paths → is_among paths q ≡ true → P q
all_among P [] q all e = absurd (false≢true e)
all_among P (p ∷ paths) q all e = by (path_eq p q) refl e (all_among P paths q all.1) where
  by : (b : Bool) → path_eq p q ≡ b → (b || is_among paths q) ≡ true → (is_among paths q ≡ true → P q) → P q
  by true same t more = subst P (path_same p q same) all.0
  by false same t more = more t

not_less : (p q : Path) → path_cmp p q ≡ Less → is_lt (path_cmp q p) ≡ false
not_less p q less = ap is_lt (path_cmp_total.antisymm q p ∙ ap ordering_reverse less)

-- of ascending paths, those in front of the one in a place
ahead : (paths : List Path) (i : ℕ) (stop q : Path) → IsStrictlySortedBy path_cmp paths → i < length paths → stop ≡ get_or paths i stop → is_among (take i paths) q ≡ (is_lt (path_cmp q stop) && is_among paths q)
unfolding IsStrictlySortedBy
ahead [] i stop q up lt at = absurd (omega arith)
ahead (x ∷ xs) zero stop q up lt at = subst (λ s. false ≡ (is_lt (path_cmp q s) && (path_eq x q || is_among xs q))) (sym at) (by (path_eq x q) refl (is_among xs q) refl) where
  and_false : (b : Bool) → false ≡ (b && false)
  and_false true = refl
  and_false false = refl

  not_and : (a b : Bool) → a ≡ false → false ≡ (a && b)
  not_and true b e = absurd (false≢true (sym e))
  not_and false b e = refl

  by : (a : Bool) → path_eq x q ≡ a → (b : Bool) → is_among xs q ≡ b → false ≡ (is_lt (path_cmp q x) && (a || b))
  by true e b f = not_and (is_lt (path_cmp q x)) true (ap (λ p. is_lt (path_cmp p x)) (sym (path_same x q e)) ∙ ap is_lt (path_cmp_self x))
  by false e true f = not_and (is_lt (path_cmp q x)) true (not_less x q (all_among (λ y. path_cmp x y ≡ Less) xs q up.0 f))
  by false e false f = and_false (is_lt (path_cmp q x))
ahead (x ∷ xs) (suc i) stop q up lt at = by (path_eq x q) refl (ahead xs i stop q up.1 (omega arith) at) where
  by : (a : Bool) → path_eq x q ≡ a → is_among (take i xs) q ≡ (is_lt (path_cmp q stop) && is_among xs q) → (a || is_among (take i xs) q) ≡ (is_lt (path_cmp q stop) && (a || is_among xs q))
  by true e more =
      let less : path_cmp x stop ≡ Less = all_at (λ y. path_cmp x y ≡ Less) xs i stop (omega arith) at up.0 in
      sym (ap (λ b. b && true) (ap (λ p. is_lt (path_cmp p stop)) (sym (path_same x q e)) ∙ ap is_lt less))
  by false e more = more

-- ---- what is moved, path by path

pub moved_same : (folder other : Path) (old f g : FileMap) → IsSame f g → over old (moved_to folder f) other ≡ over old (moved_to folder g) other
moved_same folder other old f g same = by (strip folder other) where
  by : (o : Option Path) → cond (is_some (option_and_then f o)) (option_and_then f o) (old other) ≡ cond (is_some (option_and_then g o)) (option_and_then g o) (old other)
  by None = refl
  by (Some q) = ap (λ x. cond (is_some x) x (old other)) (same q)

pub copied_ahead : (text : Option (List ℕ)) (folder : Path) (paths : List Path) (i : ℕ) (stop : Path) (old now : FileMap) → IsStrictlySortedBy path_cmp paths → i < length paths → stop ≡ get_or paths i stop
    → IsSame now (copied text folder (take i paths) old) → IsSame now (copied_before text folder paths stop old)
copied_ahead text folder paths i stop old now up lt at was other =
    was other ∙ moved_same folder other old (pruned_at (take i paths) text old) (before stop (pruned_at paths text old)) (λ q. ap (λ b. cond b (source text old q) None) (ahead paths i stop q up lt at) ∙ apart (is_lt (path_cmp q stop)) (is_among paths q) (source text old q))
  where
    apart : (a b : Bool) (o : Option (List ℕ)) → cond (a && b) o None ≡ cond a (cond b o None) None
    apart true b o = refl
    apart false b o = refl

-- ---- some of the paths

pub all_part : {X : Type 0} (P : X → Type 0) (test : X → Bool) (xs : List X) → AllByRecursion P xs → AllByRecursion P (filter test xs)
all_part P test [] all = tt
all_part P test (x ∷ xs) all = by (test x) (all_part P test xs all.1) where
  by : (b : Bool) → AllByRecursion P (filter test xs) → AllByRecursion P (cond b (x ∷ filter test xs) (filter test xs))
  by true more = (all.0, more)
  by false more = more

find_part : {X : Type 0} (test part : X → Bool) (xs : List X) → find test xs ≡ None → find test (filter part xs) ≡ None
find_part test part [] none = refl
find_part {X} test part (x ∷ xs) none = by (test x) refl (part x) none (find_part test part xs) where
  by : (a : Bool) → test x ≡ a → (b : Bool) → cond a (Some x) (find test xs) ≡ None → (find test xs ≡ None → find test (filter part xs) ≡ None) → find test (cond b (x ∷ filter part xs) (filter part xs)) ≡ None
  by true t b e more = cc
  by false t true e more = ap (λ c. cond c (Some x) (find test (filter part xs))) t ∙ more e
  by false t false e more = more e

find_same : {X : Type 0} (p q : X → Bool) (xs : List X) → AllByRecursion (λ x. p x ≡ q x) xs → find p xs ≡ find q xs
find_same p q [] all = refl
find_same p q (x ∷ xs) all = ap (λ b. cond b (Some x) (find p xs)) all.0 ∙ ap (λ o. cond (q x) (Some x) o) (find_same p q xs all.1)

all_more : {X : Type 0} (P Q : X → Type 0) (xs : List X) → ((x : X) → P x → Q x) → AllByRecursion P xs → AllByRecursion Q xs
all_more P Q [] f all = tt
all_more P Q (x ∷ xs) f all = (f x all.0, all_more P Q xs f all.1)

pub layer_at : (test : Path → Bool) (text : Option (List ℕ)) (paths : List Path) (files : FileMap) (q : Path) → pruned_at (filter test paths) text files q ≡ cond (test q) (pruned_at paths text files q) None
layer_at test text paths files q = ap (λ b. cond b (source text files q) None) (any-filter_same (λ p. path_eq p q) test (test q) (λ p e. ap test (path_same p q e)) paths) ∙ apart (test q) (is_among paths q) where
  apart : (a b : Bool) → cond (a && b) (source text files q) None ≡ cond a (cond b (source text files q) None) None
  apart true b = refl
  apart false b = refl

-- ---- a second folder, after the first

module _ (text : Option (List ℕ)) (first : Path) (paths : List Path) (old mid : FileMap) (out : IsOut first) (all : AllByRecursion IsOutside paths) (was : IsSame mid (copied text first paths old)) where
  same_outside : (q : Path) → IsOutside q → mid q ≡ old q
  same_outside q its = was q ∙ copied_outside text first paths old q out all its.outside

  pub second_small : (test : Path → Bool) → first_over old paths ≡ None → first_over mid (filter test paths) ≡ None
  second_small test none =
      find_same (is_over mid) (is_over old) (filter test paths) (all_more IsOutside (λ q. is_over mid q ≡ is_over old q) (filter test paths) (λ q its. ap (λ o. not (path_eq q lock_path) && is_large o) (same_outside q its)) (all_part IsOutside test paths all))
      ∙ find_part (is_over old) test paths none

  pub second_same : (second : Path) (test : Path → Bool) (new : FileMap) → IsSame new (copied text second (filter test paths) mid) → IsSame new (over (copied text first paths old) (moved_to second (pruned_at (filter test paths) text old)))
  second_same second test new is other =
      is other ∙ moved_same second other mid (pruned_at (filter test paths) text mid) (pruned_at (filter test paths) text old) source_is
      ∙ ap (λ o. cond (is_some (moved_to second (pruned_at (filter test paths) text old) other)) (moved_to second (pruned_at (filter test paths) text old) other) o) (was other)
    where
      source_is : (q : Path) → pruned_at (filter test paths) text mid q ≡ pruned_at (filter test paths) text old q
      source_is q = by (is_among (filter test paths) q) refl where
        by : (b : Bool) → is_among (filter test paths) q ≡ b → cond b (source text mid q) None ≡ cond b (source text old q) None
        by true e = source_same text old mid q (same_outside q (all_among IsOutside (filter test paths) q (all_part IsOutside test paths all) e))
        by false e = refl

-- ---- what a write leaves

pub wrote : (target : Path) (bytes : List ℕ) (old new : FileMap) → SameBut target old new → new target ≡ Some bytes → IsSame new (put_at target (Some bytes) old)
wrote target bytes old new others here other = by (path_eq other target) refl where
  by : (b : Bool) → path_eq other target ≡ b → new other ≡ cond b (Some bytes) (old other)
  by true e = ap new (path_same other target e) ∙ here
  by false e = others other (λ is. false≢true (sym e ∙ ap (λ q. path_eq q target) is ∙ path_self target))

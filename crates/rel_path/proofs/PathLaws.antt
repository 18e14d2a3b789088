-- Laws of paths.
use Rattle.std.proofs.Common.{◌≡◌, ◌≢◌, ℕ, true, false, cond, List, [], ◌∷◌, ◌++◌, refl, ap, ◌∙◌, ◌||◌}
use Rattle.std.specs.Prelude.{Option, Some, None}
use Rattle.std.specs.declared.cmp.Ordering.{Ordering}
use Rattle.std.specs.declared.cmp.Ordering.TheVariants.{Less, Equal, Greater}
use Rattle.std.specs.Ordering.{eq_by_cmp, is_eq, ordering_then}
use Rattle.std.specs.Cmp.{IsTotalOrder}
use Rattle.std.specs.Cmp.Lexicographic.{slice_cmp, lists_ties, texts_ties, lists_total, nat_list_cmp_total}
use Rattle.std.specs.Ordering.{nat_cmp}
use Rattle.std.proofs.lemmas.Cmp.{eq_by_cmp_equiv}
use Rattle.std.proofs.lemmas.Slice.Eq.{slice_eq-Decides, bytes_eq-Decides}
use Rattle.std.proofs.lemmas.List.Folds.{list_any-append}
use Rattle.rel_path.specs.Paths.{Path, path_eq, name_eq, name_cmp, path_cmp, strip, is_among}

pub path_cmp_total : IsTotalOrder path_cmp
path_cmp_total = lists_total nat_list_cmp_total

-- two paths are equal byte for byte exactly where the order has them equal
pub path_ties : (p q : Path) → path_eq p q ≡ eq_by_cmp path_cmp p q
path_ties = lists_ties (slice_cmp nat_cmp) texts_ties

pub name_same : (a b : List ℕ) → name_eq a b ≡ true → a ≡ b
name_same a b e = (bytes_eq-Decides a b).0 e

pub name_self : (a : List ℕ) → name_eq a a ≡ true
name_self a = (bytes_eq-Decides a a).1 refl

pub path_same : (p q : Path) → path_eq p q ≡ true → p ≡ q
path_same p q e = (slice_eq-Decides bytes_eq-Decides p q (path_eq p q) refl).0 e

pub path_self : (p : Path) → path_eq p p ≡ true
path_self p = (slice_eq-Decides bytes_eq-Decides p p (path_eq p p) refl).1 refl

pub path_other : (p q : Path) → p ≢ q → path_eq p q ≡ false
path_other p q apart =
    elim (path_eq p q) as (λ b. path_eq p q ≡ b → b ≡ false) [
      | true ↦ λ e. absurd (apart (path_same p q e))
      | false ↦ λ e. refl
    ] refl

is_Equal : (o : Ordering) → is_eq o ≡ true → o ≡ Equal
is_Equal Less e = cc
is_Equal Equal e = refl
is_Equal Greater e = cc

pub name_cmp_self : (a : List ℕ) → name_cmp a a ≡ Equal
name_cmp_self a = is_Equal (name_cmp a a) ((eq_by_cmp_equiv nat_list_cmp_total).refl a)

-- what follows one folder compares as it does by itself
pub path_cmp_below : (folder p q : Path) → path_cmp (folder ++ p) (folder ++ q) ≡ path_cmp p q
path_cmp_below [] p q = refl
path_cmp_below (f ∷ fs) p q = ap (λ o. ordering_then o (path_cmp (fs ++ p) (fs ++ q))) (name_cmp_self f) ∙ path_cmp_below fs p q

pub strip_is : (folder path rest : Path) → strip folder path ≡ Some rest → path ≡ folder ++ rest
strip_is [] path rest e = cc
strip_is (f ∷ fs) [] rest e = cc
strip_is (f ∷ fs) (n ∷ ns) rest e =
    elim (name_eq f n) as (λ b. name_eq f n ≡ b → cond b (strip fs ns) None ≡ Some rest → n ∷ ns ≡ f ∷ (fs ++ rest)) [
      | true ↦ λ t h. let s = name_same f n t in let r = strip_is fs ns rest h in cc
      | false ↦ λ t h. cc
    ] refl e

pub strip_append : (folder rest : Path) → strip folder (folder ++ rest) ≡ Some rest
strip_append [] rest = refl
strip_append (f ∷ fs) rest = ap (λ b. cond b (strip fs (fs ++ rest)) None) (name_self f) ∙ strip_append fs rest

-- a path below a folder of a folder
abbrev pub strip_name : List ℕ → Option Path → Option Path
strip_name name None = None
strip_name name (Some rest) = strip (name ∷ []) rest

pub strip_with : (folder : Path) (name : List ℕ) (path : Path) → strip (folder ++ name ∷ []) path ≡ strip_name name (strip folder path)
strip_with [] name path = refl
strip_with (f ∷ fs) name [] = refl
strip_with (f ∷ fs) name (n ∷ ns) =
    elim (name_eq f n) as (λ b. cond b (strip (fs ++ name ∷ []) ns) None ≡ strip_name name (cond b (strip fs ns) None)) [
      | true ↦ strip_with fs name ns
      | false ↦ refl
    ]

pub among_append : (xs ys : List Path) (p : Path) → is_among (xs ++ ys) p ≡ (is_among xs p || is_among ys p)
among_append xs ys p = list_any-append (λ other. path_eq other p) xs ys

pub path_cmp_self : (p : Path) → path_cmp p p ≡ Equal
path_cmp_self p = is_Equal (path_cmp p p) ((eq_by_cmp_equiv path_cmp_total).refl p)

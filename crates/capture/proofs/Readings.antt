-- List File read one by one.
use Rattle.std.proofs.Common.{◌≡◌, ℕ, zero, suc, ◌+◌, ◌<◌, Bool, true, false, not, cond, ◌||◌, List, [], ◌∷◌, ◌++◌, length, get_or, take, refl, sym, ap, subst, ◌∙◌, arith}
use Rattle.std.specs.Prelude.{Option, Some, None, nat_lt, Ok, Err}
use Rattle.std.specs.List.{AllByRecursion}
use Rattle.std.specs.List.Sorted.{IsStrictlySortedBy}
use Rattle.std.specs.declared.cmp.Ordering.TheVariants.{Less, Greater}
use Rattle.std.specs.Ordering.{ordering_reverse}
use Rattle.std.proofs.lemmas.List.Folds.{list_any_more}
use Rattle.std.proofs.lemmas.Map.Keys.{Less-from_sorted}
use Rattle.rel_path.specs.Paths.{Path, path_cmp, path_eq, is_among}
use Rattle.rel_path.specs.Files.{FileMap}
use Rattle.rel_path.proofs.PathLaws.{path_cmp_total}
use Rattle.cache_api.specs.Artifacts.{File}
use Rattle.rel_path.proofs.PathLaws.{path_same, path_cmp_self, among_append}
use Rattle.tree_dev.specs.Tree.{within}
use Rattle.tree_dev.specs.declared.tree.Found.{Found}
use Rattle.tree_dev.specs.declared.tree.Found.TheVariants.{Absent, TooLong, Here}
use Rattle.tree_walk.proofs.Ways.{sorted_append}
use Rattle.capture.specs.declared.error.CapErr.{CapErr}
use Rattle.capture.specs.declared.error.CapErr.TheVariants.{Shared, TooLarge, Failed, OutOfMemory}
use Rattle.capture.specs.Owned.{paths_of, fits, ReadOk, ReadsAll, IsTooLarge, AddsFound}
use Rattle.capture.proofs.Puts.{first_of_two}
use Rattle.capture.proofs.Owns.{at_place}
use Rattle.capture.proofs.Puts.{file_at_push}

-- what was read of the first paths
pub record SoFar (Tells : Type 0) (files : FileMap) (limit : ℕ) (paths : List Path) (got : List File) : Type 0 where
  pub ascend : IsStrictlySortedBy path_cmp (paths_of got)
  pub inside : (path : Path) → is_among (paths_of got) path ≡ true → is_among paths path ≡ true
  pub told : Tells → ReadOk files limit paths got

pub so_none : (Tells : Type 0) (files : FileMap) (limit : ℕ) → SoFar Tells files limit [] []
unfolding IsStrictlySortedBy
so_none Tells files limit = record { ascend = tt; inside = λ p h. h; told = λ t. record { read = λ p. refl; fit = λ p h. absurd (let y : false ≡ true = h in cc) } }

is_there : (limit : ℕ) (o : Option (List ℕ)) (b : List ℕ) → Here b ≡ within limit o → (o ≡ Some b) × (fits limit o ≡ true)
is_there limit None b e = cc
is_there limit (Some x) b e =
    elim (nat_lt limit (length x)) as (λ t. Here b ≡ cond t TooLong (Here x) → (Some x ≡ Some b) × (not t ≡ true)) [
      | true ↦ λ k. cc
      | false ↦ λ k. ((let s : x ≡ b = cc in ap Some s), refl)
    ] e

is_absent : (limit : ℕ) (o : Option (List ℕ)) → Absent ≡ within limit o → (o ≡ None) × (fits limit o ≡ true)
is_absent limit None e = (refl, refl)
is_absent limit (Some x) e =
    elim (nat_lt limit (length x)) as (λ t. Absent ≡ cond t TooLong (Here x) → (Some x ≡ None) × (not t ≡ true)) [
      | true ↦ λ k. cc
      | false ↦ λ k. cc
    ] e

is_long : (limit : ℕ) (o : Option (List ℕ)) → TooLong ≡ within limit o → fits limit o ≡ false
is_long limit None e = cc
is_long limit (Some x) e =
    elim (nat_lt limit (length x)) as (λ t. TooLong ≡ cond t TooLong (Here x) → not t ≡ false) [
      | true ↦ λ k. refl
      | false ↦ λ k. cc
    ] e

among_more : (paths : List Path) (i : ℕ) (d p : Path) → i < length paths → is_among (take (i + 1) paths) p ≡ (is_among (take i paths) p || path_eq (get_or paths i d) p)
among_more paths i d p lt = list_any_more (λ other. path_eq other p) paths i d lt

-- the paths before a place stand before it, and no others
pub all_before : (paths : List Path) (i : ℕ) (d p : Path) → IsStrictlySortedBy path_cmp paths → i < length paths → is_among (take i paths) p ≡ true → path_cmp p (get_or paths i d) ≡ Less
unfolding IsStrictlySortedBy
all_before [] i d p sorted lt h = absurd (omega arith)
all_before (x ∷ xs) zero d p sorted lt h = absurd (let y : false ≡ true = h in cc)
all_before (x ∷ xs) (suc i) d p sorted lt h =
    elim (path_eq x p) as (λ b. path_eq x p ≡ b → (b || is_among (take i xs) p) ≡ true → path_cmp p (get_or xs i d) ≡ Less) [
      | true ↦ λ e k. ap (λ y. path_cmp y (get_or xs i d)) (sym (path_same x p e)) ∙ Less-from_sorted path_cmp (x ∷ xs) 0 (suc i) d sorted (omega arith) lt
      | false ↦ λ e k. all_before xs i d p sorted.1 (omega arith) k
    ] refl h

pub among_less : (x : Path) (xs : List Path) (q : Path) → AllByRecursion (λ y. path_cmp x y ≡ Less) xs → is_among xs q ≡ true → path_cmp x q ≡ Less
among_less x [] q all h = absurd (let y : false ≡ true = h in cc)
among_less x (y ∷ ys) q all h =
    elim (path_eq y q) as (λ b. path_eq y q ≡ b → (b || is_among ys q) ≡ true → path_cmp x q ≡ Less) [
      | true ↦ λ e k. ap (path_cmp x) (sym (path_same y q e)) ∙ all.0
      | false ↦ λ e k. among_less x ys q all.1 k
    ] refl h

pub never : (p q : Path) → path_cmp p q ≡ Less → path_cmp q p ≡ Less → ⊥
never p q a b = let c : path_cmp p q ≡ Greater = path_cmp_total.antisymm p q ∙ ap ordering_reverse b in let d : Less ≡ Greater = sym a ∙ c in cc

pub only_before : (paths : List Path) (i : ℕ) (d q : Path) → IsStrictlySortedBy path_cmp paths → i < length paths → is_among paths q ≡ true → path_cmp q (get_or paths i d) ≡ Less → is_among (take i paths) q ≡ true
unfolding IsStrictlySortedBy
only_before [] i d q sorted lt h less = absurd (omega arith)
only_before (x ∷ xs) zero d q sorted lt h less =
    elim (path_eq x q) as (λ b. path_eq x q ≡ b → (b || is_among xs q) ≡ true → false ≡ true) [
      | true ↦ λ e k. absurd (let a : path_cmp q q ≡ Less = ap (path_cmp q) (sym (path_same x q e)) ∙ less in let b = path_cmp_self q in cc)
      | false ↦ λ e k. absurd (never x q (among_less x xs q sorted.0 k) less)
    ] refl h
only_before (x ∷ xs) (suc i) d q sorted lt h less =
    elim (path_eq x q) as (λ b. (b || is_among xs q) ≡ true → (b || is_among (take i xs) q) ≡ true) [
      | true ↦ λ k. refl
      | false ↦ λ k. only_before xs i d q sorted.1 (omega arith) k less
    ] h

-- one path more, and whether it was there
pub so_absent : (Tells : Type 0) (files : FileMap) (limit : ℕ) (paths : List Path) (i : ℕ) (d : Path) (got : List File) → i < length paths → (Tells → Absent ≡ within limit (files (get_or paths i d)))
    → SoFar Tells files limit (take i paths) got → SoFar Tells files limit (take (i + 1) paths) got
so_absent Tells files limit paths i d got lt why s = record {
  ascend = s.ascend;
  inside = λ p h. among_more paths i d p lt ∙ ap (λ b. b || path_eq (get_or paths i d) p) (s.inside p h);
  told = λ t. record {
    read = λ p. (s.told t).read p ∙ read t p (is_among (take i paths) p) (path_eq (get_or paths i d) p) refl ∙ ap (λ b. cond b (files p) None) (sym (among_more paths i d p lt));
    fit = λ p h. fit t p (is_among (take i paths) p) (path_eq (get_or paths i d) p) refl refl (sym (among_more paths i d p lt) ∙ h);
  };
}
  where
    read : (t : Tells) (p : Path) (a b : Bool) → path_eq (get_or paths i d) p ≡ b → cond a (files p) None ≡ cond (a || b) (files p) None
    read t p true b e = refl
    read t p false true e = sym (ap files (sym (path_same (get_or paths i d) p e)) ∙ (is_absent limit (files (get_or paths i d)) (why t)).0)
    read t p false false e = refl

    fit : (t : Tells) (p : Path) (a b : Bool) → is_among (take i paths) p ≡ a → path_eq (get_or paths i d) p ≡ b → (a || b) ≡ true → fits limit (files p) ≡ true
    fit t p true b ea e h = (s.told t).fit p ea
    fit t p false true ea e h = ap (λ q. fits limit (files q)) (sym (path_same (get_or paths i d) p e)) ∙ (is_absent limit (files (get_or paths i d)) (why t)).1
    fit t p false false ea e h = absurd (let y : false ≡ true = h in cc)

paths_push : (got : List File) (e : Path × List ℕ) → paths_of (got ++ e ∷ []) ≡ paths_of got ++ e.0 ∷ []
paths_push [] e = refl
paths_push (x ∷ got) e = ap (λ xs. x.0 ∷ xs) (paths_push got e)

one_sorted : (p : Path) → IsStrictlySortedBy path_cmp (p ∷ [])
unfolding IsStrictlySortedBy
one_sorted p = (tt, tt)

or_false : (b : Bool) → (b || false) ≡ b
or_false true = refl
or_false false = refl

pub so_here : (Tells : Type 0) (files : FileMap) (limit : ℕ) (paths : List Path) (i : ℕ) (d : Path) (bytes : List ℕ) (got : List File) → IsStrictlySortedBy path_cmp paths → i < length paths
    → (Tells → Here bytes ≡ within limit (files (get_or paths i d)))
    → SoFar Tells files limit (take i paths) got → SoFar Tells files limit (take (i + 1) paths) (got ++ (get_or paths i d, bytes) ∷ [])
so_here Tells files limit paths i d bytes got sorted lt why s = record {
  ascend = subst (IsStrictlySortedBy path_cmp) (sym (paths_push got (get_or paths i d, bytes)))
      (sorted_append (paths_of got) (get_or paths i d ∷ []) s.ascend (one_sorted (get_or paths i d)) (λ p q hp hq.
      ap (path_cmp p) (sym (path_same (get_or paths i d) q (sym (or_false (path_eq (get_or paths i d) q)) ∙ hq))) ∙ all_before paths i d p sorted lt (s.inside p hp)));
  inside = λ p h. among_more paths i d p lt ∙ inside p (is_among (paths_of got) p) (path_eq (get_or paths i d) p) refl
      (sym (ap (λ b. is_among (paths_of got) p || b) (or_false (path_eq (get_or paths i d) p))) ∙ sym (ap (λ x. is_among x p) (paths_push got (get_or paths i d, bytes)) ∙ among_append (paths_of got) (get_or paths i d ∷ []) p) ∙ h);
  told = λ t. record {
    read = λ p. file_at_push got (get_or paths i d, bytes) p ∙ ap (λ x. first_of_two x (cond (path_eq (get_or paths i d) p) (Some bytes) None)) ((s.told t).read p)
        ∙ read t p (is_among (take i paths) p) (path_eq (get_or paths i d) p) refl refl ∙ ap (λ b. cond b (files p) None) (sym (among_more paths i d p lt));
    fit = λ p h. fit t p (is_among (take i paths) p) (path_eq (get_or paths i d) p) refl refl (sym (among_more paths i d p lt) ∙ h);
  };
}
  where
    inside : (p : Path) (a b : Bool) → is_among (paths_of got) p ≡ a → (a || b) ≡ true → (is_among (take i paths) p || b) ≡ true
    inside p true b ea h = ap (λ x. x || b) (s.inside p ea)
    inside p false true ea h = or_true (is_among (take i paths) p)
      where
        or_true : (x : Bool) → (x || true) ≡ true
        or_true true = refl
        or_true false = refl
    inside p false false ea h = absurd (let y : false ≡ true = h in cc)

    read : (t : Tells) (p : Path) (a b : Bool) → is_among (take i paths) p ≡ a → path_eq (get_or paths i d) p ≡ b → first_of_two (cond a (files p) None) (cond b (Some bytes) None) ≡ cond (a || b) (files p) None
    read t p true true ea e = absurd (let y = path_cmp_self p in let z : path_cmp p p ≡ Less = ap (path_cmp p) (sym (path_same (get_or paths i d) p e)) ∙ all_before paths i d p sorted lt ea in cc)
    read t p true false ea e = two_none (files p)
      where
        two_none : (o : Option (List ℕ)) → first_of_two o None ≡ o
        two_none None = refl
        two_none (Some x) = refl
    read t p false true ea e = sym (ap files (sym (path_same (get_or paths i d) p e)) ∙ (is_there limit (files (get_or paths i d)) bytes (why t)).0)
    read t p false false ea e = refl

    fit : (t : Tells) (p : Path) (a b : Bool) → is_among (take i paths) p ≡ a → path_eq (get_or paths i d) p ≡ b → (a || b) ≡ true → fits limit (files p) ≡ true
    fit t p true b ea e h = (s.told t).fit p ea
    fit t p false true ea e h = ap (λ q. fits limit (files q)) (sym (path_same (get_or paths i d) p e)) ∙ (is_there limit (files (get_or paths i d)) bytes (why t)).1
    fit t p false false ea e h = absurd (let y : false ≡ true = h in cc)

pub so_long : (Tells : Type 0) (files : FileMap) (limit : ℕ) (paths : List Path) (i : ℕ) (d : Path) (got : List File) (e : CapErr) → IsStrictlySortedBy path_cmp paths → i < length paths
    → (Tells → TooLong ≡ within limit (files (get_or paths i d))) → SoFar Tells files limit (take i paths) got → IsTooLarge (get_or paths i d) e → Tells → ReadsAll files limit paths (Err e)
so_long Tells files limit paths i d got (Shared q) sorted lt why s is t = is
so_long Tells files limit paths i d got (TooLarge q) sorted lt why s is t = record {
  there = ap (is_among paths) is ∙ at_place paths i d lt;
  long = ap (λ x. fits limit (files x)) is ∙ is_long limit (files (get_or paths i d)) (why t);
  least = λ p h less. (s.told t).fit p (only_before paths i d p sorted lt h (ap (path_cmp p) (sym is) ∙ less));
}
so_long Tells files limit paths i d got Failed sorted lt why s is t = absurd is
so_long Tells files limit paths i d got OutOfMemory sorted lt why s is t = tt

pub so_found : (Tells : Type 0) (files : FileMap) (limit : ℕ) (paths : List Path) (i : ℕ) (d : Path) (found : Found) (old new : List File) (u : Unit {0}) → IsStrictlySortedBy path_cmp paths → i < length paths
    → (Tells → found ≡ within limit (files (get_or paths i d))) → SoFar Tells files limit (take i paths) old → AddsFound (get_or paths i d) found old new (Ok u) → SoFar Tells files limit (take (i + 1) paths) new
so_found Tells files limit paths i d Absent old new u sorted lt why s a = subst (SoFar Tells files limit (take (i + 1) paths)) (sym a) (so_absent Tells files limit paths i d old lt why s)
so_found Tells files limit paths i d TooLong old new u sorted lt why s a = absurd a
so_found Tells files limit paths i d (Here bytes) old new u sorted lt why s a = subst (SoFar Tells files limit (take (i + 1) paths)) (sym a) (so_here Tells files limit paths i d bytes old sorted lt why s)

pub so_fault : (Tells : Type 0) (files : FileMap) (limit : ℕ) (paths : List Path) (i : ℕ) (d : Path) (found : Found) (old new : List File) (e : CapErr) → IsStrictlySortedBy path_cmp paths → i < length paths
    → (Tells → found ≡ within limit (files (get_or paths i d))) → SoFar Tells files limit (take i paths) old → AddsFound (get_or paths i d) found old new (Err e) → Tells → ReadsAll files limit paths (Err e)
so_fault Tells files limit paths i d Absent old new e sorted lt why s a = λ t. subst (λ x. ReadsAll files limit paths (Err x)) (sym a) tt
so_fault Tells files limit paths i d TooLong old new e sorted lt why s a = so_long Tells files limit paths i d old e sorted lt why s a
so_fault Tells files limit paths i d (Here bytes) old new e sorted lt why s a = λ t. subst (λ x. ReadsAll files limit paths (Err x)) (sym a) tt

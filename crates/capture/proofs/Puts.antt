-- List File put over others, one by one.
use Rattle.std.proofs.Common.{◌≡◌, ℕ, zero, suc, ◌+◌, ◌<◌, Bool, true, false, not, cond, ◌||◌, ◌&&◌, List, [], ◌∷◌, ◌++◌, length, get_or, take, refl, sym, ap, ◌∙◌, arith, add-one}
use Rattle.std.proofs.Math.Seq.{take-suc}
use Rattle.std.specs.Prelude.{Option, Some, None, is_some}
use Rattle.std.specs.List.{AllByRecursion}
use Rattle.std.specs.List.Sorted.{IsStrictlySortedBy}
use Rattle.std.specs.declared.cmp.Ordering.TheVariants.{Less}
use Rattle.rel_path.specs.Paths.{Path, path_cmp, path_eq, is_among}
use Rattle.rel_path.specs.Files.{FileMap, file_at, has, SameBut}
use Rattle.cache_api.specs.Artifacts.{File}
use Rattle.rel_path.proofs.PathLaws.{path_same, path_self, path_other, path_cmp_self}
use Rattle.globs.specs.declared.out_set.OutSet.{OutSet}
use Rattle.globs.specs.Outputs.{takes}
use Rattle.capture.specs.Owned.{paths_of}
use Rattle.capture.specs.Kept.{cleared_but}
use Rattle.globs.specs.OwnedFiles.{SameOutside}
use Rattle.globs.specs.OwnedFiles.{cleared, restored}

-- what is there, or else what lies below
abbrev pub first_of_two : Option (List ℕ) → Option (List ℕ) → Option (List ℕ)
first_of_two None below = below
first_of_two (Some bytes) below = Some bytes

-- these files over those
abbrev pub over : List File → FileMap → FileMap
over files below = λ path. first_of_two (file_at files path) (below path)

less_other : (p q : Path) → path_cmp p q ≡ Less → path_eq p q ≡ false
less_other p q less = path_other p q (λ e. absurd (let a : path_cmp q q ≡ Less = ap (λ x. path_cmp x q) (sym e) ∙ less in let b = path_cmp_self q in cc))

later : (p : Path) (fs : List File) (i : ℕ) (d : Path × List ℕ) → AllByRecursion (λ y. path_cmp p y ≡ Less) (paths_of fs) → i < length fs → path_cmp p (get_or fs i d).0 ≡ Less
later p [] i d all lt = absurd (omega arith)
later p (f ∷ fs) zero d all lt = all.0
later p (f ∷ fs) (suc i) d all lt = later p fs i d all.1 (omega arith)

-- no file before a file of the list has its path
pub fresh : (fs : List File) (i : ℕ) (d : Path × List ℕ) → IsStrictlySortedBy path_cmp (paths_of fs) → i < length fs → file_at (take i fs) (get_or fs i d).0 ≡ None
unfolding IsStrictlySortedBy
fresh [] i d sorted lt = absurd (omega arith)
fresh (f ∷ fs) zero d sorted lt = refl
fresh (f ∷ fs) (suc i) d sorted lt =
    ap (λ b. cond b (Some f.1) (file_at (take i fs) (get_or fs i d).0)) (less_other f.0 (get_or fs i d).0 (later f.0 fs i d sorted.0 (omega arith)))
    ∙ fresh fs i d sorted.1 (omega arith)

pub file_at_push : (xs : List File) (e : Path × List ℕ) (p : Path) → file_at (xs ++ e ∷ []) p ≡ first_of_two (file_at xs p) (cond (path_eq e.0 p) (Some e.1) None)
file_at_push [] e p = refl
file_at_push (x ∷ xs) e p = elim (path_eq x.0 p) as (λ b. cond b (Some x.1) (file_at (xs ++ e ∷ []) p) ≡ first_of_two (cond b (Some x.1) (file_at xs p)) (cond (path_eq e.0 p) (Some e.1) None)) [
  | true ↦ refl
  | false ↦ file_at_push xs e p
]

two_none : (o : Option (List ℕ)) → first_of_two o None ≡ o
two_none None = refl
two_none (Some x) = refl

more_take : (fs : List File) (i : ℕ) (d : Path × List ℕ) → i < length fs → take (i + 1) fs ≡ take i fs ++ get_or fs i d ∷ []
more_take fs i d lt = rw add-one (take-suc fs i d lt)

-- one file more
pub over_more : (fs : List File) (i : ℕ) (d : Path × List ℕ) (below mid new : FileMap) → IsStrictlySortedBy path_cmp (paths_of fs) → i < length fs
    → ((p : Path) → mid p ≡ over (take i fs) below p) → SameBut (get_or fs i d).0 mid new → new (get_or fs i d).0 ≡ Some (get_or fs i d).1
    → (p : Path) → new p ≡ over (take (i + 1) fs) below p
over_more fs i d below mid new sorted lt before same here p =
    by_path (path_eq (get_or fs i d).0 p) refl
    ∙ ap (λ x. first_of_two x (below p)) (sym (file_at_push (take i fs) (get_or fs i d) p)) ∙ ap (λ x. first_of_two (file_at x p) (below p)) (sym (more_take fs i d lt))
  where
    by_path : (b : Bool) → path_eq (get_or fs i d).0 p ≡ b → new p ≡ first_of_two (first_of_two (file_at (take i fs) p) (cond (path_eq (get_or fs i d).0 p) (Some (get_or fs i d).1) None)) (below p)
    by_path true e =
        let is = path_same (get_or fs i d).0 p e in
        ap new (sym is) ∙ here
        ∙ ap (λ x. first_of_two (first_of_two x (Some (get_or fs i d).1)) (below p)) (sym (ap (file_at (take i fs)) (sym is) ∙ fresh fs i d sorted lt))
        ∙ ap (λ b. first_of_two (first_of_two (file_at (take i fs) p) (cond b (Some (get_or fs i d).1) None)) (below p)) (sym e)
    by_path false e =
        same p (λ h. absurd (let y : true ≡ false = sym (path_self p) ∙ ap (λ x. path_eq x p) h ∙ e in cc)) ∙ before p
        ∙ ap (λ x. first_of_two x (below p)) (sym (two_none (file_at (take i fs) p)))
        ∙ ap (λ b. first_of_two (first_of_two (file_at (take i fs) p) (cond b (Some (get_or fs i d).1) None)) (below p)) (sym e)

pub absent : (fs : List File) (i : ℕ) (p : Path) → is_among (paths_of fs) p ≡ false → file_at (take i fs) p ≡ None
absent [] zero p h = refl
absent [] (suc i) p h = refl
absent (f ∷ fs) zero p h = refl
absent (f ∷ fs) (suc i) p h =
    elim (path_eq f.0 p) as (λ b. (b || is_among (paths_of fs) p) ≡ false → cond b (Some f.1) (file_at (take i fs) p) ≡ None) [
      | true ↦ λ k. absurd (let y : true ≡ false = k in cc)
      | false ↦ λ k. absent fs i p k
    ] h

not_taken : (outs : OutSet) (fs : List File) (p : Path) → ((p : Path) → is_among (paths_of fs) p ≡ true → takes outs p ≡ true) → takes outs p ≡ false → is_among (paths_of fs) p ≡ false
not_taken outs fs p fits h = by_among (is_among (paths_of fs) p) refl
  where
    by_among : (b : Bool) → is_among (paths_of fs) p ≡ b → is_among (paths_of fs) p ≡ false
    by_among true e = absurd (let y : true ≡ false = sym (fits p e) ∙ h in cc)
    by_among false e = e

-- outside of what the task owns nothing changes
pub over_outside : (outs : OutSet) (fs : List File) (i : ℕ) (old new : FileMap) → ((p : Path) → is_among (paths_of fs) p ≡ true → takes outs p ≡ true)
    → ((p : Path) → new p ≡ over (take i fs) (cleared outs old) p) → SameOutside outs old new
over_outside outs fs i old new fits is p h =
    is p ∙ ap (λ x. first_of_two x (cleared outs old p)) (absent fs i p (not_taken outs fs p fits h)) ∙ ap (λ b. cond b None (old p)) h

absent_all : (fs : List File) (p : Path) → is_among (paths_of fs) p ≡ false → file_at fs p ≡ None
absent_all [] p h = refl
absent_all (f ∷ fs) p h =
    elim (path_eq f.0 p) as (λ b. (b || is_among (paths_of fs) p) ≡ false → cond b (Some f.1) (file_at fs p) ≡ None) [
      | true ↦ λ k. absurd (let y : true ≡ false = k in cc)
      | false ↦ λ k. absent_all fs p k
    ] h

pub over_restored : (outs : OutSet) (fs : List File) (old new : FileMap) → ((p : Path) → is_among (paths_of fs) p ≡ true → takes outs p ≡ true)
    → ((p : Path) → new p ≡ over fs (cleared outs old) p) → new ≡ restored outs fs old
over_restored outs fs old new fits is = λ k p. each p (takes outs p) refl k
  where
    each : (p : Path) (t : Bool) → takes outs p ≡ t → new p ≡ cond t (file_at fs p) (old p)
    each p true h = is p ∙ ap (λ b. first_of_two (file_at fs p) (cond b None (old p))) h ∙ two_none (file_at fs p)
    each p false h = is p ∙ ap (λ b. first_of_two (file_at fs p) (cond b None (old p))) h ∙ ap (λ x. first_of_two x (old p)) (absent_all fs p (not_taken outs fs p fits h))

-- one of the files hides what lies below
hides : (fs : List File) (p : Path) (below : Option (List ℕ)) → is_among (paths_of fs) p ≡ true → first_of_two (file_at fs p) below ≡ file_at fs p
hides [] p below h = absurd (let y : false ≡ true = h in cc)
hides (f ∷ fs) p below h =
    elim (path_eq f.0 p) as (λ b. (b || is_among (paths_of fs) p) ≡ true → first_of_two (cond b (Some f.1) (file_at fs p)) below ≡ cond b (Some f.1) (file_at fs p)) [
      | true ↦ λ k. refl
      | false ↦ λ k. hides fs p below k
    ] h

-- the files over what is left when the owned files are removed whose paths are none of theirs
pub over_left : (outs : OutSet) (fs : List File) (kept : List Path) (old new : FileMap) → paths_of fs ≡ kept
    → ((p : Path) → is_among (paths_of fs) p ≡ true → takes outs p ≡ true)
    → ((p : Path) → new p ≡ over fs (cleared_but outs kept old) p) → new ≡ restored outs fs old
over_left outs fs kept old new same fits is = λ k p. each p (takes outs p) (is_among (paths_of fs) p) refl refl k
  where
    at : (p : Path) (t a : Bool) → takes outs p ≡ t → is_among (paths_of fs) p ≡ a
        → new p ≡ first_of_two (file_at fs p) (cond (t && not a) None (old p))
    at p t a h e =
        is p ∙ ap (λ b. first_of_two (file_at fs p) (cond (b && not (is_among kept p)) None (old p))) h
        ∙ ap (λ b. first_of_two (file_at fs p) (cond (t && not b) None (old p))) (ap (λ ps. is_among ps p) (sym same) ∙ e)

    each : (p : Path) (t a : Bool) → takes outs p ≡ t → is_among (paths_of fs) p ≡ a → new p ≡ cond t (file_at fs p) (old p)
    each p true true h e = at p true true h e ∙ hides fs p (old p) e
    each p true false h e = at p true false h e ∙ two_none (file_at fs p)
    each p false a h e =
        at p false a h e ∙ ap (λ x. first_of_two x (old p)) (absent_all fs p (not_taken outs fs p fits h))

-- before the first of them is put
pub over_none : (outs : OutSet) (left kept : List Path) (old new : FileMap) → new ≡ cleared_but outs left old → left ≡ kept
    → (p : Path) → new p ≡ over [] (cleared_but outs kept old) p
over_none outs left kept old new is same p = ap (λ m. m p) is ∙ ap (λ ps. cleared_but outs ps old p) same

-- ---- where the files stand there already

-- the bytes at the path of one of the files
file_here : (fs : List File) (i : ℕ) (d : Path × List ℕ) → IsStrictlySortedBy path_cmp (paths_of fs) → i < length fs
    → file_at fs (get_or fs i d).0 ≡ Some (get_or fs i d).1
unfolding IsStrictlySortedBy
file_here [] i d sorted lt = absurd (omega arith)
file_here (f ∷ fs) zero d sorted lt = ap (λ b. cond b (Some f.1) (file_at fs f.0)) (path_self f.0)
file_here (f ∷ fs) (suc i) d sorted lt =
    ap (λ b. cond b (Some f.1) (file_at fs (get_or fs i d).0)) (less_other f.0 (get_or fs i d).0 (later f.0 fs i d sorted.0 (omega arith)))
    ∙ file_here fs i d sorted.1 (omega arith)

pub stands_so : (outs : OutSet) (fs : List File) (old : FileMap) (i : ℕ) (d : Path × List ℕ) → IsStrictlySortedBy path_cmp (paths_of fs)
    → i < length fs → takes outs (get_or fs i d).0 ≡ true → old ≡ restored outs fs old → old (get_or fs i d).0 ≡ Some (get_or fs i d).1
stands_so outs fs old i d sorted lt owned is =
    ap (λ m. m (get_or fs i d).0) is
    ∙ ap (λ b. cond b (file_at fs (get_or fs i d).0) (old (get_or fs i d).0)) owned
    ∙ file_here fs i d sorted lt

-- and each owned file is one of them
pub all_in : (outs : OutSet) (fs : List File) (old : FileMap) → old ≡ restored outs fs old
    → (p : Path) → takes outs p ≡ true → has old p ≡ true → is_among (paths_of fs) p ≡ true
all_in outs fs old is p t h = by (is_among (paths_of fs) p) refl
  where
    by : (b : Bool) → is_among (paths_of fs) p ≡ b → b ≡ true
    by true e = refl
    by false e =
        let none : old p ≡ None = ap (λ m. m p) is ∙ ap (λ b. cond b (file_at fs p) (old p)) t ∙ absent_all fs p e in
        absurd (let y : false ≡ true = sym (ap is_some none) ∙ h in cc)

-- a path of the list
pub path_at : (fs : List File) (i : ℕ) (d : Path × List ℕ) → i < length fs → is_among (paths_of fs) (get_or fs i d).0 ≡ true
path_at [] i d lt = absurd (omega arith)
path_at (f ∷ fs) zero d lt = ap (λ b. b || is_among (paths_of fs) f.0) (path_self f.0)
path_at (f ∷ fs) (suc i) d lt = right (path_eq f.0 (get_or fs i d).0) _ (path_at fs i d (omega arith))
  where
    right : (a b : Bool) → b ≡ true → (a || b) ≡ true
    right true b h = refl
    right false b h = h

-- Files that ascend by path, and marks on those that are looked up.
use Rattle.std.proofs.Common.{◌≡◌, ℕ, zero, suc, ◌+◌, ◌<◌, ◌≤◌, ◌||◌, ◌⊎◌, inl, inr, Bool, true, false, List, [], ◌∷◌, get_or, set, take, replicate, length, refl, sym, ap, subst, ◌∙◌, arith, is_lt, Ordering, Less, Equal, Greater}
use Rattle.std.specs.List.{AllByRecursion}
use Rattle.std.specs.List.Sorted.{IsNonDecreasingBy, IsPartitionPoint}
use Rattle.std.specs.Ordering.{is_eq, ordering_index}
use Rattle.std.proofs.lemmas.Bool.{cases_lt, false≢true, true≢false, false_from_ne_true}
use Rattle.std.proofs.lemmas.List.Folds.{list_any_more}
use Rattle.std.proofs.lemmas.List.Sorted.{searchable_from_sorted}
use Rattle.rel_path.specs.Paths.{Path, path_cmp, path_eq, is_among}
use Rattle.rel_path.proofs.PathLaws.{path_cmp_total, path_cmp_self, path_same, path_self, path_ties}
use Rattle.listing.specs.declared.part.Part.{Part}
use Rattle.spawn_dev.specs.Orders.{IsBefore, AscendByPath}
use Rattle.closures.specs.Named.{marks_of}
use Rattle.run_laws.specs.Closures.{names}
use Rattle.run_core.proofs.Any.{all_weaker}

abbrev Files : Type 0
Files = List (Path × List ℕ)

is_less : (r : Ordering) → is_lt r ≡ true → r ≡ Less
is_less Less h = refl
is_less Equal h = absurd (false≢true h)
is_less Greater h = absurd (false≢true h)

not_itself : (a b : Path) → a ≡ b → IsBefore a b → ⊥
not_itself a b e h = false≢true (ap is_lt (sym (path_cmp_self b)) ∙ ap (λ x. is_lt (path_cmp x b)) (sym e) ∙ h)

further : (a b c : Path) → IsBefore a b → IsBefore b c → IsBefore a c
further a b c p q = ap is_lt (path_cmp_total.trans a b c (is_less (path_cmp a b) p) (is_less (path_cmp b c) q))

apart : (a b : Path) → IsBefore a b → path_eq a b ≡ false
apart a b h = false_from_ne_true (path_eq a b) (λ e. not_itself a b (path_same a b e) h)

turned : (a b : Path) → IsBefore a b → path_eq b a ≡ false
turned a b h = false_from_ne_true (path_eq b a) (λ e. not_itself a b (sym (path_same b a e)) h)

-- ---- a search

all_at : (P : Path × List ℕ → Type 0) (fs : Files) → AllByRecursion P fs → (i : ℕ) (d : Path × List ℕ) → i < length fs → P (get_or fs i d)
all_at P [] all i d lt = absurd (omega (arith, lt))
all_at P (f ∷ fs) all zero d lt = all.0
all_at P (f ∷ fs) all (suc i) d lt = all_at P fs all.1 i d (omega (arith, lt))

pub searchable : (files : Files) (path : Path) → AscendByPath files → IsNonDecreasingBy (λ f. ordering_index (path_cmp f.0 path)) files
searchable files path up = searchable_from_sorted path_cmp_total (λ (f : Path × List ℕ). f.0) files path (λ k d from lt. next files up k d lt)
  where
    not_lt : (a b : Path) → IsBefore a b → is_lt (path_cmp b a) ≡ false
    not_lt a b h = false_from_ne_true (is_lt (path_cmp b a)) (λ back. not_itself a a refl (further a b a h back))

    next : (fs : Files) → AscendByPath fs → (k : ℕ) (d : Path × List ℕ) → k + 1 < length fs → is_lt (path_cmp (get_or fs (k + 1) d).0 (get_or fs k d).0) ≡ false
    next [] up k d lt = absurd (omega (arith, lt))
    next (f ∷ fs) up zero d lt = not_lt f.0 (get_or fs 0 d).0 (all_at (λ g. IsBefore f.0 g.0) fs up.0 0 d (omega (arith, lt)))
    next (f ∷ fs) up (suc k) d lt = let e : suc k + 1 ≡ suc (k + 1) = omega arith in rw e (next fs up.1 k d (omega (arith, lt)))

pub tied : (a b : Path) → path_cmp a b ≡ Equal → a ≡ b
tied a b e = path_same a b (path_ties a b ∙ ap is_eq e)

-- ---- marks

-- a path that no file has leaves the marks
same : (passes : Path → Bool) (path : Path) (files : Files) → AllByRecursion (λ f. path_eq path f.0 ≡ false) files → marks_of (λ p. path_eq path p || passes p) files ≡ marks_of passes files
same passes path [] all = refl
same passes path (f ∷ fs) all = rw all.0 (ap (λ ms. passes f.0 ∷ ms) (same passes path fs all.1))

-- the file that a search finds is the only one of its path
pub marked_one : (passes : Path → Bool) (files : Files) (path : Path) (i : ℕ) (d : Path × List ℕ) → AscendByPath files → i < length files → (get_or files i d).0 ≡ path → set (marks_of passes files) i true ≡ marks_of (λ p. path_eq path p || passes p) files
marked_one passes [] path i d up lt is = absurd (omega (arith, lt))
marked_one passes (f ∷ fs) path zero d up lt is =
    let here : path_eq path f.0 ≡ true = rw is (path_self path) in
    let rest = same passes path fs (all_weaker (λ g. IsBefore f.0 g.0) (λ g. path_eq path g.0 ≡ false) (λ g h. subst (λ p. path_eq p g.0 ≡ false) is (apart f.0 g.0 h)) fs up.0) in
    rw here (ap (λ ms. true ∷ ms) (sym rest))
marked_one passes (f ∷ fs) path (suc i) d up lt is =
    let before : IsBefore f.0 path = subst (IsBefore f.0) is (all_at (λ g. IsBefore f.0 g.0) fs up.0 i d (omega (arith, lt))) in
    rw (turned f.0 path before) (ap (λ ms. passes f.0 ∷ ms) (marked_one passes fs path i d up.1 (omega (arith, lt)) is))

-- a search that finds none leaves the marks
pub marked_none : (passes : Path → Bool) (files : Files) (path : Path) (i : ℕ) → IsPartitionPoint (λ f. path_cmp f.0 path ≡ Less) (λ f. path_cmp f.0 path ≡ Greater) files i → marks_of passes files ≡ marks_of (λ p. path_eq path p || passes p) files
marked_none passes files path i parts = sym (same passes path files (each files (λ k d lt. other (get_or files k d).0 (by k d lt (cases_lt k i)))))
  where
    by : (k : ℕ) (d : Path × List ℕ) → k < length files → (k < i) ⊎ (i ≤ k) → is_eq (path_cmp (get_or files k d).0 path) ≡ false
    by k d lt (inl low) = ap is_eq (parts.0 k d (omega arith) low)
    by k d lt (inr high) = ap is_eq (parts.1 k d high lt)

    other : (p : Path) → is_eq (path_cmp p path) ≡ false → path_eq path p ≡ false
    other p h = false_from_ne_true (path_eq path p) (λ e. true≢false (sym (ap is_eq (path_cmp_self path)) ∙ ap (λ q. is_eq (path_cmp q path)) (path_same path p e) ∙ h))

    each : (fs : Files) → ((k : ℕ) (d : Path × List ℕ) → k < length fs → path_eq path (get_or fs k d).0 ≡ false) → AllByRecursion (λ f. path_eq path f.0 ≡ false) fs
    each [] at = tt
    each (f ∷ fs) at = (at 0 f (omega arith), each fs (λ k d lt. at (suc k) d (omega (arith, lt))))

-- ---- one path more

pub marks_agree : (s t : Path → Bool) → ((path : Path) → s path ≡ t path) → (files : Files) → marks_of s files ≡ marks_of t files
marks_agree s t agree [] = refl
marks_agree s t agree (f ∷ fs) = λ i. agree f.0 i ∷ marks_agree s t agree fs i

turn : (k a b : Bool) → (k || (a || b)) ≡ ((a || k) || b)
turn true true b = refl
turn true false b = refl
turn false true b = refl
turn false false b = refl

pub one_more : (passes : Path → Bool) (paths : List Path) (i : ℕ) (key : Path) (files : Files) → i < length paths → key ≡ get_or paths i key → marks_of (λ p. path_eq key p || (is_among (take i paths) p || passes p)) files ≡ marks_of (λ p. is_among (take (i + 1) paths) p || passes p) files
one_more passes paths i key files lt is =
    marks_agree (λ p. path_eq key p || (is_among (take i paths) p || passes p)) (λ p. is_among (take (i + 1) paths) p || passes p)
    (λ p. turn (path_eq key p) (is_among (take i paths) p) (passes p) ∙ ap (λ k. (is_among (take i paths) p || k) || passes p) (ap (λ k. path_eq k p) is)
    ∙ ap (λ a. a || passes p) (sym (list_any_more (λ other. path_eq other p) paths i key lt)))
    files

-- the inputs of one part more
pub one_part_more : (parts : List Part) (i : ℕ) (part : Part) (files : Files) → i < length parts → part ≡ get_or parts i part → marks_of (λ p. is_among part.inputs p || names (take i parts) p) files ≡ marks_of (names (take (i + 1) parts)) files
one_part_more parts i part files lt is =
    marks_agree (λ p. is_among part.inputs p || names (take i parts) p) (names (take (i + 1) parts))
    (λ p. or_turned (is_among part.inputs p) (names (take i parts) p) ∙ ap (λ (k : Part). names (take i parts) p || is_among k.inputs p) is ∙ sym (list_any_more (λ (k : Part). is_among k.inputs p) parts i part lt))
    files
  where
    or_turned : (a b : Bool) → (a || b) ≡ (b || a)
    or_turned true true = refl
    or_turned true false = refl
    or_turned false true = refl
    or_turned false false = refl

pub no_marks : (files : Files) → replicate (length files) false ≡ marks_of (λ p. false) files
no_marks [] = refl
no_marks (f ∷ fs) = ap (λ ms. false ∷ ms) (no_marks fs)

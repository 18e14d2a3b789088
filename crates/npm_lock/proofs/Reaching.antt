-- The work list marks the least set that holds what the roots find and what its numbers find.
use Rattle.std.proofs.Common.{◌≡◌, ◌≢◌, ◌⊎◌, inl, inr, ◌<◌, ◌+◌, ℕ, Bool, true, false, List, [], ◌∷◌, ◌++◌, length, get_or, set, replicate, sum_by, Option, Some, None, refl, sym, ap, ◌∙◌, arith, get_or-set_same, get_or-set_other, length-set, length-append, ⊎_elim, ◌≤◌, zero, suc}
use Rattle.std.proofs.lemmas.Bool.{cases_Bool, cases_lt, false≢true, cases_eq}
use Rattle.std.proofs.lemmas.List.{get_or_past, get_or-replicate, length-replicate}
use Rattle.std.proofs.lemmas.List.Sums.{sum_by-set}
use Rattle.npm_lock.specs.Sets.{Has, Within}
use Rattle.npm_lock.specs.Reach.{is_set, finds_at, HoldsItsFinds, IsClosedUnder, IsReached, AreBelow, AllBelow, mark, mark_all}

abbrev Work : Type 0
Work = List Bool × List ℕ

pub has_left : {X : Type 0} (xs ys : List X) (x : X) → Has xs x → Has (xs ++ ys) x
has_left [] ys x h = absurd h
has_left (y ∷ xs) ys x (inl e) = inl e
has_left (y ∷ xs) ys x (inr h) = inr (has_left xs ys x h)

pub has_right : {X : Type 0} (xs ys : List X) (x : X) → Has ys x → Has (xs ++ ys) x
has_right [] ys x h = h
has_right (y ∷ xs) ys x h = inr (has_right xs ys x h)

pub has_append : {X : Type 0} (xs ys : List X) (x : X) → Has (xs ++ ys) x → Has xs x ⊎ Has ys x
has_append [] ys x h = inr h
has_append (y ∷ xs) ys x (inl e) = inl (inl e)
has_append (y ∷ xs) ys x (inr h) = ⊎_elim (λ l. inl (inr l)) inr (has_append xs ys x h)

-- a number of the set is one of its flags
pub set_below : (flags : List Bool) (n : ℕ) → is_set flags n ≡ true → n < length flags
set_below flags n e = by (cases_lt n (length flags)) where
  by : (n < length flags) ⊎ (length flags ≤ n) → n < length flags
  by (inl lt) = lt
  by (inr ge) = absurd (false≢true (sym (get_or_past flags n false ge) ∙ e))

-- what is not in the set yet
abbrev missing : Bool → ℕ
missing true = 0
missing false = 1

abbrev pub left : Work → ℕ
left w = sum_by missing w.0 + length w.1

module _ (n : ℕ) (w : Work) where
  -- the two ways of a mark
  pub ways : (P : Work → Type 0) → (is_set w.0 n ≡ true → P w) → (is_set w.0 n ≡ false → P (set w.0 n true, w.1 ++ n ∷ [])) → P (mark n w)
  ways P there new =
      elim (cases_Bool (is_set w.0 n)) [
        | inl t ↦ rw t (there t)
        | inr f ↦ rw f (new f)
      ]

  pub mark-length : length (mark n w).0 ≡ length w.0
  mark-length = ways (λ v. length v.0 ≡ length w.0) (λ _. refl) (λ _. length-set w.0 n true)

  pub mark-sets : n < length w.0 → is_set (mark n w).0 n ≡ true
  mark-sets lt = ways (λ v. is_set v.0 n ≡ true) (λ t. t) (λ _. get_or-set_same w.0 n true false lt)

  pub mark-kept : (k : ℕ) → is_set w.0 k ≡ true → is_set (mark n w).0 k ≡ true
  mark-kept k e = ways (λ v. is_set v.0 k ≡ true) (λ _. e) (λ f. get_or-set_other w.0 n k true false (λ same. false≢true (sym f ∙ ap (is_set w.0) (sym same) ∙ e)) ∙ e)

  pub mark-new : (k : ℕ) → is_set (mark n w).0 k ≡ true → (is_set w.0 k ≡ true) ⊎ (k ≡ n)
  mark-new k = ways (λ v. is_set v.0 k ≡ true → (is_set w.0 k ≡ true) ⊎ (k ≡ n)) (λ _ e. inl e) (λ f e. by (cases_eq k n) e) where
    by : (k ≡ n) ⊎ (k ≢ n) → is_set (set w.0 n true) k ≡ true → (is_set w.0 k ≡ true) ⊎ (k ≡ n)
    by (inl same) e = inr same
    by (inr other) e = inl (sym (get_or-set_other w.0 n k true false other) ∙ e)

  pub mark-waits : (k : ℕ) → Has w.1 k → Has (mark n w).1 k
  mark-waits k h = ways (λ v. Has v.1 k) (λ _. h) (λ _. has_left w.1 (n ∷ []) k h)

  pub mark-waiting : (k : ℕ) → is_set (mark n w).0 k ≡ true → (is_set w.0 k ≡ true) ⊎ Has (mark n w).1 k
  mark-waiting k = ways (λ v. is_set v.0 k ≡ true → (is_set w.0 k ≡ true) ⊎ Has v.1 k) (λ _ e. inl e) (λ f e. by (cases_eq k n) e) where
    by : (k ≡ n) ⊎ (k ≢ n) → is_set (set w.0 n true) k ≡ true → (is_set w.0 k ≡ true) ⊎ Has (w.1 ++ n ∷ []) k
    by (inl same) e = inr (has_right w.1 (n ∷ []) k (inl (sym same)))
    by (inr other) e = inl (sym (get_or-set_other w.0 n k true false other) ∙ e)

  pub mark-todo : (k : ℕ) → Has (mark n w).1 k → Has w.1 k ⊎ (k ≡ n)
  mark-todo k = ways (λ v. Has v.1 k → Has w.1 k ⊎ (k ≡ n)) (λ _ h. inl h) (λ _ h. ⊎_elim inl (λ r. ⊎_elim (λ e. inr (sym e)) (λ z. absurd z) r) (has_append w.1 (n ∷ []) k h))

  pub mark-left : n < length w.0 → left (mark n w) ≡ left w
  mark-left lt = ways (λ v. left v ≡ left w) (λ _. refl) (λ f. omega (arith, sum_by-set missing w.0 n true false lt, ap missing f, length-append w.1 (n ∷ [])))

-- a fact that each mark keeps
all_keeps : (P : Work → Type 0) (size : ℕ) (found : List (Option ℕ)) → ((n : ℕ) (w : Work) → n < size → Has found (Some n) → P w → P (mark n w)) → AreBelow size found → (w : Work) → P w → P (mark_all found w)
all_keeps P size [] keeps below w p = p
all_keeps P size (None ∷ found) keeps below w p = all_keeps P size found (λ n v lt h. keeps n v lt (inr h)) below w p
all_keeps P size (Some n ∷ found) keeps below w p = all_keeps P size found (λ n v lt h. keeps n v lt (inr h)) below.1 (mark n w) (keeps n w below.0 (inl refl) p)

module _ (size : ℕ) (found : List (Option ℕ)) (below : AreBelow size found) (w : Work) (sized : length w.0 ≡ size) where
  pub all-length : length (mark_all found w).0 ≡ size
  all-length = all_keeps (λ v. length v.0 ≡ size) size found (λ n v lt h e. mark-length n v ∙ e) below w sized

  pub all-left : left (mark_all found w) ≡ left w
  all-left = (all_keeps (λ v. (length v.0 ≡ size) × (left v ≡ left w)) size found (λ n v lt h p. (mark-length n v ∙ p.0, mark-left n v (omega (arith, lt, p.0)) ∙ p.1)) below w (sized, refl)).1

  pub all-kept : (k : ℕ) → is_set w.0 k ≡ true → is_set (mark_all found w).0 k ≡ true
  all-kept k e = all_keeps (λ v. is_set v.0 k ≡ true) size found (λ n v lt h p. mark-kept n v k p) below w e

  pub all-waits : (k : ℕ) → Has w.1 k → Has (mark_all found w).1 k
  all-waits k h = all_keeps (λ v. Has v.1 k) size found (λ n v lt _ p. mark-waits n v k p) below w h

  pub all-waiting : (k : ℕ) → is_set (mark_all found w).0 k ≡ true → (is_set w.0 k ≡ true) ⊎ Has (mark_all found w).1 k
  all-waiting k = all_keeps (λ v. is_set v.0 k ≡ true → (is_set w.0 k ≡ true) ⊎ Has v.1 k) size found
      (λ n v lt h p e. ⊎_elim (λ q. ⊎_elim inl (λ t. inr (mark-waits n v k t)) (p q)) inr (mark-waiting n v k e)) below w (λ e. inl e)

  pub all-within : (other : ℕ → Bool) → ((n : ℕ) → Has found (Some n) → other n ≡ true) → ((k : ℕ) → is_set w.0 k ≡ true → other k ≡ true) → (k : ℕ) → is_set (mark_all found w).0 k ≡ true → other k ≡ true
  all-within other finds = all_keeps (λ v. (k : ℕ) → is_set v.0 k ≡ true → other k ≡ true) size found
      (λ n v lt h p k e. ⊎_elim (p k) (λ same. rw same (finds n h)) (mark-new n v k e)) below w

  pub all-set : ((k : ℕ) → Has w.1 k → is_set w.0 k ≡ true) → (k : ℕ) → Has (mark_all found w).1 k → is_set (mark_all found w).0 k ≡ true
  all-set = λ set. (all_keeps (λ v. (length v.0 ≡ size) × ((k : ℕ) → Has v.1 k → is_set v.0 k ≡ true)) size found
      (λ n v lt h p. (mark-length n v ∙ p.0, λ k t. ⊎_elim (λ old. mark-kept n v k (p.1 k old)) (λ same. rw same (mark-sets n v (omega (arith, lt, p.0)))) (mark-todo n v k t))) below w (sized, set)).1

pub all-sets : (size : ℕ) (found : List (Option ℕ)) → AreBelow size found → (w : Work) → length w.0 ≡ size → (n : ℕ) → Has found (Some n) → is_set (mark_all found w).0 n ≡ true
all-sets size [] below w sized n h = absurd h
all-sets size (None ∷ found) below w sized n (inl e) = absurd (cc)
all-sets size (None ∷ found) below w sized n (inr h) = all-sets size found below w sized n h
all-sets size (Some m ∷ found) below w sized n (inl e) =
    let same : m ≡ n = cc in
    all-kept size found below.1 (mark m w) (mark-length m w ∙ sized) n (rw (← same) (mark-sets m w (omega (arith, below.0, sized))))
all-sets size (Some m ∷ found) below w sized n (inr h) = all-sets size found below.1 (mark m w) (mark-length m w ∙ sized) n h

-- ---- the loop

pub record Going (finds : List (List (Option ℕ))) (base : List Bool) (roots : List (Option ℕ)) (w : Work) : Type 0 where
  pub size : length w.0 ≡ length finds
  pub begun : Within (is_set base) (is_set w.0)
  pub waiting : (n : ℕ) → Has w.1 n → is_set w.0 n ≡ true
  pub rooted : (n : ℕ) → Has roots (Some n) → is_set w.0 n ≡ true
  pub done : (n : ℕ) → is_set w.0 n ≡ true → Has w.1 n ⊎ ((m : ℕ) → Has (finds_at finds n) (Some m) → is_set w.0 m ≡ true)
  pub within : (other : ℕ → Bool) → IsClosedUnder finds base roots other → (n : ℕ) → is_set w.0 n ≡ true → other n ≡ true

pub finds_below : (size : ℕ) (finds : List (List (Option ℕ))) → AllBelow size finds → (n : ℕ) → AreBelow size (finds_at finds n)
finds_below size [] all n = tt
finds_below size (found ∷ finds) all zero = all.0
finds_below size (found ∷ finds) all (suc n) = finds_below size finds all.1 n

-- the flags of nothing
pub none_set : (n k : ℕ) → is_set (replicate n false) k ≡ true → ⊥
none_set n k e = ⊎_elim (λ lt. false≢true (sym (get_or-replicate n k false false lt) ∙ e)) (λ ge. false≢true (sym (get_or_past (replicate n false) k false (omega (arith, ge, length-replicate n false))) ∙ e)) (cases_lt k n)

module _ (finds : List (List (Option ℕ))) (base : List Bool) (roots : List (Option ℕ)) where
  pub started : AreBelow (length finds) roots → length base ≡ length finds → HoldsItsFinds finds (is_set base) → (w : Work) → w ≡ mark_all roots (base, []) → Going finds base roots w
  started below sized holds w is = rw is (record {
    size = all-length size roots below w0 sized;
    waiting = all-set size roots below w0 sized (λ k h. absurd h);
    rooted = all-sets size roots below w0 sized;
    begun = all-kept size roots below w0 sized;
    done = λ n e. ⊎_elim (λ old. inr (λ m f. all-kept size roots below w0 sized m (holds n m old f))) inl (all-waiting size roots below w0 sized n e);
    within = λ other closed. all-within size roots below w0 sized other closed.rooted closed.begun;
  }) where
    size : ℕ
    size = length finds

    w0 : Work
    w0 = (base, [])

  pub stepped : AllBelow (length finds) finds → (w : Work) (rest : List ℕ) (n : ℕ) → w.1 ≡ rest ++ n ∷ [] → Going finds base roots w → Going finds base roots (mark_all (finds_at finds n) (w.0, rest))
  stepped all w rest n split going = record {
    size = all-length size found below v going.size;
    waiting = all-set size found below v going.size (λ k h. going.waiting k (rw split (has_left rest (n ∷ []) k h)));
    begun = λ k h. all-kept size found below v going.size k (going.begun k h);
    rooted = λ k h. all-kept size found below v going.size k (going.rooted k h);
    done = λ k e. ⊎_elim (λ old. ⊎_elim (λ h. waited k (has_append rest (n ∷ []) k (rw split at h))) (λ all. inr (λ m f. all-kept size found below v going.size m (all m f))) (going.done k old)) inl (all-waiting size found below v going.size k e);
    within = λ other closed. all-within size found below v going.size other (λ m h. closed.members n m (going.within other closed n here) h) (λ k old. going.within other closed k old);
  } where
    size : ℕ
    size = length finds

    found : List (Option ℕ)
    found = finds_at finds n

    below : AreBelow size found
    below = finds_below size finds all n

    v : Work
    v = (w.0, rest)

    here : is_set w.0 n ≡ true
    here = going.waiting n (rw split (has_right rest (n ∷ []) n (inl refl)))

    waited : (k : ℕ) → Has rest k ⊎ Has (n ∷ []) k → Has (mark_all found v).1 k ⊎ ((m : ℕ) → Has (finds_at finds k) (Some m) → is_set (mark_all found v).0 m ≡ true)
    waited k (inl h) = inl (all-waits size found below v going.size k h)
    waited k (inr (inl e)) = inr (λ m f. all-sets size found below v going.size m (rw e f))
    waited k (inr (inr z)) = absurd z

  pub ended : (w : Work) → w.1 ≡ [] → Going finds base roots w → IsReached finds base roots w.0
  ended w over going = record {
    size = going.size;
    least = (record { begun = going.begun; rooted = going.rooted; members = λ n m e f. ⊎_elim (λ h. absurd (rw over at h)) (λ all. all m f) (going.done n e) }, λ other closed k e. going.within other closed k e);
  }

  -- one turn of the loop: what was waiting last is taken, and what it finds is marked
  pub turned : AllBelow (length finds) finds → (w next now : Work) (n : ℕ) (found : List (Option ℕ)) → next.0 ≡ w.0 → w.1 ≡ next.1 ++ n ∷ [] → found ≡ finds_at finds n → now ≡ mark_all found next
      → Going finds base roots w → Going finds base roots now × (left now < left w)
  turned all w next now n found set split is made going =
      let same : (w.0, next.1) ≡ next = ap (λ s. (s, next.1)) (sym set) in
      let made' : now ≡ mark_all (finds_at finds n) (w.0, next.1) = made ∙ ap (λ f. mark_all f next) is ∙ ap (mark_all (finds_at finds n)) (sym same) in
      let kept : left (mark_all (finds_at finds n) (w.0, next.1)) ≡ left (w.0, next.1) = all-left (length finds) (finds_at finds n) (finds_below (length finds) finds all n) (w.0, next.1) going.size in
      (rw made' (stepped all w next.1 n split going), rw made' (omega (arith, kept, ap length split, length-append next.1 (n ∷ []))))

  pub taken_below : (w : Work) (n : ℕ) (rest : List ℕ) → w.1 ≡ rest ++ n ∷ [] → Going finds base roots w → n < length finds
  taken_below w n rest split going = omega (arith, set_below w.0 n (going.waiting n (rw split (has_right rest (n ∷ []) n (inl refl)))), going.size)

-- what is read there
pub read_at : (finds : List (List (Option ℕ))) (n : ℕ) (found : List (Option ℕ)) → n < length finds → found ≡ get_or finds n found → found ≡ finds_at finds n
read_at [] n found lt e = absurd (omega (arith, lt))
read_at (x ∷ finds) zero found lt e = e
read_at (x ∷ finds) (suc n) found lt e = read_at finds n found (omega (arith, lt)) e

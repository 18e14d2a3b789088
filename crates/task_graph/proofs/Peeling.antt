-- One task after another comes into the order.
use Rattle.std.proofs.Common.{◌≡◌, ◌≢◌, ◌==◌, ◌&&◌, ◌||◌, ◌⊎◌, inl, inr, ◌+◌, ◌-◌, ◌<◌, ◌≤◌, ℕ, zero, suc, Bool, true, false, cond, not, List, [], ◌∷◌, ◌++◌, length, refl, sym, ap, ◌∙◌, subst, arith, eqb, nat_lt, count_by, append_assoc, append-nil}
use Rattle.std.specs.List.{list_all, list_any, AllByRecursion, IsDistinct}
use Rattle.std.specs.List.Sorted.{IsStrictlySortedBy}
use Rattle.std.specs.Ordering.{nat_cmp, is_gt}
use Rattle.std.specs.declared.cmp.Ordering.TheVariants.{Less, Greater}
use Rattle.std.specs.BTreeMap.{is_at}
use Rattle.std.specs.Cmp.{nat_eq_equiv, nat_cmp_is}
use Rattle.std.proofs.lemmas.Bool.{false≢true}
use Rattle.std.proofs.lemmas.Bool.Decides.{eqb_tells, nat_tests}
use Rattle.std.proofs.lemmas.List.Sums.{sum_by-cons}
use Rattle.std.proofs.lemmas.Map.Keys.{IsDistinct-push}
use Rattle.std.proofs.lemmas.Map.Steps.{length-le_from_distinct_below}
use Rattle.workspaces.specs.Lists.{places, passes_at}
use Rattle.workspaces.specs.Reach.{is_in, row_at, AreBelow}
use Rattle.workspaces.specs.Turned.{Turned}
use Rattle.task_graph.specs.declared.slots.Slot.{Slot}
use Rattle.task_graph.specs.Rows.{AreRows}
use Rattle.task_graph.specs.Sorting.{is_ready, IsNext, FollowRows, Fits, slot_at, settled}
use Rattle.task_graph.proofs.Ids.{or_cases, or_left, or_right, and_first, and_second}
use Rattle.workspaces.proofs.Marking.{in_more, self_place, from-in, in-from}
use Rattle.workspaces.proofs.Lists.{less_nat, nat_same}
use Rattle.workspaces.proofs.Order.{all_from, all_has}
use Rattle.workspaces.proofs.Turning.{in-places, places-push}
use Rattle.task_graph.proofs.Counted.{at_number}
use Rattle.task_graph.proofs.Placed.{length-more}

-- ---- tests over a row

abbrev left_of : List ℕ → ℕ → Bool
left_of order d = not (is_in order d)

count-cons : (p : ℕ → Bool) (d : ℕ) (row : List ℕ) → count_by p (d ∷ row) ≡ cond (p d) 1 0 + count_by p row
count-cons p d row = sum_by-cons (λ x. cond (p x) 1 0) d row

more_than_none : (n : ℕ) → (1 + n == 0) ≡ false
more_than_none n = grind (arith, nat_tests)

-- nothing is left where all are there
pub all_none : (order row : List ℕ) → (count_by (left_of order) row == 0) ≡ list_all (is_in order) row
all_none order [] = refl
all_none order (d ∷ row) = ap (λ n. n == 0) (count-cons (left_of order) d row) ∙ by (is_in order d) (all_none order row) where
  by : (t : Bool) → (count_by (left_of order) row == 0) ≡ list_all (is_in order) row → (cond (not t) 1 0 + count_by (left_of order) row == 0) ≡ (t && list_all (is_in order) row)
  by true later = ap (λ n. n == 0) (none_more (count_by (left_of order) row)) ∙ later where
    none_more : (n : ℕ) → 0 + n ≡ n
    none_more n = omega arith
  by false later = more_than_none (count_by (left_of order) row)

in_head : (d x : ℕ) (row : List ℕ) → is_in (d ∷ row) x ≡ false → ((d == x) ≡ false) × (is_in row x ≡ false)
in_head d x row none = by (d == x) refl none where
  by : (t : Bool) → (d == x) ≡ t → (t || is_in row x) ≡ false → ((d == x) ≡ false) × (is_in row x ≡ false)
  by true e none = absurd (false≢true (sym none))
  by false e none = (e, none)

turned : (a b : ℕ) → (a == b) ≡ false → (b == a) ≡ false
turned a b e = grind (arith, nat_tests, e)

or_none : (t : Bool) → (t || false) ≡ t
or_none true = refl
or_none false = refl

or_true : (t : Bool) → (t || true) ≡ true
or_true true = refl
or_true false = refl

-- a row without the next one is as it was
module _ (order : List ℕ) (next : ℕ) where
  same_left : (d : ℕ) → (d == next) ≡ false → left_of (order ++ next ∷ []) d ≡ left_of order d
  same_left d apart = ap not (in_more order next d ∙ rw (turned d next apart) (or_none (is_in order d)))

  count_same : (row : List ℕ) → is_in row next ≡ false → count_by (left_of (order ++ next ∷ [])) row ≡ count_by (left_of order) row
  count_same [] none = refl
  count_same (d ∷ row) none =
      let parts = in_head d next row none in
      count-cons (left_of (order ++ next ∷ [])) d row ∙ ((λ j. cond (same_left d parts.0 j) 1 0 + count_same row parts.1 j) ∙ sym (count-cons (left_of order) d row))

  all_same : (row : List ℕ) → is_in row next ≡ false → list_all (is_in (order ++ next ∷ [])) row ≡ list_all (is_in order) row
  all_same row none = sym (all_none (order ++ next ∷ []) row) ∙ (ap (λ n. n == 0) (count_same row none) ∙ all_none order row)

  -- and one with it has one less
  count_less : (row : List ℕ) → IsStrictlySortedBy nat_cmp row → is_in order next ≡ false → is_in row next ≡ true → count_by (left_of order) row ≡ 1 + count_by (left_of (order ++ next ∷ [])) row
  unfolding IsStrictlySortedBy
  count_less [] up fresh some = absurd (false≢true some)
  count_less (d ∷ row) up fresh some = count-cons (left_of order) d row ∙ (by (d == next) refl some (count_less row up.1 fresh) ∙ ap (λ n. 1 + n) (sym (count-cons (left_of (order ++ next ∷ [])) d row))) where
    later : is_in row d ≡ false
    later = none_of (is_in row d) refl where
      none_of : (t : Bool) → is_in row d ≡ t → t ≡ false
      none_of true e = absurd (omega (arith, less_nat d d (all_has (λ y. nat_cmp d y ≡ Less) row d up.0 (from-in row d e))))
      none_of false e = refl

    by : (t : Bool) → (d == next) ≡ t → (t || is_in row next) ≡ true → (is_in row next ≡ true → count_by (left_of order) row ≡ 1 + count_by (left_of (order ++ next ∷ [])) row)
        → cond (left_of order d) 1 0 + count_by (left_of order) row ≡ 1 + (cond (left_of (order ++ next ∷ []) d) 1 0 + count_by (left_of (order ++ next ∷ [])) row)
    by true e some inner =
        let same : d ≡ next = nat_same d next e in
        let old : left_of order d ≡ true = ap (λ n. not (is_in order n)) same ∙ ap not fresh in
        let here : is_in (order ++ next ∷ []) d ≡ true = in_more order next d ∙ or_right (is_in order d) (next == d) (subst (λ n. (next == n) ≡ true) (sym same) (self_place next)) in
        let new : left_of (order ++ next ∷ []) d ≡ false = ap not here in
        let rest : count_by (left_of (order ++ next ∷ [])) row ≡ count_by (left_of order) row = count_same row (subst (λ n. is_in row n ≡ false) same later) in
        rw (old, new, rest) (omega arith)
    by false e some inner = let rest = inner some in rw (same_left d e) (plus (cond (left_of order d) 1 0) (count_by (left_of order) row) (count_by (left_of (order ++ next ∷ [])) row) rest) where
      plus : (a b c : ℕ) → b ≡ 1 + c → a + b ≡ 1 + (a + c)
      plus a b c e = omega (arith, e)

  -- what was there stays
  grows : (d : ℕ) → is_in order d ≡ true → is_in (order ++ next ∷ []) d ≡ true
  grows d is = in_more order next d ∙ or_left (is_in order d) (next == d) is

  all_grow : (row : List ℕ) → list_all (is_in order) row ≡ true → list_all (is_in (order ++ next ∷ [])) row ≡ true
  all_grow [] all = refl
  all_grow (d ∷ row) all = rw (grows d (and_first (is_in order d) (list_all (is_in order) row) all)) (all_grow row (and_second (is_in order d) (list_all (is_in order) row) all))

pub all_member : (order row : List ℕ) (d : ℕ) → list_all (is_in order) row ≡ true → is_in row d ≡ true → is_in order d ≡ true
all_member order [] d all is = absurd (false≢true is)
all_member order (x ∷ row) d all is = by (or_cases (x == d) (is_in row d) is) (all_member order row d (and_second (is_in order x) (list_all (is_in order) row) all)) where
  by : ((x == d) ≡ true) ⊎ (is_in row d ≡ true) → (is_in row d ≡ true → is_in order d ≡ true) → is_in order d ≡ true
  by (inl here) further = subst (λ n. is_in order n ≡ true) (nat_same x d here) (and_first (is_in order x) (list_all (is_in order) row) all)
  by (inr later) further = further later

-- ---- the order

follow_more : (rows : List (List ℕ)) (before ns : List ℕ) (n : ℕ) → FollowRows rows before ns → IsNext rows (before ++ ns) n → FollowRows rows before (ns ++ n ∷ [])
follow_more rows before [] n follow next = (subst (λ b. IsNext rows b n) (append-nil before) next, tt)
follow_more rows before (m ∷ ns) n follow next = (follow.0, follow_more rows (before ++ m ∷ []) ns n follow.1 (subst (λ b. IsNext rows b n) (sym (append_assoc before (m ∷ []) ns)) next))

-- ---- users

passes_row : (test : List ℕ → Bool) → test [] ≡ false → (rows : List (List ℕ)) (n : ℕ) → passes_at test rows n ≡ test (row_at rows n)
passes_row test none [] n = sym none
passes_row test none (row ∷ rows) zero = refl
passes_row test none (row ∷ rows) (suc n) = passes_row test none rows n

pub users_are : (rows users : List (List ℕ)) (next n : ℕ) → Turned rows users → next < length users → is_in (row_at users next) n ≡ is_in (row_at rows n) next
users_are rows users next n turn less = ap (λ ns. is_in ns n) (turn next less) ∙ (in-places (λ row. is_in row next) rows n ∙ passes_row (λ row. is_in row next) refl rows n)

row_within : (rows : List (List ℕ)) (n next : ℕ) → is_in (row_at rows n) next ≡ true → n < length rows
row_within [] n next is = absurd (false≢true is)
row_within (row ∷ rows) zero next is = omega arith
row_within (row ∷ rows) (suc n) next is = let less = row_within rows n next is in omega (arith, less)

pub users_below : (rows users : List (List ℕ)) (next : ℕ) → Turned rows users → next < length users → AreBelow (length rows) (row_at users next)
users_below rows users next turn less = all_from (λ n. n < length rows) (row_at users next) (λ n has. row_within rows n next (sym (users_are rows users next n turn less) ∙ in-from (row_at users next) n has))

pub row_up : (rows : List (List ℕ)) → AllByRecursion (IsStrictlySortedBy nat_cmp) rows → (n : ℕ) → IsStrictlySortedBy nat_cmp (row_at rows n)
unfolding IsStrictlySortedBy
row_up [] all n = tt
row_up (row ∷ rows) all zero = all.0
row_up (row ∷ rows) all (suc n) = row_up rows all.1 n

-- ---- what is kept

pub record Peels (rows : List (List ℕ)) (order : List ℕ) (slots : List Slot) (waits : ℕ → Bool) : Type 0 where
  pub same : length slots ≡ length rows
  pub follow : FollowRows rows [] order
  pub fits : (n : ℕ) → Fits rows order n (slot_at slots n)
  pub ready : (n : ℕ) → waits n ≡ is_ready rows order n
  pub inner : (n : ℕ) → is_in order n ≡ true → (n < length rows) × (list_all (is_in order) (row_at rows n) ≡ true)
  pub apart : IsDistinct eqb order

-- nothing is in the order
pub peels_first : (rows : List (List ℕ)) (slots : List Slot) (waits : ℕ → Bool) → length slots ≡ length rows → ((n : ℕ) → Fits rows [] n (slot_at slots n)) → ((n : ℕ) → waits n ≡ is_ready rows [] n) → Peels rows [] slots waits
unfolding IsDistinct
peels_first rows slots waits same fits ready = record {
  same = same;
  follow = tt;
  fits = fits;
  ready = ready;
  inner = λ n is. absurd (false≢true is);
  apart = tt;
}

pub below_of : (a b : ℕ) → nat_lt a b ≡ true → a < b
below_of a b e = grind (arith, nat_tests, e)

flipped : (n : ℕ) (xs : List ℕ) → list_any (eqb n) xs ≡ is_in xs n
flipped n [] = refl
flipped n (x ∷ xs) = λ j. eqb_flip n x j || flipped n xs j where
  eqb_flip : (a b : ℕ) → eqb a b ≡ (b == a)
  eqb_flip a b = by (eqb_tells a b) where
    by : ((eqb a b ≡ true) × (a ≡ b)) ⊎ ((eqb a b ≡ false) × (a ≢ b)) → eqb a b ≡ (b == a)
    by (inl same) = same.0 ∙ sym (subst (λ w. (w == a) ≡ true) same.1 (self_place a))
    by (inr other) = other.0 ∙ sym (turned a b other.0)

module _ (rows : List (List ℕ)) (order : List ℕ) (slots : List Slot) (waits : ℕ → Bool) (peels : Peels rows order slots waits) (next : ℕ) (waiting : waits next ≡ true) where
  parts : (nat_lt next (length rows) && (not (is_in order next) && list_all (is_in order) (row_at rows next))) ≡ true
  parts = sym (peels.ready next) ∙ waiting

  rest : (not (is_in order next) && list_all (is_in order) (row_at rows next)) ≡ true
  rest = and_second (nat_lt next (length rows)) (not (is_in order next) && list_all (is_in order) (row_at rows next)) parts

  pub next_below : next < length rows
  next_below = below_of next (length rows) (and_first (nat_lt next (length rows)) (not (is_in order next) && list_all (is_in order) (row_at rows next)) parts)

  next_fresh : is_in order next ≡ false
  next_fresh = by (is_in order next) refl where
    by : (t : Bool) → is_in order next ≡ t → t ≡ false
    by true e = absurd (false≢true (ap not (sym e) ∙ and_first (not (is_in order next)) (list_all (is_in order) (row_at rows next)) rest))
    by false e = refl

  next_all : list_all (is_in order) (row_at rows next) ≡ true
  next_all = and_second (not (is_in order next)) (list_all (is_in order) (row_at rows next)) rest

  -- it does not depend on itself
  next_apart : is_in (row_at rows next) next ≡ false
  next_apart = by (is_in (row_at rows next) next) refl where
    by : (t : Bool) → is_in (row_at rows next) next ≡ t → t ≡ false
    by true e = absurd (false≢true (sym next_fresh ∙ all_member order (row_at rows next) next next_all e))
    by false e = refl

  next_distinct : IsDistinct eqb (order ++ next ∷ [])
  next_distinct = IsDistinct-push nat_eq_equiv order next peels.apart (flipped next order ∙ next_fresh)

  next_inner : (n : ℕ) → is_in (order ++ next ∷ []) n ≡ true → (n < length rows) × (list_all (is_in (order ++ next ∷ [])) (row_at rows n) ≡ true)
  next_inner n is = by (or_cases (is_in order n) (next == n) (sym (in_more order next n) ∙ is)) where
    by : (is_in order n ≡ true) ⊎ ((next == n) ≡ true) → (n < length rows) × (list_all (is_in (order ++ next ∷ [])) (row_at rows n) ≡ true)
    by (inl before) = let inner = peels.inner n before in (inner.0, all_grow order next (row_at rows n) inner.1)
    by (inr here) = subst (λ m. (m < length rows) × (list_all (is_in (order ++ next ∷ [])) (row_at rows m) ≡ true)) (nat_same next n here) (next_below, all_grow order next (row_at rows next) next_all)

  -- there is room for it
  pub room : length order < length rows
  room =
      let most : length (order ++ next ∷ []) ≤ length rows = length-le_from_distinct_below (order ++ next ∷ []) (length rows) next_distinct (λ q is. (next_inner q (sym (flipped q (order ++ next ∷ [])) ∙ is)).0) in
      omega (arith, most, length-more order next)

  -- those that depend on it have an open dependency
  pub users_open : AreRows rows → (n : ℕ) → is_in (row_at rows n) next ≡ true → 0 < (slot_at slots n).unmet
  users_open are n is =
      let less = count_less order next (row_at rows n) (row_up rows are.ascend n) next_fresh is in
      omega (arith, less, (peels.fits n).unmet)

  -- all of it, once those that depend on it are told
  module _ (are : AreRows rows) (users : List ℕ) (uses : (n : ℕ) → is_in users n ≡ is_in (row_at rows n) next) (least : (q : ℕ) → q < next → waits q ≡ false)
      (new : List Slot) (woken : ℕ → Bool) (same : length new ≡ length slots)
      (settles : (n : ℕ) → slot_at new n ≡ cond (is_in users n) (settled (length order) (slot_at slots n)) (slot_at slots n))
      (wakes : (n : ℕ) → woken n ≡ (cond (is_at (nat_cmp next) n) false (waits n) || (is_in users n && ((slot_at new n).unmet == 0)))) where
    new_fits : (n : ℕ) → Fits rows (order ++ next ∷ []) n (slot_at new n)
    new_fits n = subst (Fits rows (order ++ next ∷ []) n) (sym (settles n ∙ ap (λ t. cond t (settled (length order) (slot_at slots n)) (slot_at slots n)) (uses n))) (by (is_in (row_at rows n) next) refl) where
      by : (t : Bool) → is_in (row_at rows n) next ≡ t → Fits rows (order ++ next ∷ []) n (cond t (settled (length order) (slot_at slots n)) (slot_at slots n))
      by true e = record {
        unmet = one_less (slot_at slots n).unmet (count_by (left_of order) (row_at rows n)) (count_by (left_of (order ++ next ∷ [])) (row_at rows n)) (peels.fits n).unmet (count_less order next (row_at rows n) (row_up rows are.ascend n) next_fresh e);
        places = ap (λ ns. ns ++ length order ∷ []) (peels.fits n).places ∙ sym (places-push (is_in (row_at rows n)) order next ∙ rw e refl);
      } where
        one_less : (a b c : ℕ) → a ≡ b → b ≡ 1 + c → a - 1 ≡ c
        one_less a b c e f = omega (arith, e, f)
      by false e = record {
        unmet = (peels.fits n).unmet ∙ sym (count_same order next (row_at rows n) e);
        places = (peels.fits n).places ∙ sym (places-push (is_in (row_at rows n)) order next ∙ (rw e (append-nil (places (is_in (row_at rows n)) order))));
      }

    settled_all : (n : ℕ) → ((slot_at new n).unmet == 0) ≡ list_all (is_in (order ++ next ∷ [])) (row_at rows n)
    settled_all n = ap (λ m. m == 0) (new_fits n).unmet ∙ all_none (order ++ next ∷ []) (row_at rows n)

    new_ready : (n : ℕ) → woken n ≡ is_ready rows (order ++ next ∷ []) n
    new_ready n = wakes n ∙ (at_next ∙ by (next == n) refl (is_in (row_at rows n) next) refl) where
      at_next : (cond (is_at (nat_cmp next) n) false (waits n) || (is_in users n && ((slot_at new n).unmet == 0))) ≡ (cond (next == n) false (waits n) || (is_in (row_at rows n) next && list_all (is_in (order ++ next ∷ [])) (row_at rows n)))
      at_next = λ j. cond (at_number next n j) false (waits n) || (uses n j && settled_all n j)

      -- what depends on it is neither ready nor in the order before
      not_before : is_in (row_at rows n) next ≡ true → is_in order n ≡ false
      not_before is = fresh (is_in order n) refl where
        fresh : (t : Bool) → is_in order n ≡ t → t ≡ false
        fresh true e = absurd (false≢true (sym next_fresh ∙ all_member order (row_at rows n) next (peels.inner n e).1 is))
        fresh false e = refl

      not_all : is_in (row_at rows n) next ≡ true → list_all (is_in order) (row_at rows n) ≡ false
      not_all is = fails (list_all (is_in order) (row_at rows n)) refl where
        fails : (t : Bool) → list_all (is_in order) (row_at rows n) ≡ t → t ≡ false
        fails true e = absurd (false≢true (sym next_fresh ∙ all_member order (row_at rows n) next e is))
        fails false e = refl

      within : is_in (row_at rows n) next ≡ true → nat_lt n (length rows) ≡ true
      within is = let less = row_within rows n next is in grind (arith, nat_tests, less)

      none : (a b : Bool) → (a && (b && false)) ≡ false
      none true true = refl
      none true false = refl
      none false b = refl

      nothing : (a b : Bool) → (a && (false && b)) ≡ false
      nothing true b = refl
      nothing false b = refl

      by : (s : Bool) → (next == n) ≡ s → (t : Bool) → is_in (row_at rows n) next ≡ t → (cond s false (waits n) || (t && list_all (is_in (order ++ next ∷ [])) (row_at rows n))) ≡ is_ready rows (order ++ next ∷ []) n
      by true e true f = absurd (false≢true (sym next_apart ∙ subst (λ m. is_in (row_at rows m) next ≡ true) (sym (nat_same next n e)) f))
      by true e false f = sym (rw (in_more order next n, e, or_true (is_in order n)) (nothing (nat_lt n (length rows)) (list_all (is_in (order ++ next ∷ [])) (row_at rows n))))
      by false e true f =
          let was : waits n ≡ false = peels.ready n ∙ rw (not_all f) (none (nat_lt n (length rows)) (not (is_in order n))) in
          let now : is_in (order ++ next ∷ []) n ≡ false = in_more order next n ∙ rw (not_before f, e) refl in
          rw (was, within f, now) refl
      by false e false f =
          let now : is_in (order ++ next ∷ []) n ≡ is_in order n = in_more order next n ∙ rw e (or_none (is_in order n)) in
          or_none (waits n) ∙ (peels.ready n ∙ rw (now, all_same order next (row_at rows n) f) refl)

    pub peels_more : Peels rows (order ++ next ∷ []) new woken
    peels_more = record {
      same = same ∙ peels.same;
      follow = follow_more rows [] order next peels.follow (record { ready = parts; least = λ q less. sym (peels.ready q) ∙ least q less });
      fits = new_fits;
      ready = new_ready;
      inner = next_inner;
      apart = next_distinct;
    }

-- nothing below the least waits
pub none_below : (waits : ℕ → Bool) (next : ℕ) → ((q : ℕ) → waits q ≡ true → is_gt (nat_cmp next q) ≡ false) → (q : ℕ) → q < next → waits q ≡ false
none_below waits next least q less = by (waits q) refl where
  by : (t : Bool) → waits q ≡ t → t ≡ false
  by true e = let more : nat_cmp next q ≡ Greater = sym (nat_cmp_is next q Greater less) in absurd (false≢true (sym (least q e) ∙ ap is_gt more))
  by false e = refl

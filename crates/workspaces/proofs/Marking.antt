-- Marking what is reached.
use Rattle.std.proofs.Common.{◌≡◌, ◌≢◌, ◌==◌, ◌||◌, ◌⊎◌, inl, inr, ℕ, zero, suc, ◌+◌, ◌<◌, Bool, true, false, cond, List, [], ◌∷◌, ◌++◌, length, set, refl, sym, ap, ◌∙◌, subst, arith, eqb, ne_eqb, length-append}
use Rattle.std.proofs.Math.ListN.{length-set}
use Rattle.std.proofs.lemmas.Bool.{false≢true}
use Rattle.std.proofs.lemmas.Bool.Decides.{eqb_tells}
use Rattle.std.proofs.lemmas.List.Folds.{list_any-append}
use Rattle.workspaces.specs.Lists.{places, Has}
use Rattle.std.specs.Prelude.{replicate}
use Rattle.std.proofs.Common.{get_or}
use Rattle.workspaces.specs.Reach.{is_in, IsClosed, IsReached, row_at, leads_in, AreBelow, AreRowsBelow}
use Rattle.workspaces.specs.Marks.{itself, is_marked, unmarked, Adds}
use Rattle.workspaces.proofs.Lists.{nat_same, has-places, places-has, sorted-places}

or_cases : (a b : Bool) → (a || b) ≡ true → (a ≡ true) ⊎ (b ≡ true)
or_cases true b e = inl refl
or_cases false b e = inr e

or_left : (a b : Bool) → a ≡ true → (a || b) ≡ true
or_left a b e = rw e refl

or_right : (a b : Bool) → b ≡ true → (a || b) ≡ true
or_right true b e = refl
or_right false b e = e

or_assoc : (a b c : Bool) → ((a || b) || c) ≡ (a || (b || c))
or_assoc true b c = refl
or_assoc false b c = refl

or_false : (a : Bool) → (a || false) ≡ a
or_false true = refl
or_false false = refl

pub in_more : (ps : List ℕ) (p q : ℕ) → is_in (ps ++ p ∷ []) q ≡ (is_in ps q || (p == q))
in_more ps p q = list_any-append (λ r. r == q) ps (p ∷ []) ∙ ap (λ t. is_in ps q || t) (or_false (p == q))

pub self_place : (p : ℕ) → (p == p) ≡ true
self_place p = by (eqb_tells p p) where
  by : ((eqb p p ≡ true) × (p ≡ p)) ⊎ ((eqb p p ≡ false) × (p ≢ p)) → (p == p) ≡ true
  by (inl same) = same.0
  by (inr other) = absurd (other.1 refl)

-- ---- one mark

pub other_place : (p q : ℕ) → p ≢ q → (p == q) ≡ false
other_place p q apart = ne_eqb p q apart

pub same_suc : (p q : ℕ) → (p == q) ≡ (suc p == suc q)
same_suc p q = by (eqb_tells p q) where
  by : ((eqb p q ≡ true) × (p ≡ q)) ⊎ ((eqb p q ≡ false) × (p ≢ q)) → (p == q) ≡ (suc p == suc q)
  by (inl same) = rw (same.1, self_place q, self_place (suc q)) refl
  by (inr other) = rw (other.0, other_place (suc p) (suc q) (λ e. other.1 (omega (arith, e)))) refl

pub marked-set : (marks : List Bool) (at q : ℕ) → at < length marks → is_marked (set marks at true) q ≡ (is_marked marks q || (at == q))
marked-set [] at q less = absurd (omega arith)
marked-set (m ∷ marks) zero zero less = sym (or_right m true refl)
marked-set (m ∷ marks) zero (suc q) less = rw (other_place 0 (suc q) (λ e. absurd (omega (arith, e)))) (sym (or_false (is_marked marks q)))
marked-set (m ∷ marks) (suc at) zero less = rw (other_place (suc at) 0 (λ e. absurd (omega (arith, e)))) (sym (or_false m))
marked-set (m ∷ marks) (suc at) (suc q) less = marked-set marks at q (omega arith) ∙ ap (λ t. is_marked marks q || t) (same_suc at q)

pub unmarked-set : (marks : List Bool) (at : ℕ) → at < length marks → is_marked marks at ≡ false → unmarked (set marks at true) + 1 ≡ unmarked marks
unmarked-set [] at less free = absurd (omega arith)
unmarked-set (m ∷ marks) zero less free = rw free (omega arith)
unmarked-set (m ∷ marks) (suc at) less free = by m (unmarked-set marks at (omega arith) free) where
  by : (t : Bool) → unmarked (set marks at true) + 1 ≡ unmarked marks → cond t (unmarked (set marks at true)) (suc (unmarked (set marks at true))) + 1 ≡ cond t (unmarked marks) (suc (unmarked marks))
  by true e = e
  by false e = omega (arith, e)

pub adds_none : (marks : List Bool) (waiting : List ℕ) → Adds [] marks waiting marks waiting
adds_none marks waiting = record {
  same = refl;
  marks = λ q. sym (or_false (is_marked marks q));
  waits = λ q is. inl is;
  kept = λ q is. is;
  only = λ q is. inl is;
  fewer = omega arith;
}

module _ (ps : List ℕ) (old : List Bool) (old_waiting : List ℕ) (new : List Bool) (new_waiting : List ℕ) (at : ℕ) where
  -- one that was marked before
  pub adds_old : Adds ps old old_waiting new new_waiting → is_marked new at ≡ true → Adds (ps ++ at ∷ []) old old_waiting new new_waiting
  adds_old adds is = record {
    same = adds.same;
    marks = λ q. more q (eqb_tells at q);
    waits = adds.waits;
    kept = adds.kept;
    only = adds.only;
    fewer = adds.fewer;
  } where
    more : (q : ℕ) → ((eqb at q ≡ true) × (at ≡ q)) ⊎ ((eqb at q ≡ false) × (at ≢ q)) → is_marked new q ≡ (is_marked old q || is_in (ps ++ at ∷ []) q)
    more q (inl same) = subst (λ w. is_marked new w ≡ true) same.1 is ∙ sym (rw (in_more ps at q, same.0) (or_right (is_marked old q) (is_in ps q || true) (or_right (is_in ps q) true refl)))
    more q (inr other) = rw (in_more ps at q, other.0, or_false (is_in ps q)) (adds.marks q)

  -- one that was not
  pub adds_new : Adds ps old old_waiting new new_waiting → at < length new → is_marked new at ≡ false → Adds (ps ++ at ∷ []) old old_waiting (set new at true) (new_waiting ++ at ∷ [])
  adds_new adds less free = record {
    same = length-set new at true ∙ adds.same;
    marks = λ q. marked-set new at q less ∙ (ap (λ t. t || (at == q)) (adds.marks q) ∙ (or_assoc (is_marked old q) (is_in ps q) (at == q) ∙ ap (λ t. is_marked old q || t) (sym (in_more ps at q))));
    waits = λ q is. waits q (or_cases (is_marked new q) (at == q) (sym (marked-set new at q less) ∙ is));
    kept = λ q is. in_more new_waiting at q ∙ or_left (is_in new_waiting q) (at == q) (adds.kept q is);
    only = λ q is. only q (or_cases (is_in new_waiting q) (at == q) (sym (in_more new_waiting at q) ∙ is));
    fewer = omega (arith, adds.fewer, unmarked-set new at less free, length-append new_waiting (at ∷ []));
  } where
    waits : (q : ℕ) → (is_marked new q ≡ true) ⊎ ((at == q) ≡ true) → (is_marked old q ≡ true) ⊎ (is_in (new_waiting ++ at ∷ []) q ≡ true)
    waits q (inl before) = elim (adds.waits q before) [ inl was ↦ inl was | inr waiting ↦ inr (in_more new_waiting at q ∙ or_left (is_in new_waiting q) (at == q) waiting) ]
    waits q (inr here) = inr (in_more new_waiting at q ∙ or_right (is_in new_waiting q) (at == q) here)

    only : (q : ℕ) → (is_in new_waiting q ≡ true) ⊎ ((at == q) ≡ true) → (is_in old_waiting q ≡ true) ⊎ (is_marked (set new at true) q ≡ true)
    only q (inl waiting) = elim (adds.only q waiting) [ inl was ↦ inl was | inr marked ↦ inr (marked-set new at q less ∙ or_left (is_marked new q) (at == q) marked) ]
    only q (inr here) = inr (marked-set new at q less ∙ or_right (is_marked new q) (at == q) here)

-- ---- following edges

-- what is marked is reached, and closed but for the places that wait
pub record Reaching (leads : ℕ → ℕ → Bool) (from done : List ℕ) (marks : List Bool) (waiting : List ℕ) : Type 0 where
  pub start : (p q : ℕ) → is_in done p ≡ true → leads p q ≡ true → is_marked marks q ≡ true
  pub front : (p q : ℕ) → is_marked marks p ≡ true → leads p q ≡ true → (is_marked marks q ≡ true) ⊎ (is_in waiting p ≡ true)
  pub least : (other : ℕ → Bool) → IsClosed leads from other → (q : ℕ) → is_marked marks q ≡ true → other q ≡ true
  pub waits : (q : ℕ) → is_in waiting q ≡ true → is_marked marks q ≡ true

module _ (rows : List (List ℕ)) (from : List ℕ) where
  -- the row of one more of those to start from
  pub from_more : (done : List ℕ) (p : ℕ) (marks : List Bool) (waiting : List ℕ) (new : List Bool) (new_waiting : List ℕ)
      → Reaching (leads_in rows) from done marks waiting → is_in from p ≡ true → Adds (row_at rows p) marks waiting new new_waiting → Reaching (leads_in rows) from (done ++ p ∷ []) new new_waiting
  from_more done p marks waiting new new_waiting before among adds = record {
    start = λ a q is lead. start a q (or_cases (is_in done a) (p == a) (sym (in_more done p a) ∙ is)) lead;
    front = λ a q is lead. front a q (adds.waits a is) lead;
    least = λ other closed q is. least other closed q (or_cases (is_marked marks q) (is_in (row_at rows p) q) (sym (adds.marks q) ∙ is));
    waits = λ q is. waits q (adds.only q is);
  } where
    start : (a q : ℕ) → (is_in done a ≡ true) ⊎ ((p == a) ≡ true) → leads_in rows a q ≡ true → is_marked new q ≡ true
    start a q (inl was) lead = adds.marks q ∙ or_left (is_marked marks q) (is_in (row_at rows p) q) (before.start a q was lead)
    start a q (inr here) lead = adds.marks q ∙ or_right (is_marked marks q) (is_in (row_at rows p) q) (subst (λ w. leads_in rows w q ≡ true) (sym (nat_same p a here)) lead)

    front : (a q : ℕ) → (is_marked marks a ≡ true) ⊎ (is_in new_waiting a ≡ true) → leads_in rows a q ≡ true → (is_marked new q ≡ true) ⊎ (is_in new_waiting a ≡ true)
    front a q (inl was) lead = elim (before.front a q was lead) [ inl marked ↦ inl (adds.marks q ∙ or_left (is_marked marks q) (is_in (row_at rows p) q) marked) | inr waiting ↦ inr (adds.kept a waiting) ]
    front a q (inr later) lead = inr later

    least : (other : ℕ → Bool) → IsClosed (leads_in rows) from other → (q : ℕ) → (is_marked marks q ≡ true) ⊎ (is_in (row_at rows p) q ≡ true) → other q ≡ true
    least other closed q (inl was) = before.least other closed q was
    least other closed q (inr lead) = closed.start p q among lead

    waits : (q : ℕ) → (is_in waiting q ≡ true) ⊎ (is_marked new q ≡ true) → is_marked new q ≡ true
    waits q (inl was) = adds.marks q ∙ or_left (is_marked marks q) (is_in (row_at rows p) q) (before.waits q was)
    waits q (inr is) = is

  -- the row of one that waited
  pub wait_more : (done : List ℕ) (p : ℕ) (marks : List Bool) (waiting : List ℕ) (new : List Bool) (new_waiting : List ℕ)
      → Reaching (leads_in rows) from done marks (waiting ++ p ∷ []) → Adds (row_at rows p) marks waiting new new_waiting → Reaching (leads_in rows) from done new new_waiting
  wait_more done p marks waiting new new_waiting before adds = record {
    start = λ a q is lead. adds.marks q ∙ or_left (is_marked marks q) (is_in (row_at rows p) q) (before.start a q is lead);
    front = λ a q is lead. front a q (adds.waits a is) lead;
    least = λ other closed q is. least other closed q (or_cases (is_marked marks q) (is_in (row_at rows p) q) (sym (adds.marks q) ∙ is));
    waits = λ q is. waits q (adds.only q is);
  } where
    again : (a q : ℕ) → (is_in waiting a ≡ true) ⊎ ((p == a) ≡ true) → leads_in rows a q ≡ true → (is_marked new q ≡ true) ⊎ (is_in new_waiting a ≡ true)
    again a q (inl still) lead = inr (adds.kept a still)
    again a q (inr here) lead = inl (adds.marks q ∙ or_right (is_marked marks q) (is_in (row_at rows p) q) (subst (λ w. leads_in rows w q ≡ true) (sym (nat_same p a here)) lead))

    front : (a q : ℕ) → (is_marked marks a ≡ true) ⊎ (is_in new_waiting a ≡ true) → leads_in rows a q ≡ true → (is_marked new q ≡ true) ⊎ (is_in new_waiting a ≡ true)
    front a q (inl was) lead = elim (before.front a q was lead) [ inl marked ↦ inl (adds.marks q ∙ or_left (is_marked marks q) (is_in (row_at rows p) q) marked) | inr waits ↦ again a q (or_cases (is_in waiting a) (p == a) (sym (in_more waiting p a) ∙ waits)) lead ]
    front a q (inr later) lead = inr later

    popped : is_marked marks p ≡ true
    popped = before.waits p (in_more waiting p p ∙ or_right (is_in waiting p) (p == p) (self_place p))

    least : (other : ℕ → Bool) → IsClosed (leads_in rows) from other → (q : ℕ) → (is_marked marks q ≡ true) ⊎ (is_in (row_at rows p) q ≡ true) → other q ≡ true
    least other closed q (inl was) = before.least other closed q was
    least other closed q (inr lead) = closed.more p q (before.least other closed p popped) lead

    waits : (q : ℕ) → (is_in waiting q ≡ true) ⊎ (is_marked new q ≡ true) → is_marked new q ≡ true
    waits q (inl was) = adds.marks q ∙ or_left (is_marked marks q) (is_in (row_at rows p) q) (before.waits q (in_more waiting p q ∙ or_left (is_in waiting q) (p == q) was))
    waits q (inr is) = is

-- nothing is marked at first
pub none_reached : (leads : ℕ → ℕ → Bool) (from : List ℕ) (marks : List Bool) → ((q : ℕ) → is_marked marks q ≡ false) → Reaching leads from [] marks []
none_reached leads from marks none = record {
  start = λ p q is lead. absurd (false≢true is);
  front = λ p q is lead. absurd (false≢true (sym (none p) ∙ is));
  least = λ other closed q is. absurd (false≢true (sym (none q) ∙ is));
  waits = λ q is. absurd (false≢true is);
}

pub in-from : (xs : List ℕ) (q : ℕ) → Has xs q → is_in xs q ≡ true
in-from [] q has = absurd has
in-from (x ∷ xs) q (inl here) = rw (here, self_place q) refl
in-from (x ∷ xs) q (inr later) = or_right (x == q) (is_in xs q) (in-from xs q later)

pub from-in : (xs : List ℕ) (q : ℕ) → is_in xs q ≡ true → Has xs q
from-in [] q is = absurd (false≢true is)
from-in (x ∷ xs) q is = elim (or_cases (x == q) (is_in xs q) is) [ inl here ↦ inl (nat_same x q here) | inr later ↦ inr (from-in xs q later) ]

further : (marks : List Bool) (q p : ℕ) → (is_marked marks q ≡ true) ⊎ (is_in [] p ≡ true) → is_marked marks q ≡ true
further marks q p (inl is) = is
further marks q p (inr none) = absurd (false≢true none)

-- nothing waits in the end
pub all_reached : (leads : ℕ → ℕ → Bool) (from : List ℕ) (marks : List Bool) → Reaching leads from from marks [] → IsReached leads from (places itself marks)
all_reached leads from marks end = record {
  ascend = sorted-places itself marks;
  least = (
    record {
      start = λ p q is lead. into q (end.start p q is lead);
      more = λ p q is lead. into q (further marks q p (end.front p q (out p is) lead));
    },
    λ other closed q is. end.least other closed q (out q is),
  );
} where
  into : (q : ℕ) → is_marked marks q ≡ true → is_in (places itself marks) q ≡ true
  into q is = in-from (places itself marks) q (places-has itself marks q is)

  out : (q : ℕ) → is_in (places itself marks) q ≡ true → is_marked marks q ≡ true
  out q is = has-places itself marks q (from-in (places itself marks) q is)

-- ---- marks by their places

pub marked-get : (marks : List Bool) (at : ℕ) (d : Bool) → at < length marks → is_marked marks at ≡ get_or marks at d
marked-get [] at d less = absurd (omega arith)
marked-get (m ∷ marks) zero d less = refl
marked-get (m ∷ marks) (suc at) d less = marked-get marks at d (omega arith)

pub marked_within : (marks : List Bool) (at : ℕ) → is_marked marks at ≡ true → at < length marks
marked_within [] at is = absurd (false≢true is)
marked_within (m ∷ marks) zero is = omega arith
marked_within (m ∷ marks) (suc at) is = let less = marked_within marks at is in omega (arith, less)

pub below_at : (count : ℕ) (places : List ℕ) → AreBelow count places → (i : ℕ) (d : ℕ) → i < length places → get_or places i d < count
below_at count [] all i d less = absurd (omega arith)
below_at count (p ∷ places) all zero d less = all.0
below_at count (p ∷ places) all (suc i) d less = below_at count places all.1 i d (omega arith)

pub row_below : (count : ℕ) (rows : List (List ℕ)) → AreRowsBelow count rows → (i : ℕ) (d : List ℕ) → i < length rows → AreBelow count (get_or rows i d)
row_below count [] all i d less = absurd (omega arith)
row_below count (r ∷ rows) all zero d less = all.0
row_below count (r ∷ rows) all (suc i) d less = row_below count rows all.1 i d (omega arith)

pub row-get : (rows : List (List ℕ)) (i : ℕ) (d : List ℕ) → i < length rows → row_at rows i ≡ get_or rows i d
row-get [] i d less = absurd (omega arith)
row-get (r ∷ rows) zero d less = refl
row-get (r ∷ rows) (suc i) d less = row-get rows i d (omega arith)

pub in_at : (places : List ℕ) (i : ℕ) (d : ℕ) → i < length places → is_in places (get_or places i d) ≡ true
in_at [] i d less = absurd (omega arith)
in_at (p ∷ places) zero d less = or_left (p == p) (is_in places p) (self_place p)
in_at (p ∷ places) (suc i) d less = or_right (p == get_or places i d) (is_in places (get_or places i d)) (in_at places i d (omega arith))

pub in_last : (places : List ℕ) (p : ℕ) → is_in (places ++ p ∷ []) p ≡ true
in_last places p = in_more places p p ∙ or_right (is_in places p) (p == p) (self_place p)

pub none_marked : (count q : ℕ) → is_marked (replicate count false) q ≡ false
none_marked zero q = refl
none_marked (suc count) zero = refl
none_marked (suc count) (suc q) = none_marked count q

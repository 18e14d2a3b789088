-- A history goes on: other runs' events come, and then some of one run.
use Rattle.std.proofs.Common.{◌≡◌, ℕ, ◌==◌, true, false, List, [], ◌∷◌, ◌++◌, map, if◌then◌else◌}
use Rattle.std.proofs.Common.{refl, sym, ap, ◌∙◌, subst, inl, inr, append-nil, append_assoc, Bool}
use Rattle.std.proofs.Common.{Some, None}
use Rattle.std.specs.List.{fold, list_any}
use Rattle.std.proofs.lemmas.Bool.{cases_Bool, eq-eqb, eqb-true}
use Rattle.std.proofs.lemmas.List.Elements.{filter_map-append}
use Rattle.globs.specs.declared.out_set.OutSet.{OutSet}
use Rattle.cache_api.specs.Pairs.{Pair}
use Rattle.shared_views.specs.Machine.{Event, step, after}
use Rattle.shared_views.specs.Machine.Event.{Enter, Look, Add, Cut}
use Rattle.shared_views.specs.Histories.{events_of, IsInside, IsRun, IsHistory, is_cut, pair_of}
use Rattle.shared_views.specs.Histories.{added}
use Rattle.shared_views.proofs.Folded.{file-grows, after-append, events_of-append, nil-front}
use Rattle.shared_views.proofs.Folded.{history-front}
use Rattle.shared_views.proofs.Seen.{seen, inside-view, no-entry, events_of-enter, inside-of}
use Rattle.shared_views.proofs.Seen.{entered}

-- ---- events of one run

-- these are the run's own, inside it
pub record IsOwn (i : ℕ) (events : List Event) : Type 0 where
  pub inside : IsInside events
  pub mine : events_of i events ≡ events
  pub apart : (j : ℕ) → (i == j) ≡ false → events_of j events ≡ []

pub own-none : (i : ℕ) → IsOwn i []
own-none i = record { inside = tt; mine = refl; apart = λ j o. refl }

pub own-look : (i : ℕ) (key : List ℕ) (outs : OutSet) → IsOwn i (Look i key outs ∷ [])
own-look i key outs = record {
  inside = tt;
  mine = rw (eq-eqb i i refl) refl;
  apart = λ j o. rw o refl;
}

pub own-cut : (i : ℕ) → IsOwn i (Cut i ∷ [])
own-cut i = record {
  inside = refl;
  mine = rw (eq-eqb i i refl) refl;
  apart = λ j o. rw o refl;
}

pub own-add : (i : ℕ) (pair : Pair) (events : List Event) → IsOwn i events
    → IsOwn i (Add i pair ∷ events)
own-add i pair events o = record {
  inside = o.inside;
  mine = rw (eq-eqb i i refl) (ap (λ es. Add i pair ∷ es) o.mine);
  apart = λ j other. rw other (o.apart j other);
}

pub own-adds : (i : ℕ) (pairs : List Pair) → IsOwn i (map (Add i) pairs)
own-adds i [] = own-none i
own-adds i (pair ∷ pairs) = own-add i pair (map (Add i) pairs) (own-adds i pairs)

pub own-adds_then : (i : ℕ) (pairs : List Pair) (events : List Event) → IsOwn i events
    → IsOwn i (map (Add i) pairs ++ events)
own-adds_then i [] events o = o
own-adds_then i (pair ∷ pairs) events o =
    own-add i pair (map (Add i) pairs ++ events) (own-adds_then i pairs events o)

pub added-adds : (i : ℕ) (pairs : List Pair) → added (map (Add i) pairs) ≡ pairs
added-adds i [] = refl
added-adds i (pair ∷ pairs) = ap (λ ps. pair ∷ ps) (added-adds i pairs)

pub added-append : (xs ys : List Event) → added (xs ++ ys) ≡ added xs ++ added ys
added-append xs ys = filter_map-append pair_of xs ys

pub uncut-adds : (i : ℕ) (pairs : List Pair) → list_any is_cut (map (Add i) pairs) ≡ false
uncut-adds i [] = refl
uncut-adds i (pair ∷ pairs) = uncut-adds i pairs

pub cut-adds : (i : ℕ) (pairs : List Pair)
    → list_any is_cut (map (Add i) pairs ++ Cut i ∷ []) ≡ true
cut-adds i [] = refl
cut-adds i (pair ∷ pairs) = cut-adds i pairs

-- ---- behind a run that was not cut off

inside-more : (xs ys : List Event) → IsInside xs → list_any is_cut xs ≡ false → IsInside ys
    → IsInside (xs ++ ys)
inside-more [] ys h uncut new = new
inside-more (Enter i ∷ xs) ys h uncut new = h
inside-more (Look i key outs ∷ xs) ys h uncut new = inside-more xs ys h uncut new
inside-more (Add i pair ∷ xs) ys h uncut new = inside-more xs ys h uncut new
inside-more (Cut i ∷ xs) ys h uncut new = absurd (let k : true ≡ false = uncut in cc)

run-more : (i : ℕ) (before xs ys : List Event) → IsRun (before ++ Enter i ∷ xs)
    → list_any is_cut xs ≡ false → IsInside ys → IsRun (before ++ Enter i ∷ (xs ++ ys))
run-more i [] xs ys h uncut new = inside-more xs ys h uncut new
run-more i (Enter j ∷ before) xs ys h uncut new = absurd (no-entry i before xs h)
run-more i (Look j key outs ∷ before) xs ys h uncut new = h
run-more i (Add j pair ∷ before) xs ys h uncut new = h
run-more i (Cut j ∷ before) xs ys h uncut new = h

some-uncut : (cut : Bool) (was view : List Pair)
    → (if cut then None else Some was) ≡ Some view → cut ≡ false
some-uncut true was view is = cc
some-uncut false was view is = refl

-- ---- others' events, and then the run's

module _ (i : ℕ) (first : List Pair) (earlier later others : List Event) (view : List Pair)
    (history : IsHistory (earlier ++ Enter i ∷ (later ++ others)))
    (apart : events_of i others ≡ [])
    (sees : (after first (earlier ++ Enter i ∷ later)).views i ≡ Some view)
    (own : List Event) (is_own : IsOwn i own) where
  abbrev before : List Event
  before = earlier ++ Enter i ∷ later

  abbrev all : List Event
  all = earlier ++ Enter i ∷ (later ++ (others ++ own))

  all-is : all ≡ before ++ (others ++ own)
  all-is = sym (append_assoc earlier (Enter i ∷ later) (others ++ own))

  all-then : all ≡ (earlier ++ Enter i ∷ (later ++ others)) ++ own
  all-then =
      ap (λ es. earlier ++ Enter i ∷ es) (sym (append_assoc later others own))
      ∙ sym (append_assoc earlier (Enter i ∷ (later ++ others)) own)

  mine-all : events_of i (others ++ own) ≡ own
  mine-all =
      events_of-append i others own ∙ ap (λ es. es ++ events_of i own) apart ∙ is_own.mine

  state-is : after first all ≡ fold step (after first before) (others ++ own)
  state-is = ap (after first) all-is ∙ after-append first before (others ++ own)

  pub goes-file : (after first all).file ≡ (after first before).file ++ (added others ++ added own)
  goes-file =
      ap (λ s. s.file) state-is ∙ file-grows (after first before) (others ++ own)
      ∙ ap (λ ps. (after first before).file ++ ps) (added-append others own)

  pub goes-view : (after first all).views i ≡ seen view own
  goes-view =
      ap (λ s. s.views i) state-is
      ∙ inside-view i (others ++ own) (after first before) view
      (subst IsInside (sym mine-all) is_own.inside) sees
      ∙ ap (seen view) mine-all

  uncut-later : list_any is_cut (events_of i later) ≡ false
  uncut-later =
      let here : IsHistory before = history-front before others
      (subst IsHistory (sym (append_assoc earlier (Enter i ∷ later) others)) history) in
      some-uncut (list_any is_cut (events_of i later))
      ((after first earlier).file ++ added (events_of i later)) view
      (sym (entered first earlier later i (inside-of i earlier later here)) ∙ sees)

  run-own : IsRun (events_of i all)
  run-own =
      let was : IsRun (events_of i earlier ++ Enter i ∷ events_of i later) =
      subst (λ es. IsRun (events_of i earlier ++ Enter i ∷ es))
      (events_of-append i later others ∙ ap (λ es. events_of i later ++ es) apart
      ∙ append-nil (events_of i later))
      (subst IsRun (events_of-enter i earlier (later ++ others)) (history i)) in
      let now : events_of i all ≡ events_of i earlier ++ Enter i ∷ (events_of i later ++ own) =
      events_of-enter i earlier (later ++ (others ++ own))
      ∙ ap (λ es. events_of i earlier ++ Enter i ∷ es)
      (events_of-append i later (others ++ own) ∙ ap (λ es. events_of i later ++ es) mine-all) in
      subst IsRun (sym now)
      (run-more i (events_of i earlier) (events_of i later) own was uncut-later is_own.inside)

  pub goes-history : IsHistory all
  goes-history j = elim (cases_Bool (i == j)) [
    | inl same ↦ subst (λ k. IsRun (events_of k all)) (eqb-true i j same) run-own
    | inr other ↦
        let apart_j : events_of j all ≡ events_of j (earlier ++ Enter i ∷ (later ++ others)) =
        ap (events_of j) all-then
        ∙ events_of-append j (earlier ++ Enter i ∷ (later ++ others)) own
        ∙ ap (λ es. events_of j (earlier ++ Enter i ∷ (later ++ others)) ++ es)
        (is_own.apart j other)
        ∙ append-nil (events_of j (earlier ++ Enter i ∷ (later ++ others))) in
        subst IsRun (sym apart_j) (history j)
  ]

-- ---- a first part of others' events

pub apart-front : (i : ℕ) (part rest : List Event) → events_of i (part ++ rest) ≡ []
    → events_of i part ≡ []
apart-front i part rest none =
    nil-front (events_of i part) (events_of i rest) (sym (events_of-append i part rest) ∙ none)

pub coming-front : (i : ℕ) (earlier later part rest : List Event)
    → IsHistory (earlier ++ Enter i ∷ (later ++ (part ++ rest)))
    → IsHistory (earlier ++ Enter i ∷ (later ++ part))
coming-front i earlier later part rest h =
    history-front (earlier ++ Enter i ∷ (later ++ part)) rest
    (subst IsHistory
    (ap (λ es. earlier ++ Enter i ∷ es) (sym (append_assoc later part rest))
    ∙ sym (append_assoc earlier (Enter i ∷ (later ++ part)) rest)) h)

-- what some of the events add is a first part of what all add
pub added-split : (others : List Event) (some more : List Pair) → added others ≡ some ++ more
    → (part : List Event) × (rest : List Event) × (others ≡ part ++ rest) × (added part ≡ some)
added-split others [] more is = ([], others, refl, refl)
added-split [] (p ∷ some) more is = absurd (let k : [] ≡ p ∷ (some ++ more) = is in cc)
added-split (Enter j ∷ others) (p ∷ some) more is =
    let (part, rest, both, adds) = added-split others (p ∷ some) more is in
    (Enter j ∷ part, rest, ap (λ es. Enter j ∷ es) both, adds)
added-split (Look j key outs ∷ others) (p ∷ some) more is =
    let (part, rest, both, adds) = added-split others (p ∷ some) more is in
    (Look j key outs ∷ part, rest, ap (λ es. Look j key outs ∷ es) both, adds)
added-split (Add j q ∷ others) (p ∷ some) more is =
    let k : q ∷ added others ≡ p ∷ (some ++ more) = is in
    let tail : added others ≡ some ++ more = cc in
    let head : q ≡ p = cc in
    let (part, rest, both, adds) = added-split others some more tail in (
      Add j q ∷ part,
      rest,
      ap (λ es. Add j q ∷ es) both,
      (λ n. head n ∷ adds n),
    )
added-split (Cut j ∷ others) (p ∷ some) more is =
    let (part, rest, both, adds) = added-split others (p ∷ some) more is in
    (Cut j ∷ part, rest, ap (λ es. Cut j ∷ es) both, adds)

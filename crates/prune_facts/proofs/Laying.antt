-- A listing of tasks in plan order: the closure of a place has the tasks that it needs, directly and through others.
use Rattle.std.proofs.Common.{◌≡◌, ℕ, ◌==◌, Bool, true, not, ◌&&◌, List, [], Option, Some, None, filter, map, refl, sym, ap, ◌∙◌, subst, inl, inr}
use mathlib.Core.Path.{fun_ext}
use Rattle.std.specs.Prelude.{slice_get}
use Rattle.std.specs.List.{list_all, AllByRecursion}
use Rattle.std.specs.declared.cmp.Ordering.{Ordering}
use Rattle.std.specs.declared.cmp.Ordering.TheVariants.{Equal}
use Rattle.std.specs.Cmp.{IsTotalOrder}
use Rattle.std.proofs.lemmas.Bool.{cases_Bool, or_cases, or_left, eq-eqb, eqb-true}
use Rattle.workspaces.specs.Lists.{Has, places}
use Rattle.listing.specs.declared.part.Part.{Part}
use Rattle.listing.specs.declared.part.Listing.{Listing}
use Rattle.run_laws.specs.Picks.{pick, rank}
use Rattle.run_laws.specs.Ancestors.{part_at, blank, is_above, IsLower}
use Rattle.run_laws.specs.Closures.{in_closure, IsClosed}
use Rattle.run_laws.proofs.AncestorFacts.{reaches-closed, closure-closed}
use Rattle.collect.specs.Listings.{ArePaired}
use Rattle.prune_facts.proofs.Lists.{bool_same, some_inj, get_has}
use Rattle.prune_facts.proofs.Following.{among, Follows, opens_in, has_among, among_has, follow_one, follow-part}
use Rattle.prune_facts.proofs.Picking.{rank-places, place_of, all_places, all_at, has_get, pick_get, get_pick, pick-has, pick_filter, AreApart, picked}
use Rattle.prune_facts.proofs.Pairing.{pairs_at, pairs_past}

module _ {X : Type 0} (cmp : X → X → Ordering) where
  -- the dependencies of a part are the places of what its task needs
  abbrev pub IsRow : (X → List X) → List X → X → Part → Type 0
  IsRow needs ids x part = part.deps ≡ places (among cmp (needs x)) ids

-- The tasks differ, hold what they need, and follow one another as the least that can; each part has the row of its task.
pub record IsLaid {X : Type 0} (cmp : X → X → Ordering) (total : IsTotalOrder cmp) (tied : (a b : X) → cmp a b ≡ Equal → a ≡ b) (needs : X → List X) (ids : List X) (l : Listing) : Type 0 where
  pub apart : AreApart cmp total tied ids
  pub closed : (x y : X) → Has ids x → Has (needs x) y → Has ids y
  pub rows : ArePaired (IsRow cmp needs ids) ids l.parts
  pub lower : IsLower l
  pub fits : List X → X → Bool
  pub follow : Follows cmp fits [] ids
  pub fit : (before : List X) (x : X) → Has ids x → fits before x ≡ (not (among cmp before x) && list_all (among cmp before) (needs x))

at_id : {X : Type 0} → (X → Bool) → Option X → Bool
at_id test None = true
at_id test (Some x) = test x

module _ {X : Type 0} (cmp : X → X → Ordering) (total : IsTotalOrder cmp) (tied : (a b : X) → cmp a b ≡ Equal → a ≡ b) where
  module _ (needs : X → List X) (ids : List X) (l : Listing) (laid : IsLaid cmp total tied needs ids l) where
    pub row_at : (j : ℕ) (x : X) → slice_get ids j ≡ Some x → (part_at l j).deps ≡ places (among cmp (needs x)) ids
    row_at j x e = pairs_at (IsRow cmp needs ids) blank ids l.parts laid.rows j x e

    row_past : (j : ℕ) → slice_get ids j ≡ None → (part_at l j).deps ≡ []
    row_past j e = ap (λ (p : Part). p.deps) (pairs_past (IsRow cmp needs ids) blank ids l.parts laid.rows j e)

    -- the tasks of the closure of a place
    abbrev pub run : ℕ → List X
    run i = pick (in_closure l i) ids

    pub run_start : (i : ℕ) (t : X) → slice_get ids i ≡ Some t → Has (run i) t
    run_start i t e = get_pick (in_closure l i) ids i t e (or_left (i == i) (is_above l i i) (eq-eqb i i refl))

    -- they hold what they need
    pub run_closed : (i : ℕ) (x y : X) → Has (run i) x → Has (needs x) y → Has (run i) y
    run_closed i x y h n =
        let j = pick_get (in_closure l i) ids x h in
        let k = has_get ids y (laid.closed x y (get_has ids j.0 x j.1) n) in
        let deps : AllByRecursion (λ d. in_closure l i d ≡ true) (places (among cmp (needs x)) ids) = subst (λ ds. AllByRecursion (λ d. in_closure l i d ≡ true) ds) (row_at j.0 x j.1) (closure-closed l i laid.lower j.0 j.2) in
        get_pick (in_closure l i) ids k.0 y k.1 (all_at (λ d. in_closure l i d ≡ true) (places (among cmp (needs x)) ids) k.0 deps (place_of (among cmp (needs x)) ids k.0 y k.1 (has_among cmp total tied (needs x) y n)))

    -- and are within each set that has the task and holds what it needs
    pub run_least : (i : ℕ) (t : X) → slice_get ids i ≡ Some t → (other : X → Bool) → other t ≡ true → ((x y : X) → other x ≡ true → Has (needs x) y → other y ≡ true) → (x : X) → Has (run i) x → other x ≡ true
    unfolding at_id
    run_least i t at other first holds x h =
        let j = pick_get (in_closure l i) ids x h in
        elim (or_cases (j.0 == i) (is_above l i j.0) j.2) [
          | inl e ↦ ap other (some_inj x t (sym j.1 ∙ ap (slice_get ids) (eqb-true j.0 i e) ∙ at)) ∙ first
          | inr u ↦ sym (ap (at_id other) j.1) ∙ reaches-closed l keep is_closed i i j.0 (ap (at_id other) at ∙ first) u
        ]
      where
        keep : ℕ → Bool
        keep = λ j. at_id other (slice_get ids j)

        is_closed : IsClosed l keep
        is_closed k h = by (slice_get ids k) refl
          where
            by : (o : Option X) → slice_get ids k ≡ o → AllByRecursion (λ d. keep d ≡ true) (part_at l k).deps
            by None e = subst (λ ds. AllByRecursion (λ d. keep d ≡ true) ds) (sym (row_past k e)) tt
            by (Some y) e =
                subst (λ ds. AllByRecursion (λ d. keep d ≡ true) ds) (sym (row_at k y e))
                (all_places (λ d. keep d ≡ true) (among cmp (needs y)) ids (λ d z f u. ap (at_id other) f ∙ holds y z (sym (ap (at_id other) e) ∙ h) (among_has cmp total tied (needs y) z u)))

    -- its tasks are those of the plan that are among them
    pub run_filter : (i : ℕ) → filter (among cmp (run i)) ids ≡ run i
    run_filter i = pick_filter (among cmp (run i)) (in_closure l i) ids (λ j x e. bool_same _ _
        (λ h. picked cmp total tied (in_closure l i) ids j x laid.apart e (among_has cmp total tied (run i) x h))
        (λ k. has_among cmp total tied (run i) x (get_pick (in_closure l i) ids j x e k)))

    pub run_within : (i : ℕ) (x : X) → Has (run i) x → Has ids x
    run_within i x h = pick-has (in_closure l i) ids x h

    -- the row of such a task, by its numbers among them
    pub run_row : (i j : ℕ) (x : X) → in_closure l i j ≡ true → slice_get ids j ≡ Some x → map (rank (in_closure l i)) (part_at l j).deps ≡ places (among cmp (needs x)) (run i)
    run_row i j x k e =
        ap (map (rank (in_closure l i))) (row_at j x e)
        ∙ rank-places (in_closure l i) (among cmp (needs x)) ids (subst (λ ds. AllByRecursion (λ d. in_closure l i d ≡ true) ds) (row_at j x e) (closure-closed l i laid.lower j k))

  -- two plans in which the tasks of a set need the same
  module _ (needs needs' : X → List X) (ids ids' : List X) (l l' : Listing) (laid : IsLaid cmp total tied needs ids l) (laid' : IsLaid cmp total tied needs' ids' l') (good : X → Bool)
      (holds : (x y : X) → good x ≡ true → Has (needs x) y → good y ≡ true) (same : (x : X) → good x ≡ true → needs' x ≡ needs x)
      (i i' : ℕ) (t : X) (at : slice_get ids i ≡ Some t) (at' : slice_get ids' i' ≡ Some t) (first : good t ≡ true) where
    abbrev pub run₁ : List X
    run₁ = run needs ids l laid i

    abbrev pub run₂ : List X
    run₂ = run needs' ids' l' laid' i'

    pub run_good : (x : X) → Has run₁ x → good x ≡ true
    run_good x h = run_least needs ids l laid i t at good first holds x h

    among₁ : (x : X) → among cmp run₁ x ≡ true → Has run₁ x
    among₁ x h = among_has cmp total tied run₁ x h

    fewer : (x : X) → Has run₂ x → among cmp run₁ x ≡ true
    fewer x h = run_least needs' ids' l' laid' i' t at' (among cmp run₁) (has_among cmp total tied run₁ t (run_start needs ids l laid i t at))
        (λ y z k n. has_among cmp total tied run₁ z (run_closed needs ids l laid i y z (among₁ y k) (subst (λ ns. Has ns z) (same y (run_good y (among₁ y k))) n))) x h

    more : (x : X) → Has run₁ x → among cmp run₂ x ≡ true
    more x h = run_least needs ids l laid i t at (among cmp run₂) (has_among cmp total tied run₂ t (run_start needs' ids' l' laid' i' t at'))
        (λ y z k n. has_among cmp total tied run₂ z (run_closed needs' ids' l' laid' i' y z (among_has cmp total tied run₂ y k) (subst (λ ns. Has ns z) (sym (same y (run_good y (among₁ y (fewer y (among_has cmp total tied run₂ y k)))))) n))) x h

    one_set : among cmp run₁ ≡ among cmp run₂
    one_set = fun_ext (λ x. bool_same _ _ (λ h. more x (among₁ x h)) (λ h. fewer x (among_has cmp total tied run₂ x h)))

    opens : opens_in cmp (among cmp run₁) needs' ≡ opens_in cmp (among cmp run₁) needs
    opens = fun_ext (λ before. fun_ext (λ x. elim (cases_Bool (among cmp run₁ x)) [
      | inl h ↦ ap (λ ns. among cmp run₁ x && (not (among cmp before x) && list_all (among cmp before) ns)) (same x (run_good x (among₁ x h)))
      | inr f ↦ rw f refl
    ]))

    order₁ : Follows cmp (opens_in cmp (among cmp run₁) needs) [] (filter (among cmp run₁) ids)
    order₁ = follow-part cmp total tied laid.fits (among cmp run₁) needs (λ before x h. laid.fit before x (run_within needs ids l laid i x (among₁ x h)))
        (λ x y h n. has_among cmp total tied run₁ y (run_closed needs ids l laid i x y (among₁ x h) n)) [] ids laid.follow

    order₂ : Follows cmp (opens_in cmp (among cmp run₁) needs') [] (filter (among cmp run₁) ids')
    order₂ = follow-part cmp total tied laid'.fits (among cmp run₁) needs' (λ before x h. laid'.fit before x (run_within needs' ids' l' laid' i' x (among_has cmp total tied run₂ x (more x (among₁ x h)))))
        (λ x y h n. has_among cmp total tied run₁ y (run_closed needs ids l laid i x y (among₁ x h) (subst (λ ns. Has ns y) (same x (run_good x (among₁ x h))) n))) [] ids' laid'.follow

    -- the closures have the same tasks in the same order
    pub one_run : run needs ids l laid i ≡ run needs' ids' l' laid' i'
    one_run =
        sym (run_filter needs ids l laid i)
        ∙ follow_one cmp total tied (opens_in cmp (among cmp run₁) needs) [] (filter (among cmp run₁) ids) (filter (among cmp run₁) ids') order₁ (subst (λ fits. Follows cmp fits [] (filter (among cmp run₁) ids')) opens order₂)
        ∙ ap (λ set. filter set ids') one_set
        ∙ run_filter needs' ids' l' laid' i'

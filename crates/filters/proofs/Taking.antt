-- What filters take, put together.
use Rattle.std.proofs.Common.{◌≡◌, ◌||◌, ◌&&◌, ℕ, Bool, true, false, not, cond, List, [], ◌∷◌, ◌++◌, length, map, refl, sym, ap, ◌∙◌, subst}
use Rattle.std.specs.Prelude.{replicate, nat_lt}
use Rattle.std.specs.List.{list_any, list_all, AllByRecursion}
use Rattle.std.specs.List.Sorted.{IsStrictlySortedBy}
use Rattle.std.specs.Ordering.{nat_cmp}
use Rattle.workspaces.specs.declared.member.Package.{Package}
use Rattle.workspaces.specs.Lists.{places}
use Rattle.workspaces.specs.Marks.{itself, is_marked}
use Rattle.workspaces.specs.Members.{leads, leads_back}
use Rattle.workspaces.specs.Reach.{is_in}
use Rattle.filters.specs.declared.filter.Filter.{Filter}
use Rattle.filters.specs.declared.selection.Sides.{Sides}
use Rattle.filters.specs.declared.taken.Neighbours.{Neighbours}
use Rattle.filters.specs.Words.{has_dots, leaves_core}
use Rattle.filters.specs.Selection.{Taking, Takes, IsReachedIf, core_in, AreSelected, is_included, is_excluded}
use Rattle.filters.specs.Sides.{AddsTo, AreSides, AreNeighbours, is_taken, is_chosen}
use Rattle.filters.specs.Sides as sides
use Rattle.std.proofs.lemmas.List.{length-replicate}
use Rattle.workspaces.proofs.Turning.{in-places}
use Rattle.workspaces.proofs.Marking.{none_marked}
use Rattle.filters.proofs.Marking.{all_marked, marked_within}

pub takes_by : (packages : List Package) (filter : Filter) (n : Neighbours) (keeps : Bool) (found : List ℕ) → AreNeighbours packages filter n → keeps ≡ not (leaves_core filter) → ((p : ℕ) → is_in found p ≡ is_taken n keeps p) → Takes packages filter (is_in found)
takes_by packages filter n keeps found h k marks = record {
  below = n.below;
  above = n.above;
  around = n.around;
  below_reached = subst (λ core. IsReachedIf (has_dots filter.back) (leads packages) core n.below) h.core_named h.below_reached;
  above_reached = subst (λ core. IsReachedIf (has_dots filter.front) (leads_back packages) core n.above) h.core_named h.above_reached;
  around_reached = h.around_reached;
  exact = λ p. marks p ∙ (ap (λ core. is_in n.below p || (is_in n.above p || cond (is_in core p) keeps (is_in n.around p))) h.core_named ∙ ap (λ t. is_in n.below p || (is_in n.above p || cond (is_in (core_in packages filter) p) t (is_in n.around p))) k);
}

-- the places of marks are those that are marked
pub marked_places : (marks : List Bool) (found : List ℕ) → found ≡ places itself marks → (p : ℕ) → is_in found p ≡ is_marked marks p
marked_places marks found is p = ap (λ f. is_in f p) is ∙ in-places itself marks p

-- ---- the sides

and_true : (a : Bool) → (a && true) ≡ a
and_true true = refl
and_true false = refl

or_true : (a : Bool) → (a || true) ≡ true
or_true true = refl
or_true false = refl

or_false : (a : Bool) → (a || false) ≡ a
or_false true = refl
or_false false = refl

and_assoc : (a b c : Bool) → ((a && b) && c) ≡ (a && (b && c))
and_assoc true b c = refl
and_assoc false b c = refl

cond_not : (a b : Bool) → cond a false b ≡ (b && not a)
cond_not true true = refl
cond_not true false = refl
cond_not false b = sym (and_true b)

cond_true : (a b : Bool) → cond a true b ≡ (b || a)
cond_true true b = sym (or_true b)
cond_true false b = sym (or_false b)

pub included_all : (marks new : List Bool) (all : Bool) (n : ℕ) → all ≡ true → n ≡ length marks → new ≡ replicate n true → (p : ℕ) → is_marked new p ≡ sides.is_included all marks p
included_all marks new all n a same is p = rw (is, same, a, or_true (is_marked marks p), and_true (nat_lt p (length marks))) (all_marked (length marks) p)

pub included_some : (marks : List Bool) (all : Bool) → all ≡ false → (p : ℕ) → is_marked marks p ≡ sides.is_included all marks p
included_some marks all a p = marked_within marks p ∙ sym (ap (λ t. nat_lt p (length marks) && (is_marked marks p || t)) a ∙ ap (λ t. nat_lt p (length marks) && t) (or_false (is_marked marks p)))

pub chosen_by : (s : Sides) (excluded found : List ℕ) (base marks : List Bool) → excluded ≡ places itself s.excluded.items → ((p : ℕ) → is_marked base p ≡ sides.is_included s.only_excludes s.included.items p) → ((p : ℕ) → is_marked marks p ≡ cond (is_in excluded p) false (is_marked base p)) → found ≡ places itself marks → (p : ℕ) → is_in found p ≡ is_chosen s p
chosen_by s excluded found base marks out before after is p =
    marked_places marks found is p ∙ (after p ∙ (cond_not (is_in excluded p) (is_marked base p)
    ∙ (ap (λ t. t && not (is_in excluded p)) (before p) ∙ ap (λ t. sides.is_included s.only_excludes s.included.items p && not t) (marked_places s.excluded.items excluded out p))))

-- ---- one filter more

map-append : {X Y : Type 0} (f : X → Y) (xs : List X) (x : X) → map f (xs ++ x ∷ []) ≡ map f xs ++ f x ∷ []
map-append f [] x = refl
map-append f (y ∷ xs) x = ap (λ ys. f y ∷ ys) (map-append f xs x)

all-append : {X : Type 0} (P : X → Type 0) (xs : List X) (x : X) → AllByRecursion P xs → P x → AllByRecursion P (xs ++ x ∷ [])
all-append P [] x all last = (last, tt)
all-append P (y ∷ xs) x all last = (all.0, all-append P xs x all.1 last)

any-append : {X : Type 0} (f : X → Bool) (xs : List X) (x : X) → list_any f (xs ++ x ∷ []) ≡ (list_any f xs || f x)
any-append f [] x = or_false (f x)
any-append f (y ∷ xs) x = ap (λ t. f y || t) (any-append f xs x) ∙ by (f y) (list_any f xs) (f x) where
  by : (a b c : Bool) → (a || (b || c)) ≡ ((a || b) || c)
  by true b c = refl
  by false b c = refl

every-append : {X : Type 0} (f : X → Bool) (xs : List X) (x : X) → list_all f (xs ++ x ∷ []) ≡ (list_all f xs && f x)
every-append f [] x = and_true (f x)
every-append f (y ∷ xs) x = ap (λ t. f y && t) (every-append f xs x) ∙ sym (and_assoc (f y) (list_all f xs) (f x))

pub no_sides : (packages : List Package) (s : Sides) → s.included.items ≡ replicate (length packages) false → s.excluded.items ≡ replicate (length packages) false → s.only_excludes ≡ true → AreSides packages [] s
no_sides packages s i e o = record {
  included_same = ap length i ∙ length-replicate (length packages) false;
  excluded_same = ap length e ∙ length-replicate (length packages) false;
  takings = [];
  filters_are = refl;
  takes_are = tt;
  included = λ p. rw i (none_marked (length packages) p);
  excluded = λ p. rw e (none_marked (length packages) p);
  only = o;
}

pub sides_more : (packages : List Package) (done : List Filter) (filter : Filter) (found : List ℕ) (old new : Sides) → AreSides packages done old → Takes packages filter (is_in found) → AddsTo filter.excludes found old new → AreSides packages (done ++ filter ∷ []) new
sides_more packages done filter found old new before takes adds =
    let last : Taking = record { filter = filter; takes = is_in found } in
    record {
      included_same = adds.included_same ∙ before.included_same;
      excluded_same = adds.excluded_same ∙ before.excluded_same;
      takings = before.takings ++ last ∷ [];
      filters_are = map-append (λ (taking : Taking). taking.filter) before.takings last ∙ ap (λ fs. fs ++ filter ∷ []) before.filters_are;
      takes_are = all-append (λ (taking : Taking). Takes packages taking.filter taking.takes) before.takings last before.takes_are takes;
      included = λ p. adds.included p ∙ (ap (λ t. t || (not filter.excludes && is_in found p)) (before.included p) ∙ sym (any-append (λ (taking : Taking). not taking.filter.excludes && taking.takes p) before.takings last));
      excluded = λ p. adds.excluded p ∙ (ap (λ t. t || (filter.excludes && is_in found p)) (before.excluded p) ∙ sym (any-append (λ (taking : Taking). taking.filter.excludes && taking.takes p) before.takings last));
      only = adds.only ∙ (ap (λ t. t && filter.excludes) before.only ∙ sym (every-append (λ (taking : Taking). taking.filter.excludes) before.takings last));
    }

pub selected_of : (packages : List Package) (filters : List Filter) (s : Sides) (found : List ℕ) → AreSides packages filters s → IsStrictlySortedBy nat_cmp found → ((p : ℕ) → is_in found p ≡ is_chosen s p) → AreSelected packages filters found
selected_of packages filters s found sides up chosen = record {
  ascend = up;
  takings = sides.takings;
  filters_are = sides.filters_are;
  takes_are = sides.takes_are;
  exact = λ p. chosen p ∙ (rw (sides.included p, sides.excluded p, sides.only, sides.included_same) (and_assoc (nat_lt p (length packages)) (is_included sides.takings p) (not (is_excluded sides.takings p))));
}

-- What a filter selects that is the plain name of a package.
use Rattle.std.proofs.Common.{◌≡◌, ◌&&◌, ◌||◌, ℕ, Bool, true, false, cond, not, List, [], ◌∷◌, Some, None, length, map, refl, sym, ap, ◌∙◌, subst, arith}
use Rattle.std.specs.Prelude.{nat_lt, bytes_eq}
use Rattle.std.specs.Option.{option_map}
use Rattle.std.specs.List.{AllByRecursion}
use Rattle.std.proofs.lemmas.Bool.Decides.{nat_tests}
use Rattle.rel_path.proofs.PathLaws.{name_same, name_self}
use Rattle.workspaces.specs.declared.member.Package.{Package}
use Rattle.workspaces.specs.Lists.{Has, places}
use Rattle.workspaces.specs.Reach.{is_in}
use Rattle.filters.specs.declared.error.FilterErr.TheVariants.{NoPackage}
use Rattle.filters.specs.declared.filter.Core.TheVariants.{Name}
use Rattle.filters.specs.declared.filter.Filter.{Filter}
use Rattle.filters.specs.Words.{filter_of}
use Rattle.filters.specs.Selection.{has_name, is_in_core, Takes, Taking, is_included, is_excluded, AreSelectedBy, fault_from, or_fault, words_fault}
use Rattle.prune_facts.proofs.Lists.{some_inj, filter_test, has_any}
use Rattle.prune_plans.specs.Laws.{by_name}
use Rattle.prune_plans.proofs.Lists.{in_has, one_ascending, place_within, places_ascend}

-- the package has the name
abbrev pub is_named : List ℕ → Package → Bool
is_named name = is_in_core (Name name)

pub named_is : (name : List ℕ) (p : Package) → is_named name p ≡ true → p.name ≡ name
unfolding is_in_core
named_is name p h = name_same p.name name h

module _ (packages : List Package) (name : List ℕ) (plain : filter_of name ≡ Some (by_name name)) where
  -- the places of the packages of that name
  abbrev pub named_places : List ℕ
  named_places = places (is_named name) packages

  abbrev takes : ℕ → Bool
  takes p = is_in (places (is_named name) packages) p

  bool_is : (b : Bool) → cond b true false ≡ b
  bool_is true = refl
  bool_is false = refl

  taken_is : (taken : ℕ → Bool) → Takes packages (by_name name) taken → (p : ℕ) → taken p ≡ takes p
  taken_is taken t p =
      let below : t.below ≡ [] = t.below_reached in
      let above : t.above ≡ [] = t.above_reached in
      let around : t.around ≡ [] = t.around_reached in
      t.exact p ∙ (λ j. is_in (below j) p || (is_in (above j) p || cond (takes p) true (is_in (around j) p))) ∙ bool_is (takes p)

  its_takes : Takes packages (by_name name) takes
  its_takes = record {
    below = [];
    above = [];
    around = [];
    below_reached = refl;
    above_reached = refl;
    around_reached = refl;
    exact = λ p. sym (bool_is (takes p));
  }

  one_filter : (filters : List Filter) → map filter_of (name ∷ []) ≡ map (λ filter. Some filter) filters → filters ≡ by_name name ∷ []
  one_filter [] e = cc
  one_filter (f ∷ []) e = let same : filter_of name ≡ Some f = cc in ap (λ g. g ∷ []) (some_inj f (by_name name) (sym same ∙ plain))
  one_filter (f ∷ g ∷ fs) e = cc

  chooses : (b : Bool) → ((((not false && b) || false) || (false && true)) && not ((false && b) || false)) ≡ b
  chooses true = refl
  chooses false = refl

  one_taking : (takings : List Taking) → map (λ taking. taking.filter) takings ≡ by_name name ∷ [] → AllByRecursion (λ taking. Takes packages taking.filter taking.takes) takings
      → (p : ℕ) → (is_included takings p && not (is_excluded takings p)) ≡ takes p
  one_taking [] e all p = cc
  one_taking (t ∷ []) e all p =
      let same : t.filter ≡ by_name name = cc in
      (λ j. (((not (same j).excludes && t.takes p) || false) || ((same j).excludes && true)) && not (((same j).excludes && t.takes p) || false))
      ∙ chooses (t.takes p) ∙ taken_is t.takes (subst (λ f. Takes packages f t.takes) same all.0) p
  one_taking (t ∷ u ∷ ts) e all p = cc

  within : (p : ℕ) → (nat_lt p (length packages) && takes p) ≡ takes p
  within p = filter_test (nat_lt p (length packages)) (takes p) (takes p) (λ h. refl) (λ h. let less = place_within (is_named name) packages p (in_has named_places p h) in grind (arith, nat_tests, less))

  -- all packages of the name are selected
  pub selected_is : (selected : List ℕ) → AreSelectedBy packages (name ∷ []) selected → selected ≡ named_places
  selected_is selected s = one_ascending selected named_places s.selected.ascend (places_ascend (is_named name) packages)
      (λ p. s.selected.exact p ∙ ap (λ b. nat_lt p (length packages) && b) (one_taking s.selected.takings (s.selected.filters_are ∙ one_filter s.filters s.written) s.selected.takes_are p) ∙ within p)

  pub selects : AreSelectedBy packages (name ∷ []) named_places
  selects = record {
    filters = by_name name ∷ [];
    written = ap (λ f. f ∷ []) plain;
    selected = record {
      ascend = places_ascend (is_named name) packages;
      takings = record { filter = by_name name; takes = takes } ∷ [];
      filters_are = refl;
      takes_are = (its_takes, tt);
      exact = λ p. sym (within p) ∙ ap (λ b. nat_lt p (length packages) && b) (sym (chooses (takes p)));
    };
  }

  -- and nothing is wrong with the filter
  pub no_fault : (p : Package) → Has packages p → p.name ≡ name → words_fault packages (name ∷ []) ≡ None
  no_fault p h e =
      ap (λ f. or_fault (fault_from packages name f) None) plain
      ∙ ap (λ b. or_fault (option_map (λ n. NoPackage n) (cond b None (Some name))) None) (has_any (has_name name) packages p h (ap (λ n. bytes_eq n name) e ∙ name_self name))

-- Places of packages that a manifest has edges to, map by map.
use Rattle.std.proofs.Common.{◌≡◌, ◌++◌, ◌∷◌, ◌⊎◌, inl, inr, [], List, ℕ, zero, suc, ◌<◌, Bool, true, false, cond, length, get_or, refl, sym, ◌∙◌, subst, arith}
use Rattle.std.specs.Prelude.{Option, Some, None, bytes_eq, is_some, not, ◌&&◌}
use Rattle.std.specs.Ordering.{nat_cmp}
use Rattle.std.proofs.lemmas.Bool.{false≢true}
use Rattle.manifest.specs.declared.manifest.Manifest.{Manifest}
use Rattle.workspaces.specs.declared.member.Package.{Package}
use Rattle.workspaces.specs.Lists.{ascending, places, passes_at, Has}
use Rattle.workspaces.specs.Edges.{text_by, has_name, or_else, dep_text, fits, links, edge_from}
use Rattle.std.proofs.Common.{nat_lt, ◌≤◌}
use Rattle.std.proofs.lemmas.Bool.Decides.{nat_tests}
use Rattle.workspaces.specs.Steps.{name_at, AddsEdges, AscendingNames, IsNoName}
use Rattle.workspaces.proofs.Lists.{are_places}
use Rattle.workspaces.proofs.Names.{same_name, less_apart, rises}
use Rattle.workspaces.proofs.ReadIn.{has_left, has_right, has-append}

has_name-push : (name : List ℕ) (pairs : List (List ℕ × List ℕ)) (p : List ℕ × List ℕ) → has_name name (pairs ++ p ∷ []) ≡ true → (has_name name pairs ≡ true) ⊎ (p.0 ≡ name)
has_name-push name [] p has = by (bytes_eq p.0 name) refl has where
  by : (t : Bool) → bytes_eq p.0 name ≡ t → is_some (cond t (Some p.1) None) ≡ true → (has_name name [] ≡ true) ⊎ (p.0 ≡ name)
  by true e some = inr (same_name p.0 name e)
  by false e some = absurd (false≢true some)
has_name-push name (q ∷ pairs) p has = by (bytes_eq q.0 name) has (has_name-push name pairs p) where
  by : (t : Bool) → is_some (cond t (Some q.1) (text_by name (pairs ++ p ∷ []))) ≡ true → (has_name name (pairs ++ p ∷ []) ≡ true → (has_name name pairs ≡ true) ⊎ (p.0 ≡ name)) → (is_some (cond t (Some q.1) (text_by name pairs)) ≡ true) ⊎ (p.0 ≡ name)
  by true some inner = inl refl
  by false some inner = inner some

passes_name : (test : Package → Bool) (packages : List Package) (place : ℕ) (d : Package) → place < length packages → (passes_at test packages place ≡ test (get_or packages place d)) × (name_at packages place ≡ (get_or packages place d).name)
passes_name test [] place d less = absurd (omega arith)
passes_name test (p ∷ packages) zero d less = (refl, refl)
passes_name test (p ∷ packages) (suc place) d less = passes_name test packages place d (omega arith)

passes_within : (test : Package → Bool) (packages : List Package) (place : ℕ) → passes_at test packages place ≡ true → place < length packages
passes_within test [] place passes = absurd (false≢true passes)
passes_within test (p ∷ packages) zero passes = omega arith
passes_within test (p ∷ packages) (suc place) passes = let less = passes_within test packages place passes in omega (arith, less)

pub adds_none : (packages : List Package) (own : List ℕ) (m : Manifest) (old : List ℕ) → AddsEdges packages own m [] old old
adds_none packages own m old = record { kept = λ place has. has; added = λ place passes has. absurd (false≢true has); exact = λ place has. inl has }

module _ (packages : List Package) (own : List ℕ) (m : Manifest) (pairs : List (List ℕ × List ℕ)) (p : List ℕ × List ℕ) (old new : List ℕ) where
  -- no package has the name of one more pair, or the one that has it makes no edge
  pub adds_no : AddsEdges packages own m pairs old new → ((place : ℕ) → passes_at (edge_from own m) packages place ≡ true → name_at packages place ≡ p.0 → ⊥) → AddsEdges packages own m (pairs ++ p ∷ []) old new
  adds_no adds none = record { kept = adds.kept; added = λ place passes has. added place passes (has_name-push (name_at packages place) pairs p has); exact = adds.exact } where
    added : (place : ℕ) → passes_at (edge_from own m) packages place ≡ true → (has_name (name_at packages place) pairs ≡ true) ⊎ (p.0 ≡ name_at packages place) → Has new place
    added place passes (inl before) = adds.added place passes before
    added place passes (inr here) = absurd (none place passes (sym here))

  -- the package of that name makes one
  pub adds_one : (at : ℕ) → AddsEdges packages own m pairs old new → passes_at (edge_from own m) packages at ≡ true → ((place : ℕ) → passes_at (edge_from own m) packages place ≡ true → name_at packages place ≡ p.0 → at ≡ place) → AddsEdges packages own m (pairs ++ p ∷ []) old (new ++ at ∷ [])
  adds_one at adds edge only = record {
    kept = λ place has. has_left new (at ∷ []) place (adds.kept place has);
    added = λ place passes has. added place passes (has_name-push (name_at packages place) pairs p has);
    exact = λ place has. exact place (has-append new (at ∷ []) place has);
  } where
    added : (place : ℕ) → passes_at (edge_from own m) packages place ≡ true → (has_name (name_at packages place) pairs ≡ true) ⊎ (p.0 ≡ name_at packages place) → Has (new ++ at ∷ []) place
    added place passes (inl before) = has_left new (at ∷ []) place (adds.added place passes before)
    added place passes (inr here) = has_right new (at ∷ []) place (inl (only place passes (sym here)))

    exact : (place : ℕ) → Has new place ⊎ Has (at ∷ []) place → Has old place ⊎ (passes_at (edge_from own m) packages place ≡ true)
    exact place (inl was) = adds.exact place was
    exact place (inr (inl here)) = inr (subst (λ q. passes_at (edge_from own m) packages q ≡ true) here edge)
    exact place (inr (inr none)) = absurd none

-- ---- all three maps

or_names : (a b : Option (List ℕ)) → is_some (or_else a b) ≡ true → (is_some a ≡ true) ⊎ (is_some b ≡ true)
or_names None b some = inr some
or_names (Some x) b some = inl refl

and_second : (a b : Bool) → (a && b) ≡ true → b ≡ true
and_second true b e = e
and_second false b e = absurd (false≢true e)

some_fits : (o version : Option (List ℕ)) → fits o version ≡ true → is_some o ≡ true
some_fits None version fit = absurd (false≢true fit)
some_fits (Some text) version fit = refl

edge_named : (own : List ℕ) (m : Manifest) (q : Package) → edge_from own m q ≡ true → is_some (dep_text m q.name) ≡ true
unfolding edge_from links
edge_named own m q edge = some_fits (dep_text m q.name) q.manifest.version (and_second (not (bytes_eq own q.name)) (links m q) edge)

place_named : (own : List ℕ) (m : Manifest) (packages : List Package) (place : ℕ) → passes_at (edge_from own m) packages place ≡ true → is_some (dep_text m (name_at packages place)) ≡ true
place_named own m [] place passes = absurd (false≢true passes)
place_named own m (q ∷ packages) zero passes = edge_named own m q passes
place_named own m (q ∷ packages) (suc place) passes = place_named own m packages place passes

pub all_maps : (packages : List Package) (own : List ℕ) (m : Manifest) (one two three : List ℕ) → AddsEdges packages own m m.optional [] one → AddsEdges packages own m m.deps one two → AddsEdges packages own m m.dev two three
    → ascending nat_cmp three ≡ places (edge_from own m) packages
unfolding dep_text
all_maps packages own m one two three first second third = are_places (edge_from own m) packages three (λ q has. exact q (third.exact q has)) (λ q passes. all q passes (or_names (text_by (name_at packages q) m.optional) (or_else (text_by (name_at packages q) m.deps) (text_by (name_at packages q) m.dev)) (place_named own m packages q passes))) where
  exact1 : (q : ℕ) → Has [] q ⊎ (passes_at (edge_from own m) packages q ≡ true) → passes_at (edge_from own m) packages q ≡ true
  exact1 q (inl none) = absurd none
  exact1 q (inr passes) = passes

  exact2 : (q : ℕ) → Has one q ⊎ (passes_at (edge_from own m) packages q ≡ true) → passes_at (edge_from own m) packages q ≡ true
  exact2 q (inl has) = exact1 q (first.exact q has)
  exact2 q (inr passes) = passes

  exact : (q : ℕ) → Has two q ⊎ (passes_at (edge_from own m) packages q ≡ true) → passes_at (edge_from own m) packages q ≡ true
  exact q (inl has) = exact2 q (second.exact q has)
  exact q (inr passes) = passes

  later : (q : ℕ) → passes_at (edge_from own m) packages q ≡ true → (is_some (text_by (name_at packages q) m.deps) ≡ true) ⊎ (is_some (text_by (name_at packages q) m.dev) ≡ true) → Has three q
  later q passes (inl named) = third.kept q (second.added q passes named)
  later q passes (inr named) = third.added q passes named

  all : (q : ℕ) → passes_at (edge_from own m) packages q ≡ true → (is_some (text_by (name_at packages q) m.optional) ≡ true) ⊎ (is_some (or_else (text_by (name_at packages q) m.deps) (text_by (name_at packages q) m.dev)) ≡ true) → Has three q
  all q passes (inl named) = third.kept q (second.kept q (first.added q passes named))
  all q passes (inr named) = later q passes (or_names (text_by (name_at packages q) m.deps) (text_by (name_at packages q) m.dev) named)

-- ---- one pair more, by what its name finds

no_such : (packages : List Package) (name : List ℕ) → IsNoName packages name → (place : ℕ) → place < length packages → name_at packages place ≡ name → ⊥
no_such [] name none place less named = absurd (omega arith)
no_such (q ∷ packages) name none zero less named = none 0 q (omega arith) named
no_such (q ∷ packages) name none (suc place) less named = no_such packages name (λ k d l. none (suc k) d (omega arith)) place (omega arith) named

unique_place : (packages : List Package) → AscendingNames packages → (i j : ℕ) (d : Package) → i < length packages → j < length packages → (get_or packages i d).name ≡ (get_or packages j d).name → i ≡ j
unique_place packages up i j d less more same = by (ltb_cases i j) (ltb_cases j i) where
  ltb_cases : (m n : ℕ) → (m < n) ⊎ (n ≤ m)
  ltb_cases m n = cases (nat_lt m n) refl where
    cases : (t : Bool) → nat_lt m n ≡ t → (m < n) ⊎ (n ≤ m)
    cases true e = inl (grind (arith, nat_tests, e))
    cases false e = inr (grind (arith, nat_tests, e))

  by : (i < j) ⊎ (j ≤ i) → (j < i) ⊎ (i ≤ j) → i ≡ j
  by (inl before) other = absurd (less_apart (get_or packages i d).name (get_or packages j d).name (rises (λ (q : Package). q.name) packages up i j d before more) same)
  by (inr behind) (inl after) = absurd (less_apart (get_or packages j d).name (get_or packages i d).name (rises (λ (q : Package). q.name) packages up j i d after less) (sym same))
  by (inr behind) (inr ahead) = omega arith

module _ (packages : List Package) (own : List ℕ) (m : Manifest) (pairs : List (List ℕ × List ℕ)) (p : List ℕ × List ℕ) (old new : List ℕ) (adds : AddsEdges packages own m pairs old new) where
  pub pair_of_none : IsNoName packages p.0 → AddsEdges packages own m (pairs ++ p ∷ []) old new
  pair_of_none none = adds_no packages own m pairs p old new adds (λ place passes named.
      no_such packages p.0 none place (passes_within (edge_from own m) packages place passes) named)

  module _ (at : ℕ) (d : Package) (up : AscendingNames packages) (less : at < length packages) (is : (get_or packages at d).name ≡ p.0) where
    only : (place : ℕ) → passes_at (edge_from own m) packages place ≡ true → name_at packages place ≡ p.0 → at ≡ place
    only place passes named =
        let within : place < length packages = passes_within (edge_from own m) packages place passes in
        unique_place packages up at place d less within (is ∙ sym named ∙ (passes_name (edge_from own m) packages place d within).1)

    pub pair_of_other : edge_from own m (get_or packages at d) ≡ false → AddsEdges packages own m (pairs ++ p ∷ []) old new
    pair_of_other none = adds_no packages own m pairs p old new adds (λ place passes named.
        let here : at ≡ place = only place passes named in
        let edge : passes_at (edge_from own m) packages at ≡ true = subst (λ q. passes_at (edge_from own m) packages q ≡ true) (sym here) passes in
        false≢true (sym none ∙ (sym (passes_name (edge_from own m) packages at d less).0 ∙ edge)))

    pub pair_of_edge : edge_from own m (get_or packages at d) ≡ true → AddsEdges packages own m (pairs ++ p ∷ []) old (new ++ at ∷ [])
    pair_of_edge edge = adds_one packages own m pairs p old new at adds ((passes_name (edge_from own m) packages at d less).0 ∙ edge) only

-- One selection by filters.
use Rattle.std.proofs.Common.{◌≡◌, ◌==◌, ◌&&◌, ◌||◌, ℕ, Bool, true, false, not, List, [], ◌∷◌, length, map, refl, sym, ◌∙◌, subst, arith}
use Rattle.std.specs.Prelude.{Some, nat_lt, if◌then◌else◌}
use Rattle.std.specs.List.{AllByRecursion}
use Rattle.std.specs.Ordering.{nat_cmp}
use Rattle.std.specs.Cmp.{nat_cmp_total}
use Rattle.std.proofs.lemmas.Bool.Decides.{nat_tests}
use Rattle.workspaces.specs.declared.member.Package.{Package}
use Rattle.workspaces.specs.Reach.{is_in, IsClosed, IsReached}
use Rattle.workspaces.specs.Members.{leads, leads_back}
use Rattle.filters.specs.declared.filter.Filter.{Filter}
use Rattle.filters.specs.Words.{has_dots, leaves_core}
use Rattle.filters.specs.Selection.{IsReachedIf, core_in, Takes, Taking, is_included, is_excluded, AreSelected, AreSelectedBy}
use Rattle.plan_laws.proofs.Ascending.{one_ascending}
use Rattle.plan_laws.specs.Least.{one_least}

abbrev is_same : ℕ → ℕ → Bool
is_same p q = p == q

same_place : (p q : ℕ) → is_same p q ≡ true → p ≡ q
same_place p q e = grind (arith, nat_tests, e)

itself : (p : ℕ) → is_same p p ≡ true
itself p = grind (arith, nat_tests)

one_reached : (leads : ℕ → ℕ → Bool) (from one other : List ℕ) → IsReached leads from one → IsReached leads from other → one ≡ other
one_reached leads from one other a b =
    let alike : is_in one ≡ is_in other = one_least (IsClosed leads from) (is_in one) (is_in other) a.least b.least in
    one_ascending nat_cmp nat_cmp_total is_same same_place itself one other a.ascend b.ascend (λ p j. alike j p)

one_reached_if : (asked : Bool) (leads : ℕ → ℕ → Bool) (from one other : List ℕ) → IsReachedIf asked leads from one → IsReachedIf asked leads from other → one ≡ other
one_reached_if true leads from one other a b = one_reached leads from one other a b
one_reached_if false leads from one other a b = a ∙ sym b

same_somes : (xs ys : List Filter) → map (λ filter. Some filter) xs ≡ map (λ filter. Some filter) ys → xs ≡ ys
same_somes [] [] e = refl
same_somes [] (y ∷ ys) e = cc
same_somes (x ∷ xs) [] e = cc
same_somes (x ∷ xs) (y ∷ ys) e =
    let head : x ≡ y = cc in
    let rest : map (λ (filter : Filter). Some filter) xs ≡ map (λ (filter : Filter). Some filter) ys = cc in
    let tail = same_somes xs ys rest in
    λ j. head j ∷ tail j

module _ (packages : List Package) where
  same_taken : (filter : Filter) (one other : ℕ → Bool) → Takes packages filter one → Takes packages filter other → one ≡ other
  same_taken filter one other a b =
      let below : a.below ≡ b.below = one_reached_if (has_dots filter.back) (leads packages) (core_in packages filter) a.below b.below a.below_reached b.below_reached in
      let above : a.above ≡ b.above = one_reached_if (has_dots filter.front) (leads_back packages) (core_in packages filter) a.above b.above a.above_reached b.above_reached in
      let around : a.around ≡ b.around = one_reached_if (has_dots filter.front && has_dots filter.back) (leads packages) b.above a.around b.around (subst (λ from. IsReachedIf (has_dots filter.front && has_dots filter.back) (leads packages) from a.around) above a.around_reached) b.around_reached in
      let each : (p : ℕ) → one p ≡ other p = λ p. a.exact p ∙ (λ j. is_in (below j) p || (is_in (above j) p || (if is_in (core_in packages filter) p then not (leaves_core filter) else is_in (around j) p))) ∙ sym (b.exact p) in
      λ j p. each p j

  one_takings : (xs ys : List Taking) → map (λ taking. taking.filter) xs ≡ map (λ taking. taking.filter) ys
      → AllByRecursion (λ taking. Takes packages taking.filter taking.takes) xs → AllByRecursion (λ taking. Takes packages taking.filter taking.takes) ys → xs ≡ ys
  one_takings [] [] e a b = refl
  one_takings [] (y ∷ ys) e a b = cc
  one_takings (x ∷ xs) [] e a b = cc
  one_takings (x ∷ xs) (y ∷ ys) e a b =
      let filter : x.filter ≡ y.filter = cc in
      let rest : map (λ (taking : Taking). taking.filter) xs ≡ map (λ (taking : Taking). taking.filter) ys = cc in
      let takes : x.takes ≡ y.takes = same_taken y.filter x.takes y.takes (subst (λ f. Takes packages f x.takes) filter a.0) b.0 in
      let tail = one_takings xs ys rest a.1 b.1 in
      λ j. record { filter = filter j; takes = takes j } ∷ tail j

  one_of_filters : (filters : List Filter) (one other : List ℕ) → AreSelected packages filters one → AreSelected packages filters other → one ≡ other
  one_of_filters filters one other a b =
      let takings : a.takings ≡ b.takings = one_takings a.takings b.takings (a.filters_are ∙ sym b.filters_are) a.takes_are b.takes_are in
      one_ascending nat_cmp nat_cmp_total is_same same_place itself one other a.ascend b.ascend
      (λ p. a.exact p ∙ (λ j. nat_lt p (length packages) && (is_included (takings j) p && not (is_excluded (takings j) p))) ∙ sym (b.exact p))

  pub one_selection : (words : List (List ℕ)) (one other : List ℕ) → AreSelectedBy packages words one → AreSelectedBy packages words other → one ≡ other
  one_selection words one other a b =
      let filters : a.filters ≡ b.filters = same_somes a.filters b.filters (sym a.written ∙ b.written) in
      one_of_filters b.filters one other (subst (λ filters. AreSelected packages filters one) filters a.selected) b.selected

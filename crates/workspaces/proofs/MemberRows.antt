-- Edges of packages, as rows.
use Rattle.std.proofs.Common.{◌≡◌, ℕ, zero, suc, ◌<◌, Bool, true, false, List, [], ◌∷◌, length, get_or, take, map, refl, sym, ◌∙◌, arith, ne_eqb}
use Rattle.std.proofs.lemmas.List.{length-map}
use Rattle.std.specs.List.{AllByRecursion}
use Rattle.std.specs.List.Sorted.{IsStrictlySortedBy}
use Rattle.std.specs.declared.cmp.Ordering.TheVariants.{Less}
use Rattle.std.specs.Ordering.{nat_cmp}
use Rattle.std.proofs.lemmas.Bool.{false≢true}
use Rattle.workspaces.specs.declared.member.Package.{Package}
use Rattle.workspaces.specs.Lists.{places, passes_at}
use Rattle.workspaces.specs.Edges.{has_edge}
use Rattle.workspaces.specs.Reach.{is_in, row_at, leads_in, AreBelow, AreRowsBelow, IsReached}
use Rattle.workspaces.specs.Turned.{Turned}
use Rattle.workspaces.specs.Members.{edges_of, users_of, leads}
use Rattle.workspaces.proofs.Order.{all_from}
use Rattle.workspaces.proofs.Lists.{has-places, sorted-places, less_nat}
use Rattle.workspaces.proofs.Turning.{in-places, places-map, places-same, same_rows}

passes_within : {X : Type 0} (test : X → Bool) (xs : List X) (place : ℕ) → passes_at test xs place ≡ true → place < length xs
passes_within test [] place passes = absurd (false≢true passes)
passes_within test (x ∷ xs) zero passes = omega arith
passes_within test (x ∷ xs) (suc place) passes = let less = passes_within test xs place passes in omega (arith, less)

places_below : {X : Type 0} (test : X → Bool) (xs : List X) → AreBelow (length xs) (places test xs)
places_below test xs = all_from (λ p. p < length xs) (places test xs) (λ p has. passes_within test xs p (has-places test xs p has))

rows_all : {X : Type 0} (P : List ℕ → Type 0) (f : X → List ℕ) → ((x : X) → P (f x)) → (xs : List X) → AllByRecursion P (map f xs)
rows_all P f each [] = tt
rows_all P f each (x ∷ xs) = (each x, rows_all P f each xs)

pub edges_below : (packages : List Package) → AreRowsBelow (length (map (edges_of packages) packages)) (map (edges_of packages) packages)
unfolding edges_of
edges_below packages = rows_all (AreBelow (length (map (edges_of packages) packages))) (edges_of packages) (λ m. rw (length-map packages (edges_of packages)) (places_below (has_edge m) packages)) packages

pub users_below : (packages : List Package) → AreRowsBelow (length (map (users_of packages) packages)) (map (users_of packages) packages)
unfolding users_of
users_below packages = rows_all (AreBelow (length (map (users_of packages) packages))) (users_of packages) (λ m. rw (length-map packages (users_of packages)) (places_below (λ user. has_edge user m) packages)) packages

pub edges_ascend : (packages : List Package) → AllByRecursion (IsStrictlySortedBy nat_cmp) (map (edges_of packages) packages)
unfolding edges_of
edges_ascend packages = rows_all (IsStrictlySortedBy nat_cmp) (edges_of packages) (λ m. sorted-places (has_edge m) packages) packages

row_of : {X : Type 0} (f : X → List ℕ) (test : X → ℕ → Bool) → ((x : X) (q : ℕ) → is_in (f x) q ≡ test x q) → (xs : List X) (p q : ℕ) → is_in (row_at (map f xs) p) q ≡ passes_at (λ x. test x q) xs p
row_of f test same [] p q = refl
row_of f test same (x ∷ xs) zero q = same x q
row_of f test same (x ∷ xs) (suc p) q = row_of f test same xs p q

pub edges_lead : (packages : List Package) (p q : ℕ) → leads_in (map (edges_of packages) packages) p q ≡ leads packages p q
unfolding edges_of leads
edges_lead packages p q = row_of (edges_of packages) (λ m r. passes_at (has_edge m) packages r) (λ m r. in-places (has_edge m) packages r) packages p q

swapped : (all packages : List Package) (p q : ℕ) → passes_at (λ m. passes_at (λ user. has_edge user m) all q) packages p ≡ passes_at (λ m. passes_at (has_edge m) packages p) all q
swapped [] [] p q = refl
swapped [] (x ∷ packages) zero q = refl
swapped [] (x ∷ packages) (suc p) q = swapped [] packages p q
swapped (y ∷ all) [] p zero = refl
swapped (y ∷ all) [] p (suc q) = swapped all [] p q
swapped (y ∷ all) (x ∷ packages) zero zero = refl
swapped (y ∷ all) (x ∷ packages) zero (suc q) = swapped all (x ∷ packages) zero q
swapped (y ∷ all) (x ∷ packages) (suc p) q = swapped (y ∷ all) packages p q ∙ shifted (y ∷ all) q where
  shifted : (zs : List Package) (r : ℕ) → passes_at (λ m. passes_at (has_edge m) packages p) zs r ≡ passes_at (λ m. passes_at (has_edge m) (x ∷ packages) (suc p)) zs r
  shifted [] r = refl
  shifted (z ∷ zs) zero = refl
  shifted (z ∷ zs) (suc r) = shifted zs r

pub users_lead : (packages : List Package) (p q : ℕ) → leads_in (map (users_of packages) packages) p q ≡ leads packages q p
unfolding users_of leads
users_lead packages p q = row_of (users_of packages) (λ m r. passes_at (λ user. has_edge user m) packages r) (λ m r. in-places (λ user. has_edge user m) packages r) packages p q ∙ swapped packages packages p q

-- the same edges reach the same
pub reached_same : (f g : ℕ → ℕ → Bool) (from found : List ℕ) → ((p q : ℕ) → f p q ≡ g p q) → IsReached f from found → IsReached g from found
reached_same f g from found same reached = record {
  ascend = reached.ascend;
  least = (
    record {
      start = λ p q is lead. reached.least.0.start p q is (same p q ∙ lead);
      more = λ p q is lead. reached.least.0.more p q is (same p q ∙ lead);
    },
    λ other closed. reached.least.1 other (record {
      start = λ p q is lead. closed.start p q is (sym (same p q) ∙ lead);
      more = λ p q is lead. closed.more p q is (sym (same p q) ∙ lead);
    }),
  );
}

-- ---- edges turned round

at_row : (f : Package → List ℕ) (packages : List Package) (q : ℕ) (d : Package) → q < length packages → row_at (map f packages) q ≡ f (get_or packages q d)
at_row f [] q d less = absurd (omega arith)
at_row f (m ∷ packages) zero d less = refl
at_row f (m ∷ packages) (suc q) d less = at_row f packages q d (omega arith)

passes_of : (test : Package → Bool) (packages : List Package) (q : ℕ) (d : Package) → q < length packages → passes_at test packages q ≡ test (get_or packages q d)
passes_of test [] q d less = absurd (omega arith)
passes_of test (m ∷ packages) zero d less = refl
passes_of test (m ∷ packages) (suc q) d less = passes_of test packages q d (omega arith)

first_or : (packages : List Package) → 0 < length packages → Package
first_or [] less = absurd (omega arith)
first_or (m ∷ packages) less = m

turned_row : (packages : List Package) (q : ℕ) → q < length packages → places (λ row. is_in row q) (map (edges_of packages) packages) ≡ row_at (map (users_of packages) packages) q
unfolding edges_of users_of
turned_row packages q less =
    let d : Package = first_or packages (omega (arith, less)) in
    places-map (edges_of packages) (λ row. is_in row q) packages
    ∙ (places-same (λ m. is_in (edges_of packages m) q) (λ user. has_edge user (get_or packages q d)) (λ user. in-places (has_edge user) packages q ∙ passes_of (has_edge user) packages q d less) packages
    ∙ sym (at_row (users_of packages) packages q d less))

pub users_are : (packages : List Package) (users : List (List ℕ)) → length users ≡ length (map (edges_of packages) packages) → Turned (map (edges_of packages) packages) users → users ≡ map (users_of packages) packages
users_are packages users same turned =
    let count : length users ≡ length packages = same ∙ length-map packages (edges_of packages) in
    same_rows users (map (users_of packages) packages) (count ∙ sym (length-map packages (users_of packages)))
    (λ q less. turned q less ∙ turned_row packages q (omega (arith, count, less)))

-- ---- strictly ascending numbers

number_at : (u : ℕ) (us : List ℕ) → AllByRecursion (λ y. nat_cmp u y ≡ Less) us → (i d : ℕ) → i < length us → u < get_or us i d
number_at u [] all i d less = absurd (omega arith)
number_at u (v ∷ us) all zero d less = less_nat u v all.0
number_at u (v ∷ us) all (suc i) d less = number_at u us all.1 i d (omega arith)

pub fresh_at : (used : List ℕ) → IsStrictlySortedBy nat_cmp used → (i d : ℕ) → i < length used → is_in (take i used) (get_or used i d) ≡ false
unfolding IsStrictlySortedBy
fresh_at [] up i d less = absurd (omega arith)
fresh_at (u ∷ used) up zero d less = refl
fresh_at (u ∷ used) up (suc i) d less =
    let above : u < get_or used i d = number_at u used up.0 i d (omega arith) in
    rw (ne_eqb u (get_or used i d) (λ e. absurd (omega (arith, above, e)))) (fresh_at used up.1 i d (omega arith))

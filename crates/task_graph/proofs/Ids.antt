-- The order of tasks, and lists of them.
use Rattle.std.proofs.Common.{◌≡◌, ◌&&◌, ◌||◌, ◌⊎◌, inl, inr, Bool, true, false, List, [], ◌∷◌, ◌++◌, refl, sym, ap, ◌∙◌, subst}
use Rattle.std.specs.declared.cmp.Ordering.{Ordering}
use Rattle.std.specs.declared.cmp.Ordering.TheVariants.{Less, Equal, Greater}
use Rattle.std.specs.Ordering.{is_eq, eq_by_cmp, ordering_then}
use Rattle.std.specs.BTreeMap.{is_at}
use Rattle.std.specs.Cmp.{IsTotalOrder, IsEquivalence}
use Rattle.std.specs.Cmp.Lexicographic.{nat_list_cmp_total, nat_list_eq_equiv}
use Rattle.std.proofs.lemmas.Cmp.{then_total, on_total, and_equiv, on_equiv, tied_itself}
use Rattle.std.proofs.lemmas.Bool.{false≢true}
use Rattle.std.proofs.lemmas.List.Folds.{list_any-append}
use Rattle.std.proofs.lemmas.Map.Text.{is_eq-slice_cmp}
use Rattle.std.proofs.lemmas.Slice.Eq.{bytes_eq-Decides}
use Rattle.rel_path.specs.Paths.{name_eq, name_cmp}
use Rattle.turbo_config.specs.declared.task_id.TaskId.{TaskId}
use Rattle.workspaces.specs.Lists.{Has}
use Rattle.task_graph.specs.Ids.{id_cmp, has}

pub or_cases : (a b : Bool) → (a || b) ≡ true → (a ≡ true) ⊎ (b ≡ true)
or_cases true b e = inl refl
or_cases false b e = inr e

pub or_left : (a b : Bool) → a ≡ true → (a || b) ≡ true
or_left a b e = rw e refl

pub or_right : (a b : Bool) → b ≡ true → (a || b) ≡ true
or_right true b e = refl
or_right false b e = e

pub both_ways : (s t : Bool) → (s ≡ true → t ≡ true) → (t ≡ true → s ≡ true) → s ≡ t
both_ways true t f g = sym (f refl)
both_ways false true f g = g refl
both_ways false false f g = refl

pub and_first : (a b : Bool) → (a && b) ≡ true → a ≡ true
and_first true b e = refl
and_first false b e = absurd (false≢true e)

pub and_second : (a b : Bool) → (a && b) ≡ true → b ≡ true
and_second true b e = e
and_second false b e = absurd (false≢true e)

-- ---- the order

abbrev pub id_eq : TaskId → TaskId → Bool
id_eq a b = name_eq a.«package» b.«package» && name_eq a.task b.task

pub id_total : IsTotalOrder id_cmp
id_total = then_total (on_total (λ (id : TaskId). id.«package») nat_list_cmp_total) (on_total (λ (id : TaskId). id.task) nat_list_cmp_total)

pub id_equiv : IsEquivalence id_eq
id_equiv = and_equiv (on_equiv (λ (id : TaskId). id.«package») nat_list_eq_equiv) (on_equiv (λ (id : TaskId). id.task) nat_list_eq_equiv)

then_is : (a b : Ordering) → is_eq (ordering_then a b) ≡ (is_eq a && is_eq b)
then_is Less b = refl
then_is Equal b = refl
then_is Greater b = refl

pub id_ties : (a b : TaskId) → id_eq a b ≡ eq_by_cmp id_cmp a b
id_ties a b = sym (then_is (name_cmp a.«package» b.«package») (name_cmp a.task b.task) ∙ (λ j. is_eq-slice_cmp a.«package» b.«package» j && is_eq-slice_cmp a.task b.task j))

pub id_same : (a b : TaskId) → id_eq a b ≡ true → a ≡ b
id_same a b e =
    let p = (bytes_eq-Decides a.«package» b.«package»).0 (and_first (name_eq a.«package» b.«package») (name_eq a.task b.task) e) in
    let q = (bytes_eq-Decides a.task b.task).0 (and_second (name_eq a.«package» b.«package») (name_eq a.task b.task) e) in
    λ j. record { «package» = p j; task = q j }

pub id_self : (a : TaskId) → id_cmp a a ≡ Equal
id_self a = tied_itself id_total a

pub id_tied : (a b : TaskId) → id_cmp a b ≡ Equal → a ≡ b
id_tied a b e = id_same a b (id_ties a b ∙ ap is_eq e)

pub at_same : (a b : TaskId) → is_at (id_cmp a) b ≡ true → a ≡ b
at_same a b e = id_same a b (id_ties a b ∙ e)

pub at_self : (a : TaskId) → is_at (id_cmp a) a ≡ true
at_self a = ap is_eq (id_self a)

-- ---- lists of tasks

pub has-from : (ids : List TaskId) (id : TaskId) → Has ids id → has ids id ≡ true
has-from [] id among = absurd among
has-from (x ∷ ids) id (inl here) = or_left (is_at (id_cmp id) x) (has ids id) (subst (λ w. is_at (id_cmp id) w ≡ true) (sym here) (at_self id))
has-from (x ∷ ids) id (inr later) = or_right (is_at (id_cmp id) x) (has ids id) (has-from ids id later)

pub from-has : (ids : List TaskId) (id : TaskId) → has ids id ≡ true → Has ids id
from-has [] id is = absurd (false≢true is)
from-has (x ∷ ids) id is = elim (or_cases (is_at (id_cmp id) x) (has ids id) is) [ inl here ↦ inl (sym (at_same id x here)) | inr later ↦ inr (from-has ids id later) ]

pub has-append : (xs ys : List TaskId) (id : TaskId) → has (xs ++ ys) id ≡ (has xs id || has ys id)
has-append xs ys id = list_any-append (is_at (id_cmp id)) xs ys

pub not_itself : (a : TaskId) → id_cmp a a ≡ Less → ⊥
not_itself a less = let self : id_cmp a a ≡ Equal = id_self a in cc

pub not_twice : (a b : TaskId) → id_cmp a b ≡ Less → id_cmp b a ≡ Less → ⊥
not_twice a b less more = not_itself a (id_total.trans a b a less more)

-- One cycle of a task graph: its way goes on by steps that leave no choice, and ends where it comes to a task again.
use Rattle.std.proofs.Common.{◌≡◌, inl, inr, ℕ, Bool, true, List, [], ◌∷◌, ◌++◌, refl, sym, ap, ◌∙◌, subst}
use Rattle.std.specs.declared.cmp.Ordering.{Ordering}
use Rattle.std.specs.declared.cmp.Ordering.TheVariants.{Less, Equal, Greater}
use Rattle.std.specs.Ordering.{is_eq}
use Rattle.std.specs.Cmp.{IsTotalOrder}
use Rattle.std.specs.BTreeMap.{is_at}
use Rattle.std.proofs.lemmas.Bool.{false≢true}
use Rattle.std.proofs.lemmas.Cmp.{tied_itself}
use Rattle.turbo_config.specs.declared.task_id.TaskId.{TaskId}
use Rattle.task_graph.specs.declared.node.Node.{Node}
use Rattle.task_graph.specs.Ids.{id_cmp, has}
use Rattle.task_graph.specs.Plans.{IsFirst}
use Rattle.task_graph.specs.Cycles.{TakesAway, is_left, Steps, Chain, IsWay, AreApart, IsCycle}
use Rattle.plan_laws.proofs.Ascending.{or_left, or_right, or_cases}
use Rattle.plan_laws.specs.Least.{one_least, by_two_total, firsts_tied, seconds_tied}

-- ---- tasks

abbrev package_of : TaskId → List ℕ
package_of id = id.«package»

abbrev task_of : TaskId → List ℕ
task_of id = id.task

id_total : IsTotalOrder id_cmp
id_total = by_two_total package_of task_of

id_tied : (a b : TaskId) → id_cmp a b ≡ Equal → a ≡ b
id_tied a b e = let p = firsts_tied package_of task_of a b e in let q = seconds_tied package_of task_of a b e in λ j. record { «package» = p j; task = q j }

at_self : (a : TaskId) → is_at (id_cmp a) a ≡ true
at_self a = ap is_eq (tied_itself id_total a)

is_equal : (o : Ordering) → is_eq o ≡ true → o ≡ Equal
is_equal Less e = absurd (false≢true e)
is_equal Equal e = refl
is_equal Greater e = absurd (false≢true e)

at_same : (a b : TaskId) → is_at (id_cmp a) b ≡ true → a ≡ b
at_same a b e = id_tied a b (is_equal (id_cmp a b) e)

one_first : (test : TaskId → Bool) (a b : TaskId) → IsFirst test a → IsFirst test b → a ≡ b
one_first test a b first second = by (id_cmp a b) refl where
  by : (r : Ordering) → id_cmp a b ≡ r → a ≡ b
  by Less e = absurd (false≢true (sym (second.least a e) ∙ first.passes))
  by Equal e = id_tied a b e
  by Greater e = let back = id_total.antisymm b a in let less : id_cmp b a ≡ Less = rw e at back in absurd (false≢true (sym (first.least b less) ∙ second.passes))

has-middle : (xs : List TaskId) (y : TaskId) (more : List TaskId) → has (xs ++ y ∷ more) y ≡ true
has-middle [] y more = or_left (is_at (id_cmp y) y) (has more y) (at_self y)
has-middle (x ∷ xs) y more = or_right (is_at (id_cmp y) x) (has (xs ++ y ∷ more) y) (has-middle xs y more)

apart_middle : (xs : List TaskId) (y : TaskId) (more : List TaskId) → AreApart (xs ++ y ∷ more) → has xs y ≡ true → ⊥
apart_middle [] y more apart is = false≢true is
apart_middle (x ∷ xs) y more apart is = elim (or_cases (is_at (id_cmp y) x) (has xs y) is) [
  | inl here ↦ false≢true (sym apart.0 ∙ subst (λ w. has (xs ++ y ∷ more) w ≡ true) (at_same y x here) (has-middle xs y more))
  | inr later ↦ apart_middle xs y more apart.1 later
]

-- ---- two ways by steps that leave no choice

pub data Ways (one : List TaskId) (end : TaskId) (other : List TaskId) (last : TaskId) : Type 0 where
  Same : one ≡ other → end ≡ last → Ways one end other last
  Longer : (more : List TaskId) → one ≡ other ++ last ∷ more → Ways one end other last
  Shorter : (more : List TaskId) → other ≡ one ++ end ∷ more → Ways one end other last

module _ (step : TaskId → TaskId → Type 0) (sure : (from a b : TaskId) → step from a → step from b → a ≡ b) where
  onward : (x y : TaskId) (one : List TaskId) (end : TaskId) (other : List TaskId) (last : TaskId) → x ≡ y → Ways one end other last → Ways (x ∷ one) end (y ∷ other) last
  onward x y one end other last head (Same e f) = Same (λ j. head j ∷ e j) f
  onward x y one end other last head (Longer more e) = Longer more (λ j. head j ∷ e j)
  onward x y one end other last head (Shorter more e) = Shorter more (λ j. sym head j ∷ e j)

  compare : (from : TaskId) (one : List TaskId) (end : TaskId) (other : List TaskId) (last : TaskId) → Chain step from (one ++ end ∷ []) → Chain step from (other ++ last ∷ []) → Ways one end other last
  compare from [] end [] last a b = Same refl (sure from end last a.0 b.0)
  compare from [] end (y ∷ other) last a b = let e = sure from end y a.0 b.0 in Shorter other (λ j. sym e j ∷ other)
  compare from (x ∷ one) end [] last a b = let e = sure from x last a.0 b.0 in Longer one (λ j. e j ∷ one)
  compare from (x ∷ one) end (y ∷ other) last a b =
      let e : x ≡ y = sure from x y a.0 b.0 in
      onward x y one end other last e (compare y one end other last (subst (λ z. Chain step z (one ++ end ∷ [])) e a.1) b.1)

  module _ (begins : TaskId → Type 0) (sure_begin : (a b : TaskId) → begins a → begins b → a ≡ b) where
    compare_ways : (one : List TaskId) (end : TaskId) (other : List TaskId) (last : TaskId) → IsWay begins step (one ++ end ∷ []) → IsWay begins step (other ++ last ∷ []) → Ways one end other last
    compare_ways [] end [] last a b = Same refl (sure_begin end last a.0 b.0)
    compare_ways [] end (y ∷ other) last a b = let e = sure_begin end y a.0 b.0 in Shorter other (λ j. sym e j ∷ other)
    compare_ways (x ∷ one) end [] last a b = let e = sure_begin x last a.0 b.0 in Longer one (λ j. e j ∷ one)
    compare_ways (x ∷ one) end (y ∷ other) last a b =
        let e : x ≡ y = sure_begin x y a.0 b.0 in
        onward x y one end other last e (compare y one end other last (subst (λ z. Chain step z (one ++ end ∷ [])) e a.1) b.1)

-- the tasks from one on, in a list where it stands once
from_there : (front : List TaskId) (x : TaskId) (rest past : List TaskId) (more : List TaskId) → AreApart (front ++ x ∷ rest) → front ++ x ∷ rest ≡ past ++ x ∷ more → rest ≡ more
from_there [] x rest [] more apart e = cc
from_there [] x rest (y ∷ past) more apart e =
    let tail : rest ≡ past ++ x ∷ more = cc in
    absurd (false≢true (sym apart.0 ∙ subst (λ w. has w x ≡ true) (sym tail) (has-middle past x more)))
from_there (y ∷ front) x rest [] more apart e =
    let head : y ≡ x = cc in
    absurd (false≢true (sym apart.0 ∙ subst (λ w. has (front ++ x ∷ rest) w ≡ true) (sym head) (has-middle front x rest)))
from_there (y ∷ front) x rest (z ∷ past) more apart e =
    let tail : front ++ x ∷ rest ≡ past ++ x ∷ more = cc in
    from_there front x rest past more apart.1 tail

module _ (nodes : List Node) where
  sure_step : (taken : TaskId → Bool) (from a b : TaskId) → Steps nodes taken from a → Steps nodes taken from b → a ≡ b
  sure_step taken from a b first second = one_first _ a b first second

  pub one_cycle : (one other : List TaskId) → IsCycle nodes one → IsCycle nodes other → one ≡ other
  one_cycle one other a b =
      let taken : b.taken ≡ a.taken = one_least (TakesAway nodes) b.taken a.taken b.are_taken a.are_taken in
      let way : IsWay (IsFirst (is_left nodes a.taken)) (Steps nodes a.taken) ((b.front ++ b.first ∷ b.rest) ++ b.first ∷ []) =
      subst (λ t. IsWay (IsFirst (is_left nodes t)) (Steps nodes t) ((b.front ++ b.first ∷ b.rest) ++ b.first ∷ [])) taken b.way in
      a.is ∙ ends a.front b.front a.first b.first a.rest b.rest a.apart b.apart
      (compare_ways (Steps nodes a.taken) (sure_step a.taken) (IsFirst (is_left nodes a.taken)) (one_first (is_left nodes a.taken)) (a.front ++ a.first ∷ a.rest) a.first (b.front ++ b.first ∷ b.rest) b.first a.way way)
      ∙ sym b.is where
        ends : (f g : List TaskId) (x y : TaskId) (r s : List TaskId) → AreApart (f ++ x ∷ r) → AreApart (g ++ y ∷ s) → Ways (f ++ x ∷ r) x (g ++ y ∷ s) y → x ∷ r ≡ y ∷ s
        ends f g x y r s apart also (Same e head) = let rest : r ≡ s = from_there f x r g s apart (e ∙ (λ j. g ++ sym head j ∷ s)) in λ j. head j ∷ rest j
        ends f g x y r s apart also (Longer more e) = absurd (apart_middle (g ++ y ∷ s) y more (subst AreApart e apart) (has-middle g y s))
        ends f g x y r s apart also (Shorter more e) = absurd (apart_middle (f ++ x ∷ r) x more (subst AreApart e also) (has-middle f x r))

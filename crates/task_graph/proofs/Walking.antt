-- Ways over what is left.
use Rattle.std.proofs.Common.{◌≡◌, ◌==◌, ◌||◌, ◌<◌, ℕ, zero, suc, Bool, true, false, cond, List, [], ◌∷◌, ◌++◌, length, set, refl, sym, ap, ◌∙◌, subst, arith}
use Rattle.std.specs.Prelude.{Option, Some, None, find, MatchOption}
use Rattle.std.specs.List.{list_any}
use Rattle.std.proofs.Math.ListN.{length-set}
use Rattle.std.proofs.lemmas.Bool.{false≢true}
use Rattle.std.proofs.lemmas.Bool.Decides.{nat_tests}
use Rattle.workspaces.specs.Marks.{is_marked}
use Rattle.workspaces.specs.Reach.{is_in, row_at}
use Rattle.task_graph.specs.declared.slots.Slot.{Slot}
use Rattle.task_graph.specs.Cycles.{Chain, IsWay}
use Rattle.task_graph.specs.Sorting.{is_left}
use Rattle.task_graph.specs.Ways.{IsLeastNumber, from_first, StepsOn, AreOnce, IsWayOn, Circles}
use Rattle.workspaces.proofs.Marking.{in_more, marked-set}
use Rattle.workspaces.proofs.Lists.{nat_same}

-- ---- ways

chain_more : {X : Type 0} (step : X → X → Type 0) (x : X) (xs : List X) (a b : X) → Chain step x (xs ++ a ∷ []) → step a b → Chain step x ((xs ++ a ∷ []) ++ b ∷ [])
chain_more step x [] a b chain more = (chain.0, (more, tt))
chain_more step x (y ∷ xs) a b chain more = (chain.0, chain_more step y xs a b chain.1 more)

way_more : {X : Type 0} (begins : X → Type 0) (step : X → X → Type 0) (xs : List X) (a b : X) → IsWay begins step (xs ++ a ∷ []) → step a b → IsWay begins step ((xs ++ a ∷ []) ++ b ∷ [])
way_more begins step [] a b way more = (way.0, (more, tt))
way_more begins step (x ∷ xs) a b way more = (way.0, chain_more step x xs a b way.1 more)

-- ---- what a search finds

pub find_some : (p : ℕ → Bool) (xs : List ℕ) → list_any p xs ≡ true → (x : ℕ) × (find p xs ≡ Some x) × (p x ≡ true)
find_some p [] any = absurd (false≢true any)
find_some p (x ∷ xs) any = by (p x) refl any (find_some p xs) where
  by : (t : Bool) → p x ≡ t → (t || list_any p xs) ≡ true → (list_any p xs ≡ true → (y : ℕ) × (find p xs ≡ Some y) × (p y ≡ true)) → (y : ℕ) × (cond t (Some x) (find p xs) ≡ Some y) × (p y ≡ true)
  by true is any inner = (x, refl, is)
  by false is any inner = inner any

-- ---- lists without doubles

once_more : (xs : List ℕ) (n : ℕ) → AreOnce xs → is_in xs n ≡ false → AreOnce (xs ++ n ∷ [])
once_more [] n once fresh = (refl, tt)
once_more (x ∷ xs) n once fresh = (in_more xs n x ∙ rw (once.0, apart) refl, once_more xs n once.1 (later (x == n) fresh)) where
  later : (t : Bool) → (t || is_in xs n) ≡ false → is_in xs n ≡ false
  later true e = absurd (false≢true (sym e))
  later false e = e

  first : (t : Bool) → (t || is_in xs n) ≡ false → t ≡ false
  first true e = e
  first false e = refl

  apart : (n == x) ≡ false
  apart = let e : (x == n) ≡ false = first (x == n) fresh in grind (arith, nat_tests, e)

-- ---- the way

abbrev pub Goes : List (List ℕ) → (ℕ → Bool) → List ℕ → Option ℕ → Type 0
Goes rows left path None = (n : ℕ) → left n ≡ false
Goes rows left path (Some task) = (left task ≡ true) × IsWayOn rows left (path ++ task ∷ [])

pub record OnWay (rows : List (List ℕ)) (left : ℕ → Bool) (path : List ℕ) (seen : List Bool) (next : Option ℕ) : Type 0 where
  pub same : length seen ≡ length rows
  pub marks : (q : ℕ) → is_marked seen q ≡ is_in path q
  pub once : AreOnce path
  pub goes : Goes rows left path next

pub starts : (rows : List (List ℕ)) (left : ℕ → Bool) (next : Option ℕ) → MatchOption next ((n : ℕ) → left n ≡ false) (IsLeastNumber left) → Goes rows left [] next
starts rows left None none = none
starts rows left (Some task) least = (least.passes, (least, tt))

pub goes_on : (rows : List (List ℕ)) (left : ℕ → Bool) (path : List ℕ) (task : ℕ) (next : Option ℕ) → IsWayOn rows left (path ++ task ∷ []) → list_any left (row_at rows task) ≡ true → next ≡ find left (row_at rows task) → Goes rows left (path ++ task ∷ []) next
goes_on rows left path task next way some is = by (find_some left (row_at rows task) some) where
  by : (x : ℕ) × (find left (row_at rows task) ≡ Some x) × (left x ≡ true) → Goes rows left (path ++ task ∷ []) next
  by (x, found, passes) = subst (Goes rows left (path ++ task ∷ [])) (sym (is ∙ found)) (passes, way_more (IsLeastNumber left) (StepsOn rows left) path task x way found)

pub on_way_more : (rows : List (List ℕ)) (left : ℕ → Bool) (path : List ℕ) (seen : List Bool) (task : ℕ) (next : Option ℕ) → OnWay rows left path seen (Some task)
    → task < length seen → is_marked seen task ≡ false → list_any left (row_at rows task) ≡ true → next ≡ find left (row_at rows task) → OnWay rows left (path ++ task ∷ []) (set seen task true) next
on_way_more rows left path seen task next on less fresh some is = record {
  same = length-set seen task true ∙ on.same;
  marks = λ q. marked-set seen task q less ∙ (ap (λ t. t || (task == q)) (on.marks q) ∙ sym (in_more path task q));
  once = once_more path task on.once (sym (on.marks task) ∙ fresh);
  goes = goes_on rows left path task next on.goes.1 some is;
}

-- what stands before the task, and behind it
split_first : (task : ℕ) (path : List ℕ) → is_in path task ≡ true → (front : List ℕ) × (rest : List ℕ) × (from_first task path ≡ task ∷ rest) × (path ≡ front ++ task ∷ rest)
split_first task [] is = absurd (false≢true is)
split_first task (x ∷ path) is = by (x == task) refl is (split_first task path) where
  by : (t : Bool) → (x == task) ≡ t → (t || is_in path task) ≡ true → (is_in path task ≡ true → (front : List ℕ) × (rest : List ℕ) × (from_first task path ≡ task ∷ rest) × (path ≡ front ++ task ∷ rest))
      → (front : List ℕ) × (rest : List ℕ) × (cond t (x ∷ path) (from_first task path) ≡ task ∷ rest) × (x ∷ path ≡ front ++ task ∷ rest)
  by true e is inner = let same : x ≡ task = nat_same x task e in ([], path, ap (λ y. y ∷ path) same, ap (λ y. y ∷ path) same)
  by false e is inner = let r = inner is in (x ∷ r.0, r.1, r.2, ap (λ ys. x ∷ ys) r.3)

pub comes_back : (rows : List (List ℕ)) (left : ℕ → Bool) (path : List ℕ) (seen : List Bool) (task : ℕ) → OnWay rows left path seen (Some task) → is_marked seen task ≡ true → Circles rows left (from_first task path)
comes_back rows left path seen task on again = by (split_first task path (sym (on.marks task) ∙ again)) where
  by : (front : List ℕ) × (rest : List ℕ) × (from_first task path ≡ task ∷ rest) × (path ≡ front ++ task ∷ rest) → Circles rows left (from_first task path)
  by (front, rest, found, whole) = record {
    front = front;
    first = task;
    rest = rest;
    is = found;
    way = subst (λ xs. IsWayOn rows left (xs ++ task ∷ [])) whole on.goes.1;
    apart = subst AreOnce whole on.once;
  }

-- ---- what is left has a number

pub left_within : (slots : List Slot) (n : ℕ) → is_left slots n ≡ true → n < length slots
left_within [] n is = absurd (false≢true is)
left_within (slot ∷ slots) zero is = omega arith
left_within (slot ∷ slots) (suc n) is = let less = left_within slots n is in omega (arith, less)

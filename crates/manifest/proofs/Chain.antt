-- The first part that is wrong, in the order of the keys, is the one with the least pointer.
use Rattle.std.proofs.Common.{◌≡◌, ◌==◌, ◌&&◌, inl, inr, ℕ, Bool, true, false, cond, List, [], ◌∷◌, ◌++◌, refl, sym, ap, ◌∙◌, nat_lt, arith, ◌<◌}
use Rattle.std.specs.Prelude.{Option, Some, None, Result, Ok, ⊤}
use Rattle.std.specs.List.{list_all}
use Rattle.std.specs.declared.cmp.Ordering.TheVariants.{Less, Equal}
use Rattle.std.specs.Ordering.{is_gt, ordering_then}
use Rattle.std.specs.Cmp.{nat_cmp_is}
use Rattle.std.proofs.lemmas.Bool.{false≢true}
use Rattle.std.proofs.lemmas.Bool.Decides.{nat_tests}
use Rattle.std.specs.Option.{option_or}
use Rattle.json_view.specs.declared.error.Shape.{Shape}
use Rattle.json_view.specs.declared.error.JsonErr.{JsonErr}
use Rattle.rel_path.specs.Paths.{name_cmp}
use Rattle.manifest.specs.declared.error.ManifestErr.{ManifestErr}
use Rattle.manifest.specs.Faults.{Wrong, wrong_of, lesser, least, wrong_kind}
use Rattle.manifest.specs.Steps.{MayFault, first_wrong}

-- a part that reads leaves the fault to those behind it
pub passes : {A : Type 0} (part : Result A JsonErr) (a : A) (later : Option ManifestErr) (e : ManifestErr) → part ≡ Ok a → MayFault later e → MayFault (option_or (wrong_kind (wrong_of part)) later) e
passes part a later e reads fault = rw reads fault

-- a part that does not is the fault
pub stops : (wrong : Option ManifestErr) (later : Option ManifestErr) (e : ManifestErr) → MayFault wrong e → MayFault (option_or wrong later) e
stops wrong later e (inl memory) = inl memory
stops wrong later e (inr is) = inr (rw is refl)

-- ---- pointers by their keys

-- a pointer that begins with the first text comes before each that begins with the second
abbrev pub comes_before : List ℕ → List ℕ → Bool
comes_before [] other = false
comes_before (k ∷ key) [] = false
comes_before (k ∷ key) (o ∷ other) = cond (k == o) (comes_before key other) (nat_lt k o)

-- where the keys are in this order, so are the pointers
less_by_keys : (key other rest more : List ℕ) → comes_before key other ≡ true → name_cmp (key ++ rest) (other ++ more) ≡ Less
less_by_keys [] other rest more before = absurd (false≢true before)
less_by_keys (k ∷ key) [] rest more before = absurd (false≢true before)
less_by_keys (k ∷ key) (o ∷ other) rest more before = by (k == o) refl (less_by_keys key other rest more) before where
  by : (same : Bool) → (k == o) ≡ same → (comes_before key other ≡ true → name_cmp (key ++ rest) (other ++ more) ≡ Less) → cond same (comes_before key other) (nat_lt k o) ≡ true → name_cmp (k ∷ key ++ rest) (o ∷ other ++ more) ≡ Less
  by true same inner later =
      let equal : k ≡ o = grind (arith, nat_tests, same) in
      ap (λ c. ordering_then c (name_cmp (key ++ rest) (other ++ more))) (sym (nat_cmp_is k o Equal equal)) ∙ inner later
  by false same inner less =
      let lower : k < o = grind (arith, nat_tests, less) in
      ap (λ c. ordering_then c (name_cmp (key ++ rest) (other ++ more))) (sym (nat_cmp_is k o Less lower))

-- the pointer begins with the key
abbrev pub Under : List ℕ → Option Wrong → Type 0
Under key None = ⊤
Under key (Some wrong) = (rest : List ℕ) × (wrong.0 ≡ key ++ rest)

abbrev pub AllUnder : List (List ℕ) → List (Option Wrong) → Type 0
AllUnder keys [] = ⊤
AllUnder [] (w ∷ ws) = ⊥
AllUnder (key ∷ keys) (w ∷ ws) = Under key w × AllUnder keys ws

-- each key comes before all behind it
abbrev pub ascend : List (List ℕ) → Bool
ascend [] = true
ascend (key ∷ keys) = list_all (comes_before key) keys && ascend keys

-- a pointer comes before another, if there is one
abbrev Before : List ℕ → Option Wrong → Type 0
Before pointer None = ⊤
Before pointer (Some other) = name_cmp pointer other.0 ≡ Less

before_lesser : (pointer : List ℕ) (p q : Option Wrong) → Before pointer p → Before pointer q → Before pointer (lesser p q)
before_lesser pointer None q first second = second
before_lesser pointer (Some p) None first second = first
before_lesser pointer (Some p) (Some q) first second = by (is_gt (name_cmp p.0 q.0)) where
  by : (greater : Bool) → Before pointer (cond greater (Some q) (Some p))
  by true = second
  by false = first

and_first : (a b : Bool) → (a && b) ≡ true → a ≡ true
and_first true b both = refl
and_first false b both = both

and_second : (a b : Bool) → (a && b) ≡ true → b ≡ true
and_second true b both = both
and_second false b both = absurd (false≢true both)

before_one : (key other rest : List ℕ) (w : Option Wrong) → comes_before key other ≡ true → Under other w → Before (key ++ rest) w
before_one key other rest None before under = tt
before_one key other rest (Some w) before under = rw under.1 (less_by_keys key other rest under.0 before)

before_least : (key rest : List ℕ) (keys : List (List ℕ)) (ws : List (Option Wrong)) → list_all (comes_before key) keys ≡ true → AllUnder keys ws → Before (key ++ rest) (least ws)
before_least key rest keys [] before under = tt
before_least key rest [] (w ∷ ws) before under = absurd under
before_least key rest (other ∷ keys) (w ∷ ws) before under =
    before_lesser (key ++ rest) w (least ws)
    (before_one key other rest w (and_first (comes_before key other) (list_all (comes_before key) keys) before) under.0)
    (before_least key rest keys ws (and_second (comes_before key other) (list_all (comes_before key) keys) before) under.1)

lesser_first : (w : Wrong) (other : Option Wrong) → Before w.0 other → lesser (Some w) other ≡ Some w
lesser_first w None before = refl
lesser_first w (Some other) before = rw before refl

pub least_is_first : (keys : List (List ℕ)) (ws : List (Option Wrong)) → ascend keys ≡ true → AllUnder keys ws → wrong_kind (least ws) ≡ first_wrong ws
least_is_first keys [] ascends under = refl
least_is_first [] (w ∷ ws) ascends under = absurd under
least_is_first (key ∷ keys) (None ∷ ws) ascends under = least_is_first keys ws (and_second (list_all (comes_before key) keys) (ascend keys) ascends) under.1
least_is_first (key ∷ keys) (Some w ∷ ws) ascends under =
    ap wrong_kind (lesser_first w (least ws) (rw under.0.1 (before_least key under.0.0 keys ws (and_first (list_all (comes_before key) keys) (ascend keys) ascends) under.1)))

-- the empty pointer is the least
pub top_is_first : (wanted : Shape) (other : Option Wrong) → lesser (Some ([], wanted)) other ≡ Some ([], wanted)
top_is_first wanted None = refl
top_is_first wanted (Some ([], other)) = refl
top_is_first wanted (Some (b ∷ pointer, other)) = refl

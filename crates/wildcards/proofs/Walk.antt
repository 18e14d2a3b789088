-- One walk with a place to return to: what it keeps, and each of its steps.
use Rattle.std.proofs.Common.{◌≡◌, ◌<◌, ◌≤◌, ◌+◌, ◌*◌, ◌⊎◌, ◌↔◌, ℕ, suc, zero, Bool, true, false, List, [], ◌∷◌, length, drop, refl, inl, inr, arith, IsTrue, MatchBool, ◌&&◌}
use Rattle.std.proofs.lemmas.List.{length-drop, drop-drop}
use Rattle.std.proofs.Math.Nat.{mul-le-mul_right}
use Rattle.std.specs.List.{list_all}
use Rattle.wildcards.specs.Spells.{AfterSome, AfterOne, Spells}

-- the test of an item and an element, as a relation
abbrev pub Passes : {I E : Type 0} → (I → E → Bool) → I → E → Type 0
Passes takes i e = IsTrue (takes i e)

module _ {I E : Type 0} (is_run : I → Bool) (Takes : I → E → Type 0) where
  -- the items take the elements from some place on
  abbrev pub Somewhere : List I → List E → Type 0
  Somewhere is es = AfterSome (Spells is_run Takes is) es

  -- from some place on behind the first
  abbrev pub Later : List I → List E → Type 0
  Later is es = (n : ℕ) × (0 < n) × (n ≤ length es) × Spells is_run Takes is (drop n es)

  -- The goal of a walk holds exactly where the items take the rest, or the items at the place of return take something behind that place. Where these do somewhere, the items do.
  pub record Walking (Goal : Type 0) (back_items : List I) (back : List E) (items : List I) (rest : List E) : Type 0 where
    pub found : Spells is_run Takes items rest ⊎ Later back_items back → Goal
    pub sought : Goal → Spells is_run Takes items rest ⊎ Later back_items back
    pub ahead : Somewhere back_items back → Somewhere items rest
    pub within : length rest ≤ length back

  -- ---- the first item
  run_in : (i : I) (is : List I) (es : List E) → is_run i ≡ true → Somewhere is es → Spells is_run Takes (i ∷ is) es
  run_in i is es e s = rw e s

  run_out : (i : I) (is : List I) (es : List E) → is_run i ≡ true → Spells is_run Takes (i ∷ is) es → Somewhere is es
  run_out i is es e s = rw e at s

  one_in : (i : I) (is : List I) (x : E) (es : List E) → is_run i ≡ false → Takes i x → Spells is_run Takes is es → Spells is_run Takes (i ∷ is) (x ∷ es)
  one_in i is x es e t s = rw e (t, s)

  one_out : (i : I) (is : List I) (x : E) (es : List E) → is_run i ≡ false → Spells is_run Takes (i ∷ is) (x ∷ es) → Takes i x × Spells is_run Takes is es
  one_out i is x es e s = rw e at s

  one_of_none : (i : I) (is : List I) → is_run i ≡ false → Spells is_run Takes (i ∷ is) [] → ⊥
  one_of_none i is e s = rw e at s

  -- ---- places
  now_or_later : (is : List I) (es : List E) → Somewhere is es → Spells is_run Takes is es ⊎ Later is es
  now_or_later is es (zero, le, s) = inl s
  now_or_later is es (suc n, le, s) = inr (suc n, omega arith, le, s)

  somewhere : (is : List I) (es : List E) → Spells is_run Takes is es ⊎ Later is es → Somewhere is es
  somewhere is es (inl s) = (0, omega arith, s)
  somewhere is es (inr (n, some, le, s)) = (n, le, s)

  later_somewhere : (is : List I) (es : List E) → Later is es → Somewhere is es
  later_somewhere is es (n, some, le, s) = (n, le, s)

  behind : (is : List I) (x : E) (es : List E) → Later is (x ∷ es) → Somewhere is es
  behind is x es (zero, some, le, s) = absurd (omega arith)
  behind is x es (suc n, some, le, s) = (n, omega arith, s)

  ahead_of : (is : List I) (x : E) (es : List E) → Somewhere is es → Later is (x ∷ es)
  ahead_of is x es (n, le, s) = (suc n, omega arith, omega arith, s)

  -- an item that takes one element leaves the others to the items behind it
  past : (i : I) (is : List I) → is_run i ≡ false → (n : ℕ) (es : List E) → Spells is_run Takes (i ∷ is) (drop n es) → Later is es
  past i is e zero [] s = absurd (one_of_none i is e s)
  past i is e (suc n) [] s = absurd (one_of_none i is e s)
  past i is e zero (x ∷ es) s = ahead_of is x es (0, omega arith, (one_out i is x es e s).1)
  past i is e (suc n) (x ∷ es) s = ahead_of is x es (later_somewhere is es (past i is e n es s))

  run_ahead : (i : I) (is : List I) (es : List E) → is_run i ≡ true → Somewhere (i ∷ is) es → Somewhere is es
  run_ahead i is es e (n, le, s) =
      let (m, le', s') = run_out i is (drop n es) e s in
      (n + m, omega (arith, length-drop n es), rw (← drop-drop m n es) s')

  -- only the end is some place of the empty list
  at_none : (is : List I) → Somewhere is [] → Spells is_run Takes is []
  at_none is (zero, le, s) = s
  at_none is (suc n, le, s) = s

  -- ---- the walk
  pub start : (items : List I) (es : List E) → Walking (Somewhere items es) items es items es
  start items es = record { found = somewhere items es; sought = now_or_later items es; ahead = λ s. s; within = omega arith }

  module _ (Goal : Type 0) where
    pub at_run : (bis : List I) (bes : List E) (i : I) (is : List I) (es : List E) → is_run i ≡ true → Walking Goal bis bes (i ∷ is) es → Walking Goal is es is es
    at_run bis bes i is es e w = record {
      found = λ h. w.found (inl (run_in i is es e (somewhere is es h)));
      sought = λ g. now_or_later is es (elim (w.sought g) [ inl s ↦ run_out i is es e s | inr l ↦ run_ahead i is es e (w.ahead (later_somewhere bis bes l)) ]);
      ahead = λ s. s;
      within = omega arith;
    }

    pub at_one : (bis : List I) (bes : List E) (i : I) (is : List I) (x : E) (es : List E) → is_run i ≡ false → Takes i x → Walking Goal bis bes (i ∷ is) (x ∷ es) → Walking Goal bis bes is es
    at_one bis bes i is x es e t w = record {
      found = λ h. w.found (elim h [ inl s ↦ inl (one_in i is x es e t s) | inr l ↦ inr l ]);
      sought = λ g. elim (w.sought g) [ inl s ↦ inl (one_out i is x es e s).1 | inr l ↦ inr l ];
      ahead = λ s. let p = w.ahead s in behind is x es (past i is e p.0 (x ∷ es) p.2);
      within = omega (arith, w.within);
    }

    pub at_return : (bis : List I) (b : E) (bes : List E) (is : List I) (es : List E) → ¬ (Spells is_run Takes is es) → Walking Goal bis (b ∷ bes) is es → Walking Goal bis bes bis bes
    at_return bis b bes is es never w = record {
      found = λ h. w.found (inr (ahead_of bis b bes (somewhere bis bes h)));
      sought = λ g. elim (w.sought g) [ inl s ↦ absurd (never s) | inr l ↦ now_or_later bis bes (behind bis b bes l) ];
      ahead = λ s. s;
      within = omega arith;
    }

    pub no_return : (bis : List I) (is : List I) (es : List E) → ¬ (Spells is_run Takes is es) → Walking Goal bis [] is es → ¬ Goal
    no_return bis is es never w g = elim (w.sought g) [ inl s ↦ never s | inr l ↦ absurd (omega (arith, l.1, l.2)) ]

    pub at_end : (bis : List I) (bes : List E) (is : List I) → Walking Goal bis bes is [] → Goal ↔ Spells is_run Takes is []
    at_end bis bes is w = (λ g. elim (w.sought g) [ inl s ↦ s | inr l ↦ at_none is (w.ahead (later_somewhere bis bes l)) ], λ s. w.found (inl s))

  -- at the end the items left are runs
  pub all_runs : (is : List I) → Spells is_run Takes is [] ↔ IsTrue (list_all is_run is)
  all_runs [] = (λ _. refl, λ _. refl)
  all_runs (i ∷ is) = by_first (is_run i) (all_runs is)
    where
      by_first : (b : Bool) → Spells is_run Takes is [] ↔ IsTrue (list_all is_run is) → MatchBool b (Somewhere is []) (AfterOne (Takes i) (Spells is_run Takes is) []) ↔ IsTrue (b && list_all is_run is)
      by_first true h = (λ s. h.0 (at_none is s), λ t. (0, omega arith, h.1 t))
      by_first false h = (λ s. absurd s, λ t. cc)

  -- ---- where the walk is stuck
  pub stuck_none : (x : E) (es : List E) → ¬ (Spells is_run Takes [] (x ∷ es))
  stuck_none x es e = cc

  pub stuck_one : (i : I) (is : List I) (x : E) (es : List E) → is_run i ≡ false → ¬ (Takes i x) → ¬ (Spells is_run Takes (i ∷ is) (x ∷ es))
  stuck_one i is x es e never s = never (one_out i is x es e s).0

-- the measure of the walk: the elements from the place of return on, and then the items left
pub falls_items : (back back' n items items' : ℕ) → back' ≤ back → items' < items → back' * (n + 1) + items' < back * (n + 1) + items
falls_items back back' n items items' le lt = omega (arith, mul-le-mul_right (n + 1) le)

pub falls_back : (back n items items' : ℕ) → items' ≤ n → back * (n + 1) + items' < (back + 1) * (n + 1) + items
falls_back back n items items' le = omega arith

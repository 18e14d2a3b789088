-- The least of the names that have to be found and are not.
use Rattle.std.proofs.Common.{◌≡◌, ◌⊎◌, inl, inr, ◌<◌, ◌+◌, ℕ, Bool, true, false, List, [], ◌∷◌, ◌++◌, length, get_or, drop, Option, Some, None, refl, sym, ap, ◌∙◌, Ordering, Less, Equal, Greater, ⊎_elim}
use Rattle.std.specs.Ordering.{is_lt, is_gt}
use Rattle.std.specs.Ordering.{ordering_reverse}
use Rattle.std.specs.Cmp.{IsTotalOrder}
use Rattle.std.proofs.lemmas.Bool.{cases_Bool}
use Rattle.std.proofs.lemmas.Cmp.{then_total, on_total, nat_list_cmp_total, tied_itself, upto}
use Rattle.std.proofs.lemmas.List.{drop_more}
use Rattle.rel_path.proofs.Parts.{turn}
use Rattle.lock_entries.specs.declared.entry.Name.{Name}
use Rattle.npm_lock.specs.declared.start.Lack.{Lack}
use Rattle.npm_lock.specs.Lacks.{lack_cmp, lesser, least_after, with_lack, is_lacking, lacks_by}
use Rattle.npm_lock.specs.Sets.{Has}

pub after_one : (test : Bool) (a : Lack) (others : List Lack) (least : Option Lack) → least_after others (least_after (with_lack test a []) least) ≡ least_after (with_lack test a others) least
after_one true a others least = refl
after_one false a others least = refl

pub after-append : (xs ys : List Lack) (least : Option Lack) → least_after (xs ++ ys) least ≡ least_after ys (least_after xs least)
after-append [] ys least = refl
after-append (x ∷ xs) ys least = after-append xs ys _

-- one turn of the loop over an entry's names
pub name_turn : (from : List ℕ) (names : List Name) (found : List (Option ℕ)) (i : ℕ) (n : Name) (least now : Option Lack) (all : Option Lack) → (i < length names) × (n ≡ get_or names i n) → i < length found
    → now ≡ least_after (with_lack (is_lacking n.soft (get_or found i None)) (record { from = from; name = n.text }) []) least
    → least_after (lacks_by from (drop i names) (drop i found)) least ≡ all → least_after (lacks_by from (drop (i + 1) names) (drop (i + 1) found)) now ≡ all
name_turn from names found i n least now all at_name within is h =
    let o : Option ℕ = get_or found i None in
    ap (least_after (lacks_by from (drop (i + 1) names) (drop (i + 1) found))) is
    ∙ after_one (is_lacking n.soft o) (record { from = from; name = n.text }) (lacks_by from (drop (i + 1) names) (drop (i + 1) found)) least
    ∙ ap (λ ns. least_after (lacks_by from ns (o ∷ drop (i + 1) found)) least) (sym (turn names i n at_name).1)
    ∙ ap (λ fs. least_after (lacks_by from (drop i names) fs) least) (sym (drop_more found i None within)) ∙ h

-- ---- the least is among them, and none is less

abbrev pub is_most : Lack → Lack → Type 0
is_most a b = is_gt (lack_cmp a b) ≡ false

pub lack_total : IsTotalOrder lack_cmp
lack_total = then_total (on_total (λ (a : Lack). a.from) nat_list_cmp_total) (on_total (λ (a : Lack). a.name) nat_list_cmp_total)

most_itself : (a : Lack) → is_most a a
most_itself a = ap is_gt (tied_itself lack_total a)

lt_not_gt : (o : Ordering) → is_lt o ≡ true → is_gt o ≡ false
lt_not_gt Less e = refl
lt_not_gt Equal e = cc
lt_not_gt Greater e = cc

not_lt : (o : Ordering) → is_lt o ≡ false → is_gt (ordering_reverse o) ≡ false
not_lt Less e = cc
not_lt Equal e = refl
not_lt Greater e = refl

-- the lesser of two is one of them and at most both
pub record IsLesser (a : Lack) (other : Option Lack) (b : Lack) : Type 0 where
  pub which : (b ≡ a) ⊎ (other ≡ Some b)
  pub first : is_most b a
  pub second : (x : Lack) → other ≡ Some x → is_most b x

lesser-IsLesser : (a : Lack) (other : Option Lack) → IsLesser a other (lesser a other)
lesser-IsLesser a None = record { which = inl refl; first = most_itself a; second = λ x e. absurd (cc) }
lesser-IsLesser a (Some b) =
    elim (cases_Bool (is_lt (lack_cmp b a))) [
      | inl t ↦ rw t (record { which = inr refl; first = lt_not_gt _ t; second = λ x e. let same : b ≡ x = cc in rw (← same) (most_itself b) })
      | inr f ↦ rw f (record { which = inl refl; first = most_itself a; second = λ x e. let same : b ≡ x = cc in rw (← same) (ap is_gt (lack_total.antisymm a b) ∙ not_lt _ f) })
    ]

pub record IsLeastOf (xs : List Lack) (before : Option Lack) (b : Lack) : Type 0 where
  pub which : Has xs b ⊎ (before ≡ Some b)
  pub each : (x : Lack) → Has xs x → is_most b x
  pub kept : (x : Lack) → before ≡ Some x → is_most b x

pub least_is : (xs : List Lack) (before : Option Lack) (b : Lack) → least_after xs before ≡ Some b → IsLeastOf xs before b
least_is [] before b e = record { which = inr e; each = λ x h. absurd h; kept = λ x h. let same : b ≡ x = cc in rw same (most_itself x) }
least_is (a ∷ xs) before b e =
    let later = least_is xs (Some (lesser a before)) b e in
    let one = lesser-IsLesser a before in
    let most : is_most b (lesser a before) = later.kept (lesser a before) refl in record {
      which = ⊎_elim (λ h. inl (inr h)) (λ h. let same : lesser a before ≡ b = cc in ⊎_elim (λ w. inl (inl (sym w ∙ same))) (λ w. inr (w ∙ ap Some same)) one.which) later.which;
      each = λ x h. ⊎_elim (λ q. rw (← q) (upto lack_total b (lesser a before) a most one.first)) (later.each x) h;
      kept = λ x h. upto lack_total b (lesser a before) x most (one.second x h);
    }

some_none : (ys : List Lack) (y : Lack) → least_after ys (Some y) ≡ None → ⊥
some_none [] y e = cc
some_none (z ∷ ys) y e = some_none ys (lesser z (Some y)) e

-- there was none before either
pub none_before : (xs : List Lack) (before : Option Lack) → least_after xs before ≡ None → before ≡ None
none_before xs None e = refl
none_before xs (Some y) e = absurd (some_none xs y e)

pub none_is : (xs : List Lack) (before : Option Lack) → least_after xs before ≡ None → (x : Lack) → Has xs x → ⊥
none_is [] before e x h = h
none_is (a ∷ xs) before e x (inl q) = some_none xs (lesser a before) e
none_is (a ∷ xs) before e x (inr h) = none_is xs (Some (lesser a before)) e x h

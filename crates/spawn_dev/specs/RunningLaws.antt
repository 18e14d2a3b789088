-- Laws of lists of what runs, when one is added or taken out, for the worlds that keep them.
use Rattle.std.proofs.Common.{◌≡◌, ℕ, zero, suc, ◌<◌, Bool, true, false, not, cond, ◌==◌, ◌||◌, ◌&&◌, List, [], ◌∷◌, ◌++◌, length, get_or, refl, sym, ap, ◌∙◌, arith, IsTrue}
use Rattle.std.specs.Prelude.{Option, Some, None, is_none, is_some}
use Rattle.std.specs.Cmp.{first_so, second_so}
use Rattle.std.specs.List.{remove}
use Rattle.std.proofs.lemmas.Bool.{eq-eqb, eqb-true}
use Rattle.std.proofs.lemmas.List.Folds.{list_any-append}
use Rattle.rel_path.specs.Paths.{Path}
use Rattle.globs.specs.Outputs.{takes}
use Rattle.spawn_dev.specs.declared.command.Command.{Command}
use Rattle.spawn_dev.specs.Running.{known_at, command_at, are_distinct, held_by, own_once}
use Rattle.spawn_dev.specs.Spawn.{put_at}

-- ---- tests

eq_self : (a : ℕ) → (a == a) ≡ true
eq_self a = eq-eqb a a refl

eq_turn : (a b : ℕ) → (a == b) ≡ (b == a)
eq_turn a b =
    elim (a == b) as (λ v. (a == b) ≡ v → v ≡ (b == a)) [
      | true ↦ λ e. sym (eq-eqb b a (sym (eqb-true a b e)))
      | false ↦ λ e. elim (b == a) as (λ v. (b == a) ≡ v → false ≡ v) [
        | true ↦ λ f. sym e ∙ eq-eqb a b (sym (eqb-true b a f))
        | false ↦ λ f. refl
      ] refl
    ] refl

is_none-so : {X : Type 0} (o : Option X) → is_none o ≡ true → o ≡ None
is_none-so None e = refl
is_none-so (Some x) e = cc

-- neither, and so not one
neither : (a b : Bool) → a ≡ false → b ≡ false → (a || b) ≡ false
neither true b e f = cc
neither false b e f = f

or_right : (a b : Bool) → b ≡ true → (a || b) ≡ true
or_right true b e = refl
or_right false b e = e

or_not_left : (a b : Bool) → (a || b) ≡ false → a ≡ false
or_not_left true b e = cc
or_not_left false b e = refl

or_not_right : (a b : Bool) → (a || b) ≡ false → b ≡ false
or_not_right true b e = cc
or_not_right false b e = e

not_both : (a : Bool) → (a ≡ true → ⊥) → a ≡ false
not_both true h = absurd (h refl)
not_both false h = refl

-- ---- what is known by a place

module _ {X : Type 0} (of : X → Command) where
  -- where no command is known, nothing is
  none_known : {Y : Type 0} (known : X → Y) (other : Y) (xs : List X) (u : ℕ) → command_at of xs u ≡ None → known_at of known other xs u ≡ other
  none_known known other [] u e = refl
  none_known known other (x ∷ xs) u e =
      elim (u == (of x).place) as (λ b. cond b (Some (of x)) (command_at of xs u) ≡ None → cond b (known x) (known_at of known other xs u) ≡ other) [
        | true ↦ λ h. cc
        | false ↦ λ h. none_known known other xs u h
      ] e

  fresh_first : (x : X) (xs : List X) (p : ℕ) → command_at of (x ∷ xs) p ≡ None → (p == (of x).place) ≡ false
  fresh_first x xs p e = elim (p == (of x).place) as (λ b. cond b (Some (of x)) (command_at of xs p) ≡ None → b ≡ false) [ true ↦ λ h. cc | false ↦ λ h. refl ] e

  fresh_rest : (x : X) (xs : List X) (p : ℕ) → command_at of (x ∷ xs) p ≡ None → command_at of xs p ≡ None
  fresh_rest x xs p e = elim (p == (of x).place) as (λ b. cond b (Some (of x)) (command_at of xs p) ≡ None → command_at of xs p ≡ None) [ true ↦ λ h. cc | false ↦ λ h. h ] e

  none_of : (x : X) (xs : List X) → IsTrue (are_distinct of (x ∷ xs)) → command_at of xs (of x).place ≡ None
  none_of x xs all = is_none-so (command_at of xs (of x).place) (first_so (is_none (command_at of xs (of x).place)) (are_distinct of xs) all)

  pub rest_of : (x : X) (xs : List X) → IsTrue (are_distinct of (x ∷ xs)) → IsTrue (are_distinct of xs)
  rest_of x xs all = second_so (is_none (command_at of xs (of x).place)) (are_distinct of xs) all

  pub known_first : {Y : Type 0} (known : X → Y) (other : Y) (x : X) (xs : List X) → known_at of known other (x ∷ xs) (of x).place ≡ known x
  known_first known other x xs = ap (λ b. cond b (known x) (known_at of known other xs (of x).place)) (eq_self (of x).place)

  -- one more runs
  known_more : {Y : Type 0} (known : X → Y) (other : Y) (xs : List X) (x : X) (u : ℕ) → command_at of xs (of x).place ≡ None
      → known_at of known other (xs ++ x ∷ []) u ≡ cond (u == (of x).place) (known x) (known_at of known other xs u)
  known_more known other [] x u fresh = refl
  known_more known other (y ∷ ys) x u fresh =
      let apart : ((of x).place == (of y).place) ≡ false = fresh_first y ys (of x).place fresh in
      ap (cond (u == (of y).place) (known y)) (known_more known other ys x u (fresh_rest y ys (of x).place fresh))
      ∙ elim (u == (of x).place) as (λ b. (u == (of x).place) ≡ b → cond (u == (of y).place) (known y) (cond b (known x) (known_at of known other ys u))
      ≡ cond b (known x) (cond (u == (of y).place) (known y) (known_at of known other ys u))) [
        | true ↦ λ e. ap (λ v. cond (v == (of y).place) (known y) (known x)) (eqb-true u (of x).place e) ∙ ap (λ b. cond b (known y) (known x)) apart
        | false ↦ λ e. refl
      ] refl

  pub known_push : {Y : Type 0} (known : X → Y) (other : Y) (xs : List X) (x : X) → command_at of xs (of x).place ≡ None
      → known_at of known other (xs ++ x ∷ []) ≡ put_at (known_at of known other xs) (of x).place (known x)
  known_push known other xs x fresh = λ i. λ u. known_more known other xs x u fresh i

  pub distinct_push : (xs : List X) (x : X) → IsTrue (are_distinct of xs) → command_at of xs (of x).place ≡ None → IsTrue (are_distinct of (xs ++ x ∷ []))
  distinct_push [] x all fresh = refl
  distinct_push (y ∷ ys) x all fresh =
      let apart : ((of y).place == (of x).place) ≡ false = eq_turn (of y).place (of x).place ∙ fresh_first y ys (of x).place fresh in
      let rest = distinct_push ys x (rest_of y ys all) (fresh_rest y ys (of x).place fresh) in
      ap (λ o. is_none o && are_distinct of (ys ++ x ∷ [])) (known_more (λ z. Some (of z)) None ys x (of y).place (fresh_rest y ys (of x).place fresh)
      ∙ ap (λ b. cond b (Some (of x)) (command_at of ys (of y).place)) apart ∙ none_of y ys all) ∙ rest

  -- each has its own place
  known_some : (xs : List X) (i : ℕ) (d : X) → i < length xs → (command_at of xs (of (get_or xs i d)).place ≡ None) → ⊥
  known_some [] i d lt e = omega (arith, lt)
  known_some (x ∷ xs) zero d lt e = let some = known_first (λ z. Some (of z)) None x xs in cc
  known_some (x ∷ xs) (suc i) d lt e = known_some xs i d (omega (arith, lt)) (fresh_rest x xs (of (get_or xs i d)).place e)

  apart_from : (x : X) (xs : List X) (i : ℕ) (d : X) → i < length xs → command_at of xs (of x).place ≡ None → ((of (get_or xs i d)).place == (of x).place) ≡ false
  apart_from x xs i d lt none = not_both ((of (get_or xs i d)).place == (of x).place)
      (λ e. known_some xs i d lt (ap (command_at of xs) (eqb-true (of (get_or xs i d)).place (of x).place e) ∙ none))

  known_without : {Y : Type 0} (known : X → Y) (other : Y) (xs : List X) (i : ℕ) (d : X) (u : ℕ) → i < length xs → IsTrue (are_distinct of xs)
      → known_at of known other (remove xs i) u ≡ cond (u == (of (get_or xs i d)).place) other (known_at of known other xs u)
  known_without known other [] i d u lt all = absurd (omega (arith, lt))
  known_without known other (x ∷ xs) zero d u lt all =
      elim (u == (of x).place) as (λ b. (u == (of x).place) ≡ b → known_at of known other xs u ≡ cond b other (cond b (known x) (known_at of known other xs u))) [
        | true ↦ λ e. none_known known other xs u (ap (command_at of xs) (eqb-true u (of x).place e) ∙ none_of x xs all)
        | false ↦ λ e. refl
      ] refl
  known_without known other (x ∷ xs) (suc i) d u lt all =
      let below : i < length xs = omega (arith, lt) in
      let p : ℕ = (of (get_or xs i d)).place in
      let apart : (p == (of x).place) ≡ false = apart_from x xs i d below (none_of x xs all) in
      ap (cond (u == (of x).place) (known x)) (known_without known other xs i d u below (rest_of x xs all))
      ∙ elim (u == p) as (λ b. (u == p) ≡ b → cond (u == (of x).place) (known x) (cond b other (known_at of known other xs u))
      ≡ cond b other (cond (u == (of x).place) (known x) (known_at of known other xs u))) [
        | true ↦ λ e. ap (λ v. cond (v == (of x).place) (known x) other) (eqb-true u p e) ∙ ap (λ b. cond b (known x) other) apart
        | false ↦ λ e. refl
      ] refl

  -- one of those that run is taken out
  pub known_remove : {Y : Type 0} (known : X → Y) (other : Y) (xs : List X) (i : ℕ) (d : X) → i < length xs → IsTrue (are_distinct of xs)
      → known_at of known other (remove xs i) ≡ put_at (known_at of known other xs) (of (get_or xs i d)).place other
  known_remove known other xs i d lt all = λ k. λ u. known_without known other xs i d u lt all k

  pub known_here : {Y : Type 0} (known : X → Y) (other : Y) (xs : List X) (i : ℕ) (d : X) → i < length xs → IsTrue (are_distinct of xs)
      → known_at of known other xs (of (get_or xs i d)).place ≡ known (get_or xs i d)
  known_here known other [] i d lt all = absurd (omega (arith, lt))
  known_here known other (x ∷ xs) zero d lt all = known_first known other x xs
  known_here known other (x ∷ xs) (suc i) d lt all =
      let below : i < length xs = omega (arith, lt) in
      ap (λ b. cond b (known x) (known_at of known other xs (of (get_or xs i d)).place)) (apart_from x xs i d below (none_of x xs all))
      ∙ known_here known other xs i d below (rest_of x xs all)

  pub distinct_remove : (xs : List X) (i : ℕ) → i < length xs → IsTrue (are_distinct of xs) → IsTrue (are_distinct of (remove xs i))
  distinct_remove [] i lt all = absurd (omega (arith, lt))
  distinct_remove (x ∷ xs) zero lt all = rest_of x xs all
  distinct_remove (x ∷ xs) (suc i) lt all =
      let below : i < length xs = omega (arith, lt) in
      let none : command_at of (remove xs i) (of x).place ≡ None =
      known_without (λ z. Some (of z)) None xs i x (of x).place below (rest_of x xs all)
      ∙ ap (cond ((of x).place == (of (get_or xs i x)).place) None) (none_of x xs all)
      ∙ elim ((of x).place == (of (get_or xs i x)).place) as (λ b. cond {A = Option Command} b None None ≡ None) [ true ↦ refl | false ↦ refl ] in
      ap (λ o. is_none o && are_distinct of (remove xs i)) none ∙ distinct_remove xs i below (rest_of x xs all)

  -- where any run, one of some place does
  pub some_known : (xs : List X) → 0 < length xs → (place : ℕ) × (is_some (command_at of xs place) ≡ true)
  some_known [] lt = absurd (omega (arith, lt))
  some_known (x ∷ xs) lt = ((of x).place, ap is_some (known_first (λ z. Some (of z)) None x xs))

  -- ---- what they own

  -- one that owns a path, and its place
  pub record Owner (xs : List X) (path : Path) : Type 0 where
    pub one : X
    pub at : command_at of xs (of one).place ≡ Some (of one)
    pub takes_it : takes (of one).outs path ≡ true

  pub owner_in : (xs : List X) (path : Path) → IsTrue (are_distinct of xs) → held_by of xs path ≡ true → Owner xs path
  owner_in [] path all held = cc
  owner_in (x ∷ xs) path all held = by (takes (of x).outs path) refl (λ e. owner_in xs path (rest_of x xs all) (ap (λ b. b || held_by of xs path) (sym e) ∙ held))
    where
      by : (b : Bool) → takes (of x).outs path ≡ b → (takes (of x).outs path ≡ false → Owner xs path) → Owner (x ∷ xs) path
      by true e more = record { one = x; at = known_first (λ z. Some (of z)) None x xs; takes_it = e }
      by false e more =
          let o = more e in
          let apart : ((of o.one).place == (of x).place) ≡ false = not_both ((of o.one).place == (of x).place)
          (λ s. let none = ap (command_at of xs) (eqb-true (of o.one).place (of x).place s) ∙ none_of x xs all in let some = o.at in absurd (cc)) in
          record { one = o.one; at = ap (λ b. cond b (Some (of x)) (command_at of xs (of o.one).place)) apart ∙ o.at; takes_it = o.takes_it }

  pub held_less : (xs : List X) (i : ℕ) (path : Path) → i < length xs → held_by of (remove xs i) path ≡ true → held_by of xs path ≡ true
  held_less [] i path lt h = absurd (omega (arith, lt))
  held_less (x ∷ xs) zero path lt h = or_right (takes (of x).outs path) (held_by of xs path) h
  held_less (x ∷ xs) (suc i) path lt h = by (takes (of x).outs path) (held_less xs i path (omega (arith, lt))) h
    where
      by : (b : Bool) → (held_by of (remove xs i) path ≡ true → held_by of xs path ≡ true) → (b || held_by of (remove xs i) path) ≡ true → (b || held_by of xs path) ≡ true
      by true more e = refl
      by false more e = more e

  pub held_more : (xs : List X) (x : X) (path : Path) → held_by of (xs ++ x ∷ []) path ≡ true → takes (of x).outs path ≡ false → held_by of xs path ≡ true
  held_more xs x path h other = by (held_by of xs path) (sym (ap (λ b. held_by of xs path || (b || false)) other) ∙ sym (list_any-append (λ z. takes (of z).outs path) xs (x ∷ [])) ∙ h)
    where
      by : (b : Bool) → (b || false) ≡ true → b ≡ true
      by true e = refl
      by false e = e

  pub held_here : (xs : List X) (i : ℕ) (d : X) (path : Path) → i < length xs → takes (of (get_or xs i d)).outs path ≡ true → held_by of xs path ≡ true
  held_here [] i d path lt e = absurd (omega (arith, lt))
  held_here (x ∷ xs) zero d path lt e = ap (λ b. b || held_by of xs path) e
  held_here (x ∷ xs) (suc i) d path lt e = or_right (takes (of x).outs path) (held_by of xs path) (held_here xs i d path (omega (arith, lt)) e)

  -- ---- one owner for each path

  once_rest : (x : X) (xs : List X) (path : Path) → own_once of (x ∷ xs) path ≡ true → own_once of xs path ≡ true
  once_rest x xs path e = second_so (not (takes (of x).outs path && held_by of xs path)) (own_once of xs path) e

  alone : (a b : Bool) → not (a && b) ≡ true → a ≡ true → b ≡ false
  alone true true e f = cc
  alone true false e f = refl
  alone false b e f = cc

  once_first : (x : X) (xs : List X) (path : Path) → own_once of (x ∷ xs) path ≡ true → takes (of x).outs path ≡ true → held_by of xs path ≡ false
  once_first x xs path e t = alone (takes (of x).outs path) (held_by of xs path) (first_so (not (takes (of x).outs path && held_by of xs path)) (own_once of xs path) e) t

  once_more : (a b c : Bool) → (a ≡ true → b ≡ false) → c ≡ true → (not (a && b) && c) ≡ true
  once_more true true c h e = let no = h refl in cc
  once_more true false c h e = e
  once_more false b c h e = e

  pub once_push : (xs : List X) (x : X) (path : Path) → own_once of xs path ≡ true → (takes (of x).outs path ≡ true → held_by of xs path ≡ false) → own_once of (xs ++ x ∷ []) path ≡ true
  once_push [] x path once clear = once_more (takes (of x).outs path) false true (λ e. refl) refl
  once_push (y ∷ ys) x path once clear =
      once_more (takes (of y).outs path) (held_by of (ys ++ x ∷ []) path) (own_once of (ys ++ x ∷ []) path)
      (λ t. list_any-append (λ z. takes (of z).outs path) ys (x ∷ [])
      ∙ neither (held_by of ys path) (takes (of x).outs path || false) (once_first y ys path once t)
      (neither (takes (of x).outs path) false (not_both (takes (of x).outs path) (λ s. let no = or_not_left (takes (of y).outs path) (held_by of ys path) (clear s) in absurd (cc))) refl))
      (once_push ys x path (once_rest y ys path once) (λ s. or_not_right (takes (of y).outs path) (held_by of ys path) (clear s)))

  pub once_remove : (xs : List X) (i : ℕ) (path : Path) → i < length xs → own_once of xs path ≡ true → own_once of (remove xs i) path ≡ true
  once_remove [] i path lt once = absurd (omega (arith, lt))
  once_remove (x ∷ xs) zero path lt once = once_rest x xs path once
  once_remove (x ∷ xs) (suc i) path lt once =
      once_more (takes (of x).outs path) (held_by of (remove xs i) path) (own_once of (remove xs i) path)
      (λ t. not_both (held_by of (remove xs i) path) (λ h. let some = held_less xs i path (omega (arith, lt)) h in let none = once_first x xs path once t in absurd (cc)))
      (once_remove xs i path (omega (arith, lt)) (once_rest x xs path once))

  -- what is held once one is taken out, that one doesn't own
  pub freed : (xs : List X) (i : ℕ) (d : X) (path : Path) → i < length xs → own_once of xs path ≡ true → held_by of (remove xs i) path ≡ true → takes (of (get_or xs i d)).outs path ≡ false
  freed [] i d path lt once h = absurd (omega (arith, lt))
  freed (x ∷ xs) zero d path lt once h = not_both (takes (of x).outs path) (λ t. let none = once_first x xs path once t in absurd (cc))
  freed (x ∷ xs) (suc i) d path lt once h = by (takes (of x).outs path) refl (freed xs i d path (omega (arith, lt)) (once_rest x xs path once)) h
    where
      by : (b : Bool) → takes (of x).outs path ≡ b → (held_by of (remove xs i) path ≡ true → takes (of (get_or xs i d)).outs path ≡ false)
          → (b || held_by of (remove xs i) path) ≡ true → takes (of (get_or xs i d)).outs path ≡ false
      by true e more k = not_both (takes (of (get_or xs i d)).outs path) (λ t. let some = held_here xs i d path (omega (arith, lt)) t in let none = once_first x xs path once e in absurd (cc))
      by false e more k = more k

-- What is found, by its number.
use Rattle.std.proofs.Common.{◌≡◌, ◌==◌, ℕ, suc, not, filter, map, take, get_or, slice_index, Bool, true, false, cond, List, [], ◌∷◌, Option, Some, None, is_some, option_and_then, refl, sym, ap, ◌∙◌}
use Rattle.lock_entries.specs.declared.entry.Entry.{Entry}
use Rattle.std.proofs.lemmas.Bool.{false≢true}
use Rattle.std.proofs.lemmas.Bool.Decides.{Decides-eqb}
use Rattle.std.specs.Option.{option_or}
use Rattle.npm_lock.specs.Lookup.{place_in, is_modules, above, above_without_modules, number_of, has, first, found, found_number, first_number, places}

number_of_first : (es : List Entry) (place : List ℕ) (rest : Option (List ℕ)) (o : Option ℕ) → number_of es place ≡ o → option_and_then (number_of es) (cond (is_some o) (Some place) rest) ≡ option_or o (option_and_then (number_of es) rest)
number_of_first es place rest None e = refl
number_of_first es place rest (Some n) e = e

first-number : (es : List Entry) (ps : List (List ℕ)) → option_and_then (number_of es) (first (has es) ps) ≡ first_number es ps
first-number es [] = refl
first-number es (p ∷ ps) = number_of_first es p (first (has es) ps) (number_of es p) refl ∙ ap (option_or (number_of es p)) (first-number es ps)

pub found_is : (es : List Entry) (from name : List ℕ) → first_number es (places from name) ≡ found_number es from name
unfolding found found_number
found_is es from name = sym (first-number es (places from name))

pub or_none : (o : Option ℕ) → o ≡ option_or o None
or_none None = refl
or_none (Some n) = refl

-- ---- the folders above, from the back

module _ (es : List Entry) (from name : List ℕ) where
  abbrev pub later : ℕ → Option ℕ
  later n = first_number es (map (place_in name) (above_without_modules from n))

  kept : (folder : List ℕ) (others : List (List ℕ)) (slash modules : Bool) → slash ≡ true → modules ≡ false → is_modules folder ≡ modules
      → first_number es (map (place_in name) (filter (λ f. not (is_modules f)) (cond slash (folder ∷ others) others))) ≡ option_or (number_of es (place_in name folder)) (first_number es (map (place_in name) (filter (λ f. not (is_modules f)) others)))
  kept folder others true false s m e = rw e refl
  kept folder others true true s m e = absurd (cc)
  kept folder others false modules s m e = absurd (cc)

  skipped : (folder : List ℕ) (others : List (List ℕ)) (slash modules : Bool) → (slash ≡ true → modules ≡ true) → is_modules folder ≡ modules
      → first_number es (map (place_in name) (filter (λ f. not (is_modules f)) (cond slash (folder ∷ others) others))) ≡ first_number es (map (place_in name) (filter (λ f. not (is_modules f)) others))
  skipped folder others true true s e = rw e refl
  skipped folder others true false s e = absurd (false≢true (s refl))
  skipped folder others false modules s e = refl

  pub later_here : (n m : ℕ) → n ≡ suc m → get_or from m 0 ≡ 47 → is_modules (take m from) ≡ false → later n ≡ option_or (number_of es (place_in name (take m from))) (later m)
  later_here n m e slash modules = rw e (kept (take m from) (above from m) (slice_index from m == 47) (is_modules (take m from)) ((Decides-eqb (get_or from m 0) 47).1 slash) modules refl)

  pub later_past : (n m : ℕ) → n ≡ suc m → (get_or from m 0 ≡ 47 → is_modules (take m from) ≡ true) → later n ≡ later m
  later_past n m e modules = rw e (skipped (take m from) (above from m) (slice_index from m == 47) (is_modules (take m from)) (λ s. modules ((Decides-eqb (get_or from m 0) 47).0 s)) refl)

pub later_found : (o : Option ℕ) → is_some o ≡ true → (rest : Option ℕ) → option_or o rest ≡ o
later_found None some rest = absurd (false≢true some)
later_found (Some n) some rest = refl

pub later_none : (o : Option ℕ) → is_some o ≡ false → (rest : Option ℕ) → option_or o rest ≡ rest
later_none None some rest = refl
later_none (Some n) some rest = absurd (false≢true (sym some))

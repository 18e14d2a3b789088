-- Keys tell closures.
use Rattle.std.proofs.Common.{◌≡◌, ℕ, zero, suc, ◌<◌, List, [], ◌∷◌, map, length, get_or, slice_get, refl, sym, ap, ◌∙◌, arith, Some}
use Rattle.std.specs.List.{AllByRecursion}
use Rattle.codes.specs.Codes.{Each}
use Rattle.listing.specs.declared.part.Part.{Part}
use Rattle.listing.specs.declared.part.Listing.{Listing}
use Rattle.listing.specs.KeyText.{IsAtHome, key_text}
use Rattle.listing.proofs.Separates.{key_texts_differ}
use Rattle.run_core.specs.declared.states.Mode.{Mode}
use Rattle.run_laws.specs.Picks.{pick, last}
use Rattle.run_laws.specs.Ancestors.{part_at, blank, IsLower}
use Rattle.run_laws.specs.Closures.{in_closure, closure, renumbered}
use Rattle.run_laws.specs.Valid.{IsOrderedPart, IsValid}
use Rattle.run_laws.specs.Effects.{Book}
use Rattle.run_laws.specs.Clean.{clean}
use Rattle.run_laws.specs.Keys.{key_of}
use Rattle.run_laws.specs.PairLaws.{KeysLaw}
use Rattle.run_laws.proofs.ClosedParts.{closure_last, closure_law_lem}
use Rattle.run_laws.proofs.ValidParts.{closure_is_valid_lem}

homes : (parts : List Part) → AllByRecursion IsOrderedPart parts → Each IsAtHome parts
homes [] a = tt
homes (p ∷ parts) a = (a.0.home, homes parts a.1)

-- valid listings with one key text are one
pub closures_lem : (l m : Listing) → IsValid l → IsValid m → key_text l ≡ key_text m → l ≡ m
closures_lem l m v w e = key_texts_differ l m v.fits w.fits (homes l.parts v.ordered.parts) (homes m.parts w.ordered.parts) e

last-map : {X Y : Type 0} (f : X → Y) (xs : List X) (x : X) → last xs ≡ Some x → last (map f xs) ≡ Some (f x)
last-map f [] x h = absurd (cc)
last-map f (y ∷ []) x h = let e : y ≡ x = cc in ap (λ z. Some (f z)) e
last-map f (y ∷ z ∷ xs) x h = last-map f (z ∷ xs) x h

get_or-get : {X : Type 0} (xs : List X) (i : ℕ) (d : X) → i < length xs → slice_get xs i ≡ Some (get_or xs i d)
get_or-get [] i d l = absurd (omega arith)
get_or-get (x ∷ xs) zero d l = refl
get_or-get (x ∷ xs) (suc i) d l = get_or-get xs i d (omega arith)

-- a closure ends with its own part
last_part : (l : Listing) (i : ℕ) → IsLower l → i < length l.parts → last (closure l i).parts ≡ Some (renumbered (in_closure l i) (part_at l i))
last_part l i low h = last-map _ (pick (in_closure l i) l.parts) (part_at l i) (closure_last l i low l.parts h ∙ get_or-get l.parts i blank h)

module _ (l m : Listing) (i j : ℕ) (v : IsValid l) (w : IsValid m) (e : key_of l i ≡ key_of m j) where
  same_closure : closure l i ≡ closure m j
  same_closure = closures_lem (closure l i) (closure m j) (closure_is_valid_lem l i v) (closure_is_valid_lem m j w) e

  same_task : i < length l.parts → j < length m.parts → ((part_at l i).package ≡ (part_at m j).package) × ((part_at l i).task ≡ (part_at m j).task)
  same_task hi hj =
      let part : renumbered (in_closure l i) (part_at l i) ≡ renumbered (in_closure m j) (part_at m j) = cc (last_part l i v.ordered.lower hi, last_part m j w.ordered.lower hj, ap (λ x. last x.parts) same_closure) in
      (ap (λ p. p.package) part, ap (λ p. p.task) part)

  same_outcome : (mode : Mode) (book : Book) → i < length l.parts → j < length m.parts → slice_get (clean mode book l) i ≡ slice_get (clean mode book m) j
  same_outcome mode book hi hj =
      sym (closure_law_lem mode book l i v.ordered.lower hi) ∙ ap (λ x. last (clean mode book x)) same_closure ∙ closure_law_lem mode book m j w.ordered.lower hj

pub keys_law_lem : KeysLaw
keys_law_lem = record {
  closures = λ l m i j v w e. same_closure l m i j v w e;
  tasks = λ l m i j v w hi hj e. same_task l m i j v w e hi hj;
  outcomes = λ mode book l m i j v w hi hj e. same_outcome l m i j v w e mode book hi hj;
}

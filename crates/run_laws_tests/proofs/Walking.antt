-- Walks over lists, and what they mean.
use Rattle.std.proofs.Common.{◌≡◌, ◌≢◌, ℕ, zero, suc, ◌<◌, ◌≤◌, ◌+◌, ◌-◌, ◌==◌, ◌||◌, cond, Bool, true, false, List, [], ◌∷◌, ◌++◌, length, get_or, drop, refl, sym, ap, ◌∙◌, arith, inl, inr, Option, Some, None}
use Rattle.std.specs.Prelude.{map, filter, is_some}
use Rattle.std.specs.List.{list_any}
use Rattle.std.proofs.lemmas.Bool.{cases_Bool, or_left}
use Rattle.rel_path.specs.Paths.{Path, is_among}
use Rattle.rel_path.specs.Files.{FileMap, file_at, over}
use Rattle.listing.specs.declared.part.Part.{Part}
use Rattle.listing.specs.declared.part.Listing.{Listing}
use Rattle.run_laws.specs.declared.outcome.Outcome.{Outcome}
use Rattle.run_laws.specs.Picks.{pick}
use Rattle.run_laws.specs.Ancestors.{part_at, reaches, is_above}
use Rattle.run_laws.specs.Closures.{names, renumbered, sub_parts, in_closure, closure}
use Rattle.run_core.specs.declared.states.Mode.{Mode}
use Rattle.run_laws.specs.Effects.{Book}
use Rattle.run_laws.specs.Clean.{written, inputs_of, over_all, seen, outcome, clean_upto}
use Rattle.run_laws.specs.Worlds.{is_read}
use Rattle.run_laws_tests.specs.Walks.{names_from, or_bytes, last_written, parts_from}

-- what is reached by at least one edge begins with a dependency
pub reaches-most : (l : Listing) (most from to : ℕ) → most ≢ 0 → reaches l most from to ≡ list_any (λ d. (d == to) || reaches l (most - 1) d to) (part_at l from).deps
reaches-most l zero from to ne = absurd (ne refl)
reaches-most l (suc n) from to ne = let e : suc n - 1 ≡ n = omega arith in rw e refl

pub any_drop : (t : ℕ → Bool) (xs : List ℕ) (i : ℕ) → i < length xs → t (get_or xs i 0) ≡ true → list_any t (drop i xs) ≡ true
any_drop t [] i l h = absurd (omega arith)
any_drop t (x ∷ xs) zero l h = or_left (t x) (list_any t xs) h
any_drop t (x ∷ xs) (suc i) l h = any_drop t xs i (omega arith) h

pub any_over : (t : ℕ → Bool) (xs : List ℕ) (i : ℕ) → length xs ≤ i → list_any t (drop i xs) ≡ false
any_over t [] zero l = refl
any_over t [] (suc i) l = refl
any_over t (x ∷ xs) zero l = absurd (omega arith)
any_over t (x ∷ xs) (suc i) l = any_over t xs i (omega arith)

-- ---- walks by places

-- a test of places from this one on
abbrev from : (ℕ → Bool) → ℕ → ℕ → Bool
from keep place = λ k. keep (place + k)

names-walk : (keep : ℕ → Bool) (place : ℕ) (parts : List Part) (path : Path) (shifted : ℕ → Bool) → ((k : ℕ) → shifted k ≡ keep (place + k)) → names_from keep place parts path ≡ names (pick shifted parts) path
names-walk keep place [] path shifted same = refl
names-walk keep place (part ∷ parts) path shifted same =
    let here : shifted zero ≡ keep place = same zero ∙ ap keep (omega arith) in
    let more = names-walk keep (place + 1) parts path (λ k. shifted (suc k)) (λ k. same (suc k) ∙ ap keep (omega arith)) in
    elim (cases_Bool (keep place)) [
      | inl t ↦ let u = here ∙ t in rw (t, u) (ap (λ b. is_among part.inputs path || b) more)
      | inr f ↦ let u = here ∙ f in rw (f, u) more
    ]

pub names-is : (keep : ℕ → Bool) (parts : List Part) (path : Path) → names_from keep 0 parts path ≡ names (pick keep parts) path
names-is keep parts path = names-walk keep 0 parts path keep (λ k. ap keep (omega arith))

or-over : (below : FileMap) (files : List (Path × List ℕ)) (path : Path) → (over below (file_at files)) path ≡ or_bytes (file_at files path) (below path)
or-over below files path = by (file_at files path) (below path)
  where
    by : (x y : Option (List ℕ)) → cond (is_some x) x y ≡ or_bytes x y
    by None y = refl
    by (Some b) y = refl

last-walk : (keep : ℕ → Bool) (place : ℕ) (outs : List Outcome) (path : Path) (below : FileMap) (shifted : ℕ → Bool) → ((k : ℕ) → shifted k ≡ keep (place + k)) → last_written keep place outs path (below path) ≡ over_all below (map written (pick shifted outs)) path
last-walk keep place [] path below shifted same = refl
last-walk keep place (o ∷ outs) path below shifted same =
    let here : shifted zero ≡ keep place = same zero ∙ ap keep (omega arith) in
    let next : (k : ℕ) → shifted (suc k) ≡ keep (place + 1 + k) = λ k. same (suc k) ∙ ap keep (omega arith) in
    elim (cases_Bool (keep place)) [
      | inl t ↦ let u = here ∙ t in rw (t, u) (ap (last_written keep (place + 1) outs path) (sym (or-over below (written o) path)) ∙ last-walk keep (place + 1) outs path (over below (file_at (written o))) (λ k. shifted (suc k)) next)
      | inr f ↦ let u = here ∙ f in rw (f, u) (last-walk keep (place + 1) outs path below (λ k. shifted (suc k)) next)
    ]

-- what the walk finds is what a task sees
pub seen-is : (l : Listing) (i : ℕ) (outs : List Outcome) (path : Path) → last_written (is_above l i) 0 outs path (cond (is_read l i path) (file_at l.files path) None) ≡ (seen l i outs).files path
unfolding seen
seen-is l i outs path = last-walk (is_above l i) 0 outs path (inputs_of (part_at l i ∷ pick (is_above l i) l.parts) l.files) (is_above l i) (λ k. ap (is_above l i) (omega arith))

-- one outcome more
pub clean-next : (mode : Mode) (book : Book) (l : Listing) (n : ℕ) (before later : List Outcome) (o : Outcome) → before ≡ clean_upto mode book l n → o ≡ outcome mode book l n before → later ≡ before ++ o ∷ [] → later ≡ clean_upto mode book l (n + 1)
clean-next mode book l n before later o is same e =
    let next : n + 1 ≡ suc n = omega arith in
    rw next (e ∙ (λ i. before ++ same i ∷ []) ∙ ap (λ outs. outs ++ outcome mode book l n outs ∷ []) is)

parts-walk : (keep : ℕ → Bool) (place : ℕ) (parts : List Part) (shifted : ℕ → Bool) → ((k : ℕ) → shifted k ≡ keep (place + k)) → parts_from keep place parts ≡ map (renumbered keep) (pick shifted parts)
parts-walk keep place [] shifted same = refl
parts-walk keep place (part ∷ parts) shifted same =
    let here : shifted zero ≡ keep place = same zero ∙ ap keep (omega arith) in
    let more = parts-walk keep (place + 1) parts (λ k. shifted (suc k)) (λ k. same (suc k) ∙ ap keep (omega arith)) in
    elim (cases_Bool (keep place)) [
      | inl t ↦ let u = here ∙ t in rw (t, u) (ap (λ ps. renumbered keep part ∷ ps) more)
      | inr f ↦ let u = here ∙ f in rw (f, u) more
    ]

-- the walk gives the parts of the closure
pub parts-are : (l : Listing) (i : ℕ) → parts_from (in_closure l i) 0 l.parts ≡ sub_parts l (in_closure l i)
parts-are l i = parts-walk (in_closure l i) 0 l.parts (in_closure l i) (λ k. ap (in_closure l i) (omega arith))

-- and with the files that they name the closure
pub closure-is : (l : Listing) (i : ℕ) (parts : List Part) (files : List (Path × List ℕ)) → parts ≡ parts_from (in_closure l i) 0 l.parts → files ≡ filter (λ f. names parts f.0) l.files → record { files = files; parts = parts } ≡ closure l i
closure-is l i parts files p f =
    let same = p ∙ parts-are l i in
    (λ j. record { files = f j; parts = parts }) ∙ (λ j. record { files = filter (λ file. names (same j) file.0) l.files; parts = same j })

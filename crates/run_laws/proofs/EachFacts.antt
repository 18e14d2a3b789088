-- Each clean outcome from the others.
use Rattle.std.proofs.Common.{◌≡◌, ℕ, zero, suc, ◌<◌, ◌≤◌, ◌&&◌, ◌++◌, cond, List, [], ◌∷◌, length, slice_get, refl, sym, ap, ◌∙◌, arith, inl, inr, Some}
use Rattle.std.proofs.lemmas.Bool.{cases_eq, false_from_ne_true}
use Rattle.run_core.proofs.Any.{any_agree}
use Rattle.run_laws.proofs.PickFacts.{pick-push_left}
use Rattle.run_laws.proofs.AncestorFacts.{reaches-lower}
use Rattle.run_laws.proofs.ClosedParts.{length-clean_upto}
use Rattle.run_laws.specs.Ancestors.{part_at, is_above, IsLower, is_nil}
use Rattle.run_laws.specs.Picks.{pick}
use Rattle.run_laws.specs.Effects.{Book}
use Rattle.run_laws.specs.Clean.{is_bad, skips, seen_by, seen, outcome, clean_upto, clean}
use Rattle.listing.specs.declared.part.Listing.{Listing}
use Rattle.run_core.specs.declared.states.Mode.{Mode}
use Rattle.run_laws.specs.declared.outcome.Outcome.{Outcome}
use Rattle.run_laws.specs.declared.outcome.Outcome.TheVariants.{Skipped, Passed, Done}

pub get-push : {X : Type 0} (xs : List X) (x : X) (i : ℕ) → i < length xs → slice_get (xs ++ x ∷ []) i ≡ slice_get xs i
get-push [] x i l = absurd (omega arith)
get-push (y ∷ xs) x zero l = refl
get-push (y ∷ xs) x (suc i) l = get-push xs x i (omega arith)

get-pushed : {X : Type 0} (xs : List X) (x : X) → slice_get (xs ++ x ∷ []) (length xs) ≡ Some x
get-pushed [] x = refl
get-pushed (y ∷ xs) x = get-pushed xs x

-- a later outcome changes nothing
outcome-push : (mode : Mode) (book : Book) (l : Listing) → IsLower l → (i : ℕ) (outs : List Outcome) (o : Outcome) → i ≤ length outs → outcome mode book l i (outs ++ o ∷ []) ≡ outcome mode book l i outs
unfolding outcome seen
outcome-push mode book l low i outs o le =
    let bad = any_agree (λ d. d < i) (λ d. is_bad (slice_get (outs ++ o ∷ []) d)) (λ d. is_bad (slice_get outs d)) (λ d k. ap is_bad (get-push outs o d (omega arith))) (part_at l i).deps (low i) in
    let above = pick-push_left (is_above l i) outs o (false_from_ne_true _ (λ r. absurd (let k = reaches-lower l low i i (length outs) r in omega arith))) in
    λ j. cond (skips mode && bad j) Skipped (cond (is_nil (part_at l i).scripts) Passed (Done (book (seen_by l.files (part_at l i) (pick (is_above l i) l.parts) (above j)))))

each-upto : (mode : Mode) (book : Book) (l : Listing) → IsLower l → (n i : ℕ) → i < n → slice_get (clean_upto mode book l n) i ≡ Some (outcome mode book l i (clean_upto mode book l n))
each-upto mode book l low zero i h = absurd (omega arith)
each-upto mode book l low (suc n) i h =
    let outs = clean_upto mode book l n in
    let o = outcome mode book l n outs in
    let size = length-clean_upto mode book l n in
    elim (cases_eq i n) [
      | inl e ↦ ap (slice_get (outs ++ o ∷ [])) (e ∙ sym size) ∙ get-pushed outs o
          ∙ ap Some (sym (rw e (outcome-push mode book l low n outs o (omega arith))))
      | inr d ↦ get-push outs o i (omega arith) ∙ each-upto mode book l low n i (omega arith) ∙ ap Some (sym (outcome-push mode book l low i outs o (omega arith)))
    ]

pub each_law_lem : (mode : Mode) (book : Book) (l : Listing) (i : ℕ) → IsLower l → i < length l.parts → slice_get (clean mode book l) i ≡ Some (outcome mode book l i (clean mode book l))
each_law_lem mode book l i low h = each-upto mode book l low (length l.parts) i h

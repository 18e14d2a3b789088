-- The outcomes as a whole, and what a task sees.
use Rattle.std.proofs.Common.{◌≡◌, ℕ, zero, suc, ◌<◌, ◌++◌, Bool, true, List, [], ◌∷◌, length, refl, ap, ◌∙◌, arith, inl, inr, Some, None}
use Rattle.std.proofs.lemmas.Bool.{cases_Bool}
use Rattle.std.specs.Prelude.{map}
use Rattle.rel_path.specs.Paths.{Path}
use Rattle.rel_path.specs.Files.{FileMap, file_at, over}
use Rattle.listing.specs.declared.part.Listing.{Listing}
use Rattle.run_core.specs.declared.states.Mode.TheVariants.{Never, DependenciesSuccessful}
use Rattle.run_laws.specs.declared.outcome.Outcome.{Outcome}
use Rattle.run_laws.specs.Picks.{pick}
use Rattle.run_laws.specs.Ancestors.{part_at, is_above}
use Rattle.run_laws.specs.Effects.{Book}
use Rattle.run_laws.specs.Clean.{written, inputs_of, over_all, seen, outcome, clean_upto, outcome_in}
use Rattle.run_laws.specs.CleanLaws.{EachLaw, SeenLaw, ModesLaw}
use Rattle.run_laws.proofs.PickFacts.{shift}
use Rattle.run_laws.proofs.ClosedParts.{length-clean_upto}
use Rattle.run_laws.proofs.EachFacts.{each_law_lem}
use Rattle.run_laws.proofs.GoodFacts.{modes_law_lem}

pub each_record : EachLaw
each_record = record {
  count = λ mode book l. length-clean_upto mode book l (length l.parts);
  each = λ mode book l i low h. each_law_lem mode book l i low h;
}

-- ---- modes

outcome-same : (book : Book) (l : Listing) (i : ℕ) (outs : List Outcome) → outcome DependenciesSuccessful book l i outs ≡ outcome Never book l i outs
unfolding outcome
outcome-same book l i outs = refl

upto-same : (book : Book) (l : Listing) (n : ℕ) → clean_upto DependenciesSuccessful book l n ≡ clean_upto Never book l n
upto-same book l zero = refl
upto-same book l (suc n) =
    let before = upto-same book l n in
    (λ j. before j ++ outcome DependenciesSuccessful book l n (before j) ∷ []) ∙ ap (λ x. clean_upto Never book l n ++ x ∷ []) (outcome-same book l n (clean_upto Never book l n))

pub modes_record : ModesLaw
modes_record = record {
  agree = λ one other book l good. modes_law_lem one other book l good;
  same = λ book l. upto-same book l (length l.parts);
}

-- ---- what a task sees at a path

-- these outcomes say nothing of the path
abbrev AreSilent : (ℕ → Bool) → List Outcome → Path → Type 0
AreSilent keep outs path = (k : ℕ) → keep k ≡ true → file_at (written (outcome_in outs k)) path ≡ None

over-silent : (keep : ℕ → Bool) (outs : List Outcome) (below : FileMap) (path : Path) → AreSilent keep outs path → over_all below (map written (pick keep outs)) path ≡ below path
over-silent keep [] below path none = refl
over-silent keep (o ∷ outs) below path none =
    elim (cases_Bool (keep zero)) [
      | inl t ↦ rw t (over-silent (shift keep) outs (over below (file_at (written o))) path (λ k h. none (suc k) h) ∙ rw (none zero t) refl)
      | inr f ↦ rw f (over-silent (shift keep) outs below path (λ k h. none (suc k) h))
    ]

over-last : (keep : ℕ → Bool) (outs : List Outcome) (below : FileMap) (path : Path) (j : ℕ) (bytes : List ℕ) → keep j ≡ true → file_at (written (outcome_in outs j)) path ≡ Some bytes
    → ((k : ℕ) → j < k → keep k ≡ true → file_at (written (outcome_in outs k)) path ≡ None) → over_all below (map written (pick keep outs)) path ≡ Some bytes
over-last keep [] below path j bytes t e later = absurd (cc)
over-last keep (o ∷ outs) below path zero bytes t e later =
    rw t (over-silent (shift keep) outs (over below (file_at (written o))) path (λ k h. later (suc k) (omega arith) h) ∙ rw e refl)
over-last keep (o ∷ outs) below path (suc j) bytes t e later =
    elim (cases_Bool (keep zero)) [
      | inl u ↦ rw u (over-last (shift keep) outs (over below (file_at (written o))) path j bytes t e (λ k lt h. later (suc k) (omega arith) h))
      | inr f ↦ rw f (over-last (shift keep) outs below path j bytes t e (λ k lt h. later (suc k) (omega arith) h))
    ]

abbrev inputs_at : Listing → ℕ → FileMap
inputs_at l i = inputs_of (part_at l i ∷ pick (is_above l i) l.parts) l.files

seen-files : (l : Listing) (i : ℕ) (outs : List Outcome) → (seen l i outs).files ≡ over_all (inputs_at l i) (map written (pick (is_above l i) outs))
unfolding seen
seen-files l i outs = refl

pub seen_record : SeenLaw
seen_record = record {
  last = λ l i j outs path bytes t e later. ap (λ f. f path) (seen-files l i outs) ∙ over-last (is_above l i) outs (inputs_at l i) path j bytes t e later;
  input = λ l i outs path none. ap (λ f. f path) (seen-files l i outs) ∙ over-silent (is_above l i) outs (inputs_at l i) path none;
}

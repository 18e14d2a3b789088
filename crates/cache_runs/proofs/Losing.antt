-- What a run has left that stopped, where the last results may be lost.
use Rattle.std.proofs.Common.{◌≡◌, ℕ, ◌+◌, ◌≤◌, List, [], ◌∷◌, ◌++◌, length, take, sym, ap, ◌∙◌, subst, arith}
use Rattle.std.proofs.Math.Seq.{take-length}
use Rattle.std.proofs.lemmas.List.{length-append, length-take, take-append-le, take-take}
use Rattle.rel_path.specs.Files.{FileMap}
use Rattle.cache_api.specs.Pairs.{Pair, AreFirst}
use Rattle.page.specs.declared.blocks.Note.{Note}
use Rattle.run_core.specs.Machine.{States}
use Rattle.run_laws.specs.Effects.{Book}
use Rattle.run_laws.specs.Pairs.{IsGood}
use Rattle.run_plan.specs.declared.plan.Plan.{Plan}
use Rattle.run_plan.specs.Answers.{Cause, Stopped, StopsAt}
use Rattle.run_plan.specs.Openings.{Opening}
use Rattle.spawn_dev.specs.declared.command.Step.{Step as Told}

-- pairs before others are the first of what all these are the first of
first_before : (least fewest : ℕ) (all left more pairs : List Pair) → pairs ≡ left ++ more
    → fewest ≤ length left → AreFirst least all pairs → AreFirst fewest all left
first_before least fewest all left more pairs parts long (n, at, is) =
    let size : length left + length more ≡ length (take n all) =
    sym (length-append left more) ∙ ap length (sym parts) ∙ ap length is in
    let within : length left ≤ n = omega (arith, size, length-take n all) in (
      length left,
      long,
      sym (take-length left) ∙ sym (take-append-le (length left) left more (omega arith))
          ∙ ap (λ ps. take (length left) ps) (sym parts ∙ is) ∙ take-take (length left) n all within,
    )

-- good pairs before others
good_before : (book : Book) (left more : List Pair) → IsGood book (left ++ more)
    → IsGood book left
good_before book [] more good = tt
good_before book (pair ∷ left) more good = (good.0, good_before book left more good.1)

module _ (plan : Plan) (o : Opening) (kept : Type 0) where
  -- the first of the pairs are left, and those of the opening among these
  pub loses_at : (states : States) (notes : ℕ → Note) (files : FileMap)
      (left more pairs : List Pair) (room : ℕ) (steps : List Told) → pairs ≡ left ++ more
      → length o.pairs ≤ length left → StopsAt plan o kept states notes files pairs room steps
      → StopsAt plan o ⊥ states notes files left room steps
  loses_at states notes files left more pairs room steps parts long stops = record {
    mine = stops.mine;
    at = stops.at;
    late = stops.late;
    late_are = stops.late_are;
    steps_are = stops.steps_are;
    ends = stops.ends;
    leaves = stops.leaves;
    noted = stops.noted;
    least = length o.pairs;
    least_is = omega arith;
    pairs_are = first_before stops.least (length o.pairs) _ left more pairs parts long stops.pairs_are;
    all = λ none. absurd none;
    good = good_before o.book left more (subst (IsGood o.book) parts stops.good);
  }

  -- nothing is said of what was due
  pub unsaid_at : (states : States) (notes : ℕ → Note) (files : FileMap)
      (pairs : List Pair) (room : ℕ) (steps : List Told)
      → StopsAt plan o kept states notes files pairs room steps
      → StopsAt plan o ⊥ states notes files pairs room steps
  unsaid_at states notes files pairs room steps stops = record {
    mine = stops.mine;
    at = stops.at;
    late = stops.late;
    late_are = stops.late_are;
    steps_are = stops.steps_are;
    ends = stops.ends;
    leaves = stops.leaves;
    noted = stops.noted;
    least = stops.least;
    least_is = stops.least_is;
    pairs_are = stops.pairs_are;
    all = λ none. absurd none;
    good = stops.good;
  }

  pub loses : (files : FileMap) (left more pairs : List Pair) (room : ℕ) (steps : List Told)
      (cause : Cause) (Heard : Type 0) (before after : List ℕ) → pairs ≡ left ++ more
      → length o.pairs ≤ length left
      → Stopped plan o kept files pairs room steps cause Heard before after
      → Stopped plan o ⊥ files left room steps cause Heard before after
  loses files left more pairs room steps cause Heard before after parts long stopped = record {
    states = stopped.states;
    notes = stopped.notes;
    stops = loses_at stopped.states stopped.notes files left more pairs room steps parts long
        stopped.stops;
    page_is = stopped.page_is;
  }

  pub unsaid : (files : FileMap) (pairs : List Pair) (room : ℕ) (steps : List Told)
      (cause : Cause) (Heard : Type 0) (before after : List ℕ)
      → Stopped plan o kept files pairs room steps cause Heard before after
      → Stopped plan o ⊥ files pairs room steps cause Heard before after
  unsaid files pairs room steps cause Heard before after stopped = record {
    states = stopped.states;
    notes = stopped.notes;
    stops = unsaid_at stopped.states stopped.notes files pairs room steps stopped.stops;
    page_is = stopped.page_is;
  }

-- The outcome and the key text of a task are made of its closure.
use Rattle.std.proofs.Common.{◌≡◌, ◌<◌, ℕ, suc, List, [], ◌∷◌, length, refl, sym, ap, ◌∙◌, subst}
use Rattle.std.specs.Prelude.{slice_get, Some}
use Rattle.std.proofs.lemmas.Option.{slice_get_within}
use Rattle.rel_path.specs.Files.{FileMap}
use Rattle.turbo_config.specs.declared.task_id.TaskId.{TaskId}
use Rattle.listing.specs.KeyText.{key_text}
use Rattle.listing.specs.declared.part.Listing.{Listing}
use Rattle.run_core.specs.declared.states.Mode.{Mode}
use Rattle.run_laws.specs.Picks.{last}
use Rattle.run_laws.specs.Closures.{closure}
use Rattle.run_laws.specs.Clean.{clean}
use Rattle.run_laws.specs.Effects.{Book}
use Rattle.run_laws.specs.ClosureLaws.{ClosureLaw}
use Rattle.run_plan.specs.declared.plan.Plan.{Plan}
use Rattle.collect.specs.Listings.{ArePaired}
use Rattle.repository.specs.Reading.{Contents}
use Rattle.pruned_files.specs.Pruned.{pruned_files, pruned_contents}
use Rattle.prune_laws.specs.Laws.{PruneLaw, OutcomeLaw}
use Rattle.prune_laws.proofs.Running.{IsRun, HasPart, run_of, laid, parts_are}

paired_length : {X Y : Type 0} (R : X → Y → Type 0) (xs : List X) (ys : List Y) → ArePaired R xs ys → length ys ≡ length xs
paired_length R [] [] a = refl
paired_length R [] (y ∷ ys) a = absurd a
paired_length R (x ∷ xs) [] a = absurd a
paired_length R (x ∷ xs) (y ∷ ys) a = ap suc (paired_length R xs ys a.1)

module _ (law : ClosureLaw) (contents : Contents) (env : List (List ℕ × List ℕ)) (files : FileMap) (plan : Plan) (run : IsRun contents env files plan) (i : ℕ) (id : TaskId) (at : slice_get plan.ids i ≡ Some id) where
  inside : i < length plan.listing.parts
  inside = subst (λ n. i < n)
      (ap length run.ids ∙ sym (paired_length (HasPart contents env files plan run) run.list.ids plan.listing.parts (parts_are contents env files plan run)))
      (slice_get_within plan.ids i id at)

  -- the last outcome over the closure is that at the place
  last_is : (mode : Mode) (book : Book) → last (clean mode book (closure plan.listing i)) ≡ slice_get (clean mode book plan.listing) i
  last_is mode book = law mode book plan.listing i (laid contents env files plan run).lower inside

pub same_outcomes : PruneLaw → ClosureLaw → OutcomeLaw
same_outcomes prune law files contents targets p env whole part are i j id stands =
    let same : closure whole.listing i ≡ closure part.listing j = prune files contents targets p env whole part are i j id stands in (
      (λ mode book.
          sym (last_is law contents env files whole (run_of contents are.order env files whole are.plans) i id stands.here mode book)
          ∙ ap (λ (l : Listing). last (clean mode book l)) same
          ∙ last_is law (pruned_contents contents p) env (pruned_files p files) part (run_of (pruned_contents contents p) are.other env (pruned_files p files) part are.plans_part) j id stands.there mode book),
      ap key_text same,
    )

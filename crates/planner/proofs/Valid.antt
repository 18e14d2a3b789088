-- A plan of wanted tasks is valid.
use Rattle.std.proofs.Common.{◌≡◌, ◌<◌, ◌≤◌, ◌^◌, ℕ, zero, suc, List, [], ◌∷◌, length, map, sym, ap, ◌∙◌, subst, arith}
use Rattle.std.specs.Prelude.{Option, Some, slice_index_or}
use Rattle.serde_json.specs.Data.{Data}
use Rattle.rel_path.specs.Paths.{Path}
use Rattle.rel_path.specs.Files.{FileMap}
use Rattle.cli_words.specs.declared.order.RunOrder.{RunOrder}
use Rattle.workspaces.specs.Space.{Space}
use Rattle.task_definitions.specs.Setup.{Setup, task_def}
use Rattle.turbo_config.specs.declared.task_id.TaskId.{TaskId}
use Rattle.task_graph.specs.declared.plan.PlanList.{PlanList}
use Rattle.listing.specs.declared.part.Part.{Part}
use Rattle.listing.specs.declared.part.Listing.{Listing}
use Rattle.collect.specs.declared.wanted.Wanted.{Wanted}
use Rattle.collect.specs.Listings.{ArePaired, IsListing}
use Rattle.collect.specs.Parts.{IsPart}
use Rattle.collect.proofs.Lists.{paired_length}
use Rattle.run_laws.specs.Ancestors.{blank, part_at}
use Rattle.run_laws.specs.Valid.{IsOrdered}
use Rattle.run_laws.specs.Plans.{AreApart}
use Rattle.run_plan.specs.declared.plan.Plan.{Plan}
use Rattle.run_plan.specs.Plans.{IsValidPlan, no_task}
use Rattle.planner.specs.Plans.{IsPlanOf}

module _ (setup : Setup) (space : Space) (lock : Option Data) (files : FileMap) (walk : List Path) (env : List (List ℕ × List ℕ)) where
  abbrev Parts : List Wanted → List Part → Type 0
  Parts wanted parts = ArePaired (IsPart setup space lock files walk env) wanted parts

  package_at : (wanted : List Wanted) (parts : List Part) → Parts wanted parts → (t : ℕ) → t < length parts → (slice_index_or (map (λ (w : Wanted). w.id) wanted) t no_task).«package» ≡ (slice_index_or parts t blank).«package»
  package_at [] [] paired t less = absurd (omega arith)
  package_at [] (part ∷ parts) paired t less = absurd paired
  package_at (w ∷ wanted) [] paired t less = absurd paired
  package_at (w ∷ wanted) (part ∷ parts) paired zero less = sym paired.0.«package»
  package_at (w ∷ wanted) (part ∷ parts) paired (suc t) less = package_at wanted parts paired.1 t (omega arith)

  task_at : (wanted : List Wanted) (parts : List Part) → Parts wanted parts → (t : ℕ) → t < length parts → (slice_index_or (map (λ (w : Wanted). w.id) wanted) t no_task).task ≡ (slice_index_or parts t blank).task
  task_at [] [] paired t less = absurd (omega arith)
  task_at [] (part ∷ parts) paired t less = absurd paired
  task_at (w ∷ wanted) [] paired t less = absurd paired
  task_at (w ∷ wanted) (part ∷ parts) paired zero less = sym paired.0.task
  task_at (w ∷ wanted) (part ∷ parts) paired (suc t) less = task_at wanted parts paired.1 t (omega arith)

  pub parts_count : (wanted : List Wanted) (listing : Listing) → IsListing setup space lock files walk env wanted listing → length listing.parts ≡ length wanted
  parts_count wanted listing is = paired_length (IsPart setup space lock files walk env) wanted listing.parts is.parts

  pub is_valid : (order : RunOrder) (list : PlanList) (wanted : List Wanted) (listing : Listing) (plan : Plan) → map (λ (w : Wanted). w.id) wanted ≡ list.ids → length wanted ≡ length list.ids → IsListing setup space lock files walk env wanted listing
      → IsPlanOf setup order env list listing plan → IsOrdered listing → AreApart listing → length list.ids < 2 ^ 32 → 0 < order.width → order.width ≤ 1024 → IsValidPlan plan
  is_valid order list wanted listing plan named count listed is ordered apart few wide narrow =
      let parts : length plan.listing.parts ≡ length list.ids = ap (λ (l : Listing). length l.parts) is.listing_is ∙ (parts_count wanted listing listed ∙ count) in
      let same : map (λ (w : Wanted). w.id) wanted ≡ plan.ids = named ∙ sym is.ids in
      let back : listing ≡ plan.listing = sym is.listing_is in
      record {
        ids = ap length is.ids ∙ sym parts;
        defs = paired_length (λ id def. task_def setup id.«package» id.task ≡ Some def) list.ids plan.defs is.defs ∙ sym parts;
        given = is.passed ∙ sym parts;
        packages = subst (λ (ids : List TaskId). (t : ℕ) → t < length plan.listing.parts → (slice_index_or ids t no_task).«package» ≡ (part_at plan.listing t).«package») same
            (subst (λ (l : Listing). (t : ℕ) → t < length l.parts → (slice_index_or (map (λ (w : Wanted). w.id) wanted) t no_task).«package» ≡ (part_at l t).«package») back (package_at wanted listing.parts listed.parts));
        tasks = subst (λ (ids : List TaskId). (t : ℕ) → t < length plan.listing.parts → (slice_index_or ids t no_task).task ≡ (part_at plan.listing t).task) same
            (subst (λ (l : Listing). (t : ℕ) → t < length l.parts → (slice_index_or (map (λ (w : Wanted). w.id) wanted) t no_task).task ≡ (part_at l t).task) back (task_at wanted listing.parts listed.parts));
        ordered = subst IsOrdered back ordered;
        apart = subst AreApart back apart;
        few = omega (arith, parts, few);
        wide = omega (arith, wide, is.width);
        narrow = omega (arith, narrow, is.width);
      }

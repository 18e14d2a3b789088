-- What planning answers, by its steps.
use Rattle.std.proofs.Common.{◌≡◌, ℕ, List, refl, subst, Ok, Err}
use Rattle.rel_path.specs.Files.{FileMap}
use Rattle.cli_words.specs.declared.order.RunOrder.{RunOrder}
use Rattle.task_graph.specs.declared.plan.PlanList.{PlanList}
use Rattle.listing.specs.declared.part.Listing.{Listing}
use Rattle.collect.specs.Refusals.{Collects}
use Rattle.run_plan.specs.declared.plan.Plan.{Plan}
use Rattle.repository.specs.Reading.{Contents}
use Rattle.refusals.specs.declared.stop.Stop.{Stop}
use Rattle.refusals.specs.declared.stop.Stop.TheVariants.{Refused, Failed, OutOfMemory}
use Rattle.planner.specs.declared.preparing.Prepared.{Prepared}
use Rattle.planner.specs.Answers.{Answers}
use Rattle.planner.specs.Plans.{Answer, entries_of, AfterCollect, IsPlanOf}
use Rattle.planner.specs.Steps.{EndsOrFails, NoMore, Before, IsPrepared}
use Rattle.planner.specs.Wanted.{wanted_of}
use Rattle.planner.proofs.Following.{after_all, collect_more}

module _ (contents : Contents) (order : RunOrder) (env : List (List ℕ × List ℕ)) (files : FileMap) where
  -- what comes behind the steps before a file is read
  abbrev Rest : PlanList → Listing → Answer → Type 0
  Rest list listing answer = (plan : Plan) × (answer ≡ Ok plan) × IsPlanOf contents.setup order env list listing plan

  abbrev At : List ℕ → PlanList → Answer → Type 0
  At selected list answer = AfterCollect contents files env (wanted_of (entries_of contents order selected) order.args list) (Rest list) answer

  module _ (p : Prepared) (is : IsPrepared contents order p) where
    through : (answer : Answer) → AfterCollect contents files env p.wanted.items (Rest p.list) answer → Before contents order At answer
    through answer later = after_all contents order At is.selected is.whole is.are_selected is.nodes is.means p.list is.planned is.ends answer (subst (λ wanted. AfterCollect contents files env wanted (Rest p.list) answer) is.wanted_are later)

    pub answers_end : (e : Stop) → EndsOrFails (AfterCollect contents files env p.wanted.items NoMore) e → Answers contents order env files (Err e)
    answers_end (Refused reason) says = through (Err reason) (collect_more contents files env p.wanted.items (Rest p.list) (Err reason) says)
    answers_end Failed says = tt
    answers_end OutOfMemory says = tt

    pub answers_plan : (listing : Listing) (plan : Plan) → Collects contents.setup contents.space contents.lock files contents.walk env p.wanted.items (Ok listing) → IsPlanOf contents.setup order env p.list listing plan → Answers contents order env files (Ok plan)
    answers_plan listing plan collects planned = through (Ok plan) (Ok listing, collects, (plan, refl, planned))

-- The laws on plans of pruned repositories.
use Rattle.std.proofs.Common.{◌≡◌, ℕ, List, Some, sym, ap, ◌∙◌, subst}
use Rattle.std.specs.Prelude.{Ok, slice_get}
use Rattle.rel_path.specs.Files.{FileMap}
use Rattle.turbo_config.specs.declared.task_id.TaskId.{TaskId}
use Rattle.run_laws.specs.Ancestors.{part_at, blank}
use Rattle.run_plan.specs.declared.plan.Plan.{Plan}
use Rattle.repository.specs.Reading.{Contents}
use Rattle.planner.specs.Wanted.{args_for}
use Rattle.planner.specs.Plans.{Answer}
use Rattle.plan_laws.specs.Laws.{PlanLaw as OnePlan, OrderLaw, AsksFor}
use Rattle.pruned_files.specs.Pruned.{Pruning, pruned_files, pruned_contents}
use Rattle.pruned_reading.specs.Laws.{ReadingLaw}
use Rattle.prune_facts.proofs.Pairing.{pairs_at}
use Rattle.prune_laws.specs.Laws.{GiveSameWords}
use Rattle.prune_laws.proofs.Running.{IsRun, HasPart, run_of, parts_are}
use Rattle.prune_plans.specs.Laws.{PlanLaw, AnswerLaw, PairLaw, FilesLaw}
use Rattle.prune_plans.proofs.Planning.{same_plan}

pub planned_alike : PlanLaw
planned_alike = same_plan

pub one_answer : PlanLaw → OnePlan → AnswerLaw
one_answer plan one a answer s = one (pruned_contents a.contents a.pruning) a.order a.env (pruned_files a.pruning a.files) answer (Ok a.plan) s (plan a)

pub of_files : PlanLaw → ReadingLaw → OrderLaw → FilesLaw
of_files plan reading one a within answer = (
  (λ s. one a.order a.env (pruned_files a.pruning a.files) answer (Ok a.plan) s asks),
  (λ e. subst (AsksFor a.order a.env (pruned_files a.pruning a.files)) (sym e) asks),
)
  where
    asks : AsksFor a.order a.env (pruned_files a.pruning a.files) (Ok a.plan)
    asks = (Ok (pruned_contents a.contents a.pruning), reading a.files a.contents a.targets a.pruning a.means a.prunes within, plan a)

-- a task of a plan has the words that its id gets
its_words : (contents : Contents) (env : List (List ℕ × List ℕ)) (files : FileMap) (plan : Plan) (run : IsRun contents env files plan) (i : ℕ) (id : TaskId) → slice_get plan.ids i ≡ Some id
    → (part_at plan.listing i).args ≡ args_for run.entries run.args id
its_words contents env files plan run i id at =
    (pairs_at (HasPart contents env files plan run) blank run.list.ids plan.listing.parts (parts_are contents env files plan run) i id (ap (λ ids. slice_get ids i) (sym run.ids) ∙ at)).args

same_words : (contents : Contents) (p : Pruning) (env : List (List ℕ × List ℕ)) (files : FileMap) (plan : Plan) → IsRun contents env files plan → GiveSameWords contents p plan plan
same_words contents p env files plan run i j id kept here there = its_words contents env files plan run i id here ∙ sym (its_words contents env files plan run j id there)

abbrev ok : Plan → Answer
ok plan = Ok plan

pub paired : AnswerLaw → PairLaw
paired answer a there s =
    let same : there ≡ a.plan = plan_in (answer a (Ok there) s) in
    record {
      means = a.means;
      pruning = a.prunes;
      no_lock = a.no_lock;
      order = a.order;
      plans = a.plans;
      other = a.order;
      plans_part = s;
      words = subst (GiveSameWords a.contents a.pruning a.plan) (sym same) (same_words a.contents a.pruning a.env a.files a.plan (run_of a.contents a.order a.env a.files a.plan a.plans));
    }
  where
    plan_in : ok there ≡ ok a.plan → there ≡ a.plan
    plan_in e = cc

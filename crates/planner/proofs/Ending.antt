-- How planning ends at a step.
use Rattle.std.proofs.Common.{◌≡◌, ◌⊎◌, inl, inr, ℕ, Bool, List, refl, sym, subst, Err}
use Rattle.std.specs.Prelude.{Option, Some, None}
use Rattle.workspaces.specs.declared.member.Package.{Package}
use Rattle.workspaces.specs.Space.{Space}
use Rattle.task_definitions.specs.Setup.{Setup}
use Rattle.filters.specs.declared.error.FilterErr.{FilterErr}
use Rattle.filters.specs.Selection.{words_fault}
use Rattle.filters.specs.Steps.{MayRefuse}
use Rattle.task_graph.specs.declared.error.GraphErr.{GraphErr}
use Rattle.task_graph.specs.declared.error.GraphErr.TheVariants as graph
use Rattle.task_graph.specs.declared.node.Node.{Node}
use Rattle.task_graph.specs.Graphs.{Means as MeansGraph}
use Rattle.task_graph.specs.Cycles.{IsNoPlan}
use Rattle.refusals.specs.declared.refusal.Refusal.{Refusal}
use Rattle.repository.specs.Steps.{IsRefusal}
use Rattle.planner.specs.Refusals.{filter_refusal, graph_refusal}
use Rattle.planner.specs.Plans.{Answer, AfterFilters, AfterFiltersOf, AfterGraph, AfterOrder}
use Rattle.planner.specs.Steps.{Ends, NoMore, error_of}

-- the refusal, if there is one
refused : (Says : Answer → Type 0) (o : Option Refusal) → ((reason : Refusal) → o ≡ Some reason → Says (Err reason)) → Ends Says (error_of o)
refused Says None says = tt
refused Says (Some reason) says = says reason refl

is_refusal : (o : Option Refusal) (reason : Refusal) → o ≡ Some reason → (answer : Answer) → answer ≡ Err reason → IsRefusal o answer
is_refusal o reason e answer is = subst (λ p. IsRefusal p answer) (sym e) is

pub filters_end : (packages : List Package) (words : List (List ℕ)) (fault : FilterErr) → MayRefuse (words_fault packages words) fault → Ends (AfterFilters packages words NoMore) (error_of (filter_refusal fault))
filters_end packages words fault (inl memory) = subst (λ f. Ends (AfterFilters packages words NoMore) (error_of (filter_refusal f))) (sym memory) tt
filters_end packages words fault (inr is) = refused (AfterFilters packages words NoMore) (filter_refusal fault)
    (λ reason e. subst (λ (o : Option FilterErr). AfterFiltersOf o packages words NoMore (Err reason)) (sym is) (is_refusal (filter_refusal fault) reason e (Err reason) refl))

pub graph_ends : (space : Space) (setup : Setup) (selected : List ℕ) (all : Bool) (words : List (List ℕ)) (fault : GraphErr) → (fault ≡ graph.OutOfMemory) ⊎ MeansGraph space setup selected all words (Err fault)
    → Ends (AfterGraph space setup selected all words NoMore) (error_of (graph_refusal fault))
graph_ends space setup selected all words fault (inl memory) = subst (λ f. Ends (AfterGraph space setup selected all words NoMore) (error_of (graph_refusal f))) (sym memory) tt
graph_ends space setup selected all words fault (inr means) = refused (AfterGraph space setup selected all words NoMore) (graph_refusal fault)
    (λ reason e. (Err fault, means, is_refusal (graph_refusal fault) reason e (Err reason) refl))

pub order_ends : (nodes : List Node) (fault : GraphErr) → IsNoPlan nodes fault → Ends (AfterOrder nodes NoMore) (error_of (graph_refusal fault))
order_ends nodes (graph.NoSuchTask name) never = absurd never
order_ends nodes (graph.NoSuchDependency task text) never = absurd never
order_ends nodes (graph.Cycle tasks) cycle = inr (tasks, cycle, refl)
order_ends nodes graph.OutOfMemory memory = tt

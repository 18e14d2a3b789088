-- One plan of a repository that was read, step by step.
use Rattle.std.proofs.Common.{◌≡◌, inl, inr, ℕ, Bool, List, [], length, map, sym, ap, ◌∙◌, subst, arith}
use Rattle.std.specs.Prelude.{Option, Some, None, Result, Ok, Err, find, slice_get}
use Rattle.std.proofs.lemmas.List.{ext_get_or}
use Rattle.std.proofs.lemmas.Option.{slice_get_cases}
use Rattle.rel_path.specs.Files.{FileMap}
use Rattle.env_select.specs.Choice.{ChosenOnce, is_given}
use Rattle.cli_words.specs.declared.order.RunOrder.{RunOrder}
use Rattle.workspaces.specs.declared.member.Package.{Package}
use Rattle.workspaces.specs.Space.{Space}
use Rattle.turbo_config.specs.declared.task_id.TaskId.{TaskId}
use Rattle.task_definitions.specs.Setup.{Setup, task_def}
use Rattle.filters.specs.declared.error.FilterErr.{FilterErr}
use Rattle.filters.specs.Selection.{words_fault}
use Rattle.task_graph.specs.declared.error.GraphErr.{GraphErr}
use Rattle.task_graph.specs.declared.node.Node.{Node}
use Rattle.task_graph.specs.declared.plan.PlanList.{PlanList}
use Rattle.task_graph.specs.Nodes.{ids_of}
use Rattle.task_graph.specs.Plans.{IsPlan, places_of}
use Rattle.task_graph.specs.Persistent.{is_persistent}
use Rattle.task_graph.specs.Laws.{GraphLaw}
use Rattle.listing.specs.declared.part.Listing.{Listing}
use Rattle.run_laws.specs.Ancestors.{part_at}
use Rattle.collect.specs.declared.error.CollectErr.{CollectErr}
use Rattle.collect.specs.declared.error.CollectErr.TheVariants.{Missing, TooLarge, TooMuch, Failed, OutOfMemory}
use Rattle.collect.specs.declared.wanted.Wanted.{Wanted}
use Rattle.refusals.specs.declared.refusal.Refusal.TheVariants as refusal
use Rattle.run_plan.specs.declared.plan.Plan.{Plan}
use Rattle.run_plan.specs.Plans.{given_at}
use Rattle.repository.specs.Reading.{Contents}
use Rattle.planner.specs.Refusals.{filter_refusal, graph_refusal, collect_refusal}
use Rattle.planner.specs.Settings.{env_mode_for}
use Rattle.planner.specs.Wanted.{asks_all, wanted_of}
use Rattle.planner.specs.Plans.{Answer, entries_of, AfterFiltersOf, AfterFilters, AfterGraphOf, AfterGraph, AfterOrder, AfterPersistent, AfterCollectOf, AfterCollect, IsPlanOf}
use Rattle.plan_laws.specs.Laws.{AtMostOne, PlanLaw}
use Rattle.plan_laws.proofs.Selected.{one_selection}
use Rattle.plan_laws.proofs.Cycling.{one_cycle}
use Rattle.plan_laws.proofs.Pairing.{one_pairing, pairing_length}
use Rattle.plan_laws.proofs.Places.{from_some}
use Rattle.plan_laws.proofs.Collected.{Speaks, one_collected}
use Rattle.plan_laws.proofs.Read.{one_refusal}

-- ---- filters

after_filters_of : (fault : Option FilterErr) (packages : List Package) (words : List (List ℕ)) (next : List ℕ → Answer → Type 0) → ((selected : List ℕ) → AtMostOne (next selected)) → AtMostOne (AfterFiltersOf fault packages words next)
after_filters_of (Some fault) packages words next each one other s t = one_refusal (filter_refusal fault) one other s t
after_filters_of None packages words next each one other s t =
    let same : s.0 ≡ t.0 = one_selection packages words s.0 t.0 s.1 t.1 in
    each t.0 one other (subst (λ selected. next selected one) same s.2) t.2

after_filters : (packages : List Package) (words : List (List ℕ)) (next : List ℕ → Answer → Type 0) → ((selected : List ℕ) → AtMostOne (next selected)) → AtMostOne (AfterFilters packages words next)
after_filters packages words next each = after_filters_of (words_fault packages words) packages words next each

-- ---- the graph and its order

-- two graphs, two orders or two cycles are one, and no graph has both an order and a cycle
module _ (law : GraphLaw) where
  after_graph_of : (graph : Result (List Node) GraphErr) (next : List Node → Answer → Type 0) → ((nodes : List Node) → AtMostOne (next nodes)) → AtMostOne (AfterGraphOf graph next)
  after_graph_of (Ok nodes) next each one other s t = each nodes one other s t
  after_graph_of (Err fault) next each one other s t = one_refusal (graph_refusal fault) one other s t

  after_graph : (space : Space) (setup : Setup) (selected : List ℕ) (all : Bool) (words : List (List ℕ)) (next : List Node → Answer → Type 0) → ((nodes : List Node) → AtMostOne (next nodes)) → AtMostOne (AfterGraph space setup selected all words next)
  after_graph space setup selected all words next each one other s t =
      let same : s.0 ≡ t.0 = law.graph space setup selected all words s.0 t.0 s.1 t.1 in
      after_graph_of t.0 next each one other (subst (λ graph. AfterGraphOf graph next one) same s.2) t.2

  one_order : (nodes : List Node) (one other : PlanList) → IsPlan nodes one → IsPlan nodes other → one ≡ other
  one_order nodes one other a b =
      let ids : one.ids ≡ other.ids = law.order nodes one.ids other.ids a.order b.order in
      let deps : one.deps ≡ other.deps = a.deps ∙ (λ j. map (places_of nodes (ids j)) (ids j)) ∙ sym b.deps in
      λ j. record { ids = ids j; deps = deps j }

  after_order : (nodes : List Node) (next : PlanList → Answer → Type 0) → ((list : PlanList) → AtMostOne (next list)) → AtMostOne (AfterOrder nodes next)
  after_order nodes next each one other (inl s) (inl t) = each t.0 one other (subst (λ list. next list one) (one_order nodes s.0 t.0 s.1 t.1) s.2) t.2
  after_order nodes next each one other (inl s) (inr t) = absurd (law.cycle nodes s.0.ids t.0 s.1.order t.1)
  after_order nodes next each one other (inr s) (inl t) = absurd (law.cycle nodes t.0.ids s.0 t.1.order s.1)
  after_order nodes next each one other (inr s) (inr t) = let same = one_cycle nodes s.0 t.0 s.1 t.1 in s.2 ∙ (λ j. Err (refusal.Cycle (same j))) ∙ sym t.2

after_persistent : (task : Option TaskId) (rest : Answer → Type 0) → AtMostOne rest → AtMostOne (AfterPersistent task rest)
after_persistent None rest each one other s t = each one other s t
after_persistent (Some task) rest each one other s t = s ∙ sym t

-- ---- the listing and the plan

module _ (choice : ChosenOnce) where
  speaks : (next : Listing → Answer → Type 0) (collected : Result Listing CollectErr) (answer : Answer) → AfterCollectOf collected next answer → Speaks collected
  speaks next (Ok listing) answer s = tt
  speaks next (Err (Missing from name)) answer s = tt
  speaks next (Err (TooLarge path)) answer s = tt
  speaks next (Err (TooMuch bytes)) answer s = tt
  speaks next (Err Failed) answer s = absurd s
  speaks next (Err OutOfMemory) answer s = absurd s

  after_collect_of : (collected : Result Listing CollectErr) (next : Listing → Answer → Type 0) → ((listing : Listing) → AtMostOne (next listing)) → AtMostOne (AfterCollectOf collected next)
  after_collect_of (Ok listing) next each one other s t = each listing one other s t
  after_collect_of (Err fault) next each one other s t = one_refusal (collect_refusal fault) one other s t

  after_collect : (contents : Contents) (files : FileMap) (env : List (List ℕ × List ℕ)) (wanted : List Wanted) (next : Listing → Answer → Type 0) → ((listing : Listing) → AtMostOne (next listing)) → AtMostOne (AfterCollect contents files env wanted next)
  after_collect contents files env wanted next each one other s t =
      let same : s.0 ≡ t.0 = one_collected choice contents.setup contents.space contents.lock files contents.walk env wanted s.0 t.0 (speaks next s.0 one s.2) (speaks next t.0 other t.2) s.1 t.1 in
      after_collect_of t.0 next each one other (subst (λ collected. AfterCollectOf collected next one) same s.2) t.2

  module _ (setup : Setup) (order : RunOrder) (env : List (List ℕ × List ℕ)) (list : PlanList) (listing : Listing) where
    -- field by field; the given variables task by task, each chosen by the definition of its task
    one_plan_of : (one other : Plan) → IsPlanOf setup order env list listing one → IsPlanOf setup order env list listing other → one ≡ other
    one_plan_of one other a b =
        let ids : one.ids ≡ other.ids = a.ids ∙ sym b.ids in
        let defs : one.defs ≡ other.defs = one_pairing (λ id def. task_def setup id.«package» id.task ≡ Some def) (λ id d e p q. from_some d e (sym p ∙ q)) list.ids one.defs other.defs a.defs b.defs in
        let listed : one.listing ≡ other.listing = a.listing_is ∙ sym b.listing_is in
        let count : length one.defs ≡ length list.ids = pairing_length (λ id def. task_def setup id.«package» id.task ≡ Some def) list.ids one.defs a.defs in
        let given : one.given ≡ other.given = ext_get_or [] one.given other.given (a.passed ∙ sym b.passed) (λ t within. elim (slice_get_cases one.defs t).1 [
          | inl there ↦ choice (is_given (env_mode_for order.env_word setup.globals.env_mode) there.0.pass setup.globals.pass (part_at listing t).env) env (given_at one t) (given_at other t)
              (a.given t there.0 there.2) (b.given t there.0 (subst (λ ds. slice_get ds t ≡ Some there.0) defs there.2))
          | inr past ↦ let passed = a.passed in let far = past.0 in absurd (omega arith)
        ]) in
        let width : one.width ≡ other.width = a.width ∙ sym b.width in
        let mode : one.mode ≡ other.mode = a.mode ∙ sym b.mode in
        let force : one.force ≡ other.force = a.force ∙ sym b.force in
        let logs : one.logs ≡ other.logs = a.logs ∙ sym b.logs in
        let limit : one.limit ≡ other.limit = a.limit ∙ sym b.limit in
        λ j. record { ids = ids j; defs = defs j; listing = listed j; given = given j; width = width j; mode = mode j; force = force j; logs = logs j; limit = limit j }

    one_end : AtMostOne (λ end. (plan : Plan) × (end ≡ Ok plan) × IsPlanOf setup order env list listing plan)
    one_end one other s t = s.1 ∙ ap Ok (one_plan_of s.0 t.0 s.2 t.2) ∙ sym t.1

module _ (law : GraphLaw) (choice : ChosenOnce) where
  pub one_plan : PlanLaw
  one_plan contents order env files =
      after_filters contents.space.packages order.filters _ (λ selected.
      after_graph law contents.space contents.setup selected (asks_all order.filters) order.tasks _ (λ nodes.
      after_order law nodes _ (λ list.
      after_persistent (find (is_persistent contents.space contents.setup) (ids_of nodes)) _ (
      after_collect choice contents files env (wanted_of (entries_of contents order selected) order.args list) _ (λ listing.
      one_end choice contents.setup order env list listing)))))

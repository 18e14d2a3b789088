-- A repository of two packages that is pruned for one of them: what the laws ask for holds of it.
use Rattle.std.proofs.Common.{◌≡◌, ◌≤◌, ◌<◌, ◌&&◌, ◌||◌, ℕ, zero, suc, Bool, true, false, cond, List, [], ◌∷◌, ◌++◌, Option, Some, None, length, codes, refl, sym, ap, ◌∙◌, subst, inl, inr, arith}
use lib.Utf8.{encode}
use Rattle.std.specs.Prelude.{Ok, slice_index_or}
use Rattle.std.specs.Option.{option_map}
use Rattle.std.specs.List.{list_any, AllByRecursion}
use Rattle.std.specs.List.Sorted.{IsStrictlySortedBy}
use Rattle.std.specs.BTreeMap.{is_at}
use Rattle.std.specs.Str.{is_utf8, chars}
use Rattle.std.proofs.lemmas.Bool.{or_cases, or_left, or_right, false≢true}
use Rattle.json.specs.Json.{value}
use Rattle.json.specs.Lex.{punctuate, lex}
use Rattle.json.specs.Text.{content}
use Rattle.serde_json.specs.Find.{walk as walk_pointer, unescape}
use Rattle.json_view.specs.Reading.{reading}
use Rattle.json_view.specs.Look.{value_in, text_in, texts_in}
use Rattle.json_view.specs.Pairs.{pairs_in, pairs_of}
use Rattle.rel_path.specs.Limits.{file_limit}
use Rattle.rel_path.specs.Paths.{Path, path_eq, path_cmp, is_among}
use Rattle.rel_path.specs.Files.{FileMap, has as has_file}
use Rattle.rel_path.proofs.PathLaws.{path_same}
use Rattle.glob_syntax.specs.Faults.{first_fault}
use Rattle.glob_syntax.specs.Match.{spells_name}
use Rattle.glob_syntax.specs.Reading.{fault_at, glob_from}
use Rattle.globs.specs.Lists.{list_takes, list_takes_whole}
use Rattle.globs.specs.Match.{matches_whole}
use Rattle.globs.specs.Outputs.{any_declares}
use Rattle.env_select.specs.Choice.{is_hashed, is_given, IsChosen}
use Rattle.cli_words.specs.declared.order.RunOrder.{RunOrder}
use Rattle.cli_words.specs.declared.order.KeepOn.TheVariants as keep
use Rattle.manifest.specs.declared.manifest.Manifest.{Manifest}
use Rattle.manifest.specs.Faults.{manifest_fault}
use Rattle.manifest.specs.Manifest.{manifest_of}
use Rattle.tree_walk.specs.Traversal.{passes, passes_if, reached, is_before}
use Rattle.tree_walk.specs.Walked.{is_open, is_walked, IsEntry, Walks}
use Rattle.workspaces.specs.declared.member.Package.{Package}
use Rattle.workspaces.specs.Edges.{links, edge_from, dep_text, has_edge}
use Rattle.workspaces.specs.Entries.{globs_fault}
use Rattle.workspaces.specs.Lists.{Has, ascending, places}
use Rattle.workspaces.specs.Space.{Space, root_package, owners, owner_named, manifest_name, space_of, folders_in, packages_at, is_home_of, inside_fault, twice_fault}
use Rattle.turbo_config.specs.declared.entry.TaskDef.{TaskDef}
use Rattle.turbo_config.specs.declared.task_id.TaskId.{TaskId}
use Rattle.turbo_config.specs.Entries.{no_keys, def_of}
use Rattle.turbo_config.specs.Files.{no_globals}
use Rattle.turbo_config.specs.Names.{is_root_name, is_task_name}
use Rattle.task_definitions.specs.Setup.{Setup, setup_of, script_entry, is_script_task, task_def, is_name}
use Rattle.filters.specs.Selection.{is_in_core}
use Rattle.filters.specs.Words.{filter_of, behind, before, core_of}
use Rattle.task_graph.specs.declared.node.Node.{Node}
use Rattle.task_graph.specs.declared.plan.PlanList.{PlanList}
use Rattle.task_graph.specs.Edges.{depends_on, edges, first_refused}
use Rattle.task_graph.specs.Entries.{word_tasks, is_unknown}
use Rattle.task_graph.specs.Graphs.{AreTasks}
use Rattle.task_graph.specs.Ids.{id_cmp, task_id, has}
use Rattle.task_graph.specs.Nodes.{deps_of}
use Rattle.task_graph.specs.Persistent.{is_persistent}
use Rattle.task_graph.specs.Plans.{is_open as is_next, IsPlan}
use Rattle.task_inputs.specs.Homes.{declared_in, configured_in}
use Rattle.task_inputs.specs.Ignores.{rule_files, rules_by, is_left_out}
use Rattle.task_inputs.specs.Inputs.{is_global, may_count, is_input, is_asked_from_root, is_far_input}
use Rattle.task_inputs.specs.Rooted.{IsRooted, ArePicked}
use Rattle.listing.specs.declared.part.Part.{Part}
use Rattle.listing.specs.declared.part.Listing.{Listing}
use Rattle.run_core.specs.declared.states.Mode.TheVariants as mode
use Rattle.run_laws.specs.Ancestors.{part_at}
use Rattle.run_plan.specs.declared.plan.Plan.{Plan}
use Rattle.run_plan.specs.Plans.{given_at}
use Rattle.collect.specs.declared.wanted.Wanted.{Wanted}
use Rattle.collect.specs.Listings.{needed}
use Rattle.collect.specs.Parts.{scripts_of, out_set_of, IsPart}
use Rattle.collect.specs.Refusals.{large_file, total_bytes, Collects}
use Rattle.repository.specs.Reading.{Contents, root_manifest, lockfile, root_config, setup_in, Means}
use Rattle.planner.specs.Plans.{IsPlanOf, Plans}
use Rattle.planner.specs.Settings.{env_mode_for}
use Rattle.kept_packages.specs.Kept.{names_package, is_target, Stays, IsClosed, IsKept, kept_places}
use Rattle.pruned_files.specs.Pruned.{is_settled, lock_path, IsPrunedPath, Pruning, IsPruning}
use Rattle.prune_facts.proofs.Defining.{bare_def}
use Rattle.prune_facts.proofs.Following.{at_is}
use Rattle.prune_facts.proofs.Lists.{some_inj, none≢some, and_off}
use Rattle.prune_laws.specs.Laws.{HasNoLockInput}
use Rattle.prune_laws.proofs.Graphs.{id_total, id_tied}
use Rattle.prune_plans.specs.Laws.{AsksTarget, Asked}
use Rattle.example_prune.specs.Laws.{ExampleLaw}
use Rattle.prune_plans.proofs.Selecting.{selects}

-- ---- what the files hold, and what is read of it

abbrev root_bytes : List ℕ
root_bytes = codes "{\"workspaces\":[\"a\",\"b\"]}"

abbrev a_bytes : List ℕ
a_bytes = codes "{\"name\":\"a\",\"scripts\":{\"t\":\"x\"}}"

abbrev b_bytes : List ℕ
b_bytes = codes "{\"name\":\"b\"}"

abbrev blank : Manifest
blank = record { name = None; version = None; scripts = []; deps = []; dev = []; optional = []; peer = []; workspaces = []; object_form = false }

abbrev root : Manifest
root = record blank { workspaces = codes "a" ∷ codes "b" ∷ [] }

abbrev a_manifest : Manifest
a_manifest = record { name = Some (codes "a"); version = None; scripts = (codes "t", codes "x") ∷ []; deps = []; dev = []; optional = []; peer = []; workspaces = []; object_form = false }

abbrev b_manifest : Manifest
b_manifest = record blank { name = Some (codes "b") }

-- ---- the files

abbrev root_path : Path
root_path = manifest_name ∷ []

abbrev a_path : Path
a_path = codes "a" ∷ manifest_name ∷ []

abbrev b_path : Path
b_path = codes "b" ∷ manifest_name ∷ []

abbrev files : FileMap
files path = cond (path_eq a_path path) (Some a_bytes) (cond (path_eq b_path path) (Some b_bytes) (cond (path_eq root_path path) (Some root_bytes) None))

abbrev walk : List Path
walk = a_path ∷ b_path ∷ root_path ∷ []

-- what holds of these paths and of every other one
each : (P : Path → Type 0) → P a_path → P b_path → P root_path
    → ((path : Path) → path_eq a_path path ≡ false → path_eq b_path path ≡ false → path_eq root_path path ≡ false → P path) → (path : Path) → P path
each P a b r other path = by (path_eq a_path path) refl (path_eq b_path path) refl (path_eq root_path path) refl
  where
    by : (s : Bool) → path_eq a_path path ≡ s → (t : Bool) → path_eq b_path path ≡ t → (u : Bool) → path_eq root_path path ≡ u → P path
    by true e t f u g = subst P (path_same a_path path e) a
    by false e true f u g = subst P (path_same b_path path f) b
    by false e false f true g = subst P (path_same root_path path g) r
    by false e false f false g = other path e f g

abbrev a_package : Package
a_package = record { name = codes "a"; folder = codes "a" ∷ []; manifest = a_manifest }

abbrev b_package : Package
b_package = record { name = codes "b"; folder = codes "b" ∷ []; manifest = b_manifest }

abbrev space : Space
space = record { root = root; packages = a_package ∷ b_package ∷ [] }

-- ---- the walk

shorter : (path rest : Path) → length path ≤ length (path ++ rest)
shorter [] rest = omega arith
shorter (name ∷ path) rest = let less = shorter path rest in omega (arith, less)

walks : Walks (Unit {0}) files (Ok walk)
unfolding IsStrictlySortedBy reached passes passes_if
walks = (record { ascend = up; kept = kept; few = omega arith }, λ told. record { ascend = up; exact = exact; shallow = shallow })
  where
    up : IsStrictlySortedBy path_cmp walk
    up = ((refl, (refl, tt)), ((refl, tt), (tt, tt)))

    kept : (path : Path) → is_among walk path ≡ true → is_open path ≡ true
    kept = each (λ path. is_among walk path ≡ true → is_open path ≡ true) (λ h. refl) (λ h. refl) (λ h. refl) (λ path e f g h. absurd (false≢true (rw (e, f, g) at h)))

    exact : (path : Path) → is_among walk path ≡ (is_walked files path && is_before None path)
    exact = each (λ path. is_among walk path ≡ (is_walked files path && is_before None path)) refl refl refl (λ path e f g. rw (e, f, g) refl)

    short : (path : Path) → has_file files path ≡ true → length path ≤ 2
    short = each (λ path. has_file files path ≡ true → length path ≤ 2) (λ h. omega arith) (λ h. omega arith) (λ h. omega arith) (λ path e f g h. absurd (false≢true (rw (e, f, g) at h)))

    shallow : (path : Path) → IsEntry files path → is_before None path ≡ true → length path ≤ 64
    shallow path entry h = let few = short (path ++ entry.rest) entry.there in let less = shorter path entry.rest in omega (arith, few, less)

-- ---- the repository

abbrev setup : Setup
setup = record { globals = no_globals; root = None; packages = []; scripts = codes "t" ∷ [] }

abbrev contents : Contents
contents = record { walk = walk; space = space; setup = setup; lock = None }

means : Means files (Ok contents)
unfolding root_manifest lockfile root_config setup_in setup_of space_of folders_in packages_at inside_fault twice_fault globs_fault ascending manifest_of reading is_utf8 chars encode value punctuate lex content manifest_fault value_in pairs_in pairs_of walk_pointer unescape text_in texts_in fault_at first_fault list_takes_whole matches_whole glob_from spells_name
means = (Ok walk, walks, refl)

-- a task has no definition but that without a key
bare : (name task : List ℕ) (def : TaskDef) → task_def setup name task ≡ Some def → def_of no_keys ≡ def
unfolding task_def
bare name task def e = by (is_root_name name) e
  where
    keys : (b : Bool) → option_map def_of (cond b (Some no_keys) None) ≡ Some def → def_of no_keys ≡ def
    keys true k = some_inj (def_of no_keys) def k
    keys false k = absurd (none≢some def k)

    by : (b : Bool) → option_map def_of (cond b None (script_entry setup.scripts task)) ≡ Some def → def_of no_keys ≡ def
    by true k = absurd (none≢some def k)
    by false k = keys (is_script_task setup.scripts task) k

-- ---- the pruning for `a`

abbrev set : Path → Bool
set folder = path_eq folder (codes "a" ∷ [])

abbrev targets : List (List ℕ)
targets = codes "a" ∷ []

abbrev r_package : Package
r_package = root_package root

-- of the owners only `a` stays
only_a : (q : Package) → Stays contents set q → a_package ≡ q
only_a q stays = by stays.owner
  where
    by : Has (owners space) q → a_package ≡ q
    by (inl e) = e
    by (inr (inl e)) = absurd (false≢true (ap (λ (o : Package). set o.folder) e ∙ stays.stays))
    by (inr (inr (inl e))) = absurd (false≢true (ap (λ (o : Package). set o.folder) e ∙ stays.stays))
    by (inr (inr (inr h))) = absurd h

-- no owner depends on a package
no_edge : (p q : Package) → Has (owners space) p → has_edge p q ≡ true → ⊥
unfolding edge_from links dep_text
no_edge p q h e = by h
  where
    none : (b : Bool) → (b && false) ≡ true → ⊥
    none true k = false≢true k
    none false k = false≢true k

    by : Has (owners space) p → ⊥
    by (inl s) = none _ (subst (λ (o : Package). has_edge o q ≡ true) (sym s) e)
    by (inr (inl s)) = none _ (subst (λ (o : Package). has_edge o q ≡ true) (sym s) e)
    by (inr (inr (inl s))) = none _ (subst (λ (o : Package). has_edge o q ≡ true) (sym s) e)
    by (inr (inr (inr u))) = u

closed : IsClosed contents targets set
unfolding configured_in
closed = record {
  named = named;
  rooted = λ q h e. absurd (no_edge r_package q (inr (inr (inl refl))) e);
  edges = λ p q stays h e. absurd (no_edge p q stays.owner e);
  tasks = λ p q stays n. absurd (false≢true (sym (ap (list_any (names_package n.name)) (bare_def setup p.name n.task n.def refl n.defined)) ∙ n.named));
  links = λ p q stays h l. absurd l;
  files = λ root_task. absurd (false≢true root_task);
  all = λ k. absurd (false≢true k);
}
  where
    named : (q : Package) → Has space.packages q → is_target targets q ≡ true → set q.folder ≡ true
    named q (inl e) k = ap (λ (o : Package). set o.folder) (sym e)
    named q (inr (inl e)) k = absurd (false≢true (ap (is_target targets) e ∙ k))
    named q (inr (inr h)) k = absurd h

kept : IsKept contents targets set
kept = (closed, λ other c x k. subst (λ f. other f ≡ true) (sym (path_same x (codes "a" ∷ []) k)) (c.named a_package (inl refl) refl))

abbrev paths : List Path
paths = a_path ∷ root_path ∷ []

abbrev stays_at : Path → Bool
stays_at path = path_eq path lock_path || is_settled contents set path

picked : ArePicked (IsPrunedPath contents set) walk paths
unfolding is_home_of declared_in configured_in task_def any_declares def_of list_takes is_task_name
picked = record { test = stays_at; sound = sound; whole = whole; are = refl }
  where
    sound : (path : Path) → stays_at path ≡ true → IsPrunedPath contents set path
    sound path h = elim (or_cases (path_eq path lock_path) (is_settled contents set path) h) [ inl e ↦ inl e | inr e ↦ inr (inl e) ]

    far : (path : Path) → IsRooted setup (owners space) (kept_places contents set) path → ⊥
    far path r = false≢true (sym (and_off (may_count setup (owners space) path) (is_asked_from_root (owners space) r.member (def_of no_keys).inputs path || is_global setup path) refl)
        ∙ ap (λ (d : TaskDef). is_far_input setup (owners space) r.member d path) (bare r.member.name r.task r.def r.defined) ∙ r.far)

    whole : (path : Path) → IsPrunedPath contents set path → stays_at path ≡ true
    whole path (inl e) = or_left (path_eq path lock_path) (is_settled contents set path) e
    whole path (inr (inl e)) = or_right (path_eq path lock_path) (is_settled contents set path) e
    whole path (inr (inr r)) = absurd (far path r)

abbrev p : Pruning
p = record { set = set; paths = paths; lock = None; text = None }

prunes : IsPruning contents targets p
prunes = record { kept = kept; picked = picked; cut = tt }

no_lock : HasNoLockInput files contents p
unfolding is_input is_home_of declared_in configured_in task_def def_of list_takes
no_lock q task def stays e = subst (λ (o : Package). is_input ignored setup (owners space) o def lock_path ≡ false) (only_a q stays) (subst (λ d. is_input ignored setup (owners space) a_package d lock_path ≡ false) (bare q.name task def e) refl)
  where
    ignored : Path → Bool
    ignored = is_left_out setup (owners space) files walk

-- ---- the order and its plan

abbrev order : RunOrder
order = record {
  tasks = codes "t" ∷ [];
  filters = codes "a" ∷ [];
  args = [];
  width = 1;
  force = false;
  dry = false;
  keep_on = keep.Never;
  logs = None;
  env_word = None;
  access = record { local_reads = true; local_puts = true; second_reads = false; second_puts = false };
  shared = false;
}

asks : AsksTarget contents targets order
unfolding filter_of behind before core_of task_def is_task_name
asks = record {
  target = a_package;
  stands = inl refl;
  named = refl;
  filters = refl;
  plain = refl;
  tasks = (record { scripted = refl; defined = refl }, tt);
}

abbrev id : TaskId
id = task_id (codes "a") (codes "t")

abbrev def : TaskDef
def = def_of no_keys

abbrev part : Part
part = record {
  «package» = codes "a";
  folder = codes "a" ∷ [];
  task = codes "t";
  scripts = codes "x" ∷ [];
  args = [];
  outs = out_set_of setup space a_package (codes "t") def;
  env = [];
  inputs = a_path ∷ [];
  externals = [];
  deps = [];
}

abbrev listing : Listing
listing = record { parts = part ∷ []; files = (a_path, a_bytes) ∷ [] }

abbrev plan : Plan
plan = record { ids = id ∷ []; defs = def ∷ []; listing = listing; given = [] ∷ []; width = 1; mode = mode.Never; force = false; logs = None; limit = file_limit }

abbrev nodes : List Node
nodes = record { id = id; deps = [] } ∷ []

abbrev list : PlanList
list = record { ids = id ∷ []; deps = [] ∷ [] }

is_id : (x : TaskId) → has (id ∷ []) x ≡ true → id ≡ x
is_id x h = sym (at_is id_cmp id_total id_tied x id (one (is_at (id_cmp x) id) h))
  where
    one : (b : Bool) → (b || false) ≡ true → b ≡ true
    one true k = refl
    one false k = k

tasks : AreTasks space setup (id ∷ []) (id ∷ [])
unfolding IsStrictlySortedBy edges depends_on task_def ascending is_task_name def_of
tasks = record {
  ascend = (tt, tt);
  least = (record { start = λ x h. h; edge = λ x y h e. absurd (false≢true (subst (λ z. has (edges space setup z) y ≡ true) (sym (is_id x h)) e)) }, λ other c x h. c.start x h);
}

is_plan : IsPlan nodes list
unfolding is_next deps_of places
is_plan = record {
  order = record { follow = (record { passes = refl; least = λ x less. rw less refl }, tt); whole = λ x h. h };
  deps = refl;
  lower = λ place. lower place;
}
  where
    lower : (place : ℕ) → AllByRecursion (λ d. d < place) (slice_index_or list.deps place [])
    lower zero = tt
    lower (suc place) = tt

abbrev no_value : Option (List ℕ)
no_value = None

none_chosen : (wanted : List ℕ → Bool) → IsChosen wanted [] []
unfolding IsStrictlySortedBy
none_chosen wanted = record { ascending = tt; values = λ name. by (wanted name) }
  where
    by : (b : Bool) → no_value ≡ cond b no_value no_value
    by true = refl
    by false = refl

abbrev wanted : Wanted
wanted = record { id = id; args = []; deps = [] }

is_part : IsPart setup space None files walk [] wanted part
unfolding owner_named task_def is_task_name def_of list_takes scripts_of is_input is_home_of declared_in configured_in any_declares rules_by rule_files
is_part = record {
  member = a_package;
  stands = refl;
  def = def;
  defined = refl;
  «package» = refl;
  folder = refl;
  task = refl;
  scripts = refl;
  args = refl;
  outs = refl;
  env_pairs = none_chosen (is_hashed def.env setup.globals.env);
  inputs = refl;
  externals = refl;
  deps = refl;
}

collects : Collects setup space None files walk [] (wanted ∷ []) (Ok listing)
unfolding needed large_file total_bytes owner_named task_def is_task_name def_of list_takes is_input is_home_of declared_in configured_in any_declares rules_by rule_files
collects = (
  record { parts = (is_part, tt); files_are = refl },
  (record { found = (record { member = a_package; stands = refl; pairs = []; uses = refl }, tt); small = refl }, omega arith),
)

given_none : (t : ℕ) → given_at plan t ≡ []
given_none zero = refl
given_none (suc t) = refl

is_plan_of : IsPlanOf setup order [] list listing plan
unfolding task_def is_task_name
is_plan_of = record {
  ids = refl;
  defs = (refl, tt);
  listing_is = refl;
  passed = refl;
  given = λ t def e. subst (IsChosen (is_given (env_mode_for order.env_word setup.globals.env_mode) def.pass setup.globals.pass (part_at listing t).env) []) (sym (given_none t)) (none_chosen _);
  width = refl;
  mode = refl;
  force = refl;
  logs = refl;
  limit = refl;
}

plans : Plans contents order [] files (Ok plan)
unfolding filter_of behind before core_of is_in_core places task_def owner_named edges depends_on first_refused ascending is_persistent word_tasks is_unknown is_name is_task_name def_of
plans = (
  0 ∷ [],
  selects space.packages (codes "a") refl,
  (Ok nodes, record { ids = id ∷ []; are = tasks; nodes = refl }, inl (list, is_plan, (Ok listing, collects, (plan, refl, is_plan_of)))),
)

-- all that the laws ask for
asked : Asked
asked = record {
  files = files;
  contents = contents;
  targets = targets;
  pruning = p;
  order = order;
  env = [];
  plan = plan;
  means = means;
  prunes = prunes;
  no_lock = no_lock;
  asks = asks;
  plans = plans;
}

pub example : ExampleLaw
unfolding asked
example = (asked, refl, refl, refl)

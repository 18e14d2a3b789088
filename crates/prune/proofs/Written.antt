-- A plan, written.
use Rattle.std.proofs.Common.{◌≡◌, ℕ, Bool, true, false, ◌||◌, List, [], ◌∷◌, filter, cond, refl, sym, ap, ◌∙◌, subst, arith}
use Rattle.std.specs.Prelude.{Option, Some, None, Result, Ok, Err, codes}
use Rattle.std.specs.List.{AllByRecursion, find, list_any}
use Rattle.std.proofs.lemmas.List.Kept.{IsStrictlySortedBy-filter}
use Rattle.std.proofs.lemmas.Bool.{false≢true}
use Rattle.rel_path.specs.Paths.{Path, path_cmp, path_eq, is_among}
use Rattle.rel_path.specs.Files.{FileMap, over}
use Rattle.rel_path.proofs.PathLaws.{path_same, path_self}
use Rattle.tree_dev.specs.Tree.{TreeState, Keeps}
use Rattle.tree_walk.specs.Walked.{IsWalk, is_open}
use Rattle.tree_walk.specs.Traversal.{reached, passes_if, passes}
use Rattle.workspaces.specs.Space.{lies_below}
use Rattle.repository.specs.Reading.{Contents}
use Rattle.pruned_files.specs.Layers.{is_manifest_layer, layer_of}
use Rattle.pruned_files.specs.Cut.{kept_owners}
use Rattle.pruned_files.specs.Pruned.{Pruning, pruned_at}
use Rattle.prune.specs.declared.error.PruneErr.{PruneErr}
use Rattle.prune.specs.declared.error.PruneErr.TheVariants.{NoPackage, OutTaken, Missing, TooLarge, TreeFailed, SinkFailed, OutOfMemory}
use Rattle.prune.specs.declared.planning.Plan.{Plan}
use Rattle.prune.specs.Answers.{Leaves, Prunes}
use Rattle.prune.specs.Folders.{out_folder, full_folder, json_folder, folder_of_all, first_below_out, moved_to, first_over, written}
use Rattle.prune.specs.Steps.{IsOut, IsOutside, IsSame, CanBeWritten, IsPart, IsPlan, IsPutFault, CopiesAll, copied, copied_before, plan_files, WritesPlan}
use Rattle.prune.proofs.Copied.{all_part, layer_at, moved_same, second_small, second_same}

pub keeps_both : {R : Type 0} (a b c : TreeState R) → Keeps a b → Keeps b c → Keeps a c
keeps_both a b c k l = record { rest = l.rest ∙ k.rest; held = l.held ∙ k.held; faults = omega (arith, k.faults, l.faults) }

-- ---- folders in `out`

pub out_all : (docker : Bool) → IsOut (folder_of_all docker)
out_all false = ([], refl)
out_all true = (codes "full" ∷ [], refl)

pub out_json : IsOut json_folder
out_json = (codes "json" ∷ [], refl)

-- ---- some of the paths

pub part_written : (part paths : List Path) → IsPart part paths → CanBeWritten paths → CanBeWritten part
part_written part paths is can =
    subst CanBeWritten (sym is.1) (record { ascend = IsStrictlySortedBy-filter path_cmp is.0 paths can.ascend; outside = all_part IsOutside is.0 paths can.outside })

-- ---- a second folder

pub both_written : (plan : Plan) (old mid new : FileMap) (result : Result (Unit {0}) PruneErr) → AllByRecursion IsOutside plan.paths → IsPart plan.layer plan.paths → (first_over old plan.paths ≡ None) × IsSame mid (copied plan.text (folder_of_all true) plan.paths old)
    → CopiesAll plan.text json_folder plan.layer mid new result → WritesPlan true plan old new result
both_written plan old mid new (Ok u) all part first second = (
  first.0,
  subst (λ (layer : List Path). IsSame new (over (copied plan.text full_folder plan.paths old) (moved_to json_folder (pruned_at layer plan.text old)))) (sym part.1)
      (second_same plan.text full_folder plan.paths old mid (out_all true) all first.1 json_folder part.0 new (subst (λ (layer : List Path). IsSame new (copied plan.text json_folder layer mid)) part.1 second.1)),
)
both_written plan old mid new (Err (NoPackage name)) all part first second = absurd second
both_written plan old mid new (Err (OutTaken path)) all part first second = absurd second
both_written plan old mid new (Err (Missing from name)) all part first second = absurd second
both_written plan old mid new (Err (TooLarge large)) all part first second =
    let none : first_over mid plan.layer ≡ None = ap (first_over mid) part.1 ∙ second_small plan.text full_folder plan.paths old mid (out_all true) all first.1 part.0 first.0 in
    absurd (never (sym none ∙ second.0))
  where
    never : {X : Type 0} {x : X} → None ≡ Some x → ⊥
    never e = cc
both_written plan old mid new (Err TreeFailed) all part first second = tt
both_written plan old mid new (Err SinkFailed) all part first second = absurd second
both_written plan old mid new (Err OutOfMemory) all part first second = tt

-- ---- what is left

-- for containers, the layer by the files
layer_files : (contents : Contents) (set : Path → Bool) (text : Option (List ℕ)) (paths layer : List Path) (old : FileMap) → layer ≡ filter (is_manifest_layer (kept_owners contents.space set)) paths → (path : Path)
    → over (copied text full_folder paths old) (moved_to json_folder (pruned_at layer text old)) path ≡ over (copied text full_folder paths old) (moved_to json_folder (layer_of (kept_owners contents.space set) (pruned_at paths text old))) path
layer_files contents set text paths layer old is path =
    moved_same json_folder path (copied text full_folder paths old) (pruned_at layer text old) (layer_of (kept_owners contents.space set) (pruned_at paths text old))
    (λ q. ap (λ l. pruned_at l text old q) is ∙ layer_at (is_manifest_layer (kept_owners contents.space set)) text paths old q)

-- all files are there
whole : (docker : Bool) (contents : Contents) (pruning : Pruning) (plan : Plan) (old new : FileMap) → plan.paths ≡ pruning.paths → plan.text ≡ pruning.text → plan.layer ≡ filter (is_manifest_layer (kept_owners contents.space pruning.set)) plan.paths
    → IsSame new (plan_files docker plan old) → (path : Path) → new path ≡ written docker contents pruning old path
whole false contents pruning plan old new paths text layer is path =
    is path ∙ ap (λ ps. copied plan.text out_folder ps old path) paths ∙ ap (λ t. copied t out_folder pruning.paths old path) text
whole true contents pruning plan old new paths text layer is path =
    is path ∙ layer_files contents pruning.set plan.text plan.paths plan.layer old layer path
    ∙ ap (λ ps. over (copied plan.text full_folder ps old) (moved_to json_folder (layer_of (kept_owners contents.space pruning.set) (pruned_at ps plan.text old))) path) paths
    ∙ ap (λ t. over (copied t full_folder pruning.paths old) (moved_to json_folder (layer_of (kept_owners contents.space pruning.set) (pruned_at pruning.paths t old))) path) text

pub prunes : (docker : Bool) (contents : Contents) (targets : List (List ℕ)) (plan : Plan) (old new : FileMap) → IsPlan contents targets plan → (first_over old plan.paths ≡ None) × IsSame new (plan_files docker plan old) → Prunes docker contents targets old new
prunes docker contents targets plan old new p w = record {
  begins = p.begins;
  pruning = p.pruning;
  is = p.is;
  small = ap (first_over old) (sym p.paths) ∙ w.0;
  files = whole docker contents p.pruning plan old new p.paths p.text p.layer w.1;
}

pub stopped : (docker : Bool) (contents : Contents) (targets : List (List ℕ)) (plan : Plan) (old new : FileMap) (e : PruneErr) → IsPlan contents targets plan → WritesPlan docker plan old new (Err e) → Leaves docker contents targets old new (Err e)
stopped docker contents targets plan old new (NoPackage name) p w = absurd w
stopped docker contents targets plan old new (OutTaken path) p w = absurd w
stopped docker contents targets plan old new (Missing from name) p w = absurd w
stopped docker contents targets plan old new (TooLarge large) p w = record {
  begins = p.begins;
  pruning = p.pruning;
  is = p.is;
  large = ap (first_over old) (sym p.paths) ∙ w.0;
  files = λ other. w.1 other ∙ ap (λ ps. copied_before plan.text (folder_of_all docker) ps large old other) p.paths ∙ ap (λ t. copied_before t (folder_of_all docker) p.pruning.paths large old other) p.text;
}
stopped docker contents targets plan old new TreeFailed p w = tt
stopped docker contents targets plan old new SinkFailed p w = absurd w
stopped docker contents targets plan old new OutOfMemory p w = tt

pub finished : (docker : Bool) (contents : Contents) (targets : List (List ℕ)) (old new : FileMap) (result : Result (Unit {0}) PruneErr) → IsPutFault result → Prunes docker contents targets old new → Leaves docker contents targets old new result
finished docker contents targets old new (Ok u) f p = p
finished docker contents targets old new (Err (NoPackage name)) f p = absurd f
finished docker contents targets old new (Err (OutTaken path)) f p = absurd f
finished docker contents targets old new (Err (Missing from name)) f p = absurd f
finished docker contents targets old new (Err (TooLarge path)) f p = absurd f
finished docker contents targets old new (Err TreeFailed) f p = absurd f
finished docker contents targets old new (Err SinkFailed) f p = p
finished docker contents targets old new (Err OutOfMemory) f p = tt

-- ---- paths of a walk

all_walked : (P : Path → Type 0) (paths : List Path) → ((path : Path) → is_among paths path ≡ true → P path) → AllByRecursion P paths
all_walked P [] each = tt
all_walked P (p ∷ paths) each = (each p (ap (λ b. b || is_among paths p) (path_self p)), all_walked P paths (λ q among. each q (later (path_eq p q) (is_among paths q) among))) where
  later : (a b : Bool) → b ≡ true → (a || b) ≡ true
  later true b e = refl
  later false b e = e

root_closed : is_open [] ≡ false
unfolding reached passes_if passes
root_closed = refl

none_found : {X : Type 0} (test : X → Bool) (xs : List X) (same : X → X → Bool) (x : X) → find test xs ≡ None → ((y : X) → same y x ≡ true → test y ≡ test x) → list_any (λ y. same y x) xs ≡ true → test x ≡ false
none_found test [] same x none agree among = absurd (false≢true among)
none_found {X} test (y ∷ xs) same x none agree among = by (same y x) refl (test y) refl none among (λ e a. none_found test xs same x e agree a) where
  by : (a : Bool) → same y x ≡ a → (t : Bool) → test y ≡ t → cond t (Some y) (find test xs) ≡ None → (a || list_any (λ z. same z x) xs) ≡ true → (find test xs ≡ None → list_any (λ z. same z x) xs ≡ true → test x ≡ false) → test x ≡ false
  by a s true t n e more = cc
  by true s false t n e more = sym (agree y s) ∙ t
  by false s false t n e more = more n e

pub walk_written : (walk : List Path) → IsWalk walk → first_below_out walk ≡ None → CanBeWritten walk
walk_written walk is free = record {
  ascend = is.ascend;
  outside = all_walked IsOutside walk (λ path among. record {
    inner = λ e. false≢true (sym root_closed ∙ ap is_open (sym e) ∙ is.kept path among);
    outside = none_found (λ p. lies_below p out_folder) walk path_eq path free (λ p e. ap (λ q. lies_below q out_folder) (path_same p path e)) among;
  });
}

pub plan_written : (contents : Contents) (targets : List (List ℕ)) (plan : Plan) → IsWalk contents.walk → IsPlan contents targets plan → CanBeWritten plan.paths
plan_written contents targets plan is p =
    subst CanBeWritten (sym p.paths) (part_written p.pruning.paths contents.walk (p.is.picked.test, p.is.picked.are) (walk_written contents.walk is p.begins.free))

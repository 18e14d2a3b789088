-- The listing, of what was planned, read and made.
use Rattle.std.proofs.Common.{◌≡◌, ℕ, zero, suc, ◌<◌, ◌≤◌, Bool, true, false, cond, ◌||◌, ◌&&◌, List, [], ◌∷◌, length, map, filter, refl, sym, ap, ◌∙◌, subst}
use Rattle.std.specs.Prelude.{Option, Some, None, Ok, Err, find, zip, sum_by, is_some, not, codes}
use Rattle.std.specs.Option.{option_map}
use Rattle.std.specs.List.{slice_get, list_any, AllByRecursion}
use Rattle.std.specs.List.Sorted.{IsStrictlySortedBy}
use Rattle.std.specs.declared.cmp.Ordering.TheVariants.{Less}
use Rattle.std.proofs.lemmas.Bool.{false≢true}
use Rattle.serde_json.specs.Data.{Data}
use Rattle.rel_path.specs.Paths.{Path, path_eq, is_among, path_cmp}
use Rattle.rel_path.specs.Files.{FileMap, file_at, has}
use Rattle.rel_path.proofs.PathLaws.{path_same}
use Rattle.ignore_rules.specs.Ignored.{is_ignored}
use Rattle.ignore_rules.specs.Stacks.{rules_at}
use Rattle.workspaces.specs.declared.member.Package.{Package}
use Rattle.workspaces.specs.Lists.{places}
use Rattle.workspaces.specs.Space.{Space, owners, owner_named, manifest_in, manifest_name}
use Rattle.turbo_config.specs.declared.entry.TaskDef.{TaskDef}
use Rattle.task_definitions.specs.Setup.{Setup}
use Rattle.listing.specs.declared.part.Part.{Part}
use Rattle.task_inputs.specs.declared.definitions.DefinedTask.{DefinedTask}
use Rattle.task_inputs.specs.Homes.{Home, home_of, is_declared}
use Rattle.task_inputs.specs.Inputs.{is_input, input_row, row_of, config_in, is_manifest, is_asked, is_global}
use Rattle.task_inputs.specs.Ignores.{is_ignore_file, rule_files, is_rule_file, rules_by, is_left_out}
use Rattle.collect.specs.declared.wanted.Wanted.{Wanted}
use Rattle.collect.specs.declared.error.CollectErr.{CollectErr}
use Rattle.collect.specs.declared.error.CollectErr.TheVariants.{Missing, TooLarge, TooMuch, Failed, OutOfMemory}
use Rattle.collect.specs.declared.reading.Gathered.{Gathered}
use Rattle.collect.specs.declared.collecting.Plan.{Plan}
use Rattle.collect.specs.declared.collecting.Rows.{Rows}
use Rattle.collect.specs.Parts.{IsPart, Uses, takes_input, scripts_of}
use Rattle.std.proofs.lemmas.List.{length-map}
use Rattle.std.proofs.lemmas.Option.{slice_get_within}
use Rattle.collect.specs.Listings.{ArePaired, with_bytes, is_needed, takes_in, takes_by, needed, IsListing}
use Rattle.collect.specs.Refusals.{FindsAll, IsMissingOf, IsFirstMissing, is_large, first_large, large_file, total_bytes, Fits, Collects}
use Rattle.rel_path.specs.Limits.{sum_limit}
use Rattle.collect.specs.Steps.{IsTaskOf, UsesAt, FindsAt, MissesFirst, known, known_if, large_at, is_large_at, in_row, marked_files, GathersAll, Gathers, ReadsAll, Plans, inputs_at, IsMade, IsMadeOf, AreMade, AreFit, jobs, IsPlan, AreRows, rules_file, ReadsSome, GathersSome, never}
use Rattle.collect.proofs.Lists.{paired_at, paired_back, paired_from, paired_length, paired_before, paired_all, all_map, list_at, got}
use Rattle.collect.proofs.Readings.{last_name}
use Rattle.collect.proofs.Spots.{in_places, inputs_are, row_below}
use Rattle.collect.proofs.Jobs.{jobs_same}
use Rattle.collect.proofs.Asked.{file_known, among_filter, marks_are, same_files, same_found, same_large, filter_same, find_append, find_first, none_found, among_get}
use Rattle.collect.proofs.IgnoreRules.{rules_read}
use Rattle.collect.proofs.Found.{joined, joined_rules, joined_known}

pub some_same : {X : Type 0} (x y : X) → Some x ≡ Some y → x ≡ y
some_same x y e = cc

-- ---- what is missing

pub missing_first : (setup : Setup) (space : Space) (lock : Option Data) (wanted : List Wanted) (tasks : List DefinedTask) (from name : List ℕ) → ArePaired (λ w t. IsTaskOf setup space w.id t) wanted tasks → MissesFirst space lock tasks from name → IsFirstMissing space lock wanted from name
missing_first setup space lock wanted tasks from name paired m =
    let w = paired_back (λ w t. IsTaskOf setup space w.id t) wanted tasks m.place m.task paired m.stands in
    record {
      place = m.place;
      wanted = w.0;
      stands = w.1;
      found = paired_before (λ w t. IsTaskOf setup space w.id t) (λ t. FindsAt space lock t.owner) (FindsAll space lock) wanted tasks m.place
          (λ w t r finds. record { member = r.member; stands = r.stands; pairs = finds.0; uses = subst (λ p. Uses space lock p finds.0) (got (owners space) t.owner r.member r.member r.at) (finds.1 r.member) }) paired m.found;
      member = w.2.member;
      is_its = w.2.stands;
      misses = subst (λ p. IsMissingOf space lock p from name) (got (owners space) m.task.owner w.2.member w.2.member w.2.at) (m.misses w.2.member);
    }

-- ---- ignore files

pub among_all : (test : Path → Bool) (walk : List Path) → AllByRecursion (λ p. test p ≡ true) (filter test walk)
among_all test [] = tt
among_all test (w ∷ walk) = by (test w) refl (among_all test walk) where
  by : (b : Bool) → test w ≡ b → AllByRecursion (λ p. test p ≡ true) (filter test walk) → AllByRecursion (λ p. test p ≡ true) (cond b (w ∷ filter test walk) (filter test walk))
  by true e all = (e, all)
  by false e all = all

all_filter : (P : Path → Type 0) (test : Path → Bool) (walk : List Path) → AllByRecursion P walk → AllByRecursion P (filter test walk)
all_filter P test [] all = tt
all_filter P test (w ∷ walk) all = by (test w) (all_filter P test walk all.1) where
  by : (b : Bool) → AllByRecursion P (filter test walk) → AllByRecursion P (cond b (w ∷ filter test walk) (filter test walk))
  by true more = (all.0, more)
  by false more = more

pub sorted_filter : (test : Path → Bool) (walk : List Path) → IsStrictlySortedBy path_cmp walk → IsStrictlySortedBy path_cmp (filter test walk)
unfolding IsStrictlySortedBy
sorted_filter test [] sorted = tt
sorted_filter test (w ∷ walk) sorted = by (test w) (sorted_filter test walk sorted.1) where
  by : (b : Bool) → IsStrictlySortedBy path_cmp (filter test walk) → IsStrictlySortedBy path_cmp (cond b (w ∷ filter test walk) (filter test walk))
  by true more = (all_filter (λ p. path_cmp w p ≡ Less) test walk sorted.0, more)
  by false more = more

pub and_left : (a b : Bool) → (a && b) ≡ true → a ≡ true
and_left true b e = refl
and_left false b e = e

pub and_right : (a b : Bool) → (a && b) ≡ true → b ≡ true
and_right true b e = e
and_right false b e = absurd (false≢true e)

weaker : (P Q : Path → Type 0) (paths : List Path) → ((p : Path) → P p → Q p) → AllByRecursion P paths → AllByRecursion Q paths
weaker P Q [] f all = tt
weaker P Q (p ∷ paths) f all = (f p all.0, weaker P Q paths f all.1)

module _ (setup : Setup) (space : Space) (files : FileMap) (walk : List Path) (sorted : IsStrictlySortedBy path_cmp walk) where
  pub left_out_is : is_ignored (rules_at (map rules_file (with_bytes files (rule_files setup (owners space) walk)))) ≡ is_left_out setup (owners space) files walk
  unfolding rule_files rules_by
  left_out_is = ap is_ignored (λ k folder. rules_read files folder (rule_files setup (owners space) walk) (sorted_filter (is_rule_file setup (owners space)) walk sorted)
      (weaker (λ p. is_rule_file setup (owners space) p ≡ true) (λ p. is_ignore_file p ≡ true) (rule_files setup (owners space) walk) (λ p e. and_left (is_ignore_file p) (not (is_declared setup (owners space) p)) e) (among_all (is_rule_file setup (owners space)) walk)) k)

-- ---- an ignore file that is an input is declared by none

not_manifest : (p : Path) (folder : Path) → path_eq p (manifest_in folder) ≡ true → is_ignore_file p ≡ false
not_manifest p folder e = ap is_ignore_file (path_same p (manifest_in folder) e) ∙ last_name folder manifest_name

not_config : (p : Path) (folder : Path) → path_eq p (config_in folder) ≡ true → is_ignore_file p ≡ false
not_config p folder e = ap is_ignore_file (path_same p (config_in folder) e) ∙ last_name folder (codes "turbo.json")

pub input_undeclared : (ignored : Path → Bool) (setup : Setup) (packages : List Package) (m : Package) (def : TaskDef) (p : Path) → is_input ignored setup packages m def p ≡ true → is_ignore_file p ≡ true → is_rule_file setup packages p ≡ true
unfolding is_input
input_undeclared ignored setup packages m def p e f = by (path_eq p (manifest_in m.folder)) refl (path_eq p (config_in m.folder)) refl (is_declared setup packages p) refl e where
  by : (a : Bool) → path_eq p (manifest_in m.folder) ≡ a → (b : Bool) → path_eq p (config_in m.folder) ≡ b → (d : Bool) → is_declared setup packages p ≡ d
      → ((a || b) || ((not d && not (is_manifest packages p)) && (is_asked ignored packages m def.inputs p || is_global setup p))) ≡ true → is_rule_file setup packages p ≡ true
  by true g b h d i k = absurd (false≢true (sym (not_manifest p m.folder g) ∙ f))
  by false g true h d i k = absurd (false≢true (sym (not_config p m.folder h) ∙ f))
  by false g false h true i k = absurd (false≢true k)
  by false g false h false i k = rw (f, i) refl

-- ---- who asks

-- the task asks for the file
pub asks_at : (Path → Bool) → Setup → List Package → Path → TaskDef → Option Package → Bool
asks_at ignored setup packages path def None = false
asks_at ignored setup packages path def (Some p) = is_input ignored setup packages p def path

pub asks : (Path → Bool) → Setup → List Package → Path → DefinedTask → Bool
asks ignored setup packages path t = asks_at ignored setup packages path t.def (slice_get packages t.owner)

pub asked : (Path → Bool) → Setup → List Package → List DefinedTask → Path → Bool
asked ignored setup packages tasks path = list_any (asks ignored setup packages path) tasks

or_true : (b : Bool) → (b || true) ≡ true
or_true true = refl
or_true false = refl

and_false : (b : Bool) → (b && false) ≡ false
and_false true = refl
and_false false = refl

-- a file that a task takes is asked for
pub asked_at : (ignored : Path → Bool) (setup : Setup) (packages : List Package) (tasks : List DefinedTask) (path : Path) (i : ℕ) (t : DefinedTask) (m : Package) → slice_get tasks i ≡ Some t → slice_get packages t.owner ≡ Some m → is_input ignored setup packages m t.def path ≡ true → asked ignored setup packages tasks path ≡ true
unfolding asked asks asks_at
asked_at ignored setup packages [] path i t m at e takes = cc
asked_at ignored setup packages (u ∷ tasks) path zero t m at e takes =
    let same : u ≡ t = some_same u t at in
    ap (λ (x : DefinedTask). asks ignored setup packages path x || list_any (asks ignored setup packages path) tasks) same ∙ ap (λ o. asks_at ignored setup packages path t.def o || list_any (asks ignored setup packages path) tasks) e ∙ ap (λ b. b || list_any (asks ignored setup packages path) tasks) takes
asked_at ignored setup packages (u ∷ tasks) path (suc i) t m at e takes = ap (λ b. asks ignored setup packages path u || b) (asked_at ignored setup packages tasks path i t m at e takes) ∙ or_true (asks ignored setup packages path u)

pub asked_by : (ignored : Path → Bool) (setup : Setup) (packages : List Package) (tasks : List DefinedTask) (path : Path) → asked ignored setup packages tasks path ≡ true → is_ignore_file path ≡ true → is_rule_file setup packages path ≡ true
unfolding asked asks asks_at
asked_by ignored setup packages [] path e f = absurd (false≢true e)
asked_by ignored setup packages (t ∷ tasks) path e f = by (slice_get packages t.owner) e (λ g. asked_by ignored setup packages tasks path g f) where
  take_one : (m : Package) (b : Bool) → is_input ignored setup packages m t.def path ≡ b → (b || list_any (asks ignored setup packages path) tasks) ≡ true → (list_any (asks ignored setup packages path) tasks ≡ true → is_rule_file setup packages path ≡ true) → is_rule_file setup packages path ≡ true
  take_one m true g h more = input_undeclared ignored setup packages m t.def path g f
  take_one m false g h more = more h

  by : (o : Option Package) → (asks_at ignored setup packages path t.def o || list_any (asks ignored setup packages path) tasks) ≡ true → (list_any (asks ignored setup packages path) tasks ≡ true → is_rule_file setup packages path ≡ true) → is_rule_file setup packages path ≡ true
  by None g more = more g
  by (Some m) g more = take_one m (is_input ignored setup packages m t.def path) refl g more

-- by the rows
pub rows_ask : (ignored : Path → Bool) (setup : Setup) (packages : List Package) (walk : List Path) (tasks : List DefinedTask) (j : ℕ) (path : Path) → slice_get walk j ≡ Some path → list_any (in_row j) (map (input_row ignored setup packages walk) tasks) ≡ asked ignored setup packages tasks path
unfolding asked asks asks_at
rows_ask ignored setup packages walk [] j path at = refl
rows_ask ignored setup packages walk (t ∷ tasks) j path at =
    ap (λ b. b || list_any (in_row j) (map (input_row ignored setup packages walk) tasks)) (by (slice_get packages t.owner)) ∙ ap (λ b. asks ignored setup packages path t || b) (rows_ask ignored setup packages walk tasks j path at)
  where
    by : (o : Option Package) → in_row j (row_of ignored setup packages walk t.def o) ≡ asks_at ignored setup packages path t.def o
    by None = refl
    by (Some m) = in_places (is_input ignored setup packages m t.def) walk j path at

-- some wanted task takes the file where it is there and asked for
pub needed_is : (setup : Setup) (space : Space) (files : FileMap) (walk : List Path) (wanted : List Wanted) (tasks : List DefinedTask) (path : Path) → ArePaired (λ w t. IsTaskOf setup space w.id t) wanted tasks
    → is_needed setup space files walk wanted path ≡ (has files path && asked (is_left_out setup (owners space) files walk) setup (owners space) tasks path)
unfolding asked asks asks_at
needed_is setup space files walk [] [] path paired = sym (and_false (has files path))
needed_is setup space files walk [] (t ∷ tasks) path paired = absurd paired
needed_is setup space files walk (w ∷ wanted) [] path paired = absurd paired
needed_is setup space files walk (w ∷ wanted) (t ∷ tasks) path paired =
    let r = paired.0 in
    ap (λ b. takes_in (takes_input setup space files walk) setup w path (owner_named space w.id.«package») || b) (needed_is setup space files walk wanted tasks path paired.1)
    ∙ ap (λ o. takes_in (takes_input setup space files walk) setup w path o || (has files path && rest)) r.stands
    ∙ ap (λ o. takes_by (takes_input setup space files walk) path r.member o || (has files path && rest)) r.def
    ∙ both (has files path) (is_input (is_left_out setup (owners space) files walk) setup (owners space) r.member t.def path) rest
    ∙ ap (λ o. has files path && (asks_at (is_left_out setup (owners space) files walk) setup (owners space) path t.def o || rest)) (sym r.at)
  where
    rest : Bool
    rest = list_any (asks (is_left_out setup (owners space) files walk) setup (owners space) path) tasks

    both : (h a b : Bool) → ((h && a) || (h && b)) ≡ (h && (a || b))
    both true a b = refl
    both false a b = refl

-- ---- the whole

pub get_map : {X Y : Type 0} (f : X → Y) (xs : List X) (i : ℕ) (x : X) → slice_get xs i ≡ Some x → slice_get (map f xs) i ≡ Some (f x)
get_map f [] i x e = cc
get_map f (y ∷ xs) zero x e = ap (λ z. Some (f z)) (some_same y x e)
get_map f (y ∷ xs) (suc i) x e = get_map f xs i x e

get_zip_some : {X Y : Type 0} (xs : List X) (ys : List Y) (i : ℕ) (x : X) (y : Y) → slice_get xs i ≡ Some x → slice_get ys i ≡ Some y → slice_get (zip xs ys) i ≡ Some (x, y)
get_zip_some [] ys i x y e f = cc
get_zip_some (a ∷ xs) [] i x y e f = cc
get_zip_some (a ∷ xs) (b ∷ ys) zero x y e f = ap (λ z. Some (z, b)) (some_same a x e) ∙ ap (λ z. Some (x, z)) (some_same b y f)
get_zip_some (a ∷ xs) (b ∷ ys) (suc i) x y e f = get_zip_some xs ys i x y e f

module _ (setup : Setup) (space : Space) (lock : Option Data) (files : FileMap) (walk : List Path) (env : List (List ℕ × List ℕ)) (wanted : List Wanted) (sorted : IsStrictlySortedBy path_cmp walk) (plan : Plan) (p : IsPlan setup space lock walk wanted plan) where
  left : Path → Bool
  left = is_left_out setup (owners space) files walk

  ask : Path → Bool
  ask = asked left setup (owners space) plan.tasks.items

  pub finds : AllByRecursion (FindsAll space lock) wanted
  finds = list_at (FindsAll space lock) wanted (λ i w at.
      let t = paired_at (λ w t. IsTaskOf setup space w.id t) wanted plan.tasks.items i w p.tasks at in
      let u = paired_at (λ t pairs. UsesAt space lock t.owner pairs) plan.tasks.items plan.uses.items i t.0 p.uses t.1 in
      record { member = t.2.member; stands = t.2.stands; pairs = u.0; uses = subst (λ m. Uses space lock m u.0) (got (owners space) t.0.owner t.2.member t.2.member t.2.at) (u.2 t.2.member) })

  pub rules_large : (path : Path) → first_large files plan.rules ≡ Some path → large_file setup space files walk wanted ≡ Some path
  unfolding large_file
  rules_large path e = find_first (λ q. is_large (files q)) (rule_files setup (owners space) walk) (needed setup space files walk wanted) path (ap (first_large files) (sym p.rules) ∙ e)

  needed_paths : needed setup space files walk wanted ≡ filter (λ q. has files q && ask q) walk
  unfolding needed ask left
  needed_paths = filter_same (is_needed setup space files walk wanted) (λ q. has files q && ask q) walk (list_at (λ q. is_needed setup space files walk wanted q ≡ (has files q && ask q)) walk (λ i q at. needed_is setup space files walk wanted plan.tasks.items q p.tasks))

  module _ (ignores : List (Path × List ℕ)) (ign : ignores ≡ with_bytes files plan.rules) (rows : Rows) (rs : AreRows setup (owners space) walk (is_ignored (rules_at (map rules_file ignores))) plan.tasks.items rows) where
    rows_are : rows.rows.items ≡ map (input_row left setup (owners space) walk) plan.tasks.items
    unfolding left
    rows_are = rs.rows ∙ ap (λ ignored. map (input_row ignored setup (owners space) walk) plan.tasks.items) (ap (λ fs. is_ignored (rules_at (map rules_file fs))) (ign ∙ ap (with_bytes files) p.rules) ∙ left_out_is setup space files walk sorted)

    marks_is : rows.marks.items ≡ map ask walk
    unfolding ask
    marks_is = marks_are ask rows.marks.items walk rs.same (λ j path at. rs.marks j ∙ ap (list_any (in_row j)) rows_are ∙ rows_ask left setup (owners space) walk plan.tasks.items j path at)

    among_rules : (q : Path) → is_among walk q ≡ true → ask q ≡ true → is_ignore_file q ≡ true → is_among (rule_files setup (owners space) walk) q ≡ true
    unfolding ask rule_files
    among_rules q among e f = among_filter (is_rule_file setup (owners space)) walk q among (asked_by left setup (owners space) plan.tasks.items q e f)

    known_is : AllByRecursion (λ q. ask q ≡ true → known ignores files q ≡ files q) walk
    known_is = list_at (λ q. ask q ≡ true → known ignores files q ≡ files q) walk (λ i q at e. by q (is_ignore_file q) refl (among_get walk i q at) e) where
      by : (q : Path) (b : Bool) → is_ignore_file q ≡ b → is_among walk q ≡ true → ask q ≡ true → cond b (file_at ignores q) (files q) ≡ files q
      by q true f among e = ap (λ fs. file_at fs q) (ign ∙ ap (with_bytes files) p.rules) ∙ file_known files (rule_files setup (owners space) walk) q ∙ ap (λ b. cond b (files q) None) (among_rules q among e f)
      by q false f among e = refl

    module _ (none : first_large files plan.rules ≡ None) where
      large_is : AllByRecursion (λ q. ask q ≡ true → large_at files q ≡ is_large (files q)) walk
      large_is = list_at (λ q. ask q ≡ true → large_at files q ≡ is_large (files q)) walk (λ i q at e. by q (is_ignore_file q) refl (among_get walk i q at) e) where
        by : (q : Path) (b : Bool) → is_ignore_file q ≡ b → is_among walk q ≡ true → ask q ≡ true → cond b false (is_large (files q)) ≡ is_large (files q)
        by q true f among e = sym (none_found (λ x. is_large (files x)) (rule_files setup (owners space) walk) q (ap (first_large files) (sym p.rules) ∙ none) (among_rules q among e f))
        by q false f among e = refl

      large_found : (o : Option Path) → option_map (λ (m : Bool × Path). m.1) (find (is_large_at files) (zip rows.marks.items walk)) ≡ o → large_file setup space files walk wanted ≡ o
      unfolding large_file
      large_found o e =
          find_append (λ q. is_large (files q)) (rule_files setup (owners space) walk) (needed setup space files walk wanted) (ap (first_large files) (sym p.rules) ∙ none)
          ∙ ap (first_large files) needed_paths ∙ sym (same_large files (known ignores files) ask walk large_is) ∙ ap (λ ms. option_map (λ (m : Bool × Path). m.1) (find (is_large_at files) (zip ms walk))) (sym marks_is) ∙ e

      pub inputs_large : (path : Path) → option_map (λ (m : Bool × Path). m.1) (find (is_large_at files) (zip rows.marks.items walk)) ≡ Some path → large_file setup space files walk wanted ≡ Some path
      inputs_large path e = large_found (Some path) e

    pub fits : (none : first_large files plan.rules ≡ None) (g : Gathered) (gs : GathersAll (known ignores files) (is_large_at files) (zip rows.marks.items walk) g) → Fits setup space lock files walk wanted
    fits none g gs = record { found = finds; small = large_found none None (ap (option_map (λ (m : Bool × Path). m.1)) gs.small) }

    module _ (large : Bool × Path → Bool) (g : Gathered) (gs : GathersAll (known ignores files) large (zip rows.marks.items walk) g) where
      files_same : marked_files (known ignores files) (zip rows.marks.items walk) ≡ with_bytes files (needed setup space files walk wanted)
      files_same = ap (λ ms. marked_files (known ignores files) (zip ms walk)) marks_is ∙ same_files files (known ignores files) ask walk known_is ∙ ap (with_bytes files) (sym needed_paths)

      pub total_is : total_bytes setup space files walk wanted ≡ g.total
      unfolding total_bytes
      total_is = ap (sum_by (λ (f : Path × List ℕ). length f.1)) (sym files_same) ∙ sym gs.total

      found_is : g.found.items ≡ map (λ q. is_some (known_if (known ignores files) (ask q, q))) walk
      found_is = gs.found ∙ ap (λ ms. map (λ m. is_some (known_if (known ignores files) m)) (zip ms walk)) marks_is ∙ same_found files (known ignores files) ask walk

      module _ (parts : List Part) (made : AreMade (IsMade (owners space) plan.declared plan.exclusions setup.globals.env env walk g.found.items) wanted plan.tasks.items rows.rows.items plan.uses.items parts) where
        taken : (i : ℕ) (t : DefinedTask) (m : Package) → slice_get plan.tasks.items i ≡ Some t → slice_get (owners space) t.owner ≡ Some m → inputs_at walk g.found.items (places (is_input left setup (owners space) m t.def) walk) ≡ filter (takes_input setup space files walk m t.def) walk
        unfolding left ask
        taken i t m at e =
            ap (λ found. inputs_at walk found (places (is_input left setup (owners space) m t.def) walk)) found_is
            ∙ inputs_are (is_input left setup (owners space) m t.def) (λ q. is_some (known_if (known ignores files) (ask q, q))) walk
            ∙ filter_same (λ q. is_some (known_if (known ignores files) (ask q, q)) && is_input left setup (owners space) m t.def q) (takes_input setup space files walk m t.def) walk (each walk known_is)
          where
            one : (q : Path) (a : Bool) → ask q ≡ a → (b : Bool) → is_input left setup (owners space) m t.def q ≡ b → (a ≡ true → known ignores files q ≡ files q) → (is_some (cond a (known ignores files q) None) && b) ≡ (has files q && b)
            one q true f true h same = ap (λ o. is_some o && true) (same refl)
            one q true f false h same = and_false (is_some (known ignores files q)) ∙ sym (and_false (has files q))
            one q false f true h same = absurd (false≢true (sym f ∙ asked_at left setup (owners space) plan.tasks.items q i t m at e h))
            one q false f false h same = sym (and_false (has files q))

            each : (qs : List Path) → AllByRecursion (λ q. ask q ≡ true → known ignores files q ≡ files q) qs → AllByRecursion (λ q. (is_some (known_if (known ignores files) (ask q, q)) && is_input left setup (owners space) m t.def q) ≡ takes_input setup space files walk m t.def q) qs
            each [] all = tt
            each (q ∷ qs) all = (one q (ask q) refl (is_input left setup (owners space) m t.def q) refl all.0, each qs all.1)

        ts : length plan.tasks.items ≡ length wanted
        ts = paired_length (λ w t. IsTaskOf setup space w.id t) wanted plan.tasks.items p.tasks

        us : length plan.uses.items ≡ length wanted
        us = paired_length (λ t pairs. UsesAt space lock t.owner pairs) plan.tasks.items plan.uses.items p.uses ∙ ts

        rows_length : length rows.rows.items ≡ length wanted
        rows_length = ap length rows_are ∙ length-map plan.tasks.items (input_row left setup (owners space) walk) ∙ ts

        made_part : (i : ℕ) (w : Wanted) (t : DefinedTask) (r : IsTaskOf setup space w.id t) (uses : List (List ℕ × List ℕ)) → UsesAt space lock t.owner uses
            → (part : Part) → IsMade (owners space) plan.declared plan.exclusions setup.globals.env env walk g.found.items w t (input_row left setup (owners space) walk t) uses part → slice_get plan.tasks.items i ≡ Some t → IsPart setup space lock files walk env w part
        made_part i w t r uses used part m at =
            let same : m.member ≡ r.member = some_same m.member r.member (sym m.at ∙ r.at) in
            let home : m.home ≡ home_of setup r.member = some_same m.home (home_of setup r.member) (sym m.home_at ∙ ap (λ hs. slice_get hs t.owner) p.declared ∙ get_map (home_of setup) (owners space) t.owner r.member r.at) in
            record {
              member = r.member;
              stands = r.stands;
              def = t.def;
              defined = r.def;
              «package» = m.«package»;
              folder = m.folder ∙ ap (λ (x : Package). x.folder) same;
              task = m.task_is;
              scripts = m.scripts ∙ ap (λ (x : Package). scripts_of x.manifest.scripts w.id.task) same;
              args = m.args;
              outs = m.outs ∙ rw (same, home, p.exclusions) refl;
              env_pairs = m.env_pairs;
              inputs = m.inputs ∙ ap (λ o. inputs_at walk g.found.items (row_of left setup (owners space) walk t.def o)) r.at ∙ taken i t r.member at r.at;
              externals = subst (Uses space lock r.member) (sym m.externals) (subst (λ x. Uses space lock x uses) (got (owners space) t.owner r.member r.member r.at) (used r.member));
              deps = m.deps;
            }

        part_is : (i : ℕ) (w : Wanted) → slice_get wanted i ≡ Some w → (part : Part) × (slice_get parts i ≡ Some part) × IsPart setup space lock files walk env w part
        part_is i w at =
            let t = paired_at (λ w t. IsTaskOf setup space w.id t) wanted plan.tasks.items i w p.tasks at in
            let u = paired_at (λ t pairs. UsesAt space lock t.owner pairs) plan.tasks.items plan.uses.items i t.0 p.uses t.1 in
            let row_at : slice_get rows.rows.items i ≡ Some (input_row left setup (owners space) walk t.0) = ap (λ rs. slice_get rs i) rows_are ∙ get_map (input_row left setup (owners space) walk) plan.tasks.items i t.0 t.1 in
            let job = get_zip_some (zip wanted plan.tasks.items) (zip rows.rows.items plan.uses.items) i (w, t.0) (input_row left setup (owners space) walk t.0, u.0) (get_zip_some wanted plan.tasks.items i w t.0 at t.1) (get_zip_some rows.rows.items plan.uses.items i (input_row left setup (owners space) walk t.0) u.0 row_at u.1) in
            let part = paired_at (IsMadeOf (IsMade (owners space) plan.declared plan.exclusions setup.globals.env env walk g.found.items)) (jobs wanted plan.tasks.items rows.rows.items plan.uses.items) parts i ((w, t.0), (input_row left setup (owners space) walk t.0, u.0)) made job in
            (part.0, part.1, made_part i w t.0 t.2 u.0 u.2 part.0 part.2 t.1)

        pub listed : (all : List (Path × List ℕ)) → all ≡ g.files → g.total ≤ sum_limit → IsListing setup space lock files walk env wanted (record { parts = parts; files = all })
        listed all is less = record {
          parts = paired_from (IsPart setup space lock files walk env) wanted parts
              (paired_length (IsMadeOf (IsMade (owners space) plan.declared plan.exclusions setup.globals.env env walk g.found.items)) (jobs wanted plan.tasks.items rows.rows.items plan.uses.items) parts made ∙ jobs_same (IsMade (owners space) plan.declared plan.exclusions setup.globals.env env walk g.found.items) wanted plan.tasks.items rows.rows.items plan.uses.items ts rows_length us) part_is;
          files_are = is ∙ gs.files_are less ∙ files_same;
        }

-- ---- the steps of the whole

pub filter_among : (test : Path → Bool) (walk : List Path) (q : Path) → is_among (filter test walk) q ≡ true → is_among walk q ≡ true
filter_among test [] q e = e
filter_among test (w ∷ walk) q e = by (test w) (path_eq w q) e (filter_among test walk q) where
  by : (a b : Bool) → is_among (cond a (w ∷ filter test walk) (filter test walk)) q ≡ true → (is_among (filter test walk) q ≡ true → is_among walk q ≡ true) → (path_eq w q || is_among walk q) ≡ true
  by true b f more = head (path_eq w q) f where
    head : (c : Bool) → (c || is_among (filter test walk) q) ≡ true → (c || is_among walk q) ≡ true
    head true g = refl
    head false g = more g
  by false b f more = ap (λ x. path_eq w q || x) (more f) ∙ or_true (path_eq w q)

module _ (setup : Setup) (space : Space) (lock : Option Data) (walk : List Path) (env : List (List ℕ × List ℕ)) (wanted : List Wanted) where
  pub stop_plan : (files : FileMap) (e : CollectErr) → Plans setup space lock walk wanted (Err e) → Collects setup space lock files walk env wanted (Err e)
  stop_plan files (Missing from name) s = missing_first setup space lock wanted s.0 from name s.1 s.2
  stop_plan files (TooLarge path) s = absurd s
  stop_plan files (TooMuch total) s = absurd s
  stop_plan files Failed s = tt
  stop_plan files OutOfMemory s = tt

  module _ (plan : Plan) (p : IsPlan setup space lock walk wanted plan) where
    pub rules_among : (rules : List Path) → rules ≡ plan.rules → (q : Path) → is_among rules q ≡ true → is_among walk q ≡ true
    unfolding rule_files
    rules_among rules is q e = filter_among (is_rule_file setup (owners space)) walk q (ap (λ ps. is_among ps q) (sym (is ∙ p.rules)) ∙ e)

    pub tasks_stand : AllByRecursion (λ t. t.owner < length (owners space)) plan.tasks.items
    tasks_stand = paired_all (λ w t. IsTaskOf setup space w.id t) (λ t. t.owner < length (owners space)) wanted plan.tasks.items (λ w t r. slice_get_within (owners space) t.owner r.member r.at) p.tasks

    tasks_count : length plan.tasks.items ≡ length wanted
    tasks_count = paired_length (λ w t. IsTaskOf setup space w.id t) wanted plan.tasks.items p.tasks

    pub homes_count : length plan.declared ≡ length (owners space)
    homes_count = ap length p.declared ∙ length-map (owners space) (home_of setup)

    pub jobs_fit : (ignored : Path → Bool) (rows : Rows) → AreRows setup (owners space) walk ignored plan.tasks.items rows → AreFit (length (owners space)) (length walk) wanted plan.tasks.items rows.rows.items plan.uses.items
    jobs_fit ignored rows rs = record {
      numbers = tasks_stand;
      below = subst (AllByRecursion (AllByRecursion (λ k. k < length walk))) (sym rs.rows) (all_map (AllByRecursion (λ k. k < length walk)) (input_row ignored setup (owners space) walk) plan.tasks.items (row_below ignored setup (owners space) walk));
      same_tasks = tasks_count;
      same_rows = ap length rs.rows ∙ length-map plan.tasks.items (input_row ignored setup (owners space) walk) ∙ tasks_count;
      same_uses = paired_length (λ t pairs. UsesAt space lock t.owner pairs) plan.tasks.items plan.uses.items p.uses ∙ tasks_count;
    }

    rules_ignore : AllByRecursion (λ q. is_ignore_file q ≡ true) plan.rules
    unfolding rule_files
    rules_ignore = subst (AllByRecursion (λ q. is_ignore_file q ≡ true)) (sym p.rules)
        (weaker (λ q. is_rule_file setup (owners space) q ≡ true) (λ q. is_ignore_file q ≡ true) (filter (is_rule_file setup (owners space)) walk) (λ q e. and_left (is_ignore_file q) (not (is_declared setup (owners space) q)) e) (among_all (is_rule_file setup (owners space)) walk))

    pub rules_sorted : (rules : List Path) → rules ≡ plan.rules → IsStrictlySortedBy path_cmp walk → IsStrictlySortedBy path_cmp rules
    unfolding rule_files
    rules_sorted rules is sorted = subst (IsStrictlySortedBy path_cmp) (sym (is ∙ p.rules)) (sorted_filter (is_rule_file setup (owners space)) walk sorted)

    -- whatever the tree tells, what was read and gathered makes a listing of some files
    module _ (sorted : IsStrictlySortedBy path_cmp walk) (ignores : List (Path × List ℕ)) (rules : List Path) (is : rules ≡ plan.rules) (read : ReadsSome rules ignores) (rows : Rows) (rs : AreRows setup (owners space) walk (is_ignored (rules_at (map rules_file ignores))) plan.tasks.items rows) (marks : List Bool) (ms : marks ≡ rows.marks.items) (other : List Path) (os : other ≡ walk) (g : Gathered) (got : GathersSome ignores (zip marks other) g) where
      some_files : FileMap
      some_files = joined read.0 got.0

      some_rules : ignores ≡ with_bytes some_files plan.rules
      unfolding some_files
      some_rules = read.1 ∙ ap (with_bytes read.0) is ∙ sym (joined_rules read.0 got.0 plan.rules rules_ignore)

      some_got : GathersAll (known ignores some_files) never (zip rows.marks.items walk) g
      unfolding some_files
      some_got = subst (λ K. GathersAll K never (zip rows.marks.items walk) g) (sym (joined_known ignores read.0 got.0)) (subst (λ (x : List Bool × List Path). GathersAll (known ignores got.0) never (zip x.0 x.1) g) (ap (λ a. (a, other)) ms ∙ ap (λ b. (rows.marks.items, b)) os) got.1)

      pub some_listing : (parts : List Part) → AreMade (IsMade (owners space) plan.declared plan.exclusions setup.globals.env env walk g.found.items) wanted plan.tasks.items rows.rows.items plan.uses.items parts → g.total ≤ sum_limit → (files : FileMap) × IsListing setup space lock files walk env wanted (record { parts = parts; files = g.files })
      some_listing parts made less = (some_files, listed setup space lock some_files walk env wanted sorted plan p ignores some_rules rows rs never g some_got parts made g.files refl less)

    module _ (files : FileMap) (sorted : IsStrictlySortedBy path_cmp walk) where
      pub stop_rules : (rules : List Path) (e : CollectErr) → rules ≡ plan.rules → ReadsAll files rules (Err e) → Collects setup space lock files walk env wanted (Err e)
      stop_rules rules (Missing from name) is r = absurd r
      stop_rules rules (TooLarge path) is r = (finds setup space lock files walk env wanted sorted plan p, rules_large setup space lock files walk env wanted sorted plan p path (ap (first_large files) (sym is) ∙ r))
      stop_rules rules (TooMuch total) is r = absurd r
      stop_rules rules Failed is r = tt
      stop_rules rules OutOfMemory is r = tt

      module _ (ignores : List (Path × List ℕ)) (rules : List Path) (is : rules ≡ plan.rules) (read : ReadsAll files rules (Ok ignores)) (rows : Rows) (rs : AreRows setup (owners space) walk (is_ignored (rules_at (map rules_file ignores))) plan.tasks.items rows) (after : FileMap) (same : after ≡ files) (marks : List Bool) (ms : marks ≡ rows.marks.items) (other : List Path) (os : other ≡ walk) where
        ign : ignores ≡ with_bytes files plan.rules
        ign = read.0 ∙ ap (with_bytes files) is

        none : first_large files plan.rules ≡ None
        none = ap (first_large files) (sym is) ∙ read.1

        pub stop_gather : (e : CollectErr) → Gathers (known ignores after) (is_large_at after) (zip marks other) (Err e) → Collects setup space lock files walk env wanted (Err e)
        stop_gather (Missing from name) r = absurd r
        stop_gather (TooLarge path) r = (
          finds setup space lock files walk env wanted sorted plan p,
          inputs_large setup space lock files walk env wanted sorted plan p ignores ign rows rs none path
              (subst (λ (x : List Bool × List Path). option_map (λ (m : Bool × Path). m.1) (find (is_large_at files) (zip x.0 x.1)) ≡ Some path) (ap (λ a. (a, other)) ms ∙ ap (λ b. (rows.marks.items, b)) os)
              (subst (λ f. option_map (λ (m : Bool × Path). m.1) (find (is_large_at f) (zip marks other)) ≡ Some path) same r)),
        )
        stop_gather (TooMuch total) r = absurd r
        stop_gather Failed r = tt
        stop_gather OutOfMemory r = tt

        module _ (g : Gathered) (got : Gathers (known ignores after) (is_large_at after) (zip marks other) (Ok g)) where
          all_got : GathersAll (known ignores files) (is_large_at files) (zip rows.marks.items walk) g
          all_got = subst (λ (x : List Bool × List Path). GathersAll (known ignores files) (is_large_at files) (zip x.0 x.1) g) (ap (λ a. (a, other)) ms ∙ ap (λ b. (rows.marks.items, b)) os) (subst (λ f. GathersAll (known ignores f) (is_large_at f) (zip marks other) g) same got)

          pub stop_total : sum_limit < g.total → Collects setup space lock files walk env wanted (Err (TooMuch g.total))
          stop_total more = (fits setup space lock files walk env wanted sorted plan p ignores ign rows rs none g all_got, (total_is setup space lock files walk env wanted sorted plan p ignores ign rows rs (is_large_at files) g all_got, more))

          pub collected : (parts : List Part) → AreMade (IsMade (owners space) plan.declared plan.exclusions setup.globals.env env walk g.found.items) wanted plan.tasks.items rows.rows.items plan.uses.items parts → g.total ≤ sum_limit → Collects setup space lock files walk env wanted (Ok (record { parts = parts; files = g.files }))
          collected parts made less = (
            listed setup space lock files walk env wanted sorted plan p ignores ign rows rs (is_large_at files) g all_got parts made g.files refl less,
            (fits setup space lock files walk env wanted sorted plan p ignores ign rows rs none g all_got, subst (λ n. n ≤ sum_limit) (sym (total_is setup space lock files walk env wanted sorted plan p ignores ign rows rs (is_large_at files) g all_got)) less),
          )

pub made_as : (members : List Package) (homes : List Home) (texts globals globals' : List (List ℕ)) (env : List (List ℕ × List ℕ)) (walk : List Path) (found found' : List Bool) (wanted : List Wanted) (tasks : List DefinedTask) (rows : List (List ℕ)) (uses : List (List (List ℕ × List ℕ))) (parts : List Part) → globals' ≡ globals → found' ≡ found
    → AreMade (IsMade members homes texts globals' env walk found') wanted tasks rows uses parts → AreMade (IsMade members homes texts globals env walk found) wanted tasks rows uses parts
made_as members homes texts globals globals' env walk found found' wanted tasks rows uses parts a b made =
    subst (λ x. AreMade (IsMade members homes texts x env walk found) wanted tasks rows uses parts) a (subst (λ x. AreMade (IsMade members homes texts globals' env walk x) wanted tasks rows uses parts) b made)

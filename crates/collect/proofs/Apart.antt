-- The tasks of a listing of any files keep out of each other's way.
use Rattle.std.proofs.Common.{◌≡◌, ◌≢◌, ◌<◌, ℕ, zero, suc, ◌==◌, ◌⊎◌, inl, inr, Bool, true, false, cond, ◌||◌, ◌&&◌, List, [], ◌∷◌, ◌++◌, length, map, filter, get_or, refl, sym, ap, ◌∙◌}
use Rattle.std.specs.Prelude.{Option, Some, None, is_some, not, bytes_eq, codes, AllPairs, nat_lt}
use Rattle.std.specs.Option.{option_map}
use Rattle.std.specs.List.{list_any, slice_get, cons_option, filter_map}
use Rattle.std.proofs.lemmas.Bool.{cases_eq, false≢true, true≢false, or_left, or_right, or_parts, and_parts}
use Rattle.std.proofs.lemmas.Option.{slice_get_within, slice_get-get_or}
use Rattle.serde_json.specs.Data.{Data}
use Rattle.rel_path.specs.Paths.{Path, path_eq, name_eq, is_among}
use Rattle.rel_path.specs.Files.{FileMap, has}
use Rattle.rel_path.proofs.PathLaws.{path_same, name_same, strip_append}
use Rattle.tree_walk.specs.Traversal.{passes, passes_if, reached}
use Rattle.tree_walk.specs.Walked.{walk_choice, is_open}
use Rattle.globs.specs.declared.out_set.OutSet.{OutSet}
use Rattle.globs.specs.Lists.{list_takes}
use Rattle.globs.specs.Outputs.{may_declare, declares_below, declares, any_declares, takes, shares}
use Rattle.folder_globs.specs.Laws.{ListLaw}
use Rattle.workspaces.specs.declared.member.Package.{Package}
use Rattle.workspaces.specs.Edges.{text_by}
use Rattle.workspaces.specs.Space.{Space, owners, is_proper, lies_below, manifest_in, manifest_name}
use Rattle.turbo_config.specs.declared.entry.TaskDef.{TaskDef}
use Rattle.turbo_config.specs.Names.{is_task_name, is_reserved, is_nothing, begins_caret}
use Rattle.task_definitions.specs.Setup.{Setup, task_def}
use Rattle.task_definitions.specs.Laws.{DefinitionLaw}
use Rattle.listing.specs.declared.part.Part.{Part}
use Rattle.listing.specs.declared.part.Listing.{Listing}
use Rattle.run_laws.specs.Ancestors.{blank, part_at, has_script, is_nil}
use Rattle.run_laws.specs.Closures.{names}
use Rattle.run_laws.specs.Plans.{log_name, log_path, has_dollar, LogLaw, AreApart}
use Rattle.task_inputs.specs.Homes.{Configured, configured_by, configured_in, configured, home_of, folders_of, is_home, declares_in, declared_in, is_declared, others_than}
use Rattle.task_inputs.specs.Inputs.{is_input, config_in, is_manifest, is_asked, is_global}
use Rattle.task_inputs.specs.Ignores.{is_left_out}
use Rattle.collect.specs.declared.wanted.Wanted.{Wanted}
use Rattle.collect.specs.Parts.{IsPart, scripts_by, scripts_of, exclusions_for}
use Rattle.collect.specs.Listings.{IsListing}
use Rattle.collect.specs.Laws.{CanBeListed, IsSound, ListingLaw}
use Rattle.collect.proofs.Lists.{paired_back, got}
use Rattle.collect.proofs.Whole.{and_right, get_map, some_same}
use Rattle.collect.proofs.Order.{any_from, all_get, naming, holds_inputs, is_ordered}
use Rattle.collect.proofs.Owners.{less_or_more, and_none, both_true, one_name, not_kept, owner_place, package_or_root, inner_at, one_home, one_folder, package_home, declared_below, own}

-- ---- what is declared

none_declared : (outputs : List (List ℕ)) (folder rest : Path) → may_declare rest ≡ false → declares outputs folder (folder ++ rest) ≡ false
none_declared outputs folder rest bad = ap (declares_below outputs) (strip_append folder rest) ∙ ap (λ b. b && list_takes outputs rest) bad

-- the configured task of a script that has a definition
configured_any : (setup : Setup) (name task : List ℕ) (def : TaskDef) (test : Configured → Bool) (scripts : List (List ℕ × List ℕ)) → task_def setup name task ≡ Some def → is_some (text_by task scripts) ≡ true → test (record { task = task; outputs = def.outputs }) ≡ true
    → list_any test (configured_in setup name scripts) ≡ true
unfolding configured_in
configured_any setup name task def test [] defined own t = absurd (false≢true own)
configured_any setup name task def test (s ∷ scripts) defined own t = by (bytes_eq s.0 task) refl own (λ e. configured_any setup name task def test scripts defined e t) where
  rest : List Configured
  rest = filter_map (configured_by setup name) scripts

  skip : (o : Option Configured) → list_any test rest ≡ true → list_any test (cons_option o rest) ≡ true
  skip None e = e
  skip (Some c) e = or_right (test c) (list_any test rest) e

  by : (b : Bool) → bytes_eq s.0 task ≡ b → is_some (cond b (Some s.1) (text_by task scripts)) ≡ true → (is_some (text_by task scripts) ≡ true → list_any test rest ≡ true) → list_any test (cons_option (configured_by setup name s) rest) ≡ true
  by true e f more =
      let here : configured_by setup name s ≡ Some (record { task = task; outputs = def.outputs }) =
      ap (λ x. option_map (λ (d : TaskDef). record { task = x; outputs = d.outputs }) (task_def setup name x)) (name_same s.0 task e) ∙ ap (option_map (λ (d : TaskDef). record { task = task; outputs = d.outputs })) defined in
      ap (λ o. list_any test (cons_option o rest)) here ∙ or_left (test (record { task = task; outputs = def.outputs })) (list_any test rest) t
  by false e f more = skip (configured_by setup name s) (more f)

others_any : (task : List ℕ) (folder path : Path) (tasks : List Configured) → list_any (λ c. not (name_eq c.task task) && declares c.outputs folder path) tasks ≡ any_declares (others_than task tasks) folder path
unfolding any_declares
others_any task folder path [] = refl
others_any task folder path (c ∷ tasks) = by (name_eq c.task task) (others_any task folder path tasks) where
  by : (b : Bool) → list_any (λ c. not (name_eq c.task task) && declares c.outputs folder path) tasks ≡ list_any (λ outputs. declares outputs folder path) (others_than task tasks)
      → ((not b && declares c.outputs folder path) || list_any (λ c. not (name_eq c.task task) && declares c.outputs folder path) tasks) ≡ list_any (λ outputs. declares outputs folder path) (map (λ (t : Configured). t.outputs) (cond (not b) (c ∷ filter (λ (t : Configured). not (name_eq t.task task)) tasks) (filter (λ (t : Configured). not (name_eq t.task task)) tasks)))
  by true more = more
  by false more = ap (λ b. declares c.outputs folder path || b) more

-- ---- log files

name_other : (a b : List ℕ) → a ≢ b → name_eq a b ≡ false
name_other a b ne = by (name_eq a b) refl where
  by : (t : Bool) → name_eq a b ≡ t → t ≡ false
  by true e = absurd (ne (name_same a b e))
  by false e = refl

closed_below : (folder front : Path) (last : List ℕ) → passes walk_choice.enters front (folder ++ codes ".turbo" ∷ last ∷ []) ≡ false
unfolding passes
closed_below [] front last = refl
closed_below (x ∷ []) front last = and_none (walk_choice.enters front x) (closed_below [] (front ++ x ∷ []) last)
closed_below (x ∷ y ∷ folder) front last = and_none (walk_choice.enters front x) (closed_below (y ∷ folder) (front ++ x ∷ []) last)

log_closed : (part : Part) → is_open (log_path part) ≡ false
unfolding reached passes_if
log_closed part = closed_below part.folder [] (log_name part.task)

no_dollar : (task : List ℕ) → is_task_name task ≡ true → has_dollar task ≡ false
unfolding is_task_name
no_dollar task e = bare task (not_true (list_any is_reserved task) (and_right (not (is_nothing task)) (not (list_any is_reserved task)) (and_parts (not (is_nothing task) && not (list_any is_reserved task)) (not (begins_caret task)) e).0)) where
  not_true : (b : Bool) → not b ≡ true → b ≡ false
  not_true true f = absurd (false≢true f)
  not_true false f = refl

  bare : (bs : List ℕ) → list_any is_reserved bs ≡ false → has_dollar bs ≡ false
  bare [] f = refl
  bare (b ∷ bs) f = let p = or_parts (is_reserved b) (list_any is_reserved bs) f in rw (middle (b == 35) (b == 36) (nat_lt b 32) p.0) (bare bs p.1) where
    middle : (x y z : Bool) → ((x || y) || z) ≡ false → y ≡ false
    middle true y z g = absurd (true≢false g)
    middle false true z g = absurd (true≢false g)
    middle false false z g = refl

-- ---- tasks with scripts

script_there : (parts : List Part) (j : ℕ) → has_script (get_or parts j blank) ≡ true → slice_get parts j ≡ Some (get_or parts j blank)
script_there [] j e = absurd (false≢true e)
script_there (p ∷ parts) zero e = refl
script_there (p ∷ parts) (suc j) e = script_there parts j e

own_script : (scripts : List (List ℕ × List ℕ)) (task : List ℕ) → not (is_nil (scripts_of scripts task)) ≡ true → is_some (text_by task scripts) ≡ true
unfolding scripts_of
own_script scripts task e = by (text_by task scripts) e where
  by : (o : Option (List ℕ)) → not (is_nil (scripts_by o (text_by (codes "pre" ++ task) scripts) (text_by (codes "post" ++ task) scripts))) ≡ true → is_some o ≡ true
  by None f = absurd (false≢true f)
  by (Some own) f = refl

all_differ : (wanted : List Wanted) (j k : ℕ) (v w : Wanted) → AllPairs (λ (a b : Wanted). a.id ≢ b.id) wanted → slice_get wanted j ≡ Some v → slice_get wanted k ≡ Some w → v.id ≡ w.id → j ≡ k
all_differ wanted j k v w ids at_j at_k same = by (cases_eq j k) where
  value : (i : ℕ) (x : Wanted) → slice_get wanted i ≡ Some x → get_or wanted i v ≡ x
  value i x at = got wanted i x v at

  by : (j ≡ k) ⊎ (j ≢ k) → j ≡ k
  by (inl e) = e
  by (inr ne) = absurd (elim (less_or_more j k ne) [
    | inl less ↦ ids j k v less (slice_get_within wanted k w at_k) (ap (λ (x : Wanted). x.id) (value j v at_j) ∙ same ∙ ap (λ (x : Wanted). x.id) (sym (value k w at_k)))
    | inr more ↦ ids k j v more (slice_get_within wanted j v at_j) (ap (λ (x : Wanted). x.id) (value k w at_k) ∙ sym same ∙ ap (λ (x : Wanted). x.id) (sym (value j v at_j)))
  ])

module _ (definitions : DefinitionLaw) (logs : LogLaw) (lists : ListLaw) (setup : Setup) (space : Space) (lock : Option Data) (files : FileMap) (walk : List Path) (env : List (List ℕ × List ℕ)) (wanted : List Wanted) (l : Listing) (can : CanBeListed space walk wanted) (is : IsListing setup space lock files walk env wanted l) where
  -- a part with its wanted task
  abbrev Stands : ℕ → Part → Type 0
  Stands j part = (w : Wanted) × (slice_get wanted j ≡ Some w) × IsPart setup space lock files walk env w part

  stands : (j : ℕ) (part : Part) → slice_get l.parts j ≡ Some part → Stands j part
  stands j part at = paired_back (IsPart setup space lock files walk env) wanted l.parts j part is.parts at

  with_script : (j : ℕ) → has_script (part_at l j) ≡ true → Stands j (part_at l j)
  with_script j e = stands j (part_at l j) (script_there l.parts j e)

  -- the number of a part's owner
  owner : (j : ℕ) (a : Part) (s : Stands j a) → (i : ℕ) × (slice_get (owners space) i ≡ Some s.2.member) × (s.2.member.name ≡ s.0.id.«package»)
  owner j a s = owner_place space s.0.id.«package» s.2.member s.2.stands

  -- parts whose owners have one number have one owner, by one name
  one_owner : (j k : ℕ) (a b : Part) (s : Stands j a) (t : Stands k b) → (owner j a s).0 ≡ (owner k b t).0 → (s.2.member ≡ t.2.member) × (s.0.id.«package» ≡ t.0.id.«package»)
  one_owner j k a b s t e =
      let same : s.2.member ≡ t.2.member = some_same s.2.member t.2.member (sym (owner j a s).1 ∙ ap (slice_get (owners space)) e ∙ (owner k b t).1) in
      (same, sym (owner j a s).2 ∙ ap (λ (p : Package). p.name) same ∙ (owner k b t).2)

  -- of one name
  one_task : (j k : ℕ) (a b : Part) (s : Stands j a) (t : Stands k b) → s.0.id.«package» ≡ t.0.id.«package» → s.0.id.task ≡ t.0.id.task → j ≡ k
  one_task j k a b s t p q = all_differ wanted j k s.0 t.0 can.ids s.1 t.1 (λ i. record { «package» = p i; task = q i })

  abbrev Declares : Part → Path → Type 0
  Declares a path = declares a.outs.mine a.outs.folder path ≡ true

  -- what a part declares, its outputs as written declare, and its owner is the path's home
  declared_mine : (j : ℕ) (a : Part) (s : Stands j a) (path : Path) → Declares a path → (declares s.2.def.outputs s.2.member.folder path ≡ true) × (is_home (owners space) s.2.member path ≡ true)
  declared_mine j a s path e =
      own space can.apart can.below_root lists can.folders (owner j a s).0 s.2.member s.2.def.outputs path (owner j a s).1 (ap (λ (o : OutSet). declares o.mine o.folder path) (sym s.2.outs) ∙ e)

  taken : (j : ℕ) (path : Path) → takes (part_at l j).outs path ≡ true → Declares (part_at l j) path
  unfolding takes
  taken j path e = (and_parts (declares (part_at l j).outs.mine (part_at l j).outs.folder path) _ e).0

  -- two parts that declare one path have one owner
  meet : (j k : ℕ) (a b : Part) (s : Stands j a) (t : Stands k b) (path : Path) → Declares a path → Declares b path → (s.2.member ≡ t.2.member) × (s.0.id.«package» ≡ t.0.id.«package»)
  meet j k a b s t path e f =
      one_owner j k a b s t (one_home space can.apart can.below_root (owner j a s).0 (owner k b t).0 s.2.member t.2.member path (owner j a s).1 (owner k b t).1 (declared_mine j a s path e).1 (declared_mine k b t path f).1)

  script_own : (j : ℕ) (a : Part) (s : Stands j a) → has_script a ≡ true → is_some (text_by s.0.id.task s.2.member.manifest.scripts) ≡ true
  script_own j a s e = own_script s.2.member.manifest.scripts s.0.id.task (ap (λ x. not (is_nil x)) (sym s.2.scripts) ∙ e)

  -- no task with a script declares what another one owns
  owned_alone : (j k : ℕ) → j ≢ k → has_script (part_at l j) ≡ true → has_script (part_at l k) ≡ true → (path : Path) → takes (part_at l j).outs path ≡ true → declares (part_at l k).outs.mine (part_at l k).outs.folder path ≡ false
  unfolding takes
  owned_alone j k ne has_j has_k path owned = by (declares (part_at l k).outs.mine (part_at l k).outs.folder path) refl where
    s : Stands j (part_at l j)
    s = with_script j has_j

    t : Stands k (part_at l k)
    t = with_script k has_k

    not_true : (b : Bool) → not b ≡ true → b ≡ false
    not_true true f = absurd (false≢true f)
    not_true false f = refl

    alone : any_declares (others_than s.0.id.task (configured setup s.2.member)) s.2.member.folder path ≡ false
    alone = not_true _ (and_right (declares (s.2.def.outputs ++ exclusions_for space s.2.member) s.2.member.folder path) _ (ap (λ o. takes o path) (sym s.2.outs) ∙ owned))

    by : (b : Bool) → declares (part_at l k).outs.mine (part_at l k).outs.folder path ≡ b → b ≡ false
    by false e = refl
    by true e = absurd (let one = meet j k (part_at l j) (part_at l k) s t path (taken j path owned) e in together one.0 one.1) where
      theirs : declares t.2.def.outputs t.2.member.folder path ≡ true
      theirs = (declared_mine k (part_at l k) t path e).0

      together : s.2.member ≡ t.2.member → s.0.id.«package» ≡ t.0.id.«package» → ⊥
      together same packages =
          let other : name_eq t.0.id.task s.0.id.task ≡ false = name_other t.0.id.task s.0.id.task (λ tasks. ne (one_task j k (part_at l j) (part_at l k) s t packages (sym tasks))) in
          let test : Configured → Bool = λ c. not (name_eq c.task s.0.id.task) && declares c.outputs s.2.member.folder path in
          let passes : test (record { task = t.0.id.task; outputs = t.2.def.outputs }) ≡ true = ap (λ b. not b && declares t.2.def.outputs s.2.member.folder path) other ∙ ap (λ (m : Package). declares t.2.def.outputs m.folder path) same ∙ theirs in
          let any : list_any test (configured setup t.2.member) ≡ true = configured_any setup t.2.member.name t.0.id.task t.2.def test t.2.member.manifest.scripts t.2.defined (script_own k (part_at l k) t has_k) passes in
          let here : list_any test (configured setup s.2.member) ≡ true = ap (λ (m : Package). list_any test (configured setup m)) same ∙ any in
          false≢true (sym alone ∙ sym (others_any s.0.id.task s.2.member.folder path (configured setup s.2.member)) ∙ here)

  -- what a task with a script declares, its home declares
  home_declares : (j : ℕ) → has_script (part_at l j) ≡ true → (path : Path) → takes (part_at l j).outs path ≡ true → is_declared setup (owners space) path ≡ true
  unfolding declared_in
  home_declares j has_j path owned =
      let s = with_script j has_j in
      let mine = declared_mine j (part_at l j) s path (taken j path owned) in
      let place = owner j (part_at l j) s in
      let any = configured_any setup s.2.member.name s.0.id.task s.2.def (λ c. declares c.outputs s.2.member.folder path) s.2.member.manifest.scripts s.2.defined (script_own j (part_at l j) s has_j) mine.0 in
      let holds : declares_in (map (λ (p : Package). p.folder) (owners space)) path (home_of setup s.2.member) ≡ true = both_true _ _ mine.1 any in
      ap (λ folders. list_any (declares_in folders path) (map (home_of setup) (owners space))) (folders_same (owners space))
      ∙ any_from (declares_in (map (λ (p : Package). p.folder) (owners space)) path) (map (home_of setup) (owners space)) place.0 (home_of setup s.2.member) (get_map (home_of setup) (owners space) place.0 s.2.member place.1) holds
    where
      folders_same : (members : List Package) → folders_of (map (home_of setup) members) ≡ map (λ (p : Package). p.folder) members
      folders_same [] = refl
      folders_same (p ∷ members) = ap (λ fs. p.folder ∷ fs) (folders_same members)

  -- below the owner of another part, what no task may declare there, and lies below no package where that owner is the root
  below_one : (j k : ℕ) (has_j : has_script (part_at l j) ≡ true) (b : Part) (t : Stands k b) (name : List ℕ) (names : Path) → may_declare (name ∷ names) ≡ false
      → ((i : ℕ) (p : Package) → slice_get space.packages i ≡ Some p → lies_below (name ∷ names) p.folder ≡ false) → declares (part_at l j).outs.mine (part_at l j).outs.folder (t.2.member.folder ++ name ∷ names) ≡ false
  below_one j k has_j b t name names bad far = by (declares (part_at l j).outs.mine (part_at l j).outs.folder path) refl where
    path : Path
    path = t.2.member.folder ++ name ∷ names

    s : Stands j (part_at l j)
    s = with_script j has_j

    here : lies_below path t.2.member.folder ≡ true
    here = ap is_proper (strip_append t.2.member.folder (name ∷ names))

    by : (c : Bool) → declares (part_at l j).outs.mine (part_at l j).outs.folder path ≡ c → c ≡ false
    by false e = refl
    by true e = absurd (elim (package_or_root space can.apart can.below_root n.0 t.2.member n.1) [
      | inl inner ↦ same (one_home space can.apart can.below_root i.0 n.0 s.2.member t.2.member path i.1 n.1 mine.1 (package_home space can.apart can.below_root n.0 t.2.member path inner here))
      | inr root ↦ elim (package_or_root space can.apart can.below_root i.0 s.2.member i.1) [
        | inl inner ↦
            let short : path ≡ name ∷ names = ap (λ (p : Package). p.folder ++ name ∷ names) root in
            false≢true (sym (far i.0 s.2.member inner) ∙ ap (λ p. lies_below p s.2.member.folder) (sym short) ∙ declared_below s.2.def.outputs s.2.member.folder path mine.0)
        | inr also ↦ same_member (also ∙ sym root)
      ]
    ]) where
      i : (p : ℕ) × (slice_get (owners space) p ≡ Some s.2.member) × (s.2.member.name ≡ s.0.id.«package»)
      i = owner j (part_at l j) s

      n : (p : ℕ) × (slice_get (owners space) p ≡ Some t.2.member) × (t.2.member.name ≡ t.0.id.«package»)
      n = owner k b t

      mine : (declares s.2.def.outputs s.2.member.folder path ≡ true) × (is_home (owners space) s.2.member path ≡ true)
      mine = declared_mine j (part_at l j) s path e

      same_member : s.2.member ≡ t.2.member → ⊥
      same_member m = false≢true (sym (none_declared s.2.def.outputs t.2.member.folder (name ∷ names) bad) ∙ ap (λ (p : Package). declares s.2.def.outputs p.folder path) (sym m) ∙ mine.0)

      same : i.0 ≡ n.0 → ⊥
      same x = same_member (one_owner j k (part_at l j) b s t x).0

  takes_none : (set : OutSet) (path : Path) → declares set.mine set.folder path ≡ false → takes set path ≡ false
  unfolding takes
  takes_none set path e = ap (λ b. b && not (any_declares set.others set.folder path)) e

  shares_none : (set : OutSet) (path : Path) → declares set.mine set.folder path ≡ false → shares set path ≡ false
  unfolding shares
  shares_none set path e = ap (λ b. b && any_declares set.others set.folder path) e

  inner : (i : ℕ) (p : Package) → slice_get space.packages i ≡ Some p → p.folder ≢ []
  inner = inner_at space can.apart can.below_root

  -- no input is owned
  no_input : (j : ℕ) → has_script (part_at l j) ≡ true → (path : Path) → takes (part_at l j).outs path ≡ true → names l.parts path ≡ false
  unfolding is_input
  no_input j has_j path owned = by (names l.parts path) refl where
    by : (b : Bool) → names l.parts path ≡ b → b ≡ false
    by false e = refl
    by true e = absurd (let n = naming setup space lock files walk env wanted l can is path e in asked n.0 n.2 (n.1, n.4, n.3) (and_right (has files path) _ n.6)) where
      asked : (k : ℕ) (part : Part) (t : Stands k part) → is_input (is_left_out setup (owners space) files walk) setup (owners space) t.2.member t.2.def path ≡ true → ⊥
      asked k part t f = by_kind (path_eq path (manifest_in t.2.member.folder)) refl (path_eq path (config_in t.2.member.folder)) refl f where
        -- the path is one that may not be declared
        kept : (name : List ℕ) → may_declare (name ∷ []) ≡ false → path_eq path (t.2.member.folder ++ name ∷ []) ≡ true → ⊥
        kept name bad same =
            let none : takes (part_at l j).outs (t.2.member.folder ++ name ∷ []) ≡ false = takes_none (part_at l j).outs (t.2.member.folder ++ name ∷ []) (below_one j k has_j part t name [] bad (λ i p at. one_name name p.folder (inner i p at))) in
            false≢true (sym none ∙ ap (takes (part_at l j).outs) (sym (path_same path (t.2.member.folder ++ name ∷ []) same)) ∙ owned)

        asks : Bool
        asks = is_asked (is_left_out setup (owners space) files walk) (owners space) t.2.member t.2.def.inputs path || is_global setup path

        by_kind : (a : Bool) → path_eq path (manifest_in t.2.member.folder) ≡ a → (b : Bool) → path_eq path (config_in t.2.member.folder) ≡ b
            → ((a || b) || ((not (is_declared setup (owners space) path) && not (is_manifest (owners space) path)) && asks)) ≡ true → ⊥
        by_kind true g b h i = kept manifest_name refl g
        by_kind false g true h i = kept (codes "turbo.json") refl h
        by_kind false g false h i = false≢true (sym (ap (λ d. (not d && not (is_manifest (owners space) path)) && asks) (home_declares j has_j path owned)) ∙ i)

  log_named : (part : Part) → names l.parts (log_path part) ≡ false
  log_named part = by (names l.parts (log_path part)) refl where
    by : (b : Bool) → names l.parts (log_path part) ≡ b → b ≡ false
    by false e = refl
    by true e = absurd (false≢true (sym (log_closed part) ∙ can.outside (log_path part) (naming setup space lock files walk env wanted l can is (log_path part) e).5))

  log_declared : (j k : ℕ) → has_script (part_at l j) ≡ true → has_script (part_at l k) ≡ true → declares (part_at l j).outs.mine (part_at l j).outs.folder (log_path (part_at l k)) ≡ false
  log_declared j k has_j has_k =
      let t = with_script k has_k in
      let name = log_name (part_at l k).task in
      ap (λ folder. declares (part_at l j).outs.mine (part_at l j).outs.folder (folder ++ codes ".turbo" ∷ name ∷ [])) t.2.folder
      ∙ below_one j k has_j (part_at l k) t (codes ".turbo") (name ∷ []) refl (λ i p at. not_kept walk can.outside name p.folder (inner i p at) (all_get (λ (q : Package). is_among walk (manifest_in q.folder) ≡ true) space.packages i p at can.walked))

  logs_differ : (j k : ℕ) → j ≢ k → has_script (part_at l j) ≡ true → has_script (part_at l k) ≡ true → log_path (part_at l j) ≢ log_path (part_at l k)
  logs_differ j k ne has_j has_k e =
      ne (one_task j k (part_at l j) (part_at l k) s t (one_owner j k (part_at l j) (part_at l k) s t (one_folder space can.apart can.below_root i.0 n.0 s.2.member t.2.member i.1 n.1 folders)).1 tasks)
    where
      s : Stands j (part_at l j)
      s = with_script j has_j

      t : Stands k (part_at l k)
      t = with_script k has_k

      i : (p : ℕ) × (slice_get (owners space) p ≡ Some s.2.member) × (s.2.member.name ≡ s.0.id.«package»)
      i = owner j (part_at l j) s

      n : (p : ℕ) × (slice_get (owners space) p ≡ Some t.2.member) × (t.2.member.name ≡ t.0.id.«package»)
      n = owner k (part_at l k) t

      same : ((part_at l j).folder ≡ (part_at l k).folder) × ((part_at l j).task ≡ (part_at l k).task)
      same = logs (part_at l j) (part_at l k)
          (ap has_dollar s.2.task ∙ no_dollar s.0.id.task (definitions setup s.2.member.name s.0.id.task s.2.def s.2.defined))
          (ap has_dollar t.2.task ∙ no_dollar t.0.id.task (definitions setup t.2.member.name t.0.id.task t.2.def t.2.defined)) e

      tasks : s.0.id.task ≡ t.0.id.task
      tasks = sym s.2.task ∙ same.1 ∙ t.2.task

      folders : s.2.member.folder ≡ t.2.member.folder
      folders = sym s.2.folder ∙ same.0 ∙ t.2.folder

  one_place : (j k : ℕ) → j < length l.parts → k < length l.parts → (part_at l j).«package» ≡ (part_at l k).«package» → (part_at l j).task ≡ (part_at l k).task → j ≡ k
  one_place j k in_j in_k packages tasks =
      let s = stands j (part_at l j) (at l.parts j in_j) in
      let t = stands k (part_at l k) (at l.parts k in_k) in
      one_task j k (part_at l j) (part_at l k) s t (sym s.2.«package» ∙ packages ∙ t.2.«package») (sym s.2.task ∙ tasks ∙ t.2.task)
    where
      at : (parts : List Part) (i : ℕ) → i < length parts → slice_get parts i ≡ Some (get_or parts i blank)
      at parts i less = slice_get-get_or parts i blank less

  are_apart : AreApart l
  are_apart = record {
    ids = one_place;
    outs = λ j k ne has_j has_k path owned. takes_none (part_at l k).outs path (owned_alone j k ne has_j has_k path owned);
    shared = λ j k ne has_j has_k path owned. shares_none (part_at l k).outs path (owned_alone j k ne has_j has_k path owned);
    inputs = no_input;
    logs = logs_differ;
    log_inputs = λ j has_j. log_named (part_at l j);
    log_outs = λ j k has_j has_k. takes_none (part_at l j).outs (log_path (part_at l k)) (log_declared j k has_j has_k);
    log_shared = λ j k has_j has_k. shares_none (part_at l j).outs (log_path (part_at l k)) (log_declared j k has_j has_k);
  }

  is_sound : IsSound files l
  is_sound = record {
    ordered = is_ordered setup space lock files walk env wanted l can is;
    apart = are_apart;
    inputs = holds_inputs setup space lock files walk env wanted l can is;
  }

pub listing_sound : DefinitionLaw → LogLaw → ListLaw → ListingLaw
listing_sound definitions logs lists = λ setup space lock files walk env wanted l can is. is_sound definitions logs lists setup space lock files walk env wanted l can is

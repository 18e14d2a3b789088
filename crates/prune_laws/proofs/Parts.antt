-- The part of a task of an owner that stays is the same but for its numbers.
use Rattle.std.proofs.Common.{◌≡◌, ℕ, true, false, cond, List, [], ◌∷◌, ◌++◌, Option, Some, None, filter, map, sym, ap, ◌∙◌, subst, inl, inr}
use mathlib.Core.Path.{fun_ext}
use Rattle.std.specs.Prelude.{Ok}
use Rattle.std.specs.List.{join_with_byte}
use Rattle.serde_json.specs.Data.{Data}
use Rattle.rel_path.specs.Paths.{name_eq, path_cmp}
use Rattle.rel_path.specs.Files.{FileMap}
use Rattle.rel_path.proofs.PathLaws.{name_self}
use Rattle.env_select.specs.Choice.{is_hashed, IsChosen, ChosenOnce}
use Rattle.folder_globs.specs.Exclusions.{exclusion}
use Rattle.npm_lock.specs.declared.start.Start.{Start}
use Rattle.npm_lock.specs.Cut.{is_in}
use Rattle.npm_lock.specs.Sets.{Has as HasIn}
use Rattle.npm_lock.specs.Externals.{Externals, members_in}
use Rattle.workspaces.specs.declared.member.Package.{Package}
use Rattle.workspaces.specs.Lists.{Has, ascending}
use Rattle.workspaces.specs.Space.{Space, owners, owner_named}
use Rattle.turbo_config.specs.declared.task_id.TaskId.{TaskId}
use Rattle.turbo_config.specs.declared.entry.TaskDef.{TaskDef}
use Rattle.task_definitions.specs.Setup.{Setup, task_def}
use Rattle.listing.specs.declared.part.Part.{Part}
use Rattle.task_inputs.specs.Homes.{others_than}
use Rattle.task_inputs.specs.Inputs.{is_input}
use Rattle.collect.specs.declared.wanted.Wanted.{Wanted}
use Rattle.collect.specs.Parts.{IsPart, Uses, starts_of, scripts_of, package_folders, texts_at, exclusions_for, out_set_of, takes_input}
use Rattle.repository.specs.Reading.{Contents}
use Rattle.pruned_files.specs.Cut.{kept_owners, locations_in, IsCutLock, IsCutTo}
use Rattle.pruned_files.specs.Pruned.{Pruning, IsPruning, pruned_files, pruned_setup, lock_path}
use Rattle.prune_facts.proofs.Lists.{bool_same, some_inj, has_any, has-map, has-filter}
use Rattle.prune_facts.proofs.Strips.{root_or_inner, inner_folder}
use Rattle.prune_facts.proofs.Cutting.{same_uses}
use Rattle.prune_laws.proofs.Owners.{IsSound, part_of, found_owner, named_still}
use Rattle.prune_laws.proofs.Defs.{IsFirm, has_flat, same_def, same_configured}
use Rattle.prune_laws.proofs.Needs.{same_starts}
use Rattle.prune_laws.proofs.Staying.{all_stay}
use Rattle.prune_laws.proofs.Inputs.{ignored, same_inputs}
use Rattle.prune_facts.proofs.Pairing.{pair_of}
use Rattle.prune_facts.proofs.Closing.{unnumbered}

-- ---- installed packages

to_has : {X : Type 0} (xs : List X) (x : X) → HasIn xs x → Has xs x
to_has [] x h = h
to_has (y ∷ ys) x (inl e) = inl e
to_has (y ∷ ys) x (inr h) = inr (to_has ys x h)

one_use : (lock : Data) (starts : List Start) (pairs more : List (List ℕ × List ℕ)) → Externals lock starts (Ok pairs) → Externals lock starts (Ok more) → pairs ≡ more
one_use lock starts pairs more a b = a.3 ∙ ap (members_in lock) (fun_ext (λ x. bool_same (a.0 x) (b.0 x) (a.1.1 b.0 b.1.0 x) (b.1.1 a.0 a.1.0 x))) ∙ sym b.3

located : (pairs : List (List ℕ × List ℕ)) (uses : List (List (List ℕ × List ℕ))) (pair : List ℕ × List ℕ) → Has uses pairs → Has pairs pair → is_in (locations_in uses) pair.0 ≡ true
located pairs uses pair h k =
    has_any (name_eq pair.0) (locations_in uses) pair.0 (has_flat (λ (ps : List (List ℕ × List ℕ)). map (λ (p : List ℕ × List ℕ). p.0) ps) uses pairs pair.0 h (has-map (λ (p : List ℕ × List ℕ). p.0) pairs pair k)) (name_self pair.0)

module _ (contents : Contents) (targets : List (List ℕ)) (p : Pruning) (files : FileMap) (env : List (List ℕ × List ℕ)) (sound : IsSound contents.space contents.setup) (is : IsPruning contents targets p) where
  abbrev part : Space
  part = part_of contents.space p.set

  abbrev setup' : Setup
  setup' = pruned_setup contents.setup contents.space p.set

  module _ (q : Package) (h : Has (owners contents.space) q) (k : p.set q.folder ≡ true) where
    -- the same installed packages, with the same entries
    pub same_uses_of : (pairs others : List (List ℕ × List ℕ)) → Uses contents.space contents.lock q pairs → Uses part p.lock q others → pairs ≡ others
    same_uses_of pairs others = by contents.lock p.lock p.text is.cut
      where
        of_lock : (lock value : Data) → IsCutTo contents p.set lock value → Uses contents.space (Some lock) q pairs → Uses part (Some value) q others → pairs ≡ others
        of_lock lock value to a b =
            let r = pair_of (λ o ps. Uses contents.space (Some lock) o ps) (kept_owners contents.space p.set) to.uses to.each q (has-filter (λ (o : Package). p.set o.folder) (owners contents.space) q h k) in
            same_uses (map (λ (o : Package). join_with_byte 47 o.folder) (kept_owners contents.space p.set)) (locations_in to.uses) lock (starts_of contents.space q) pairs others
            (λ pair u. located r.0 to.uses pair r.1 (subst (λ ps. Has ps pair) (one_use lock (starts_of contents.space q) pairs r.0 a r.2) (to_has pairs pair u))) a
            (subst (λ d. Externals d (starts_of contents.space q) (Ok others)) to.is (subst (λ starts. Externals value starts (Ok others)) (same_starts contents targets p.set sound is.kept.0 q h k) b))

        by : (lock value : Option Data) (text : Option (List ℕ)) → IsCutLock contents p.set lock value text → Uses contents.space lock q pairs → Uses part value q others → pairs ≡ others
        by None None None c a b = a ∙ sym b
        by None None (Some text) c a b = absurd c
        by None (Some value) text c a b = absurd c
        by (Some lock) None text c a b = absurd c
        by (Some lock) (Some value) None c a b = absurd c
        by (Some lock) (Some value) (Some text) c a b = of_lock lock value c.0 a b

    -- ---- outputs

    same_exclusions : exclusions_for part q ≡ exclusions_for contents.space q
    same_exclusions = elim (root_or_inner q.folder) [
      | inl e ↦ ap (λ (ps : List Package). texts_at (map exclusion (ascending path_cmp (map (λ (o : Package). o.folder) ps))) q.folder) (all_stay contents targets p.set sound is.kept.0 (ap p.set (sym e) ∙ k))
      | inr inner ↦ ap (λ b. cond b (map exclusion (package_folders part)) []) (inner_folder q.folder inner) ∙ sym (ap (λ b. cond b (map exclusion (package_folders contents.space)) []) (inner_folder q.folder inner))
    ]

    pub same_outs : (task : List ℕ) (def : TaskDef) → out_set_of setup' part q task def ≡ out_set_of contents.setup contents.space q task def
    same_outs task def =
        let c = same_configured contents.space contents.setup sound p.set q h k in
        let e = same_exclusions in
        λ j. record { folder = q.folder; mine = def.outputs ++ e j; others = others_than task (c j) }

  -- ---- the part

  module _ (choice : ChosenOnce) (no_lock : (q : Package) (task : List ℕ) (def : TaskDef) → Has (owners contents.space) q → p.set q.folder ≡ true → task_def contents.setup q.name task ≡ Some def
      → is_input (ignored contents targets p files sound is) contents.setup (owners contents.space) q def lock_path ≡ false) where
    pub same_part : (w w' : Wanted) (one other : Part) → w'.id ≡ w.id → (q : Package) → owner_named contents.space w.id.«package» ≡ Some q → p.set q.folder ≡ true → IsFirm contents.setup q w.id.task → one.args ≡ other.args
        → IsPart contents.setup contents.space contents.lock files contents.walk env w one → IsPart setup' part p.lock (pruned_files p files) p.paths env w' other → unnumbered one ≡ unnumbered other
    same_part w w' one other ids q owned k firm args a b =
        let h : Has (owners contents.space) q = (found_owner contents.space w.id.«package» q owned).0 in
        let m : a.member ≡ q = some_inj a.member q (sym a.stands ∙ owned) in
        let n : b.member ≡ q = some_inj b.member q (sym b.stands ∙ ap (λ (id : TaskId). owner_named part id.«package») ids ∙ named_still contents.space contents.setup sound p.set w.id.«package» q owned k) in
        let its : task_def contents.setup q.name w.id.task ≡ Some a.def = ap (λ (o : Package). task_def contents.setup o.name w.id.task) (sym m) ∙ a.defined in
        let d : b.def ≡ a.def = some_inj b.def a.def (sym b.defined ∙ (λ j. task_def setup' (n j).name (ids j).task) ∙ same_def contents.space contents.setup sound p.set q w.id.task h k firm ∙ its) in
        let pkg : one.«package» ≡ other.«package» = a.«package» ∙ ap (λ (id : TaskId). id.«package») (sym ids) ∙ sym b.«package» in
        let folder : one.folder ≡ other.folder = a.folder ∙ ap (λ (o : Package). o.folder) (m ∙ sym n) ∙ sym b.folder in
        let task : one.task ≡ other.task = a.task ∙ ap (λ (id : TaskId). id.task) (sym ids) ∙ sym b.task in
        let scripts : one.scripts ≡ other.scripts = a.scripts ∙ (λ j. scripts_of ((m ∙ sym n) j).manifest.scripts (sym ids j).task) ∙ sym b.scripts in
        let outs : one.outs ≡ other.outs = a.outs ∙ (λ j. out_set_of contents.setup contents.space (m j) w.id.task a.def) ∙ sym (same_outs q h k w.id.task a.def) ∙ (λ j. out_set_of setup' part (sym n j) (sym ids j).task (sym d j)) ∙ sym b.outs in
        let pairs : one.env ≡ other.env = choice (is_hashed a.def.env contents.setup.globals.env) env one.env other.env a.env_pairs (subst (λ (def : TaskDef). IsChosen (is_hashed def.env contents.setup.globals.env) env other.env) d b.env_pairs) in
        let inputs : one.inputs ≡ other.inputs = a.inputs
        ∙ (λ j. filter (takes_input contents.setup contents.space files contents.walk (m j) a.def) contents.walk)
        ∙ same_inputs contents targets p files sound is q h k w.id.task a.def its (no_lock q w.id.task a.def h k its)
        ∙ (λ j. filter (takes_input setup' part (pruned_files p files) p.paths (sym n j) (sym d j)) p.paths) ∙ sym b.inputs in
        let externals : one.externals ≡ other.externals = same_uses_of q h k one.externals other.externals (subst (λ o. Uses contents.space contents.lock o one.externals) m a.externals) (subst (λ o. Uses part p.lock o other.externals) n b.externals) in
        λ j. record { «package» = pkg j; folder = folder j; task = task j; scripts = scripts j; args = args j; outs = outs j; env = pairs j; inputs = inputs j; externals = externals j; deps = [] }

-- Definitions of tasks where a part of the packages' files and scripts is left, and the names of tasks with a definition.
use Rattle.std.proofs.Common.{◌≡◌, ◌⊎◌, ◌==◌, ◌&&◌, ◌||◌, ℕ, Bool, true, false, cond, not, List, [], ◌∷◌, Option, Some, None, filter, refl, sym, ap, ◌∙◌, subst, inl, inr}
use Rattle.std.specs.Prelude.{option_and_then, option_to_list}
use Rattle.std.specs.List.{list_any}
use Rattle.std.specs.Option.{option_map, option_or}
use Rattle.std.specs.Map.{lookup, keys_of}
use Rattle.std.specs.declared.cmp.Ordering.{Ordering}
use Rattle.std.specs.declared.cmp.Ordering.TheVariants.{Less, Equal, Greater}
use Rattle.std.specs.Ordering.{is_eq, match_ordering}
use Rattle.std.specs.BTreeMap.{is_at}
use Rattle.std.specs.BTreeSet.{insert_key}
use Rattle.std.proofs.lemmas.Bool.{or_cases, or_left, or_right, false≢true, false_from_ne_true}
use Rattle.std.proofs.lemmas.List.Folds.{list_any-append}
use Rattle.std.proofs.lemmas.Map.Entries.{lookup-filter-keys}
use Rattle.std.proofs.lemmas.Map.Text.{is_eq-slice_cmp}
use Rattle.rel_path.specs.Paths.{name_cmp}
use Rattle.rel_path.proofs.PathLaws.{name_same, name_self}
use Rattle.turbo_config.specs.declared.entry.Entry.{Entry}
use Rattle.turbo_config.specs.declared.entry.TaskDef.{TaskDef}
use Rattle.turbo_config.specs.declared.files.PackageConfig.{PackageConfig}
use Rattle.turbo_config.specs.Names.{has_hash, behind_hash, full_name, root_name, is_root_name, is_reserved, is_task_name}
use Rattle.turbo_config.specs.Entries.{at_name, no_keys, def_of}
use Rattle.task_definitions.specs.Setup.{Tasks, Setup, each_once, is_among, root_entry, own_entry, merged_entry, is_script_task, script_entry, file_entry, entry_by, root_task_entry, entry_of, task_def, tails_of, ends_in, is_own, is_file_name, is_name_by, is_name}
use Rattle.workspaces.specs.Lists.{Has}
use Rattle.prune_facts.proofs.Lists.{none≢some, some_inj, not_true, any_has, has_any}

-- ---- names

pub at_is : (a b : List ℕ) → is_at (name_cmp a) b ≡ true → a ≡ b
at_is a b e = name_same a b (sym (is_eq-slice_cmp a b) ∙ e)

pub at_self : (a : List ℕ) → is_at (name_cmp a) a ≡ true
at_self a = is_eq-slice_cmp a a ∙ name_self a

insert_has : (xs : List (List ℕ)) (k : List ℕ) → is_among (insert_key name_cmp xs k) k ≡ true
insert_has [] k = or_left (is_at (name_cmp k) k) false (at_self k)
insert_has (x ∷ xs) k = by (name_cmp k x) refl (insert_has xs k)
  where
    by : (o : Ordering) → name_cmp k x ≡ o → is_among (insert_key name_cmp xs k) k ≡ true → is_among (match_ordering o (k ∷ x ∷ xs) (x ∷ xs) (x ∷ insert_key name_cmp xs k)) k ≡ true
    by Less e rest = or_left (is_at (name_cmp k) k) (is_among (x ∷ xs) k) (at_self k)
    by Equal e rest = or_left (is_at (name_cmp k) x) (is_among xs k) (ap is_eq e)
    by Greater e rest = or_right (is_at (name_cmp k) x) (is_among (insert_key name_cmp xs k) k) rest

insert_kept : (xs : List (List ℕ)) (k n : List ℕ) → is_among xs n ≡ true → is_among (insert_key name_cmp xs k) n ≡ true
insert_kept [] k n h = absurd (false≢true h)
insert_kept (x ∷ xs) k n h = by (name_cmp k x) (insert_kept xs k n)
  where
    by : (o : Ordering) → (is_among xs n ≡ true → is_among (insert_key name_cmp xs k) n ≡ true) → is_among (match_ordering o (k ∷ x ∷ xs) (x ∷ xs) (x ∷ insert_key name_cmp xs k)) n ≡ true
    by Less rest = or_right (is_at (name_cmp n) k) (is_among (x ∷ xs) n) h
    by Equal rest = h
    by Greater rest = elim (or_cases (is_at (name_cmp n) x) (is_among xs n) h) [
      | inl here ↦ or_left (is_at (name_cmp n) x) (is_among (insert_key name_cmp xs k) n) here
      | inr later ↦ or_right (is_at (name_cmp n) x) (is_among (insert_key name_cmp xs k) n) (rest later)
    ]

once_kept : (so_far names : List (List ℕ)) (n : List ℕ) → is_among so_far n ≡ true → is_among (each_once so_far names) n ≡ true
once_kept so_far [] n h = h
once_kept so_far (name ∷ names) n h = once_kept (insert_key name_cmp so_far name) names n (insert_kept so_far name n h)

-- each name is among them once they are in order
pub once_has : (so_far names : List (List ℕ)) (n : List ℕ) → Has names n → is_among (each_once so_far names) n ≡ true
once_has so_far [] n h = absurd h
once_has so_far (name ∷ names) n (inl e) = subst (λ m. is_among (each_once so_far (name ∷ names)) m ≡ true) e (once_kept (insert_key name_cmp so_far name) names name (insert_has so_far name))
once_has so_far (name ∷ names) n (inr h) = once_has (insert_key name_cmp so_far name) names n h

-- ---- the definition of a task

-- of packages' files the own one is found where it is left
pub own_left : (keep : List ℕ → Bool) (files : List (List ℕ × PackageConfig)) (pkg : List ℕ) → keep pkg ≡ true → at_name (filter (λ file. keep file.0) files) pkg ≡ at_name files pkg
own_left keep files pkg k = lookup-filter-keys (is_at (name_cmp pkg)) keep true (λ key e. ap keep (sym (at_is pkg key e)) ∙ k) files

module _ (setup other : Setup) (pkg task : List ℕ) (root : other.root ≡ setup.root) (own : at_name other.packages pkg ≡ at_name setup.packages pkg) (scripts : setup.root ≡ None → is_among other.scripts task ≡ is_among setup.scripts task) where
  -- the root's file, the own one and whether some package has the script settle it
  pub def_by : task_def other pkg task ≡ task_def setup pkg task
  unfolding task_def
  def_by = ap (option_map def_of) (by (is_root_name pkg))
    where
      entries : (o : Option Tasks) → setup.root ≡ o → entry_by o other pkg task ≡ entry_by o setup pkg task
      entries None e = ap (λ b. cond (is_task_name task && b) (Some no_keys) None) (scripts e)
      entries (Some tasks) e = ap (λ o. cond (is_task_name task) (merged_entry (root_entry tasks pkg task) (option_and_then (λ (config : PackageConfig). at_name config.tasks task) o)) None) own

      by : (b : Bool) → cond b (root_task_entry other.root task) (entry_by other.root other pkg task) ≡ cond b (root_task_entry setup.root task) (entry_by setup.root setup pkg task)
      by true = ap (λ o. root_task_entry o task) root
      by false = ap (λ o. entry_by o other pkg task) root ∙ entries setup.root refl

-- a task of the root is what the root's file says
pub root_def_by : (setup other : Setup) (task : List ℕ) → other.root ≡ setup.root → task_def other root_name task ≡ task_def setup root_name task
unfolding task_def
root_def_by setup other task root = ap (λ o. option_map def_of (root_task_entry o task)) root

-- without a turbo.json at the root nothing depends on anything
pub bare_def : (setup : Setup) (pkg task : List ℕ) (def : TaskDef) → setup.root ≡ None → task_def setup pkg task ≡ Some def → def.depends_on ≡ []
unfolding task_def def_of
bare_def setup pkg task def none e = by (is_root_name pkg) (ap (λ o. option_map def_of (cond (is_root_name pkg) (root_task_entry o task) (entry_by o setup pkg task))) (sym none) ∙ e)
  where
    keys : (b : Bool) → option_map def_of (cond b (Some no_keys) None) ≡ Some def → def.depends_on ≡ []
    keys true k = ap (λ (d : TaskDef). d.depends_on) (sym (some_inj (def_of no_keys) def k))
    keys false k = absurd (none≢some def k)

    by : (b : Bool) → option_map def_of (cond b None (script_entry setup.scripts task)) ≡ Some def → def.depends_on ≡ []
    by true k = absurd (none≢some def k)
    by false k = keys (is_script_task setup.scripts task) k

-- ---- the name of a task with a definition

lookup_key : {X : Type 0} (t : List ℕ → Bool) (es : List (List ℕ × X)) (x : X) → lookup t es ≡ Some x → list_any t (keys_of es) ≡ true
lookup_key t [] x e = absurd (none≢some x e)
lookup_key t (entry ∷ es) x e = by (t entry.0) e (lookup_key t es x)
  where
    by : (b : Bool) → cond b (Some entry.1) (lookup t es) ≡ Some x → (lookup t es ≡ Some x → list_any t (keys_of es) ≡ true) → (b || list_any t (keys_of es)) ≡ true
    by true k rest = refl
    by false k rest = rest k

parts_of : (a b c : Bool) → ((a && b) && c) ≡ true → b ≡ true
parts_of true true c h = refl
parts_of true false c h = h
parts_of false b c h = absurd (false≢true h)

no_hash : (name : List ℕ) → is_task_name name ≡ true → has_hash name ≡ false
unfolding is_task_name
no_hash name h = false_from_ne_true _ (λ k.
    let q = any_has (λ b. b == 35) name k in
    let reserved : is_reserved q.0 ≡ true = rw q.2 refl in
    not_true (list_any is_reserved name) (parts_of _ (not (list_any is_reserved name)) _ h) (has_any is_reserved name q.0 q.1 reserved))

behind_full : (pkg task : List ℕ) → has_hash pkg ≡ false → behind_hash (full_name pkg task) ≡ Some task
behind_full [] task h = refl
behind_full (b ∷ pkg) task h = by (b == 35) h (behind_full pkg task)
  where
    by : (c : Bool) → (c || has_hash pkg) ≡ false → (has_hash pkg ≡ false → behind_hash (full_name pkg task) ≡ Some task) → cond c (Some (full_name pkg task)) (behind_hash (full_name pkg task)) ≡ Some task
    by true k rest = absurd (false≢true (sym k))
    by false k rest = rest k

tail_among : (keys : List (List ℕ)) (key task : List ℕ) → Has keys key → behind_hash key ≡ Some task → is_among (tails_of keys) task ≡ true
tail_among [] key task h e = absurd h
tail_among (k ∷ keys) key task h e =
    list_any-append (is_at (name_cmp task)) (option_to_list (behind_hash k)) (tails_of keys) ∙ by h (λ u. tail_among keys key task u e)
  where
    by : (k ≡ key) ⊎ Has keys key → (Has keys key → is_among (tails_of keys) task ≡ true) → (is_among (option_to_list (behind_hash k)) task || is_among (tails_of keys) task) ≡ true
    by (inl s) rest = or_left _ (is_among (tails_of keys) task) (ap (λ o. is_among (option_to_list o) task) (ap behind_hash s ∙ e) ∙ or_left (is_at (name_cmp task) task) false (at_self task))
    by (inr u) rest = or_right (is_among (option_to_list (behind_hash k)) task) _ (rest u)

-- a key of the root, whole or behind its `#`
ends_by : (tasks : Tasks) (pkg task : List ℕ) (entry : Entry) → has_hash pkg ≡ false → at_name tasks (full_name pkg task) ≡ Some entry → ends_in (Some tasks) task ≡ true
unfolding ends_in
ends_by tasks pkg task entry plain e =
    let q = any_has (is_at (name_cmp (full_name pkg task))) (keys_of tasks) (lookup_key (is_at (name_cmp (full_name pkg task))) tasks entry e) in
    tail_among (keys_of tasks) q.0 task q.1 (ap behind_hash (sym (at_is (full_name pkg task) q.0 q.2)) ∙ behind_full pkg task plain)

one_of_three : (a b c : Bool) → (a ≡ true) ⊎ ((b ≡ true) ⊎ (c ≡ true)) → ((a || b) || c) ≡ true
one_of_three true b c h = refl
one_of_three false true c h = refl
one_of_three false false true h = refl
one_of_three false false false (inl h) = h
one_of_three false false false (inr (inl h)) = h
one_of_three false false false (inr (inr h)) = h

own_by : (files : List (List ℕ × PackageConfig)) (pkg task : List ℕ) (entry : Entry) → own_entry files pkg task ≡ Some entry → is_own files task ≡ true
own_by [] pkg task entry e = absurd (none≢some entry e)
own_by (file ∷ files) pkg task entry e = by (is_at (name_cmp pkg) file.0) e (own_by files pkg task entry)
  where
    by : (b : Bool) → option_and_then (λ (config : PackageConfig). at_name config.tasks task) (cond b (Some file.1) (at_name files pkg)) ≡ Some entry → (own_entry files pkg task ≡ Some entry → is_own files task ≡ true)
        → (is_among (keys_of file.1.tasks) task || is_own files task) ≡ true
    by true k rest = or_left _ (is_own files task) (lookup_key (is_at (name_cmp task)) file.1.tasks entry k)
    by false k rest = or_right (is_among (keys_of file.1.tasks) task) _ (rest k)

module _ (tasks : Tasks) (files : List (List ℕ × PackageConfig)) (pkg task : List ℕ) (plain : has_hash pkg ≡ false) where
  abbrev Named : Type 0
  Named = (is_among (keys_of tasks) task ≡ true) ⊎ ((ends_in (Some tasks) task ≡ true) ⊎ (is_own files task ≡ true))

  rooted : (entry : Entry) → root_entry tasks pkg task ≡ Some entry → Named
  rooted entry e = by (at_name tasks (full_name pkg task)) refl e
    where
      by : (o : Option Entry) → at_name tasks (full_name pkg task) ≡ o → option_or o (at_name tasks task) ≡ Some entry → Named
      by None k l = inl (lookup_key (is_at (name_cmp task)) tasks entry l)
      by (Some whole) k l = inr (inl (ends_by tasks pkg task whole plain k))

  merged : (below above : Option Entry) (entry : Entry) → root_entry tasks pkg task ≡ below → own_entry files pkg task ≡ above → merged_entry below above ≡ Some entry → Named
  merged None None entry p q e = absurd (none≢some entry e)
  merged (Some below) None entry p q e = rooted below p
  merged below (Some above) entry p q e = inr (inr (own_by files pkg task above q))

  named_file : is_task_name task ≡ true → Named → is_file_name tasks files task ≡ true
  named_file t n = rw (no_hash task t) (one_of_three _ _ _ n)

  file_name : (entry : Entry) → file_entry tasks files pkg task ≡ Some entry → is_file_name tasks files task ≡ true
  file_name entry e = by (is_task_name task) refl e
    where
      by : (b : Bool) → is_task_name task ≡ b → cond b (merged_entry (root_entry tasks pkg task) (own_entry files pkg task)) None ≡ Some entry → is_file_name tasks files task ≡ true
      by true t k = named_file t (merged (root_entry tasks pkg task) (own_entry files pkg task) entry refl refl k)
      by false t k = absurd (none≢some entry k)

  root_name_of : (entry : Entry) → cond (is_task_name task) (at_name tasks (full_name root_name task)) None ≡ Some entry → is_file_name tasks files task ≡ true
  root_name_of entry e = by (is_task_name task) refl e
    where
      by : (b : Bool) → is_task_name task ≡ b → cond b (at_name tasks (full_name root_name task)) None ≡ Some entry → is_file_name tasks files task ≡ true
      by true t k = named_file t (inr (inl (ends_by tasks root_name task entry refl k)))
      by false t k = absurd (none≢some entry k)

module _ (setup : Setup) (pkg task : List ℕ) (plain : has_hash pkg ≡ false) where
  named_root : (o : Option Tasks) (entry : Entry) → root_task_entry o task ≡ Some entry → is_name_by o setup task ≡ true
  named_root None entry e = absurd (none≢some entry e)
  named_root (Some tasks) entry e = root_name_of tasks setup.packages pkg task plain entry e

  named_by : (o : Option Tasks) (entry : Entry) → entry_by o setup pkg task ≡ Some entry → is_name_by o setup task ≡ true
  named_by None entry e = by (is_script_task setup.scripts task) e
    where
      by : (b : Bool) → cond b (Some no_keys) None ≡ Some entry → b ≡ true
      by true k = refl
      by false k = absurd (none≢some entry k)
  named_by (Some tasks) entry e = file_name tasks setup.packages pkg task plain entry e

  -- of an owner whose name has no `#`
  pub defined_name : (def : TaskDef) → task_def setup pkg task ≡ Some def → is_name setup task ≡ true
  unfolding task_def is_name
  defined_name def e = by (entry_of setup pkg task) refl e
    where
      of_root : (b : Bool) (entry : Entry) → cond b (root_task_entry setup.root task) (entry_by setup.root setup pkg task) ≡ Some entry → is_name_by setup.root setup task ≡ true
      of_root true entry k = named_root setup.root entry k
      of_root false entry k = named_by setup.root entry k

      by : (o : Option Entry) → entry_of setup pkg task ≡ o → option_map def_of o ≡ Some def → is_name_by setup.root setup task ≡ true
      by None k l = absurd (none≢some def l)
      by (Some entry) k l = of_root (is_root_name pkg) entry k

-- Lists of tasks, one item after another.
use Rattle.std.proofs.Common.{◌≡◌, ◌+◌, ◌<◌, ℕ, Bool, true, false, List, [], ◌∷◌, ◌++◌, length, get_or, drop, refl, sym, append_assoc}
use Rattle.std.specs.Prelude.{Option, Some, None, is_some, find}
use Rattle.std.proofs.lemmas.Bool.{false≢true}
use Rattle.std.proofs.lemmas.List.{drop_more}
use Rattle.task_definitions.specs.Setup.{Setup}
use Rattle.turbo_config.specs.declared.task_id.TaskId.{TaskId}
use Rattle.workspaces.specs.declared.member.Package.{Package}
use Rattle.workspaces.specs.Steps.{name_at}
use Rattle.task_graph.specs.Ids.{task_id}
use Rattle.task_graph.specs.Tasks.{has_def, tasks_in}

module _ (owners : List Package) (config : Setup) (places : List ℕ) (name : List ℕ) (tasks : List TaskId) (i : ℕ) where
  -- one more owner, with a definition
  pub tasks_added : i < length places → has_def config (task_id (name_at owners (get_or places i 0)) name) ≡ true
      → (tasks ++ task_id (name_at owners (get_or places i 0)) name ∷ []) ++ tasks_in owners config (drop (i + 1) places) name ≡ tasks ++ tasks_in owners config (drop i places) name
  tasks_added less e = rw (drop_more places i 0 less, e) (append_assoc tasks (task_id (name_at owners (get_or places i 0)) name ∷ []) (tasks_in owners config (drop (i + 1) places) name))

  -- and without one
  pub tasks_passed : i < length places → has_def config (task_id (name_at owners (get_or places i 0)) name) ≡ false
      → tasks ++ tasks_in owners config (drop (i + 1) places) name ≡ tasks ++ tasks_in owners config (drop i places) name
  tasks_passed less e = rw (drop_more places i 0 less, e) refl

-- the first of two that is there
abbrev pub or_first : {X : Type 0} → Option X → Option X → Option X
or_first None later = later
or_first (Some x) later = Some x

module _ {X : Type 0} (P : X → Bool) (xs : List X) (i : ℕ) (x : X) (old : Option X) (next : drop i xs ≡ x ∷ drop (i + 1) xs) where
  -- the first that passes
  pub first_found : is_some old ≡ false → P x ≡ true → or_first (Some x) (find P (drop (i + 1) xs)) ≡ or_first old (find P (drop i xs))
  first_found none passes = rw (next, passes) (by old none) where
    by : (o : Option X) → is_some o ≡ false → Some x ≡ or_first o (Some x)
    by None none = refl
    by (Some y) none = absurd (false≢true (sym none))

  -- one that was found before stays
  pub found_before : is_some old ≡ true → or_first old (find P (drop (i + 1) xs)) ≡ or_first old (find P (drop i xs))
  found_before some = by old some where
    by : (o : Option X) → is_some o ≡ true → or_first o (find P (drop (i + 1) xs)) ≡ or_first o (find P (drop i xs))
    by None some = absurd (false≢true some)
    by (Some y) some = refl

  pub not_found : P x ≡ false → or_first old (find P (drop (i + 1) xs)) ≡ or_first old (find P (drop i xs))
  not_found fails = rw (next, fails) refl

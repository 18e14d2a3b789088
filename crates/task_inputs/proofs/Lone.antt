-- The configured tasks of a package, each by itself.
use Rattle.std.proofs.Common.{◌≡◌, ℕ, Bool, true, false, cond, List, [], ◌∷◌, map, filter, refl, ap, ◌∙◌, ◌||◌}
use Rattle.std.specs.Prelude.{Option, Some, None, not, ◌&&◌}
use Rattle.std.specs.Option.{option_map}
use Rattle.std.specs.List.{filter_map, cons_option, list_any}
use Rattle.rel_path.specs.Paths.{Path, name_eq}
use Rattle.globs.specs.declared.out_set.OutSet.{OutSet}
use Rattle.globs.specs.Outputs.{takes, declares, any_declares}
use Rattle.task_definitions.specs.Setup.{Setup, task_def}
use Rattle.turbo_config.specs.declared.entry.TaskDef.{TaskDef}
use Rattle.task_inputs.specs.declared.configured.LoneTask.{LoneTask}
use Rattle.task_inputs.specs.Homes.{Configured, configured_by, configured_in, others_than}
use Rattle.task_inputs.specs.Lone.{lone, lone_tasks, as_configured, IsHome, rest_of}

and_true : (a : Bool) → (a && true) ≡ a
and_true true = refl
and_true false = refl

-- alone, a task owns what it declares
pub lone_takes : (folder : Path) (outputs : List (List ℕ)) (path : Path) → takes (lone folder outputs) path ≡ declares outputs folder path
unfolding takes any_declares
lone_takes folder outputs path = and_true (declares outputs folder path)

pub lone_declares : (folder path : Path) (tasks : List LoneTask) → IsHome folder tasks → list_any (λ (t : LoneTask). takes t.outs path) tasks ≡ list_any (λ (t : Configured). declares t.outputs folder path) (map as_configured tasks)
lone_declares folder path [] home = refl
lone_declares folder path (t ∷ ts) home =
    ap (λ (o : OutSet). takes o path || list_any (λ (u : LoneTask). takes u.outs path) ts) home.0
    ∙ ap (λ b. b || list_any (λ (u : LoneTask). takes u.outs path) ts) (lone_takes folder t.outs.mine path)
    ∙ ap (λ b. declares t.outs.mine folder path || b) (lone_declares folder path ts home.1)

-- the tasks of a package with a definition, each by itself in the folder, are its configured tasks
module _ (setup : Setup) (name : List ℕ) (folder : Path) where
  pub lone_configured : (scripts : List (List ℕ × List ℕ)) → map as_configured (lone_tasks setup name folder scripts) ≡ configured_in setup name scripts
  unfolding configured_in
  lone_configured [] = refl
  lone_configured (s ∷ ss) = by (task_def setup name s.0) (lone_configured ss) where
    by : (def : Option TaskDef) → map as_configured (lone_tasks setup name folder ss) ≡ filter_map (configured_by setup name) ss → map as_configured (cons_option (option_map (λ (d : TaskDef). record { task = s.0; outs = lone folder d.outputs }) def) (lone_tasks setup name folder ss)) ≡ cons_option (option_map (λ (d : TaskDef). record { task = s.0; outputs = d.outputs }) def) (filter_map (configured_by setup name) ss)
    by None more = more
    by (Some d) more = ap (λ (ts : List Configured). record { task = s.0; outputs = d.outputs } ∷ ts) more

  pub lone_home : (scripts : List (List ℕ × List ℕ)) → IsHome folder (lone_tasks setup name folder scripts)
  lone_home [] = tt
  lone_home (s ∷ ss) = by (task_def setup name s.0) (lone_home ss) where
    by : (def : Option TaskDef) → IsHome folder (lone_tasks setup name folder ss) → IsHome folder (cons_option (option_map (λ (d : TaskDef). record { task = s.0; outs = lone folder d.outputs }) def) (lone_tasks setup name folder ss))
    by None more = more
    by (Some d) more = (refl, more)

-- the outputs of the others
pub others_of : (task : List ℕ) (tasks : List LoneTask) → rest_of task tasks ≡ others_than task (map as_configured tasks)
others_of task [] = refl
others_of task (t ∷ ts) = by (name_eq t.task task) (others_of task ts) where
  by : (b : Bool) → rest_of task ts ≡ others_than task (map as_configured ts) → map (λ (u : LoneTask). u.outs.mine) (cond (not b) (t ∷ filter (λ (u : LoneTask). not (name_eq u.task task)) ts) (filter (λ (u : LoneTask). not (name_eq u.task task)) ts)) ≡ map (λ (u : Configured). u.outputs) (cond (not b) (as_configured t ∷ filter (λ (u : Configured). not (name_eq u.task task)) (map as_configured ts)) (filter (λ (u : Configured). not (name_eq u.task task)) (map as_configured ts)))
  by true more = more
  by false more = ap (λ ls. t.outs.mine ∷ ls) more

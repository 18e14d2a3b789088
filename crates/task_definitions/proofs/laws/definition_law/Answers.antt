use Rattle.std.proofs.Common.{◌≡◌, ℕ, Bool, true, false, cond, List, refl}
use Rattle.std.specs.Prelude.{Option, Some, None, ◌&&◌}
use Rattle.std.specs.Option.{option_map}
use Rattle.turbo_config.specs.declared.entry.Entry.{Entry}
use Rattle.turbo_config.specs.declared.entry.TaskDef.{TaskDef}
use Rattle.turbo_config.specs.Names.{root_name, full_name, is_root_name, is_task_name}
use Rattle.turbo_config.specs.Entries.{at_name, def_of}
use Rattle.task_definitions.specs.Setup.{Tasks, Setup, root_task_entry, entry_by, task_def}
use Rattle.task_definitions.proofs.laws.definition_law.Goals as goal

by_test : (named : Bool) (entry : Option Entry) (def : TaskDef) → option_map def_of (cond named entry None) ≡ Some def → named ≡ true
by_test true entry def e = refl
by_test false entry def e = cc

by_both : (named there : Bool) (entry : Option Entry) (def : TaskDef) → option_map def_of (cond (named && there) entry None) ≡ Some def → named ≡ true
by_both true there entry def e = refl
by_both false there entry def e = cc

of_root : (root : Option Tasks) (setup : Setup) (pkg task : List ℕ) (def : TaskDef) → option_map def_of (entry_by root setup pkg task) ≡ Some def → is_task_name task ≡ true
of_root None setup pkg task def e = by_both _ _ _ def e
of_root (Some tasks) setup pkg task def e = by_test _ _ def e

of_root_task : (root : Option Tasks) (task : List ℕ) (def : TaskDef) → option_map def_of (root_task_entry root task) ≡ Some def → is_task_name task ≡ true
of_root_task None task def e = absurd (cc)
of_root_task (Some tasks) task def e = by_test (is_task_name task) (at_name tasks (full_name root_name task)) def e

of_package : (is_root : Bool) (setup : Setup) (pkg task : List ℕ) (def : TaskDef) → option_map def_of (cond is_root (root_task_entry setup.root task) (entry_by setup.root setup pkg task)) ≡ Some def → is_task_name task ≡ true
of_package true setup pkg task def e = of_root_task setup.root task def e
of_package false setup pkg task def e = of_root setup.root setup pkg task def e

pub returns : goal.returns
unfolding task_def
returns c = λ setup pkg task def e. of_package (is_root_name pkg) setup pkg task def e

-- How the tables of a run go with what runs.
use Rattle.std.specs.Prelude.{◌≡◌, ℕ, Bool, true, false, Some}
use Rattle.spawn_dev.specs.declared.command.Command.{Command}
use Rattle.spawn_dev.specs.Spawn.{Runs, live}
use Rattle.run_core.specs.declared.states.State.{State}
use Rattle.run_core.specs.declared.states.State.TheVariants.{Waiting, Missed, Running, Passed, Ended, Left}
use Rattle.run_core.specs.Machine.{States, runs}
use Rattle.run_laws.specs.Ancestors.{part_at, has_script}
use Rattle.run_plan.specs.declared.plan.Plan.{Plan}
use Rattle.run_plan.specs.Commands.{command_of}

-- each command that runs is that of its task, which has a script
pub record AreOurs {B : Type 0} (plan : Plan) (world : Runs B) : Type 0 where
  pub command : (t : ℕ) (command : Command) → world.at t ≡ Some command
      → command ≡ command_of plan t
  pub scripts : (t : ℕ) (command : Command) → world.at t ≡ Some command
      → has_script (part_at plan.listing t) ≡ true

-- a missed task, or one whose command runs
abbrev pub is_begun : State → Bool
is_begun Waiting = false
is_begun Missed = true
is_begun Running = true
is_begun Passed = false
is_begun (Ended s) = false
is_begun Left = false

-- what the scheduler says that runs is what runs
pub record InStep {B : Type 0} (plan : Plan) (st : States) (world : Runs B) : Type 0 where
  pub live_is : (t : ℕ) → live world t ≡ runs (st t)
  pub ours : AreOurs plan world
  pub scripts : (t : ℕ) → is_begun (st t) ≡ true → has_script (part_at plan.listing t) ≡ true

use Rattle.std.proofs.Common.{sym, subst}
use Rattle.std.specs.Prelude.{IsTrue}
use Rattle.rel_path.specs.Paths.{is_component}
use Rattle.run_plan.proofs.Spelling.{log-component}
use Rattle.run_plan.proofs.plan.Plan.log_path.Goals as goal

pub child-requires-2 : goal.child-requires-2
child-requires-2 c = subst (λ name. IsTrue (is_component name)) (sym c.in_ok-name.ensures.name) (log-component c.as_str.result.now)

use Rattle.std.proofs.Common.{◌≡◌, ◌&&◌, ℕ, List, true, sym, refl, ap, ◌∙◌, Option, Some, None, is_some, MatchOption}
use Rattle.std.proofs.lemmas.Bool.{false≢true}
use Rattle.std.proofs.lemmas.Result.{IfOk-weaker}
use Rattle.workspaces.specs.Space.{Space, owner_named, IsOwnerAt}
use Rattle.task_graph.specs.Tasks.{has_def}
use Rattle.task_graph.proofs.Named.{owner_held}
use Rattle.task_graph.proofs.lookup.is_task.Goals as goal

there : (space : Space) (name : List ℕ) (r : Option ℕ) → MatchOption r (owner_named space name ≡ None) (IsOwnerAt space name) → is_some r ≡ true → is_some (owner_named space name) ≡ true
there space name None found some = absurd (false≢true some)
there space name (Some o) found some = let held = owner_held space name o (λ member. owner_named space name ≡ Some member) found found.1 in rw held.1 refl

pub returns-clause-value : goal.returns-clause-value
returns-clause-value c =
    let is = there c.args.packages.now c.args.id.now.«package» c.owner_of.result c.owner_of.ensures c.if-is_none.ensures in
    IfOk-weaker c.has_def.result _ _ (λ has e. e ∙ ap (λ t. t && has_def c.args.config.now c.args.id.now) (sym is)) c.has_def.ensures.value

use Rattle.std.proofs.Common.{◌≡◌, ℕ, sym, ap, ◌∙◌}
use Rattle.std.specs.List.{HoldsAt}
use Rattle.manifest.specs.declared.manifest.Manifest.{Manifest}
use Rattle.turbo_config.specs.declared.task_id.TaskId.{TaskId}
use Rattle.workspaces.specs.declared.member.Package.{Package}
use Rattle.workspaces.specs.Edges.{has_name}
use Rattle.workspaces.specs.Space.{Space, owners, IsOwnerAt}
use Rattle.task_graph.specs.Persistent.{has_script, script_in}
use Rattle.task_graph.proofs.Named.{owner_held}
use Rattle.task_graph.proofs.persistent.has_script.Goals as goal

script_is : (space : Space) (id : TaskId) (o : ℕ) (m : Manifest) → IsOwnerAt space id.«package» o → HoldsAt (λ (member : Package). m ≡ member.manifest) (owners space) o → has_name id.task m.scripts ≡ has_script space id
script_is space id o m owner manifest =
    let found = owner_held space id.«package» o (λ (member : Package). m ≡ member.manifest) owner manifest in
    ap (λ (n : Manifest). has_name id.task n.scripts) found.2 ∙ sym (ap (λ w. script_in w id.task) found.1)

pub returns-in-Some : goal.returns-in-Some
returns-in-Some c = c.has_name.ensures ∙ script_is c.args.packages.now c.args.id.now c.in-Some.owner c.manifest.result.now c.in-Some.ensures c.manifest.ensures

use Rattle.std.proofs.Common.{◌≡◌, arith}
use Rattle.workspaces.specs.declared.member.Package.{Package}
use Rattle.workspaces.proofs.Owners.{at_package}
use Rattle.repository.proofs.Homes.{next_member}
use Rattle.repository.proofs.configs.script_names.Goals as goal

pub loop-p-preserved : goal.loop-p-preserved
loop-p-preserved c =
    let space = c.args.packages.now in
    let manifest = c.manifest.result.now in
    next_member space.packages c.loop-p.p manifest c.loop-p.names c.add_names.new.names c.as_slice.result.now (omega arith)
    (at_package (λ (p : Package). manifest ≡ p.manifest) space c.loop-p.p c.manifest.ensures (omega arith)) c.as_slice.ensures c.in_ok-add_names.ensures.added c.loop-p.invariant

use Rattle.std.proofs.Common.{◌≡◌, subst, length, arith}
use Rattle.workspaces.specs.Space.{owners}
use Rattle.workspaces.proofs.Owners.{owners_count}
use Rattle.kept_packages.specs.Needs.{Gains}
use Rattle.kept_packages.proofs.Gains.{there, gains_none}
use Rattle.kept_packages.proofs.Needing.{IsBefore, before_none, before_next, all_before}
use Rattle.kept_packages.proofs.needs.add_all.Goals as goal

pub loop-p-init : goal.loop-p-init
loop-p-init c = gains_none c.args.packages.now (IsBefore c.args.packages.now 0) c.args.found.now.items (before_none c.args.packages.now)

pub loop-p-preserved : goal.loop-p-preserved
loop-p-preserved c = before_next c.args.packages.now c.loop-p.p c.args.found.now.items c.loop-p.found.items c.push.new.self.items (omega (arith, c.loop-p-test.true)) c.in_ok-push.ensures.items c.loop-p.invariant

pub returns-clause-added : goal.returns-clause-added
returns-clause-added c =
    let space = c.args.packages.now in
    let p = there (owners space) c.args.owner c.requires in
    let root : c.args.owner ≡ length space.packages = omega (arith, c.requires, owners_count space, c.count.ensures.value, c.if-owner-count.false) in
    let all : c.loop-p.p ≡ length space.packages = omega (arith, c.loop-p-test.false, c.count-p-end.ensures.value, c.loop-p.auto.p-end) in
    all_before space c.args.owner p.0 p.1 c.args.found.now.items c.loop-p.found.items root (subst (λ n. Gains space (IsBefore space n) c.args.found.now.items c.loop-p.found.items) all c.loop-p.invariant)

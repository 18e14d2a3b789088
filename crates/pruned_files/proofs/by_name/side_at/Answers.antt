use Rattle.std.proofs.Common.{◌≡◌, ◌∙◌, ℕ, length, sym, subst, true, false, arith}
use Rattle.workspaces.proofs.Owners.{owners_count}
use Rattle.pruned_files.specs.declared.by_name.Side.TheVariants.{Root}
use Rattle.pruned_files.specs.Calls.{side_at}
use Rattle.pruned_files.proofs.Members.{side_root, side_is}
use Rattle.pruned_files.proofs.by_name.side_at.Goals as goal

pub returns-then-owner-count : goal.returns-then-owner-count
returns-then-owner-count c =
    let space = c.args.packages.now in
    let last : length space.packages ≡ c.args.owner = omega (arith, c.if-owner-count.true, c.count.ensures.value, c.requires, owners_count space) in
    subst (λ (n : ℕ). Root ≡ side_at space n) last (sym (side_root space))

pub returns-then-is_before_root : goal.returns-then-is_before_root
returns-then-is_before_root c = side_is c.args.packages.now c.args.owner true (omega (arith, c.if-owner-count.false, c.count.ensures.value)) (λ d. sym c.if-is_before_root.true ∙ c.is_before_root.ensures d)

pub returns-else-is_before_root : goal.returns-else-is_before_root
returns-else-is_before_root c = side_is c.args.packages.now c.args.owner false (omega (arith, c.if-owner-count.false, c.count.ensures.value)) (λ d. sym c.if-is_before_root.false ∙ c.is_before_root.ensures d)

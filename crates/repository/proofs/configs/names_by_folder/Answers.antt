use Rattle.std.proofs.Common.{◌≡◌, ◌∙◌, ◌-◌, [], refl, drop, arith}
use Rattle.std.proofs.lemmas.List.{drop_all}
use Rattle.workspaces.specs.declared.member.Package.{Package}
use Rattle.workspaces.proofs.Owners.{at_package}
use Rattle.repository.proofs.Homes.{home_before, no_homes}
use Rattle.repository.proofs.configs.names_by_folder.Goals as goal

pub loop-p-init : goal.loop-p-init
loop-p-init c =
    let none : drop c.count-p.result c.args.packages.now.packages ≡ [] = drop_all c.count-p.result c.args.packages.now.packages (omega arith) in
    rw (c.new-names.ensures.empty, none, no_homes) refl

pub loop-p-preserved : goal.loop-p-preserved
loop-p-preserved c =
    let space = c.args.packages.now in
    let folder = c.folder.result.now in
    let name = c.name.result.now in
    let p = c.loop-p.p in
    c.in_ok-insert.ensures.entries ∙ rw (c.loop-p.invariant, c.in_ok-copy.ensures.value, c.in_ok-copy-2.ensures.value)
    (home_before space.packages p folder name (omega arith) (omega arith) c.count-p.ensures.proper.apart
    (at_package (λ (q : Package). folder ≡ q.folder) space (p - 1) c.folder.ensures (omega arith))
    (at_package (λ (q : Package). name ≡ q.name) space (p - 1) c.name.ensures (omega arith)))

pub loop-p-preserved-in_ok-insert : goal.loop-p-preserved-in_ok-insert
loop-p-preserved-in_ok-insert c =
    let space = c.args.packages.now in
    let folder = c.folder.result.now in
    let name = c.name.result.now in
    let p = c.loop-p.p in
    c.in_ok-insert.ensures.entries ∙ rw (c.loop-p.invariant, c.in_ok-copy.ensures.value, c.in_ok-copy-2.ensures.value)
    (home_before space.packages p folder name (omega arith) (omega arith) c.count-p.ensures.proper.apart
    (at_package (λ (q : Package). folder ≡ q.folder) space (p - 1) c.folder.ensures (omega arith))
    (at_package (λ (q : Package). name ≡ q.name) space (p - 1) c.name.ensures (omega arith)))

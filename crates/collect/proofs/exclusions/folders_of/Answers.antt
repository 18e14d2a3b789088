use Rattle.std.proofs.Common.{◌≡◌, ◌<◌, ◌-◌, length, map, drop, ap, ◌∙◌, arith}
use Rattle.rel_path.specs.Paths.{path_cmp}
use Rattle.workspaces.specs.declared.member.Package.{Package}
use Rattle.workspaces.specs.Lists.{ascending}
use Rattle.workspaces.proofs.Owners.{package_less, at_package}
use Rattle.collect.proofs.Lists.{there}
use Rattle.collect.proofs.Ascending.{folder_more, folders_none}
use Rattle.collect.proofs.exclusions.folders_of.Goals as goal

pub loop-p-init : goal.loop-p-init
loop-p-init c = record {
  within = omega (arith, c.count-p.ensures.value);
  keys = folders_none c.args.packages.now.packages c.count-p.result c.new-folders.result.keys c.count-p.ensures.value c.new-folders.ensures.empty;
}

pub folder-requires : goal.folder-requires
folder-requires c = package_less c.args.packages.now (c.loop-p.p - 1) (omega (arith, c.loop-p-test.true, c.loop-p.invariant.within))

pub loop-p-preserved : goal.loop-p-preserved
loop-p-preserved c =
    let space = c.args.packages.now in
    let lt : c.loop-p.p - 1 < length space.packages = omega (arith, c.loop-p-test.true, c.loop-p.invariant.within) in
    let d = (there space.packages (c.loop-p.p - 1) lt).0 in
    record {
      within = omega (arith, c.loop-p.invariant.within);
      keys = folder_more space.packages (c.loop-p.p - 1) c.loop-p.p d c.in_ok-copy.field-0 c.loop-p.folders.keys c.insert.new.self.keys lt (omega (arith, c.loop-p-test.true))
          (c.in_ok-copy.ensures.value ∙ at_package (λ m. c.folder.result.now ≡ m.folder) space (c.loop-p.p - 1) c.folder.ensures lt d) c.loop-p.invariant.keys c.in_ok-insert.ensures.keys;
    }

pub returns-clause-value : goal.returns-clause-value
returns-clause-value c =
    let space = c.args.packages.now in
    let all : c.loop-p.p ≡ 0 = omega (arith, c.loop-p-test.false) in
    c.loop-p.invariant.keys ∙ ap (λ k. ascending path_cmp (map (λ (m : Package). m.folder) (drop k space.packages))) all

use Rattle.std.proofs.Common.{◌≡◌, ◌∙◌, ◌+◌, ◌++◌, ◌∷◌, ◌⊎◌, ap, sym, subst, refl, arith, drop, take, [], Ok, Err}
use Rattle.std.proofs.lemmas.List.{take_more, drop_all}
use Rattle.tree_dev.specs.Tree.{within}
use Rattle.workspaces.specs.Space.{manifest_in, package_at, packages_at}
use Rattle.rel_path.specs.Limits.{file_limit}
use Rattle.workspaces.specs.declared.error.SpaceErr.TheVariants.{OutOfMemory, Failed}
use Rattle.workspaces.proofs.Loops.{turn}
use Rattle.workspaces.proofs.ReadIn.{one_more, refused_or, all_read, nothing_yet, none_read, read_some, opened}
use Rattle.workspaces.proofs.reading.read_packages.Goals as goal

pub read_package-requires : goal.read_package-requires
read_package-requires g c = λ path. ap (λ held. held path) c.loop-folder.invariant.looks.held ∙ c.requires.held path

pub loop-folder-init : goal.loop-folder-init
loop-folder-init g c = record {
  looks = record { files = refl; rest = refl; held = refl; reach = refl; faults = omega arith };
  faults = refl;
  own = rw c.new-packages.ensures.items none_read;
  found = λ told. rw c.new-packages.ensures.items (nothing_yet (packages_at (g.T.Tree.state c.args.tree.now).files c.args.folders.now));
}

pub loop-folder-preserved : goal.loop-folder-preserved
loop-folder-preserved g c =
    let inv = c.loop-folder.invariant in
    let after = c.in-Ok.ensures in
    let files = (g.T.Tree.state c.args.tree.now).files in
    let folders = c.args.folders.now in
    let i = c.loop-folder.folder-index in
    let folder = c.folder-item.result in
    let next = turn folders i folder (c.loop-folder-test.true, c.folder-item.is) in
    let more : take (i + 1) folders ≡ take i folders ++ folder ∷ [] = take_more folders i folder c.loop-folder-test.true ∙ ap (λ f. take i folders ++ f ∷ []) (sym c.folder-item.is) in
    record {
      looks = record {
        files = after.looks.files ∙ inv.looks.files;
        rest = after.looks.rest ∙ inv.looks.rest;
        held = after.looks.held ∙ inv.looks.held;
        reach = after.looks.reach ∙ inv.looks.reach;
        faults = omega (arith, after.looks.faults, inv.looks.faults);
      };
      faults = after.cause.counted ∙ inv.faults;
      own = rw (more, c.in_ok-push_some-in-Ok.ensures.pushed) (read_some (take i folders) (drop (i + 1) folders) folder c.loop-folder.packages.items c.in-Ok.package (opened folders i folder c.requires.ascend next) inv.own after.own);
      found = λ told. rw c.in_ok-push_some-in-Ok.ensures.pushed
          (one_more files folders (drop i folders) (drop (i + 1) folders) folder c.loop-folder.packages.items c.in-Ok.package (inv.found told) next
          (subst (λ fs. package_at folder (within file_limit (fs (manifest_in folder))) ≡ Ok c.in-Ok.package) inv.looks.files (after.found told)));
    }

pub returns-in-Err-clause-found : goal.returns-in-Err-clause-found
returns-in-Err-clause-found g c = λ told.
    let inv = c.loop-folder.invariant in
    let files = (g.T.Tree.state c.args.tree.now).files in
    let folders = c.args.folders.now in
    let i = c.loop-folder.folder-index in
    let folder = c.folder-item.result in
    let next = turn folders i folder (c.loop-folder-test.true, c.folder-item.is) in
    refused_or files folders (drop i folders) (drop (i + 1) folders) folder c.loop-folder.packages.items c.in-Err.fault (inv.found told) next
    (subst (λ fs. (c.in-Err.fault ≡ OutOfMemory) ⊎ ((c.in-Err.fault ≡ Failed) ⊎ (package_at folder (within file_limit (fs (manifest_in folder))) ≡ Err c.in-Err.fault))) inv.looks.files (c.in-Err.ensures.found told))

pub returns-clause-found : goal.returns-clause-found
returns-clause-found g c = λ told.
    let left : drop c.loop-folder.folder-index c.args.folders.now ≡ [] = drop_all c.loop-folder.folder-index c.args.folders.now (omega (arith, c.loop-folder-test.false)) in
    all_read (g.T.Tree.state c.args.tree.now).files c.args.folders.now (drop c.loop-folder.folder-index c.args.folders.now) c.loop-folder.packages.items (c.loop-folder.invariant.found told) left

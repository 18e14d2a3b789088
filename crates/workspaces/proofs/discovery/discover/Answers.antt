use Rattle.std.proofs.Common.{◌≡◌, ◌∙◌, Ok, ap, sym}
use Rattle.std.proofs.lemmas.Result.{err_from_is_err_and}
use Rattle.rel_path.specs.Paths.{path_cmp}
use Rattle.rel_path.proofs.PathLaws.{path_cmp_total}
use Rattle.workspaces.specs.Space.{Space, folders_in}
use Rattle.workspaces.specs.Entries.{globs_of}
use Rattle.workspaces.proofs.Order.{sorted-ascending}
use Rattle.workspaces.proofs.Apart.{all_below_root}
use Rattle.workspaces.proofs.Walked.{all_walked, found_walked}
use Rattle.workspaces.proofs.Discovering.{bad_globs, bad_read, bad_check, whole, maps_ascend, all_found}
use Rattle.workspaces.proofs.discovery.discover.Goals as goal

pub returns-in_err-globs-clause-found : goal.returns-in_err-globs-clause-found
returns-in_err-globs-clause-found g c =
    let error = err_from_is_err_and c.from_residual.result c.from_residual.ensures.1 in
    rw (error.1, error.2) (λ told. bad_globs (g.T.Tree.state c.args.tree.now).files c.args.walk.now c.args.root _ c.in_err-globs.ensures.found)

pub read_packages-requires-clause-ascend : goal.read_packages-requires-clause-ascend
unfolding folders_in
read_packages-requires-clause-ascend g c = rw (c.as_slice-2.ensures.value, c.in_ok-folders.ensures.value) (sorted-ascending path_cmp path_cmp_total _)

pub returns-in-Err-clause-found : goal.returns-in-Err-clause-found
returns-in-Err-clause-found g c =
    let files = (g.T.Tree.state c.args.tree.now).files in
    let are : c.as_slice-2.result.now ≡ folders_in (globs_of c.args.root) c.args.walk.now = c.as_slice-2.ensures.value ∙ (c.in_ok-folders.ensures.value ∙ (ap (λ gs. folders_in gs c.as_slice.result.now) c.in_ok-globs.ensures.found.1 ∙ ap (λ w. folders_in (globs_of c.args.root) w) c.as_slice.ensures)) in
    λ told. bad_read files c.args.walk.now c.args.root c.as_slice-2.result.now c.in_ok-globs.ensures.found.0 are c.in-Err.fault (c.in-Err.ensures.found told)

pub returns-in_err-packages-clause-found : goal.returns-in_err-packages-clause-found
returns-in_err-packages-clause-found g c =
    let files = (g.T.Tree.state c.args.tree.now).files in
    let are : c.as_slice-2.result.now ≡ folders_in (globs_of c.args.root) c.args.walk.now = c.as_slice-2.ensures.value ∙ (c.in_ok-folders.ensures.value ∙ (ap (λ gs. folders_in gs c.as_slice.result.now) c.in_ok-globs.ensures.found.1 ∙ ap (λ w. folders_in (globs_of c.args.root) w) c.as_slice.ensures)) in
    let error = err_from_is_err_and c.from_residual-in_err-packages.result c.from_residual-in_err-packages.ensures.1 in
    rw (error.1, error.2) (λ told. bad_check files c.args.walk.now c.args.root c.as_slice-2.result.now c.in_ok-globs.ensures.found.0 are c.in-Ok.packages.items _ (c.in-Ok.ensures.found told) c.in_err-packages.ensures.found)

pub new-requires-clause-fit : goal.new-requires-clause-fit
new-requires-clause-fit g c =
    let p = c.in_ok-packages.ensures in
    record {
      names = p.names;
      few = p.few;
      maps = rw p.found.1 (maps_ascend c.as_slice-2.result.now c.in-Ok.packages.items c.in-Ok.ensures.own);
    }

pub new-requires-clause-proper : goal.new-requires-clause-proper
new-requires-clause-proper g c =
    let are : c.as_slice-2.result.now ≡ folders_in (globs_of c.args.root) c.args.walk.now = c.as_slice-2.ensures.value ∙ (c.in_ok-folders.ensures.value ∙ (ap (λ gs. folders_in gs c.as_slice.result.now) c.in_ok-globs.ensures.found.1 ∙ ap (λ w. folders_in (globs_of c.args.root) w) c.as_slice.ensures)) in
    let p = c.in_ok-packages.ensures in
    record {
      names = p.names;
      below_root = rw p.found.1 (all_below_root (globs_of c.args.root) c.args.walk.now c.as_slice-2.result.now c.in-Ok.packages.items are c.in-Ok.ensures.own);
      apart = p.apart;
    }

pub returns-clause-found : goal.returns-clause-found
returns-clause-found g c =
    let files = (g.T.Tree.state c.args.tree.now).files in
    let are : c.as_slice-2.result.now ≡ folders_in (globs_of c.args.root) c.args.walk.now = c.as_slice-2.ensures.value ∙ (c.in_ok-folders.ensures.value ∙ (ap (λ gs. folders_in gs c.as_slice.result.now) c.in_ok-globs.ensures.found.1 ∙ ap (λ w. folders_in (globs_of c.args.root) w) c.as_slice.ensures)) in
    let p = c.in_ok-packages.ensures in
    let space : Space = record { root = c.args.root; packages = c.in_ok-packages.packages.items } in
    λ told. all_found _ space c.new.result
    (whole files c.args.walk.now c.args.root c.as_slice-2.result.now c.in_ok-globs.ensures.found.0 are c.in-Ok.packages.items (c.in-Ok.ensures.found told) p.found.0 ∙ ap (λ ps. Ok (record { root = c.args.root; packages = ps })) (sym p.found.1))
    c.new.ensures.value c.new.ensures.memory

pub returns-clause-walked : goal.returns-clause-walked
returns-clause-walked g c =
    let are : c.as_slice-2.result.now ≡ folders_in (globs_of c.args.root) c.args.walk.now = c.as_slice-2.ensures.value ∙ (c.in_ok-folders.ensures.value ∙ (ap (λ gs. folders_in gs c.as_slice.result.now) c.in_ok-globs.ensures.found.1 ∙ ap (λ w. folders_in (globs_of c.args.root) w) c.as_slice.ensures)) in
    let p = c.in_ok-packages.ensures in
    let space : Space = record { root = c.args.root; packages = c.in_ok-packages.packages.items } in
    found_walked c.args.walk.now space c.new.result c.new.ensures.value
    (rw p.found.1 (all_walked (globs_of c.args.root) c.args.walk.now c.as_slice-2.result.now c.in-Ok.packages.items are c.in-Ok.ensures.own))

use Rattle.std.proofs.Common.{◌≡◌, ◌∙◌, length, map, ap, subst, sym}
use Rattle.std.specs.List.{AllByRecursion}
use Rattle.std.specs.List.Sorted.{IsStrictlySortedBy}
use Rattle.std.specs.Ordering.{nat_cmp}
use Rattle.workspaces.specs.Reach.{AreRowsBelow}
use Rattle.workspaces.specs.Turned.{Turned}
use Rattle.std.proofs.lemmas.Result.{err_from_is_err_and}
use Rattle.workspaces.specs.declared.member.Package.{Package}
use Rattle.workspaces.specs.Space.{IsProper, root_package}
use Rattle.workspaces.specs.Members.{edges_of, needs_by}
use Rattle.workspaces.proofs.MemberRows.{edges_below, edges_ascend, users_are}
use Rattle.workspaces.proofs.packages.Packages.new.Goals as goal

pub users_of-requires-clause-rows : goal.users_of-requires-clause-rows
users_of-requires-clause-rows c =
    let packages = c.args.packages.items in
    let rows : c.as_slice-2.result.now ≡ map (edges_of packages) packages = c.as_slice-2.ensures.value ∙ (c.in_ok-edges.ensures.value ∙ ap (λ ps. map (edges_of ps) ps) c.as_slice.ensures.value) in
    subst (λ rs. AreRowsBelow (length rs) rs) (sym rows) (edges_below packages)

pub users_of-requires-clause-ascend : goal.users_of-requires-clause-ascend
users_of-requires-clause-ascend c =
    let packages = c.args.packages.items in
    let rows : c.as_slice-2.result.now ≡ map (edges_of packages) packages = c.as_slice-2.ensures.value ∙ (c.in_ok-edges.ensures.value ∙ ap (λ ps. map (edges_of ps) ps) c.as_slice.ensures.value) in
    subst (λ rs. AllByRecursion (IsStrictlySortedBy nat_cmp) rs) (sym rows) (edges_ascend packages)

pub invariant_of-result : goal.invariant_of-result
unfolding edges_of needs_by
invariant_of-result c =
    let is : c.in_ok-root.root ≡ root_package c.args.root = c.in_ok-root.ensures.value in
    let manifest : c.in_ok-root.root.manifest ≡ c.args.root = ap (λ (p : Package). p.manifest) is in
    let packages = c.args.packages.items in
    let edges : c.in_ok-edges.edges.items ≡ map (edges_of packages) packages = c.in_ok-edges.ensures.value ∙ ap (λ ps. map (edges_of ps) ps) c.as_slice.ensures.value in
    let rows : c.as_slice-2.result.now ≡ map (edges_of packages) packages = c.as_slice-2.ensures.value ∙ edges in
    let users = c.in_ok-users.users.items in
    record {
      few = c.requires.fit.few;
      proper = subst (λ r. IsProper (record { root = r; packages = packages })) (sym manifest) c.requires.proper;
      edges = edges;
      users = users_are packages users (c.in_ok-users.ensures.same ∙ ap length rows) (subst (λ rs. Turned rs users) rows c.in_ok-users.ensures.turned);
      needs = c.in_ok-needs.ensures.value ∙ ap (λ ps. map (needs_by ps) ps) c.as_slice-3.ensures.value;
      root = is ∙ ap root_package (sym manifest);
      root_edges = c.in_ok-root_edges.ensures.value ∙ ap (λ ps. edges_of ps c.in_ok-root.root) c.as_slice-4.ensures.value;
      root_needs = c.in_ok-root_needs.ensures.value ∙ ap (λ ps. needs_by ps c.in_ok-root.root) c.as_slice-5.ensures.value;
    }

pub returns-in_err-root_edges-clause-memory : goal.returns-in_err-root_edges-clause-memory
returns-in_err-root_edges-clause-memory c =
    let error = err_from_is_err_and c.from_residual-in_err-root_edges.result c.from_residual-in_err-root_edges.ensures.1 in
    rw (error.1, error.2) c.in_err-root_edges.ensures.memory

pub returns-in_err-root_needs-clause-memory : goal.returns-in_err-root_needs-clause-memory
returns-in_err-root_needs-clause-memory c =
    let error = err_from_is_err_and c.from_residual-in_err-root_needs.result c.from_residual-in_err-root_needs.ensures.1 in
    rw (error.1, error.2) c.in_err-root_needs.ensures.memory

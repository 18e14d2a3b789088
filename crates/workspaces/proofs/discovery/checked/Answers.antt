use Rattle.std.proofs.Common.{◌≡◌, subst}
use Rattle.std.specs.Prelude.{None}
use Rattle.workspaces.specs.Order.{package_cmp, package_total}
use Rattle.workspaces.specs.Space.{inside_fault, twice_fault}
use Rattle.workspaces.proofs.Order.{sorted-ascending}
use Rattle.workspaces.proofs.Apart.{all_apart}
use Rattle.workspaces.proofs.Discovering.{names_ascend}
use Rattle.workspaces.proofs.discovery.checked.Goals as goal

pub returns-clause-names : goal.returns-clause-names
returns-clause-names c =
    let none : twice_fault c.in_ok-sorted.sorted.items ≡ None = subst (λ s. twice_fault s ≡ None) c.as_slice-2.ensures.value c.in_ok-check_twice.ensures.found in
    names_ascend c.in_ok-sorted.sorted.items (rw c.in_ok-sorted.ensures.value (sorted-ascending package_cmp package_total c.args.packages.items)) none

pub returns-clause-apart : goal.returns-clause-apart
returns-clause-apart c =
    let none : twice_fault c.in_ok-sorted.sorted.items ≡ None = subst (λ s. twice_fault s ≡ None) c.as_slice-2.ensures.value c.in_ok-check_twice.ensures.found in
    let names = names_ascend c.in_ok-sorted.sorted.items (rw c.in_ok-sorted.ensures.value (sorted-ascending package_cmp package_total c.args.packages.items)) none in
    let fine : inside_fault c.args.packages.items ≡ None = subst (λ s. inside_fault s ≡ None) c.as_slice.ensures.value c.in_ok-check_inside.ensures.found in
    rw c.in_ok-sorted.ensures.value (all_apart c.args.packages.items c.requires fine (rw (← c.in_ok-sorted.ensures.value) names))

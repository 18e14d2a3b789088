use Rattle.std.proofs.Common.{◌≡◌, ◌∙◌, ◌==◌, ◌≤◌, ℕ, List, [], true, false, refl, sym, ap, subst, length, arith}
use Rattle.std.specs.List.{HoldsAt}
use Rattle.std.proofs.lemmas.List.{take_all}
use Rattle.workspaces.specs.declared.member.Package.{Package}
use Rattle.workspaces.specs.Space.{owners, root_name}
use Rattle.workspaces.proofs.Owners.{at_root}
use Rattle.task_definitions.specs.Setup.{task_def}
use Rattle.task_inputs.specs.Homes.{Configured, configured_in}
use Rattle.repository.specs.Reading.{contents_of}
use Rattle.kept_packages.proofs.Naming.{none_next, none_so, some_so, root_has}
use Rattle.kept_packages.proofs.files.has_root_task.Goals as goal

pub loop-script-init : goal.loop-script-init
unfolding configured_in
loop-script-init c = refl

pub returns-then-is_some-clause-value : goal.returns-then-is_some-clause-value
returns-then-is_some-clause-value c =
    let space = c.args.repository.now.packages in
    let name = c.name-root.result.now in
    let scripts = c.as_slice-script-items.result.now in
    let script = c.script-item.result in
    let named : name ≡ root_name = at_root (λ (p : Package). name ≡ p.name) space (subst (HoldsAt (λ (p : Package). name ≡ p.name) (owners space)) c.count.ensures.value c.name-root.ensures) in
    let def = c.in_ok-task_def.ensures.value ∙ ap (λ (s : List ℕ × List ℕ). task_def c.args.repository.now.config name s.0) c.script-item.is in
    root_has (contents_of c.args.repository.now) name scripts false named (c.as_slice-script-items.ensures ∙ ap (λ m. m.scripts) c.root.ensures)
    (some_so c.args.repository.now.config name scripts c.loop-script.script-index script c.loop-script-test.true c.in_ok-task_def.field-0 def (sym c.is_some.ensures ∙ c.if-is_some.true))

pub loop-script-preserved : goal.loop-script-preserved
loop-script-preserved c =
    let name = c.name-root.result.now in
    let scripts = c.as_slice-script-items.result.now in
    let script = c.script-item.result in
    let i = c.loop-script.script-index in
    let setup = c.args.repository.now.config in
    let def = c.in_ok-task_def.ensures.value ∙ ap (λ (s : List ℕ × List ℕ). task_def setup name s.0) c.script-item.is in
    none_next setup name scripts i script c.loop-script-test.true c.loop-script.invariant
    (none_so setup name scripts i script c.loop-script-test.true c.in_ok-task_def.field-0 def (sym c.is_some.ensures ∙ c.if-is_some.false))

pub returns-clause-value : goal.returns-clause-value
returns-clause-value c =
    let space = c.args.repository.now.packages in
    let setup = c.args.repository.now.config in
    let name = c.name-root.result.now in
    let scripts = c.as_slice-script-items.result.now in
    let i = c.loop-script.script-index in
    let named : name ≡ root_name = at_root (λ (p : Package). name ≡ p.name) space (subst (HoldsAt (λ (p : Package). name ≡ p.name) (owners space)) c.count.ensures.value c.name-root.ensures) in
    let all : length scripts ≤ i = omega (arith, c.loop-script-test.false) in
    let none : configured_in setup name scripts ≡ [] = ap (configured_in setup name) (sym (take_all i scripts all)) ∙ c.loop-script.invariant in
    root_has (contents_of c.args.repository.now) name scripts true named (c.as_slice-script-items.ensures ∙ ap (λ m. m.scripts) c.root.ensures) (ap (λ (cs : List Configured). length cs == 0) none)

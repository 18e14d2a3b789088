use Rattle.std.proofs.Common.{sym, subst, ◌∙◌, ◌++◌, get_or, refl, Ok, Err}
use Rattle.serde_json.specs.View.{view}
use Rattle.workspaces.specs.Space.{owners}
use Rattle.npm_lock.specs.declared.error.ExtErr.TheVariants.{Missing}
use Rattle.npm_lock.specs.Externals.{Externals}
use Rattle.collect.specs.Parts.{Uses}
use Rattle.collect.specs.Refusals.{IsMissingOf}
use Rattle.collect.specs.Steps.{lock_in, IsFitInstalled}
use Rattle.collect.proofs.Installed.{beyond_root}
use Rattle.collect.proofs.uses.owner_uses.Goals as goal

pub returns-in-Ok-externals_beyond : goal.returns-in-Ok-externals_beyond
returns-in-Ok-externals_beyond c = λ d.
    let space = c.args.packages.now in
    let p = get_or (owners space) c.args.number d in
    let pairs = c.in-Ok-externals_beyond.pairs in
    subst (λ o. Uses space (lock_in o) p pairs) (sym c.in-Some.is)
    (beyond_root space p c.in-Some.installed c.as_slice.result.now (Ok pairs) (subst (IsFitInstalled space) c.in-Some.is c.requires.installed) (c.as_slice.ensures.value ∙ c.in-Ok.ensures.value d) c.in-Ok-externals_beyond.ensures)

pub returns-in-Err-Missing : goal.returns-in-Err-Missing
returns-in-Err-Missing c = λ d.
    let space = c.args.packages.now in
    let p = get_or (owners space) c.args.number d in
    let from = c.in-Err-Missing.from in
    let name = c.in-Err-Missing.name in
    let missing = subst (λ e. Externals (view c.in-Some.installed.lock.now) (c.as_slice.result.now ++ c.in-Some.installed.root.starts) (Err e)) c.in-Err-Missing.field-0-is c.in-Err-Missing.ensures in
    subst (λ o. IsMissingOf space (lock_in o) p from name) (sym c.in-Some.is) (record {
      lockfile = view c.in-Some.installed.lock.now;
      there = refl;
      missing = beyond_root space p c.in-Some.installed c.as_slice.result.now (Err (Missing from name)) (subst (IsFitInstalled space) c.in-Some.is c.requires.installed) (c.as_slice.ensures.value ∙ c.in-Ok.ensures.value d) missing;
    })

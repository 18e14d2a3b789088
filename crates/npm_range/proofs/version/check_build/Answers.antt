use Rattle.std.proofs.Common.{◌≡◌, ◌≢◌, ◌⊎◌, ℕ, List, Bool, true, false, Some, Err, sym, rules, ap}
use Rattle.semver.specs.Grammar.{is_build}
use Rattle.npm_range.proofs.Tags.{good-build, bad-build, refuses}
use Rattle.npm_range.proofs.version.check_build.Goals as goal

pub returns-in-Ok-clause-ok : goal.returns-in-Ok-clause-ok
returns-in-Ok-clause-ok c =
    let allowed : c.args.allowed ≡ true = search rules in
    let t = good-build c.in-Some.text.now _ c.in-Ok.ensures.ok (search rules) in
    rw (c.in-Some.is, allowed) t

pub returns-in-Err-clause-err : goal.returns-in-Err-clause-err
returns-in-Err-clause-err c =
    let allowed : c.args.allowed ≡ true = search rules in
    rw (c.in-Some.is, allowed) (refuses c.in-Err.error c.refusal.result _ c.refusal.ensures c.in-Err.ensures.err (bad-build c.in-Some.text.now c.in-Err.error))

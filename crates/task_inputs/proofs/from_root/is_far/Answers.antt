use Rattle.std.proofs.Common.{◌≡◌, ◌∙◌, ◌&&◌, refl, sym, false}
use Rattle.globs.specs.Lists.{list_takes}
use Rattle.task_inputs.specs.Facts.{home_place}
use Rattle.task_inputs.specs.Rooted.{far_test}
use Rattle.task_inputs.proofs.Homes.{place_is}
use Rattle.task_inputs.proofs.from_root.is_far.Goals as goal
use Rattle.task_inputs.proofs.from_root.is_far.Goals.{else-any-via-then-any+else-takes, else-any-via-else-any}

pub returns-clause-value : goal.returns-clause-value
unfolding far_test
returns-clause-value c =
    let home : c.home-home.result ≡ home_place c.args.declared.now c.args.path.now = place_is c.args.declared.now c.args.path.now c.home-home.result c.home-home.ensures.homes c.home-home.ensures.home in
    let none : (c.args.any && list_takes c.args.globals.now c.args.path.now) ≡ false = elim c.else-any.branch [
      | else-any-via-then-any+else-takes w ↦ rw w.if-any.true (sym w.takes.ensures.value ∙ w.if-takes.false)
      | else-any-via-else-any w ↦ rw w.if-any.false refl
    ] in
    rw (← c.if-not-may_count.ensures, none, ← home) c.any_far.ensures.value

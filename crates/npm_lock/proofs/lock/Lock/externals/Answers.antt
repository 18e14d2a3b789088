use Rattle.std.proofs.Common.{ap, ◌∙◌, ◌++◌, subst, append-nil}
use Rattle.serde_json.specs.View.{view}
use Rattle.npm_lock.specs.Externals.{Externals}
use Rattle.npm_lock.proofs.lock.Lock.externals.Goals as goal

pub externals_beyond-requires : goal.externals_beyond-requires
externals_beyond-requires c = rw (← c.entries.ensures.value) c.in_ok-nothing.ensures.reached

pub returns : goal.returns
returns c =
    let starts = c.args.starts.now in
    subst (λ all. Externals (view c.args.self.now) all c.externals_beyond.result) (ap (λ more. starts ++ more) c.in_ok-nothing.ensures.starts ∙ append-nil starts) c.externals_beyond.ensures

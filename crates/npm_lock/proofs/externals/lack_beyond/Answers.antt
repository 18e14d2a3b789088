use Rattle.std.proofs.Common.{◌≡◌, ◌++◌, List, ap, ◌∙◌}
use Rattle.std.proofs.lemmas.Result.{IfOk-weaker}
use Rattle.npm_lock.specs.declared.start.Lack.{Lack}
use Rattle.npm_lock.specs.Lacks.{least_after, beyond, start_lacks, member_lacks}
use Rattle.npm_lock.specs.Reach.{set_of}
use Rattle.npm_lock.specs.Externals.{IsLeastLack}
use Rattle.npm_lock.proofs.MissingOf.{least_lack}
use Rattle.npm_lock.proofs.externals.lack_beyond.Goals as goal

pub returns : goal.returns
returns c =
    let es = c.args.entries.now in
    let base = c.args.base.now in
    let set = set_of es c.args.set.now in
    let further : List Lack = member_lacks es (beyond (set_of es c.set.result.now) set) es in
    let before = c.in_ok-least_copy.ensures in
    record {
      least = IfOk-weaker c.member_lack.result (λ now. now ≡ least_after further c.in_ok-least.least) (IsLeastLack es (c.args.starts.now ++ base.starts) set)
          (λ now e. least_lack es c.args.starts.now base c.requires.base set c.requires.set now
          (e ∙ ap (λ b. least_after (member_lacks es (beyond (set_of es b) set) es) c.in_ok-least.least) c.set.ensures
          ∙ ap (least_after (member_lacks es (beyond (set_of es base.set) set) es)) (c.in_ok-least.ensures.least ∙ ap (least_after (start_lacks es c.args.starts.now)) before)))
          c.member_lack.ensures.least;
    }

use Rattle.std.proofs.Common.{◌∙◌, arith}
use Rattle.record_log.specs.Kinds.{entry}
use Rattle.record_log.proofs.Heads.{size_head, generation_len}
use Rattle.record_log.proofs.mark.LogMark.learn.Goals as goal

pub push-requires : goal.push-requires
push-requires c = omega (arith, c.requires, size_head (entry c.args.kind c.args.key.now c.args.value.now))

pub returns-clause-end : goal.returns-clause-end
returns-clause-end c = omega (arith, c.in_ok-push.ensures.end, size_head (entry c.args.kind c.args.key.now c.args.value.now))

pub returns-clause-generation : goal.returns-clause-generation
returns-clause-generation c contents h = c.in_ok-push.ensures.generation ∙ c.generation_in-generation.ensures (λ is. generation_len contents (entry c.args.kind c.args.key.now c.args.value.now) is h)

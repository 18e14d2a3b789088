-- Of the line some first part was printed.
use Rattle.std.proofs.Common.{◌∙◌, subst}
use Rattle.page.specs.Answers.{Emits}
use Rattle.refusals.specs.Refusals.{device_fault_line}
use Rattle.answers.specs.Facts.{emits_some}
use Rattle.answers.proofs.telling.tell.Goals as goal

pub returns-clause-told : goal.returns-clause-told
returns-clause-told g c told =
    let before = g.K.Sink.written c.args.out.now in
    let after = g.K.Sink.written c.emit.new.out in
    emits_some (device_fault_line c.args.fault) before after c.emit.result (subst (λ text. Emits text before after c.emit.result) (c.as_bytes.ensures.value ∙ c.device_fault_text.ensures) (c.emit.ensures.emits told))

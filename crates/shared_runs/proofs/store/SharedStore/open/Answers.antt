use Rattle.shared_runs.proofs.Starting.{leaves_images, is_opened}
use Rattle.shared_runs.proofs.store.SharedStore.open.Goals as goal

pub returns-in-Ok-clause-opened : goal.returns-in-Ok-clause-opened
returns-in-Ok-clause-opened g c =
    is_opened g.H.Shared g.H.Device.StoreDevice c.args.shared c.first_turn.new.shared c.in-Ok.turn
    c.begun.result c.begun.ensures.shared c.begun.ensures.first c.begun.ensures.whole
    c.begun.ensures.damaged c.begun.ensures.reads
    c.in-Ok.ensures.turn c.first_turn.ensures.time c.in-Ok.ensures.cause.counted

pub returns-in-Err-clause-unopened : goal.returns-in-Err-clause-unopened
returns-in-Err-clause-unopened g c = record {
  turn = c.first_turn.ensures.held;
  fault = c.in-Err.ensures.fault;
  images = λ told. leaves_images g.H.Shared c.args.shared c.first_turn.new.shared
      (c.first_turn.ensures.time told);
  cause = record { later = c.in-Err.ensures.cause.later; counted = c.in-Err.ensures.cause.counted };
}

use Rattle.record_log.proofs.Places.{kind_told}
use Rattle.record_log.proofs.log.Log.kind_at.Goals as goal

pub returns : goal.returns
returns g c told e at =
    let log = c.args.self.now in
    let content = g.S.StoreDevice.content log.device in
    let it = kind_told content log.mark c.args.number c.index-seat.result.now e (g.met.S.StoreDevice.are_bytes log.device told) (g.met.S.StoreDevice.few_bytes log.device told) (log.front told) c.requires at c.index-seat.ensures in
    it

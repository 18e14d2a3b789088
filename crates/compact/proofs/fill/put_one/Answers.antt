use Rattle.artifact_store.specs.Store.{device_of}
use Rattle.compact.proofs.Filling.{puts_none}
use Rattle.compact.proofs.fill.put_one.Goals as goal

pub returns-in_err-held-clause-puts : goal.returns-in_err-held-clause-puts
returns-in_err-held-clause-puts g c =
    puts_none c.args.to.now c.requires.to_whole (g.met.P.StoreDevice.only_now (device_of c.args.to.now))

pub returns-in_default-clause-puts : goal.returns-in_default-clause-puts
returns-in_default-clause-puts g c =
    puts_none c.args.to.now c.requires.to_whole (g.met.P.StoreDevice.only_now (device_of c.args.to.now))

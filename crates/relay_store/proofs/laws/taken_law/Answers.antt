use Rattle.relay_store.proofs.Devices.{none_all, read_all, taken_then}
use Rattle.relay_store.proofs.laws.taken_law.Goals as goal

pub returns-clause-none : goal.returns-clause-none
returns-clause-none g c store whole = none_all store g.met.S.StoreDevice.only_now whole

pub returns-clause-read : goal.returns-clause-read
returns-clause-read g c old new x = read_all old new x

pub returns-clause-more : goal.returns-clause-more
returns-clause-more g c old mid new first more result x y =
    taken_then old mid new first more result x y

use Rattle.serde_json.specs.View.{view}
use Rattle.pruned_files.proofs.Cutting.{locations_more, locations_stop}
use Rattle.pruned_files.proofs.cut.locations.Goals as goal

pub returns-in-Err : goal.returns-in-Err
returns-in-Err c = locations_stop c.args.packages.now (view c.args.lock.now) c.args.numbers.now c.loop-number.number-index c.loop-number.keep c.in-Err.e c.loop-number-test.true c.loop-number.invariant c.in-Err.ensures

pub loop-number-preserved : goal.loop-number-preserved
loop-number-preserved c = locations_more c.args.packages.now (view c.args.lock.now) c.args.numbers.now c.loop-number.number-index c.in-Ok.pairs c.loop-number.keep c.add_locations.new.keep c.loop-number-test.true c.loop-number.invariant c.in-Ok.ensures c.in-Ok-add_locations.ensures.added

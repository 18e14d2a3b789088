use Rattle.std.proofs.Common.{◌≡◌, ◌<◌, ◌-◌, List}
use Rattle.store_dev.specs.Device.{OnlyReads}
use Rattle.record_log.specs.Kinds.{Entry}
use Rattle.record_log.specs.Window.{Shows}
use Rattle.record_log.specs.Kept.{IsIndex}
use Rattle.record_log.proofs.scan.index_of.Given as goal

abbrev pub invariant-loop-window : goal.invariant-loop-window
invariant-loop-window g l = record {
  inside : l.mark.end < l.len;
  index : g.S.StoreDevice.tells
      → (es : List Entry) × IsIndex (g.S.StoreDevice.content l.fn.device) es l.mark;
  shows : g.S.StoreDevice.tells → Shows (g.S.StoreDevice.content l.fn.device) l.window;
  reads : OnlyReads g.S.StoreDevice.content g.S.StoreDevice.images g.S.StoreDevice.moment g.S.StoreDevice.images_since l.fn.device l.device;
  faults : g.S.StoreDevice.store_faults l.device ≡ g.S.StoreDevice.store_faults l.fn.device;
}

abbrev pub decreases-loop-window : goal.decreases-loop-window
decreases-loop-window g l = l.len - l.mark.end

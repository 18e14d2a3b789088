-- A part of a device, as it was read.
use Rattle.std.specs.Prelude.{◌≡◌, ◌≤◌, ℕ, ◌+◌, List, length, take, drop}
use Rattle.record_log.specs.declared.window.Window.{Window}

-- it shows what the device holds there
abbrev pub Shows : List ℕ → Window → Type 0
Shows content window =
    window.bytes.items ≡ take (length window.bytes.items) (drop window.at content)

-- it shows so many bytes from that place on
pub record Covers (window : Window) (at n : ℕ) : Type 0 where
  pub from : window.at ≤ at
  pub to : at + n ≤ window.at + length window.bytes.items

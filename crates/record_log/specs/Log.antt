-- A log as its contracts see it.
use Rattle.std.specs.Prelude.{ℕ, ◌+◌, ◌-◌, Bool, List, length, Result}
use Rattle.rel_path.specs.Limits.{store_limit}
use Rattle.store_dev.specs.Device.{Only, OnlyReads, LeavesOnly}
use Rattle.store_dev.specs.declared.device.StoreDevice.{Ghosts}
use Rattle.record_log.specs.Kinds.{Entry, generation_of}
use Rattle.record_log.specs.Frames.{frames_of}
use Rattle.record_log.specs.Answers.{Counted}
use Rattle.record_log.specs.declared.error.LogErr.{LogErr}
use Rattle.record_log.specs.declared.log.Log.{Log}

abbrev pub device_of : {S : Type 0} {G : Ghosts S} → Log S G → S
device_of log = log.device

-- the frames that count, where the device tells its bytes
abbrev pub frames_in : {S : Type 0} {G : Ghosts S} → Log S G → List Entry
frames_in {G = G} log = frames_of (G.content log.device)

-- how many of them the log knows, which are all where it is whole
abbrev pub count_of : {S : Type 0} {G : Ghosts S} → Log S G → ℕ
count_of log = length log.mark.seats.items

-- it may be appended to
abbrev pub is_whole : {S : Type 0} {G : Ghosts S} → Log S G → Bool
is_whole log = log.whole

-- how many bytes more its frames may take: what the limit leaves behind the last gate
abbrev pub room_of : {S : Type 0} {G : Ghosts S} → Log S G → ℕ
room_of log = store_limit - (log.mark.end + 1)

-- how often frames and ranges were read
abbrev pub probes_of : {S : Type 0} {G : Ghosts S} → Log S G → ℕ
probes_of log = log.probes

-- the generation of its frames
abbrev pub generation_in : {S : Type 0} {G : Ghosts S} → Log S G → ℕ
generation_in {G = G} log = generation_of (frames_of (G.content log.device))

-- a crash leaves the bytes that the device holds
abbrev pub IsDurable : {S : Type 0} {G : Ghosts S} → Log S G → Type 0
IsDurable {G = G} log = Only (G.content log.device) (G.images log.device)

-- the call did no more to the device than to read it
abbrev pub OnlyReadIn : {S : Type 0} {G : Ghosts S} → Log S G → Log S G → Type 0
OnlyReadIn {G = G} old new =
    OnlyReads G.content G.images G.moment G.images_since old.device new.device

-- the device's count of faults tells whether the call failed
abbrev pub CountsIn : {S T : Type 0} {G : Ghosts S} → Log S G → Log S G → Result T LogErr → Type 0
CountsIn {G = G} old new result =
    Counted (G.store_faults old.device) (G.store_faults new.device) result

-- a crash at any moment since the call began leaves bytes that have P
abbrev pub LeavesOnlyIn : {S : Type 0} {G : Ghosts S} → Log S G → Log S G → (List ℕ → Type 0)
    → Type 0
LeavesOnlyIn {G = G} old new P = LeavesOnly G.moment G.images_since old.device new.device P

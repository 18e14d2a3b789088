use Rattle.std.proofs.Common.{rules, ◌+◌, List, ℕ, length, sym, subst, ap, ◌∙◌, arith}
use Rattle.std.specs.Prelude.{IsErrOf}
use Rattle.store_dev.specs.Device.{Holds}
use Rattle.store_dev.specs.declared.device.StoreErr.TheVariants.{OutOfMemory}
use Rattle.record_log.specs.Frames.{frames_of, AtRest}
use Rattle.record_log.specs.Batch.{new_entries}
use Rattle.record_log.proofs.Batch.{behind_gate, behind_is, length-behind_gate, some_entries, all_written, all_opened, all_start, all_body, all_gate}
use Rattle.record_log.proofs.steps.write_frames.Goals as goal

pub returns-in_err-bytes-clause-images : goal.returns-in_err-bytes-clause-images
returns-in_err-bytes-clause-images g c told =
    let s = g.S.StoreDevice in
    let d = c.args.device.now in
    let es = new_entries c.args.frames.now in
    let fs = frames_of (s.content d) in
    let some = some_entries c.args.frames.now c.requires.some in
    all_start s.content s.images s.moment s.images_since g.met.S.StoreDevice.only_now d fs c.args.end es some (c.requires.rest told) (c.requires.durable told) (c.requires.form told)

pub put_synced-requires-clause-end : goal.put_synced-requires-clause-end
put_synced-requires-clause-end g c =
    let es = new_entries c.args.frames.now in
    let body = behind_is c.as_slice.result.now es (c.as_slice.ensures.value ∙ c.in_ok-bytes.ensures) in
    omega (arith, ap length body, length-behind_gate es, c.requires.room)

pub returns-in_err-put_synced-clause-images : goal.returns-in_err-put_synced-clause-images
returns-in_err-put_synced-clause-images g c told =
    let s = g.S.StoreDevice in
    let d = c.args.device.now in
    let es = new_entries c.args.frames.now in
    let fs = frames_of (s.content d) in
    let some = some_entries c.args.frames.now c.requires.some in
    all_body s.content s.images s.moment s.images_since g.met.S.StoreDevice.only_now d fs c.args.end es some (c.requires.rest told) (c.requires.durable told) (c.requires.form told) c.put_synced.new.device _ c.put_synced.ensures.time

pub returns-in_err-put_synced-2-clause-memory : goal.returns-in_err-put_synced-2-clause-memory
returns-in_err-put_synced-2-clause-memory g c told out =
    let s = g.S.StoreDevice in
    let d = c.args.device.now in
    let es = new_entries c.args.frames.now in
    let fs = frames_of (s.content d) in
    let some = some_entries c.args.frames.now c.requires.some in
    let body = behind_is c.as_slice.result.now es (c.as_slice.ensures.value ∙ c.in_ok-bytes.ensures) in
    let holds : Holds (s.content d) (c.args.end + 1) (behind_gate es) (s.content c.put_synced.new.device) = subst (λ (b : List ℕ). Holds (s.content d) (c.args.end + 1) b (s.content c.put_synced.new.device)) body (c.in_ok-put_synced.ensures.written told).0 in
    let was : IsErrOf c.put_synced-2.result OutOfMemory = search rules in
    let same = c.put_synced-2.ensures.memory was in
    subst (λ (l : List ℕ). AtRest l fs c.args.end) (sym same.bytes) (all_written (s.content d) (s.content c.put_synced.new.device) fs c.args.end es (c.requires.rest told) holds).rest

pub returns-in_err-put_synced-2-clause-images : goal.returns-in_err-put_synced-2-clause-images
returns-in_err-put_synced-2-clause-images g c told =
    let s = g.S.StoreDevice in
    let d = c.args.device.now in
    let es = new_entries c.args.frames.now in
    let fs = frames_of (s.content d) in
    let some = some_entries c.args.frames.now c.requires.some in
    let body = behind_is c.as_slice.result.now es (c.as_slice.ensures.value ∙ c.in_ok-bytes.ensures) in
    let holds : Holds (s.content d) (c.args.end + 1) (behind_gate es) (s.content c.put_synced.new.device) = subst (λ (b : List ℕ). Holds (s.content d) (c.args.end + 1) b (s.content c.put_synced.new.device)) body (c.in_ok-put_synced.ensures.written told).0 in
    all_gate s.content s.images s.moment s.images_since g.met.S.StoreDevice.only_now d fs c.args.end es some (c.requires.rest told) (c.requires.durable told) (c.requires.form told) c.put_synced.new.device c.put_synced-2.new.device _ c.put_synced.ensures.time holds (c.in_ok-put_synced.ensures.written told).1 c.put_synced-2.ensures.time

pub returns-clause-written : goal.returns-clause-written
returns-clause-written g c told =
    let s = g.S.StoreDevice in
    let d = c.args.device.now in
    let es = new_entries c.args.frames.now in
    let fs = frames_of (s.content d) in
    let some = some_entries c.args.frames.now c.requires.some in
    let body = behind_is c.as_slice.result.now es (c.as_slice.ensures.value ∙ c.in_ok-bytes.ensures) in
    let holds : Holds (s.content d) (c.args.end + 1) (behind_gate es) (s.content c.put_synced.new.device) = subst (λ (b : List ℕ). Holds (s.content d) (c.args.end + 1) b (s.content c.put_synced.new.device)) body (c.in_ok-put_synced.ensures.written told).0 in
    all_opened (s.content c.put_synced.new.device) (s.content c.put_synced-2.new.device) fs c.args.end es some (all_written (s.content d) (s.content c.put_synced.new.device) fs c.args.end es (c.requires.rest told) holds) (c.requires.form told) (c.in_ok-put_synced-2.ensures.written told).0

pub returns-clause-images : goal.returns-clause-images
returns-clause-images g c told =
    let s = g.S.StoreDevice in
    let d = c.args.device.now in
    let es = new_entries c.args.frames.now in
    let fs = frames_of (s.content d) in
    let some = some_entries c.args.frames.now c.requires.some in
    let body = behind_is c.as_slice.result.now es (c.as_slice.ensures.value ∙ c.in_ok-bytes.ensures) in
    let holds : Holds (s.content d) (c.args.end + 1) (behind_gate es) (s.content c.put_synced.new.device) = subst (λ (b : List ℕ). Holds (s.content d) (c.args.end + 1) b (s.content c.put_synced.new.device)) body (c.in_ok-put_synced.ensures.written told).0 in
    all_gate s.content s.images s.moment s.images_since g.met.S.StoreDevice.only_now d fs c.args.end es some (c.requires.rest told) (c.requires.durable told) (c.requires.form told) c.put_synced.new.device c.put_synced-2.new.device _ c.put_synced.ensures.time holds (c.in_ok-put_synced.ensures.written told).1 c.put_synced-2.ensures.time

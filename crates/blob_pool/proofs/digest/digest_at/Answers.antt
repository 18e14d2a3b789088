use Rattle.std.proofs.Common.{◌≡◌, ℕ, [], take, drop, get_or, sym, ◌∙◌, ap, subst, arith}
use Rattle.record_log.specs.declared.kind.TheConstants.{DIGEST_BYTES}
use Rattle.record_log.specs.Kinds.{entry}
use Rattle.record_log.specs.Frames.{text_of}
use Rattle.record_log.specs.Seats.{IsWithin}
use Rattle.record_log.specs.Log.{device_of, frames_in}
use Rattle.blob_pool.proofs.Keys.{entry_at, key_fits}
use Rattle.blob_pool.proofs.digest.digest_at.Goals as goal

pub read_span-requires : goal.read_span-requires
read_span-requires g c told =
    let log = c.args.log.now in
    let fs = frames_in log in
    let front = log.front told in
    let at = entry_at fs c.args.number (entry 0 [] []) (omega (arith, c.requires.inside, front.few)) in
    let e = get_or fs c.args.number (entry 0 [] []) in
    let shown = c.key_span-span.ensures told e at in
    let long = key_fits (g.S.StoreDevice.content (device_of log)) fs c.args.number e front.read at (c.requires.kind told e at) in
    let len : c.key_span-span.result.len ≡ DIGEST_BYTES = shown.len ∙ long in
    subst (λ (n : ℕ). IsWithin (text_of fs) c.key_span-span.result.at n) len shown.within

pub returns-clause-digest : goal.returns-clause-digest
returns-clause-digest g c told e at =
    let log = c.args.log.now in
    let span = c.key_span-span.result in
    let shown = c.key_span-span.ensures told e at in
    let long = key_fits (g.S.StoreDevice.content (device_of log)) (frames_in log) c.args.number e (log.front told).read at (c.requires.kind told e at) in
    let len : span.len ≡ DIGEST_BYTES = shown.len ∙ long in
    c.in_ok-read_span.ensures.value told
    ∙ ap (λ (n : ℕ). take n (drop span.at (text_of (frames_in log)))) (sym len)
    ∙ shown.shows

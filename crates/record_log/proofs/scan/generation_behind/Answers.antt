use Rattle.std.proofs.Common.{◌≡◌, ℕ, length, take, drop, sym, ◌∙◌, ap}
use Rattle.rel_path.specs.declared.span.Span.{Span}
use Rattle.record_log.specs.declared.seat.Seat.{Seat}
use Rattle.record_log.specs.Kinds.{entry, generation_after}
use Rattle.record_log.proofs.Heads.{lens_of_5, key_shown}
use Rattle.record_log.proofs.scan.generation_behind.Goals as goal

pub returns-clause-value : goal.returns-clause-value
returns-clause-value g c told e x =
    let s = g.S.StoreDevice in
    let content = s.content c.args.device.now in
    let few = g.met.S.StoreDevice.few_bytes c.args.device.now told in
    let kind : c.args.seat.kind ≡ e.kind = ap (λ (seat : Seat). seat.kind) x.is in
    let len : c.args.seat.key_len ≡ 8 = lens_of_5 c.args.seat.kind c.args.seat.key_len c.args.seat.value_len c.if-seat-ne-GENERATION.false c.requires.lens in
    let key : take c.args.seat.key_len (drop c.key.result.at content) ≡ e.key = ap (λ (span : Span). take c.args.seat.key_len (drop span.at content)) c.key.ensures ∙ key_shown content c.args.seat e x few in
    let buf : c.read_at.new.buf ≡ e.key = c.in_ok-read_at.ensures.value told ∙ ap (λ (n : ℕ). take n (drop c.key.result.at content)) (sym len) ∙ key in
    c.generation_in.ensures (λ _. ap length buf ∙ sym (ap (λ (seat : Seat). seat.key_len) x.is) ∙ len) ∙ (λ i. generation_after c.args.generation (entry (kind i) (buf i) e.value))

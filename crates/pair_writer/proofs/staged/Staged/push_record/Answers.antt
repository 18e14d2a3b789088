use Rattle.std.proofs.Common.{rules, ◌≡◌, ℕ, ◌+◌, ◌<◌, ◌^◌, List, length, refl, ap, ◌∙◌, arith}
use Rattle.record_log.specs.declared.kind.TheConstants.{LONG_RECORD, DIGEST_BYTES}
use Rattle.record_log.specs.Kinds.{entry, room_for}
use Rattle.cache_api.specs.Memory.{capped}
use Rattle.pair_writer.specs.declared.frame.StagedFrame.{StagedFrame}
use Rattle.pair_writer.specs.declared.frame.StagedFrame.TheVariants.{Record}
use Rattle.pair_writer.specs.Contents.{digests_in, bytes_in}
use Rattle.pair_writer.proofs.Holding.{held_record}
use Rattle.pair_writer.proofs.staged.Staged.push_record.Goals as goal

pub invariant_of-self-2 : goal.invariant_of-self-2
invariant_of-self-2 c =
    let old = c.args.self.now in
    let text = c.args.text.items in
    let short : length text < 2 ^ 64 = omega (arith, c.args.text.ok) in
    let len : length c.args.print ≡ DIGEST_BYTES = search rules in
    let f : StagedFrame = Record c.args.print c.args.text in
    let size = c.saturating_add-self.ensures in
    let need = c.need_of-need.ensures in
    let was = c.as_slice.ensures.value in
    let frames = c.in_ok-push.ensures.items in
    let next = size ∙ ap (λ (n : ℕ). capped (old.size + n)) (need ∙ ap (λ (l : List ℕ). room_for (entry LONG_RECORD c.args.print l)) was) in
    record {
      held = held_record old.frames.items c.push.new.self.items (digests_in old.contents) (bytes_in old.contents) old.size c.saturating_add-self.result f c.args.print text refl old.held len short frames next;
    }

use Rattle.std.proofs.Common.{◌≡◌, ◌<◌, ◌^◌, ◌∷◌, ◌++◌, [], List, length, refl, ap, ◌∙◌, arith}
use Rattle.std.proofs.lemmas.Bool.{and_parts, leb-true}
use Rattle.sha2.proofs.Facts256.{length-sha256}
use Rattle.rel_path.specs.Limits.{file_limit}
use Rattle.record_log.specs.declared.kind.TheConstants.{DIGEST_BYTES}
use Rattle.pair_writer.specs.declared.frame.StagedFrame.{StagedFrame}
use Rattle.pair_writer.specs.declared.frame.StagedFrame.TheVariants.{Content}
use Rattle.pair_writer.specs.Contents.{digests_in, bytes_in}
use Rattle.pair_writer.proofs.Holding.{held_content}
use Rattle.pair_writer.proofs.staged.Staged.push_content.Goals as goal

pub invariant_of-self-2 : goal.invariant_of-self-2
invariant_of-self-2 c =
    let old = c.args.self.now in
    let bytes = c.args.bytes.now in
    let at_most = leb-true (length bytes) file_limit (and_parts _ _ c.requires.content).1 in
    let short : length bytes < 2 ^ 32 = omega (arith, at_most) in
    let len : length c.args.digest ≡ DIGEST_BYTES = ap length c.requires.digest ∙ length-sha256 bytes in
    let f : StagedFrame = Content c.args.digest c.args.bytes in
    let frames = c.push_reserved.ensures.items ∙ ap (λ (l : List StagedFrame). l ++ f ∷ []) c.reserve.ensures.items in
    let size = c.saturating_add-self.ensures in
    record {
      held = held_content old.frames.items c.push_reserved.new.self.items (digests_in old.contents) (bytes_in old.contents) (digests_in c.push.new.self) (bytes_in c.push.new.self) old.size c.saturating_add-self.result f c.args.digest bytes refl old.held len short frames c.in_ok-push.ensures.digests c.in_ok-push.ensures.bytes (omega (arith, c.saturating_add-self.ensures, c.need_of-need.ensures));
    }

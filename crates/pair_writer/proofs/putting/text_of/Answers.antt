use Rattle.std.proofs.Common.{◌++◌, ◌∙◌, [], List, ℕ, ap}
use Rattle.std.specs.Int.{w64}
use Rattle.codes.specs.Codes.{both}
use Rattle.record_log.specs.Pieces.{pieces_text, record_text}
use Rattle.pair_frames.specs.Puts.{literal_before}
use Rattle.pair_writer.specs.Pieces.{open_in}
use Rattle.pair_writer.proofs.putting.text_of.Goals as goal

pub returns-clause-text : goal.returns-clause-text
unfolding record_text both
returns-clause-text c ks vs k v =
    let key = pieces_text w64 (ks ++ literal_before (open_in c.args.key) []) in
    let value = pieces_text w64 (vs ++ literal_before (open_in c.args.value) []) in
    c.in_ok-put_to-2.ensures.text vs v
    ∙ ap (λ (l : List ℕ). l ++ value) (c.in_ok-put_to.ensures.text ks k ∙ ap (λ (l : List ℕ). l ++ key) c.new-text.ensures.items)

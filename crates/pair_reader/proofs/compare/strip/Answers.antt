use Rattle.std.proofs.Common.{◌≡◌, false, take, ◌++◌, sym, ◌∙◌, ap, subst}
use Rattle.std.specs.Prelude.{bytes_eq}
use Rattle.std.proofs.lemmas.Bool.Decides.{Decides-eqb}
use Rattle.std.proofs.lemmas.Slice.Eq.{strip_prefix_is}
use Rattle.record_log.specs.Frames.{text_of}
use Rattle.record_log.specs.Log.{frames_in}
use Rattle.blob_pool.specs.Contents.{contents_of, content_at}
use Rattle.blob_pool.specs.Known.{known_in}
use Rattle.pair_frames.specs.Pairs.{piece_bytes}
use Rattle.pair_reader.specs.declared.piece.PieceAt.{PieceAt}
use Rattle.pair_reader.specs.Standing.{piece_of, Shows}
use Rattle.pair_reader.specs.Answers.{IsRest}
use Rattle.pair_reader.proofs.Comparing.{rest_is, not_front}
use Rattle.pair_reader.proofs.compare.strip.Goals as goal

pub returns-then-not-branch-clause-rest : goal.returns-then-not-branch-clause-rest
returns-then-not-branch-clause-rest g c told rest is =
    let log = c.args.log.now in
    let fs = known_in log in
    let content = content_at fs c.in-Content.id.number in
    let shown = subst (Shows (text_of (frames_in log)) (contents_of fs)) c.in-Content.is (c.requires.show told) in
    let same = c.in_ok-content_is-in-Content.ensures.same told in
    let other : bytes_eq content (take c.in-Content.span.len c.args.bytes.now) ≡ false =
    ap (bytes_eq content) (sym c.split_at.ensures.front) ∙ sym same ∙ c.if-not-branch.true in
    not_front content c.args.bytes.now rest c.in-Content.span.len shown.len other
    (is ∙ ap (λ (p : PieceAt). piece_bytes (contents_of fs) (piece_of p) ++ rest) c.in-Content.is)

pub returns-in-Literal-clause-rest : goal.returns-in-Literal-clause-rest
returns-in-Literal-clause-rest g c told =
    let contents = contents_of (known_in c.args.log.now) in
    let bytes = c.args.bytes.now in
    subst (λ (p : PieceAt). IsRest (piece_bytes contents (piece_of p)) bytes c.strip_prefix.result) (sym c.in-Literal.is)
    (rest_is bytes c.in-Literal.literal.now c.strip_prefix.result
    (strip_prefix_is Decides-eqb bytes c.in-Literal.literal.now c.strip_prefix.result c.strip_prefix.ensures.cases))

use Rattle.std.proofs.Common.{ℕ, List, [], ◌∷◌, ◌++◌, map, take, sym, ◌∙◌, ap, arith}
use Rattle.std.proofs.lemmas.List.{map-append}
use Rattle.record_log.specs.Kinds.{Entry, blobs_in}
use Rattle.record_log.specs.Texts.{blobs_in_append}
use Rattle.blob_pool.specs.Contents.{contents_of}
use Rattle.blob_pool.specs.Blobs.{contents_of-append}
use Rattle.pair_writer.specs.Held.{staged_entry, staged_entries}
use Rattle.pair_writer.proofs.Holding.{entries_more}
use Rattle.pair_writer.proofs.contents.Contents.of.Goals as goal

pub loop-frame-preserved : goal.loop-frame-preserved
loop-frame-preserved c =
    let n = c.loop-frame.frame-index in
    let all = c.args.frames.now in
    let f = c.frame-item.result in
    let before = staged_entries (take n all) in
    let one : List Entry = staged_entry f ∷ [] in
    let more = entries_more all n f (omega arith, c.frame-item.is) in
    let keys = λ (l : List Entry). map (λ (e : Entry). e.key) l in
    record {
      digests =
          c.in_ok-learn.ensures.digests
          ∙ ap (λ (l : List (List ℕ)). l ++ keys (blobs_in one)) c.loop-frame.invariant.digests
          ∙ sym (map-append (λ (e : Entry). e.key) (blobs_in before) (blobs_in one))
          ∙ ap keys (sym (blobs_in_append before one))
          ∙ ap (λ (l : List Entry). keys (blobs_in l)) (sym more);
      bytes =
          c.in_ok-learn.ensures.bytes
          ∙ ap (λ (l : List (List ℕ)). l ++ contents_of one) c.loop-frame.invariant.bytes
          ∙ sym (contents_of-append before one)
          ∙ ap contents_of (sym more);
    }

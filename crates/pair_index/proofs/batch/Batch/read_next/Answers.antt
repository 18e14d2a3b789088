use Rattle.std.proofs.Common.{◌≡◌, ◌<◌, [], List, true, length, take, get_or, refl, sym, ◌∙◌, ap, arith}
use Rattle.cache_api.specs.Pairs.{Pair}
use Rattle.record_log.specs.Kinds.{Entry, entry}
use Rattle.record_log.specs.Log.{frames_in}
use Rattle.blob_pool.specs.Contents.{contents_of}
use Rattle.blob_pool.specs.Known.{known_in}
use Rattle.blob_pool.specs.Laws.{known_whole}
use Rattle.pair_frames.specs.Pairs.{holds_pair, pair_in}
use Rattle.pair_reader.specs.Frames.{frame_of, pair_at}
use Rattle.pair_reader.specs.Answers.{is_one_of, text_where}
use Rattle.pair_index.specs.declared.batch.Batch.{Batch}
use Rattle.pair_index.specs.Keys.{len_of}
use Rattle.pair_index.specs.Batch.{key_of}
use Rattle.pair_index.proofs.IndexLaws.{pair_early, entry_at}
use Rattle.pair_index.proofs.BatchLaws.{key_is, batch_more, batch_same}
use Rattle.pair_index.proofs.batch.Batch.read_next.Goals as goal
use Rattle.pair_index.proofs.batch.Batch.read_next.Goals.{then-holds_pair+in_ok-key+in_ok-push, else-holds_pair}

pub key_text_at-requires-clause-pair : goal.key_text_at-requires-clause-pair
key_text_at-requires-clause-pair g c told =
    let log = c.args.log.now in
    let fs = frames_in log in
    let n = c.args.self.now.next in
    let lt : n < length fs = omega (arith, c.requires.next, (log.front told).few) in
    ap (λ (l : List Entry). holds_pair (frame_of l n).kind) (known_whole log c.requires.whole told)
    ∙ sym (ap holds_pair (c.kind_at.ensures told (get_or fs n (entry 0 [] [])) (entry_at fs n (entry 0 [] []) lt)))
    ∙ sym c.holds_pair.ensures ∙ c.if-holds_pair.true

pub returns-clause-batch : goal.returns-clause-batch
returns-clause-batch g c told first x =
    let log = c.args.log.now in
    let fs = frames_in log in
    let n = c.args.self.now.next in
    let d = entry 0 [] [] in
    let e = get_or fs n d in
    let lt : n < length fs = omega (arith, c.requires.next, (log.front told).few) in
    let kind : holds_pair e.kind ≡ c.holds_pair.result =
    sym (c.holds_pair.ensures ∙ ap holds_pair (c.kind_at.ensures told e (entry_at fs n d lt))) in
    elim c.if-holds_pair.branch [
      | then-holds_pair+in_ok-key+in_ok-push w ↦
          let holds : holds_pair e.kind ≡ true = kind ∙ w.if-holds_pair.true in
          let formed = (log.kept c.requires.whole told).rest.formed in
          let pair : Pair = pair_in (contents_of (take n fs)) e in
          let same : pair_at (known_in log) n ≡ pair =
          ap (λ (l : List Entry). pair_at l n) (known_whole log c.requires.whole told) ∙ pair_early fs n d formed lt holds in
          let key : w.in_ok-key.key ≡ key_of c.args.lengths.now pair =
          key_is c.args.lengths.now w.in_ok-key.key pair (w.in_ok-key.ensures.len told ∙ ap len_of same)
          (w.in_ok-key.ensures.text told ∙ ap (λ (p : Pair). text_where (is_one_of c.args.lengths.now w.in_ok-key.key.len) p.0) same) in
          batch_more c.args.lengths.now fs first c.args.self.now _ w.in_ok-key.key d lt holds key
          (ap (λ (b : Batch). b.numbers.items) w.self-is ∙ w.in_ok-push.ensures.numbers)
          (ap (λ (b : Batch). b.keys.items) w.self-is ∙ w.in_ok-push.ensures.keys) refl x
      | else-holds_pair w ↦
          batch_same c.args.lengths.now fs first c.args.self.now _ d lt (kind ∙ w.if-holds_pair.false)
          (ap (λ (b : Batch). b.numbers.items) w.self-is) (ap (λ (b : Batch). b.keys.items) w.self-is) refl x
    ]

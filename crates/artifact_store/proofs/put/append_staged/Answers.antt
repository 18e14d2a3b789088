use Rattle.std.proofs.Common.{◌≡◌, ◌++◌, ◌+◌, ◌≤◌, ℕ, List, length, sym, ◌∙◌, ap, subst, arith}
use Rattle.std.proofs.lemmas.List.{length-map, length-take-le}
use Rattle.record_log.specs.Kinds.{Entry}
use Rattle.record_log.specs.Batch.{new_entry, new_entries}
use Rattle.record_log.specs.Log.{frames_in, count_of}
use Rattle.blob_pool.specs.Known.{known_in}
use Rattle.blob_pool.specs.Laws.{knows_held, knows_behind, known_whole}
use Rattle.pair_frames.specs.Pairs.{pairs_in}
use Rattle.cache_api.specs.Keys.{new_pairs}
use Rattle.cache_api.specs.Pairs.{chosen}
use Rattle.pair_writer.specs.Learning.{GoesOn}
use Rattle.pair_writer.specs.Laws.{knows_after}
use Rattle.pair_writer.specs.Staged.{entries}
use Rattle.pair_index.specs.Index.{FramesBelow, IsIndexOf}
use Rattle.artifact_store.proofs.After.{indexes_held, indexes_behind, known_after}
use Rattle.artifact_store.proofs.put.append_staged.Goals as goal

pub returns-in_err-first-clause-pool : goal.returns-in_err-first-clause-pool
returns-in_err-first-clause-pool g c =
    let held = knows_held c.args.pool.now c.reserve.new.self c.args.log.now c.requires.pool c.reserve.ensures.same in
    knows_behind c.reserve.new.self c.args.log.now c.append.new.log _ held c.in_err-first.ensures.same_count c.append.ensures.after

pub returns-in_err-first-clause-index : goal.returns-in_err-first-clause-index
returns-in_err-first-clause-index g c =
    let held = indexes_held c.args.index.now c.reserve-2.new.self c.args.log.now c.requires.index c.reserve-2.ensures.same in
    indexes_behind c.reserve-2.new.self c.args.log.now c.append.new.log _ held c.in_err-first.ensures.same_count c.append.ensures.after

pub returns-clause-pool : goal.returns-clause-pool
returns-clause-pool g c =
    let log = c.args.log.now in
    let new = c.append.new.log in
    let es = entries c.args.staged.now in
    let are : new_entries c.as_slice.result.now ≡ es = ap new_entries c.as_slice.ensures.value ∙ c.in_ok-frames.ensures in
    let many : length c.as_slice.result.now ≡ length es = sym (length-map c.as_slice.result.now new_entry) ∙ ap length are in
    let held = knows_held c.args.pool.now c.reserve.new.self log c.requires.pool c.reserve.ensures.same in
    let goes = subst (λ (n : ℕ). GoesOn n es c.reserve.new.self c.learn_all.new.pool) c.in_ok-first.ensures.number c.learn_all.ensures.pool in
    knows_after c.reserve.new.self c.learn_all.new.pool log new es held goes
    (omega (arith, c.in_ok-first.ensures.count, many))
    (λ told. known_after log new es c.requires.whole told (c.in_ok-first.ensures.stays ∙ c.requires.whole)
    (c.in_ok-first.ensures.frames told ∙ ap (λ (l : List Entry). frames_in log ++ l) are))

pub returns-clause-index : goal.returns-clause-index
returns-clause-index g c =
    let log = c.args.log.now in
    let new = c.append.new.log in
    let es = entries c.args.staged.now in
    let are : new_entries c.as_slice.result.now ≡ es = ap new_entries c.as_slice.ensures.value ∙ c.in_ok-frames.ensures in
    let many : length c.as_slice.result.now ≡ length es = sym (length-map c.as_slice.result.now new_entry) ∙ ap length are in
    let held = indexes_held c.args.index.now c.reserve-2.new.self log c.requires.index c.reserve-2.ensures.same in
    let first = c.in_ok-first.ensures.number in
    let count : count_of new ≡ c.in_ok-first.first + length es = omega (arith, c.in_ok-first.ensures.count, many, first) in
    record {
      told = λ told.
          let known = known_after log new es c.requires.whole told (c.in_ok-first.ensures.stays ∙ c.requires.whole)
          (c.in_ok-first.ensures.frames told ∙ ap (λ (l : List Entry). frames_in log ++ l) are) in
          let few : count_of log ≤ length (frames_in log) = (log.front told).few in
          let at : c.in_ok-first.first ≡ length (known_in log) = first ∙ sym (length-take-le (count_of log) (frames_in log) few) in
          let pairs = subst (λ (l : List Entry). pairs_in (l ++ es) ≡ pairs_in l ++ chosen (new_pairs c.args.pairs.now) c.args.puts.now)
          (sym (known_whole log c.requires.whole told)) (c.requires.pairs told) in
          subst (IsIndexOf c.learn.new.self) (sym known) (c.learn.ensures.index (known_in log) (held.told told) at pairs);
      below = subst (FramesBelow c.learn.new.self) (sym count)
          (c.learn.ensures.below (subst (FramesBelow c.reserve-2.new.self) (sym first) held.below));
    }

use Rattle.std.proofs.Common.{◌≡◌, ◌≤◌, ℕ, ◌+◌, ◌++◌, ◌∷◌, [], List, length, take, sym, ◌∙◌, ap, subst, arith, append_assoc}
use Rattle.pair_frames.specs.Pairs.{holds_pair}
use Rattle.pair_frames.specs.Reading.{record_places}
use Rattle.pair_writer.specs.Held.{staged_entry, staged_entries}
use Rattle.pair_index.specs.declared.index.Index.{Index}
use Rattle.pair_index.specs.Index.{frames_in, frame_room}
use Rattle.pair_index.proofs.IndexLaws.{places_record, places_other}
use Rattle.pair_index.proofs.index.Index.learn_frames.Goals as goal
use Rattle.pair_index.proofs.index.Index.learn_frames.Goals.{in-Record, in-Content}

room_of : {a b : Index} (n i : ℕ) → a ≡ b → n ≤ frame_room b + i → n ≤ frame_room a + i
room_of n i same le = subst (λ (s : Index). n ≤ frame_room s + i) (sym same) le

pub loop-frame-preserved : goal.loop-frame-preserved
loop-frame-preserved c =
    let first = c.args.first in
    let frames = c.args.frames.now in
    let k = c.loop-frame.frame-index in
    let done = record_places first (staged_entries (take k frames)) in
    let all = length frames in
    elim c.match-frame.branch [
      | in-Record w ↦
          let place = places_record first frames k c.frame-item.result c.loop-frame-test.true c.frame-item.is (ap (λ f. holds_pair (staged_entry f).kind) w.in-Record.is) in
          let at : c.loop-frame.number ≡ first + k = c.loop-frame.invariant.number in
          record {
            room = room_of all (k + 1) w.self-is (omega (arith, c.loop-frame.invariant.room, w.push_reserved.ensures.len, w.push_reserved.ensures.capacity));
            number = omega (arith, c.loop-frame.invariant.number);
            frames = ap frames_in w.self-is ∙ w.push_reserved.ensures.items
                ∙ (λ i. c.loop-frame.invariant.frames i ++ at i ∷ [])
                ∙ append_assoc c.args.self.now.frames.items done ((first + k) ∷ [])
                ∙ ap (λ (l : List ℕ). c.args.self.now.frames.items ++ l) (sym place);
            keys = ap (λ s. s.keys) w.self-is ∙ c.loop-frame.invariant.keys;
          }
      | in-Content w ↦
          let place = places_other first frames k c.frame-item.result c.loop-frame-test.true c.frame-item.is (ap (λ f. holds_pair (staged_entry f).kind) w.in-Content.is) in
          record {
            room = room_of all (k + 1) w.self-is (omega (arith, c.loop-frame.invariant.room));
            number = omega (arith, c.loop-frame.invariant.number);
            frames = ap frames_in w.self-is ∙ c.loop-frame.invariant.frames
                ∙ ap (λ (l : List ℕ). c.args.self.now.frames.items ++ l) (sym place);
            keys = ap (λ s. s.keys) w.self-is ∙ c.loop-frame.invariant.keys;
          }
    ]

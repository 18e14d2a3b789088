-- What an order to compact leaves of both stores.
use Rattle.std.proofs.Common.{◌≡◌, ◌⊎◌, inl, inr, ℕ, List, Option, Some, Ok, sym, ◌∙◌, ap, arith}
use Rattle.store_dev.specs.declared.device.StoreDevice.{Ghosts}
use Rattle.cache_api.specs.Pairs.{Pair}
use Rattle.record_log.specs.Kinds.{Entry}
use Rattle.record_log.specs.Frames.{reading, IsSound, ReadsAsOneOf}
use Rattle.artifact_store.specs.Pairs.{stands_for}
use Rattle.compact.specs.declared.side.Side.{Side}
use Rattle.compact.specs.declared.side.Side.TheVariants.{First, Spare}
use Rattle.compact.specs.Current.{current_of, on_side, pairs_held, pairs_of}
use Rattle.compact.specs.Left.{IsEither}
use Rattle.compact.proofs.Telling.{frames_same, stands_itself}
use Rattle.store_answers.specs.Facts.{both_hold}
use Rattle.store_answers.specs.Stores.{stores_of, held_in}
use Rattle.second_runs.specs.Images.{IsOneOfBoth}
use Rattle.second_runs.proofs.Pairs.{both_read}
use Rattle.second_runs.proofs.Reading.{OnlyNow}
use Rattle.compact_orders.specs.Asking.{current_pairs, kept_pairs}
use Rattle.compact_orders.specs.Left.{AreReread, LeavesCompact, PassesRest, LastsCompacted}
use Rattle.turbo_app.specs.Images.{IsChosenOfBoth, LeavesAtOnce}

-- what is read as a store is one
sound_as : (a b : List ℕ) → reading b ≡ reading a → IsSound b → IsSound a
sound_as a b same sound =
    sym same ∙ sound ∙ ap (λ (fs : List Entry). Ok fs) (frames_same b a same)

stands_on : (side : Side) (a b : List ℕ) → IsSound a → IsSound b
    → stands_for (on_side side a b) ≡ Some (pairs_held (on_side side a b))
stands_on First a b sound also = stands_itself a sound
stands_on Spare a b sound also = stands_itself b also

-- the current one of two stores stands for its pairs
pub current_stands : (a b : List ℕ) → IsSound a → IsSound b
    → pairs_of a b ≡ Some (current_pairs (stores_of a b))
current_stands a b sound also = stands_on (current_of a b) a b sound also

module _ {S P : Type 0} (G : Ghosts S) (H : Ghosts P) (keep : Option ℕ) (store new : S)
    (spare then : P) (reads : G.images store (G.content store))
    (reads_spare : H.images spare (H.content spare)) where
  -- of two images that came of the two as they read
  came : (sound : IsSound (G.content store)) → (also : IsSound (H.content spare)) → (f s : List ℕ)
      → IsEither (current_pairs (stores_of (G.content store) (H.content spare)))
      (kept_pairs keep (stores_of (G.content store) (H.content spare))) (pairs_of f s)
      → IsOneOfBoth (G.images store) (H.images spare) f s
      ⊎ IsChosenOfBoth keep (G.images store) (H.images spare) f s
  came sound also f s (inl old) = inl (
    G.content store,
    H.content spare,
    reads,
    reads_spare,
    old ∙ sym (current_stands (G.content store) (H.content spare) sound also),
  )
  came sound also f s (inr kept) = inr (record {
    store = G.content store;
    spare = H.content spare;
    was_store = reads;
    was_spare = reads_spare;
    pairs = current_pairs (stores_of (G.content store) (H.content spare));
    was = current_stands (G.content store) (H.content spare) sound also;
    is = kept;
  })

  -- of two that are read as images that there were
  again : (f s : List ℕ) → ReadsAsOneOf (G.images store) f → ReadsAsOneOf (H.images spare) s
      → IsOneOfBoth (G.images store) (H.images spare) f s
      ⊎ IsChosenOfBoth keep (G.images store) (H.images spare) f s
  again f s one other = inl (both_read (G.images store) (H.images spare) f s one other)

  pub compact_left : OnlyNow G new → OnlyNow H then
      → ((c : List ℕ) → G.images new c → G.images_since new (G.moment store) c)
      → ((c : List ℕ) → H.images then c → H.images_since then (H.moment spare) c)
      → LeavesCompact G H keep store new spare then
      → LeavesAtOnce G H store new spare then (λ f s.
      IsOneOfBoth (G.images store) (H.images spare) f s
      ⊎ IsChosenOfBoth keep (G.images store) (H.images spare) f s)
  compact_left only also counts counts_spare (inl both) = record {
    middle = new;
    middle_spare = then;
    until = λ f s left after. again f s (both.of_store.images.each f left)
        (both.of_spare.images.each s after);
    later = omega arith;
    spare_later = omega arith;
    behind = λ f s left after.
        again f s (both.of_store.images.each f (counts f (only f left)))
        (both.of_spare.images.each s (counts_spare s (also s after)));
  }
  compact_left only also counts counts_spare (inr passes) = record {
    middle = passes.middle.0;
    middle_spare = passes.middle.1;
    until = λ f s left after. again f s (passes.store_opened.each f left)
        (passes.spare_opened.each s after);
    later = passes.store_later;
    spare_later = passes.spare_later;
    behind = λ f s left after. came
        (sound_as (G.content store) (G.content passes.middle.0) passes.store_rests.reads
        passes.store_rests.rests.sound)
        (sound_as (H.content spare) (H.content passes.middle.1) passes.spare_rests.reads
        passes.spare_rests.rests.sound)
        f s (passes.behind f s left after);
  }

-- after it came to its end, the two as they read hold what was kept
pub kept_held : {S P : Type 0} (G : Ghosts S) (H : Ghosts P) (keep : Option ℕ) (a b : List ℕ)
    (new : S) (then : P) → G.images new (G.content new) → H.images then (H.content then)
    → LastsCompacted G H keep (stores_of a b) new then
    → (held_in (stores_of (G.content new) (H.content then))).pairs
    ≡ Some (kept_pairs keep (stores_of a b))
kept_held G H keep a b new then reads reads_spare lasts =
    both_hold (G.content new) (H.content then) lasts.store_rests.sound lasts.spare_rests.sound
    ∙ lasts.each (G.content new) (H.content then) reads reads_spare

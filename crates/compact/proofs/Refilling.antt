-- A spare store that was cleared, opened and filled.
use Rattle.std.proofs.Common.{◌≡◌, ℕ, List, [], ◌++◌, Ok, refl, ◌∙◌, ap, subst}
use Rattle.std.specs.Prelude.{IsTrue}
use Rattle.store_dev.specs.Device.{LeavesOnly}
use Rattle.store_dev.specs.Moments.{leaves_more, leaves_then}
use Rattle.store_dev.specs.declared.device.StoreDevice.{Ghosts}
use Rattle.cache_api.specs.Pairs.{Pair}
use Rattle.record_log.specs.Kinds.{Entry, generation_of}
use Rattle.record_log.specs.Frames.{reading, frames_of, ReadsAsOneOf}
use Rattle.pair_frames.specs.Pairs.{pairs_in}
use Rattle.pair_reader.specs.declared.wanted.Lengths.{Lengths}
use Rattle.artifact_store.specs.declared.store.Store.{Store}
use Rattle.artifact_store.specs.Laws.{images_told}
use Rattle.artifact_store.specs.Opened.{IsOpened}
use Rattle.artifact_store.specs.Store.{device_of, state_of, frames_of as store_frames}
use Rattle.compact.specs.Left.{Rests, RestsAs, IsStoreOf}
use Rattle.compact.specs.Sources.{PutsOn, IsOfGeneration}
use Rattle.compact.proofs.Telling.{tells_frames, store_is, frames_same, opened_reads}
use Rattle.compact.proofs.Stepping.{reads_one}

no_generation : generation_of [] ≡ 0
unfolding generation_of
no_generation = refl

no_pairs : pairs_in [] ≡ []
unfolding pairs_in
no_pairs = refl

module _ {P : Type 0} (G : Ghosts P) (to : P) (none : frames_of (G.content to) ≡ [])
    (rests : Rests G to) where
  -- what there was is an empty store
  empty_one : (c : List ℕ) → ReadsAsOneOf (G.images to) c → IsOfGeneration 0 c
  empty_one c x =
      let is : reading c ≡ Ok [] =
      reads_one (G.content to) (G.images to) rests.alone c x ∙ rests.sound ∙ ap (λ (l : List Entry). Ok l) none in
      let t = tells_frames c [] is in
      (pairs_in [], store_is 0 (pairs_in []) c (record { sound = t.sound; generation = t.generation ∙ no_generation; pairs = t.pairs }))

  pub refill_unopened : (new : P) → LeavesOnly G.moment G.images_since to new (ReadsAsOneOf (G.images to))
      → LeavesOnly G.moment G.images_since to new (IsOfGeneration 0)
  refill_unopened new x =
      leaves_more G.moment G.images_since to new (ReadsAsOneOf (G.images to)) (IsOfGeneration 0) x empty_one

  module _ (lengths : Lengths) (store : Store P G) (opened : IsOpened to lengths store)
      (told : G.tells) where
    empty_frames : store_frames store ≡ []
    empty_frames =
        frames_same (G.content (device_of store)) (G.content to) (opened_reads (G.content to) (G.content (device_of store)) (opened.opened told)) ∙ none

    empty_base : (state_of store).base ≡ 0
    empty_base = opened.generation told ∙ ap generation_of empty_frames ∙ no_generation

    -- what a crash leaves while it is filled
    pub refill_leaves : (new : Store P G) → PutsOn store new
        → LeavesOnly G.moment G.images_since to (device_of new) (IsOfGeneration 0)
    refill_leaves new puts =
        leaves_then G.moment G.images_since to (device_of store) (device_of new)
        (ReadsAsOneOf (G.images to)) (IsOfGeneration (state_of store).base) (IsOfGeneration 0)
        (opened.images told) (puts.images told) empty_one
        (λ c x. subst (λ (n : ℕ). IsOfGeneration n c) empty_base x)

    -- and what it is then
    pub refill_rests : (new : Store P G) (pairs : List Pair) → PutsOn store new
        → IsTrue (state_of new).whole → (state_of new).pairs ≡ (state_of store).pairs ++ pairs
        → G.images (device_of new) (G.content (device_of new)) → RestsAs G 0 pairs (device_of new)
    refill_rests new pairs puts whole are now =
        let kept = new.log.kept whole told in
        let content = G.content (device_of new) in
        let is : IsStoreOf (state_of new).base (state_of new).pairs content =
        images_told kept new.generation (new.same whole told) content now in
        let base : (state_of new).base ≡ 0 = puts.base ∙ empty_base in
        let all : (state_of new).pairs ≡ pairs =
        are ∙ ap (λ (l : List Pair). l ++ pairs) (ap pairs_in empty_frames ∙ no_pairs) in
        record {
          rests = record { sound = kept.read; alone = kept.durable };
          is = subst (λ (n : ℕ). IsStoreOf n pairs content) base
              (subst (λ (l : List Pair). IsStoreOf (state_of new).base l content) all is);
        }

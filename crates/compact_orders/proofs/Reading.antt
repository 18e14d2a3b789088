-- Bytes that are read as the current store of two.
use Rattle.std.proofs.Common.{◌≡◌, ◌<◌, inl, inr, ℕ, ◌+◌, List, [], None, sym, ◌∙◌, ap, subst, length}
use Rattle.std.specs.Prelude.{Option}
use Rattle.cache_api.specs.Pairs.{Pair}
use Rattle.record_log.specs.Kinds.{Entry, generation_of}
use Rattle.record_log.specs.Frames.{IsSound}
use Rattle.pair_frames.specs.Pairs.{pairs_in}
use Rattle.compact.specs.Answers.{last_generation}
use Rattle.compact.specs.Chosen.{chosen}
use Rattle.compact.specs.Current.{generation_in, pairs_held, current_of, on_side}
use Rattle.compact.specs.Left.{ReadsAs, IsCountIn, IsCountOf, IsRenewing, chosen_in}
use Rattle.compact.specs.Room.{lacking}
use Rattle.compact.specs.declared.kept.Kept.{Kept}
use Rattle.compact.specs.declared.side.Side.{Side}
use Rattle.compact.proofs.Telling.{frames_same, store_tells}
use Rattle.refusals.specs.declared.refusal.Refusal.{Refusal}
use Rattle.store_answers.specs.Stores.{Stores}
use Rattle.compact_orders.specs.Asking.{AreSound, IsLast, IsFull, IsStuck, IsRefusedCompact}
use Rattle.compact_orders.specs.Asking.{IsCompactable}
use Rattle.compact_orders.specs.Asking.{current_pairs, kept_pairs, lacking_for}

-- ---- bytes with the same frames

module _ (bytes c : List ℕ) (reads : ReadsAs bytes c) where
  pub generation_as : generation_in c ≡ generation_in bytes
  generation_as = ap generation_of (frames_same c bytes reads)

  pub pairs_as : pairs_held c ≡ pairs_held bytes
  pairs_as = ap pairs_in (frames_same c bytes reads)

  pub chosen_as : (keep : Option ℕ) → chosen_in c keep ≡ chosen_in bytes keep
  chosen_as keep = ap (λ (pairs : List Pair). chosen pairs keep) pairs_as

  pub lacking_as : (keep : Option ℕ) → lacking_for keep c ≡ lacking_for keep bytes
  lacking_as keep = ap (λ (fs : List Entry). lacking (generation_of fs + 1) [] (chosen (pairs_in fs) keep)) (frames_same c bytes reads)

-- ---- the current one of two

-- it was read so, and either is a store
module _ (keep : Option ℕ) (stores : Stores) (c : List ℕ) (side : Side)
    (is : current_of stores.store stores.spare ≡ side)
    (reads : ReadsAs (on_side side stores.store stores.spare) c) (sound : AreSound stores) where
  same_pairs : pairs_held c ≡ current_pairs stores
  same_pairs = pairs_as (on_side side stores.store stores.spare) c reads ∙ ap (λ (s : Side). pairs_held (on_side s stores.store stores.spare)) (sym is)

  pub current_is : current_pairs stores ≡ pairs_held c
  current_is = sym same_pairs

  pub kept_is : kept_pairs keep stores ≡ chosen_in c keep
  kept_is = ap (λ (pairs : List Pair). chosen pairs keep) (sym same_pairs)

  pub could_on : (generation_in c < last_generation) × (lacking_for keep c ≡ None)
      → IsCompactable keep stores
  could_on (generation, room) =
      let cur = on_side side stores.store stores.spare in
      let low : generation_in cur < last_generation = subst (λ n. n < last_generation) (generation_as cur c reads) generation in
      let free : lacking_for keep cur ≡ None = sym (lacking_as cur c reads keep) ∙ room in
      record {
        sound = sound;
        generation = subst (λ s. generation_in (on_side s stores.store stores.spare) < last_generation) (sym is) low;
        room = subst (λ s. lacking_for keep (on_side s stores.store stores.spare) ≡ None) (sym is) free;
      }

  pub refused_on : (reason : Refusal) → IsStuck keep c reason → IsRefusedCompact keep stores reason
  refused_on reason (inl last) =
      let cur = on_side side stores.store stores.spare in
      let here : IsLast cur reason = record { generation = sym (generation_as cur c reads) ∙ last.generation; is = last.is } in
      inr (sound, inl (subst (λ s. IsLast (on_side s stores.store stores.spare) reason) (sym is) here))
  refused_on reason (inr full) =
      let cur = on_side side stores.store stores.spare in
      let here : IsFull keep cur reason = record {
        generation = subst (λ n. n < last_generation) (generation_as cur c reads) full.generation;
        lack = full.lack;
        lacks = sym (lacking_as cur c reads keep) ∙ full.lacks;
        is = full.is;
      } in
      inr (sound, inr (subst (λ s. IsFull keep (on_side s stores.store stores.spare) reason) (sym is) here))

  pub counts_on : (kept : Kept) → IsCountOf c keep kept
      → IsCountIn (current_pairs stores) keep kept
  counts_on kept x = record {
    kept = x.kept ∙ ap length (sym kept_is);
    before = x.before ∙ ap length same_pairs;
  }

-- ---- what an image is

-- of a store that is renewed, where both are read as others
pub renewing_as : (keep : Option ℕ) (from a to b c : List ℕ) → ReadsAs from a → ReadsAs to b
    → IsRenewing (generation_in b) (generation_in a + 1) (chosen_in a keep) c
    → IsRenewing (generation_in to) (generation_in from + 1) (chosen_in from keep) c
renewing_as keep from a to b c p q x =
    subst (λ n. IsRenewing n (generation_in from + 1) (chosen_in from keep) c) (generation_as to b q)
    (subst (λ n. IsRenewing (generation_in b) (n + 1) (chosen_in from keep) c) (generation_as from a p)
    (subst (λ l. IsRenewing (generation_in b) (generation_in a + 1) l c) (chosen_as from a p keep) x))

-- it is a store
pub renewing_sound : (was generation : ℕ) (pairs : List Pair) (c : List ℕ)
    → IsRenewing was generation pairs c → IsSound c
renewing_sound was generation pairs c (inl x) = x.sound
renewing_sound was generation pairs c (inr is) = (store_tells generation pairs c is).sound

-- The padded text, block by block.
use Rattle.std.proofs.Common.{◌≡◌, ℕ, zero, suc, ◌+◌, ◌-◌, ◌*◌, ◌/◌, ◌%◌, ◌^◌, ◌≤◌, List, ◌∷◌, length, take, drop, replicate, refl, sym, ap, ap₂, ◌∙◌, arith, length-append, add-zero}
use Rattle.std.proofs.lemmas.List.{length-replicate, take-take, drop-drop, drop-take}
use Rattle.std.specs.Int.{w64, to_be_bytes}
use Rattle.sha2.specs.Sha256.{compress, digest_bytes, hash_after, initial_hash_256, padded_message, padding, sha256}
use Rattle.sha2.proofs.Absorbing256.{hash_after_next}
use Rattle.sha_lanes.specs.declared.lane.Lane.{Lane}
use Rattle.sha_lanes.specs.UnderWay.{IsNext, IsUnderWay, blocks_of}

-- a padded text is whole blocks
pub length-padded : (text : List ℕ) → length (padded_message text) ≡ blocks_of (length text) * 64
length-padded text =
    let n : ℕ = length text in
    let zs : List ℕ = replicate ((119 - n % 64) % 64) 0 in
    let zeros : length zs ≡ (119 - n % 64) % 64 = length-replicate _ 0 in
    let all = length-append text (padding n) in
    let end = length-append (0x80 ∷ zs) (to_be_bytes w64 (n * 8 % 2 ^ 64)) in
    omega (arith, zeros, all, end)

-- once all blocks are done, the state is the whole text's
pub digest_of : (text : List ℕ) (l : Lane) → IsUnderWay text l → l.blocks ≤ l.done → digest_bytes l.state 8 ≡ sha256 text
unfolding sha256
digest_of text l held ended =
    let count : length (padded_message text) / 64 ≡ l.done = omega (arith, length-padded text, held.blocks, held.within) in
    ap (λ h. digest_bytes h 8) (rw count held.state)

-- a block of the bytes that come next
next_block : (p bytes : List ℕ) (done count : ℕ) → bytes ≡ take (length bytes) (drop (done * 64) p) → count * 64 + 64 ≤ length bytes
    → take 64 (drop (count * 64) bytes) ≡ take 64 (drop ((done + count) * 64) p)
next_block p bytes done count next enough =
    let xs : List ℕ = drop (done * 64) p in
    let k : ℕ = length bytes - count * 64 in
    let e : length bytes ≡ count * 64 + k = omega arith in
    let there : drop (count * 64) xs ≡ drop ((done + count) * 64) p = drop-drop (count * 64) (done * 64) p ∙ ap (λ i. drop i p) (omega arith) in
    ap (λ (bs : List ℕ). take 64 (drop (count * 64) bs)) (next ∙ ap (λ i. take i xs) e) ∙ ap (take 64) (drop-take (count * 64) k xs)
    ∙ take-take 64 k (drop (count * 64) xs) (omega arith) ∙ ap (take 64) there

-- the next blocks, taken in after those that are done
hash_after_next_bytes : (start p bytes : List ℕ) (done count : ℕ) → bytes ≡ take (length bytes) (drop (done * 64) p) → count * 64 ≤ length bytes
    → hash_after (hash_after start p done) bytes count ≡ hash_after start p (done + count)
unfolding hash_after
hash_after_next_bytes start p bytes done zero next enough = rw add-zero refl
hash_after_next_bytes start p bytes done (suc count) next enough =
    let before = hash_after_next_bytes start p bytes done count next (omega arith) in
    let block = next_block p bytes done count next (omega arith) in
    let e : done + suc count ≡ (done + count) + 1 = omega arith in
    ap₂ compress before block ∙ sym (hash_after_next start p (done + count)) ∙ sym (ap (hash_after start p) e)

pub later : (text : List ℕ) (l : Lane) (bytes : List ℕ) (count : ℕ) (state : List ℕ) → IsUnderWay text l → IsNext text l.done bytes
    → count * 64 ≤ length bytes → l.done + count ≤ l.blocks → state ≡ hash_after l.state bytes count
    → IsUnderWay text (record { place = l.place; blocks = l.blocks; done = l.done + count; state = state; tail = l.tail })
later text l bytes count state held next enough fits taken = record {
  blocks = held.blocks;
  within = fits;
  state = taken ∙ rw held.state (hash_after_next_bytes initial_hash_256 (padded_message text) bytes l.done count next.next enough);
  tail = held.tail;
}

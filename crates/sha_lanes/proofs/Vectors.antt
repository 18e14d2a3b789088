-- The words of a schedule, one vector after another.
use Rattle.std.proofs.Common.{◌≡◌, ℕ, ◌+◌, ◌*◌, ◌<◌, ◌≤◌, List, [], length, slice_index, slice_index_or, slice_set, ◌∙◌, refl, sym, ap, add-zero, arith, inl, inr}
use Rattle.std.proofs.lemmas.List.{get_or-set_same, get_or-set_other, length-set}
use Rattle.std.proofs.lemmas.Simd.{get_or-chunk}
use Rattle.std.proofs.lemmas.Bool.{cases_lt}
use Rattle.sha2.specs.Sha256.{compress, first_words, hash_after, round, round_constants, rounds, word_at}
use Rattle.sha2.proofs.Absorbing256.{hash_after_next}
use Rattle.sha2.proofs.Schedule256.{rounds_next, slice_index-first_words}
use Rattle.sha_lanes.specs.Lanes.{HasWords, block_at, lane_at}

-- the same count, spelled another way
has_at : (w : List (List ℕ)) (j : ℕ) (words : List ℕ) (n m : ℕ) → n ≡ m → HasWords w j words n → HasWords w j words m
has_at w j words n m e has k lt = has k (omega (arith, e))

-- one vector more
pub HasWords_more : (w : List (List ℕ)) (j : ℕ) (words : List ℕ) (n : ℕ) (v : List ℕ) → HasWords w j words n → n < length w
    → slice_index v j ≡ slice_index words n → HasWords (slice_set w n v) j words (n + 1)
HasWords_more w j words n v has fits same k lt = elim (cases_lt k n) [
  | inl below ↦ ap (λ (x : List ℕ). slice_index x j) (get_or-set_other w n k v _ (omega arith)) ∙ has k below
  | inr above ↦
      let e : k ≡ n = omega arith in
      rw e (ap (λ (x : List ℕ). slice_index x j) (get_or-set_same w n v _ fits) ∙ same)
]

-- one round more, with its parts given by equations
pub rounds_more : (h words v : List ℕ) (t k x : ℕ) (next : List ℕ) → v ≡ rounds h words t → k ≡ slice_index round_constants t
    → x ≡ slice_index words t → next ≡ round v k x → next ≡ rounds h words (t + 1)
rounds_more h words v t k x next ev ek ex en = en ∙ rw (ev, ek, ex) (sym (rounds_next h words t))

-- four vectors more
pub HasWords_four : (w : List (List ℕ)) (j : ℕ) (words : List ℕ) (n m : ℕ) (q : List (List ℕ)) → HasWords w j words n → n + 4 ≤ length w
    → n + 4 ≡ m → ((k : ℕ) → k < 4 → lane_at q k j ≡ slice_index words (n + k))
    → HasWords (slice_set (slice_set (slice_set (slice_set w n (slice_index_or q 0 [])) (n + 1) (slice_index_or q 1 [])) (n + 2) (slice_index_or q 2 []))
    (n + 3) (slice_index_or q 3 [])) j words m
HasWords_four w j words n m q has fits e same =
    let w1 = slice_set w n (slice_index_or q 0 []) in
    let w2 = slice_set w1 (n + 1) (slice_index_or q 1 []) in
    let w3 = slice_set w2 (n + 2) (slice_index_or q 2 []) in
    let l1 : length w1 ≡ length w = length-set w n _ in
    let l2 : length w2 ≡ length w = length-set w1 (n + 1) _ ∙ l1 in
    let l3 : length w3 ≡ length w = length-set w2 (n + 2) _ ∙ l2 in
    let h1 = HasWords_more w j words n _ has (omega arith) (rw add-zero at (same 0 (omega arith))) in
    let h2 = HasWords_more w1 j words (n + 1) _ h1 (omega arith) (same 1 (omega arith)) in
    let h3 = HasWords_more w2 j words (n + 2) _ (has_at w2 j words _ _ (omega arith) h2) (omega arith) (same 2 (omega arith)) in
    let h4 = HasWords_more w3 j words (n + 3) _ (has_at w3 j words _ _ (omega arith) h3) (omega arith) (same 3 (omega arith)) in
    has_at _ j words _ _ (omega (arith, e)) h4

-- a word of the block, in the bytes that the block is cut from
block_byte : (bytes : List ℕ) (at i : ℕ) → i < 64 → slice_index (block_at bytes at) i ≡ slice_index bytes (at + i)
block_byte bytes at i lt = get_or-chunk at 64 bytes i 0 lt

block_word : (bytes : List ℕ) (at i : ℕ) → i + 4 ≤ 64 → word_at (block_at bytes at) i ≡ word_at bytes (at + i)
block_word bytes at i fits =
    let e1 : at + (i + 1) ≡ at + i + 1 = omega arith in
    let e2 : at + (i + 2) ≡ at + i + 2 = omega arith in
    let e3 : at + (i + 3) ≡ at + i + 3 = omega arith in
    rw (
      block_byte bytes at i (omega arith),
      block_byte bytes at (i + 1) (omega arith),
      block_byte bytes at (i + 2) (omega arith),
      block_byte bytes at (i + 3) (omega arith),
      e1,
      e2,
      e3,
    ) refl

pub block_words : (bytes : List ℕ) (at place k : ℕ) → place < 4 → k < 4
    → word_at bytes (at + 16 * place + 4 * k) ≡ slice_index (first_words (block_at bytes at) 16) (4 * place + k)
block_words bytes at place k lp lk =
    let i : ℕ = 4 * place + k in
    let e : at + 16 * place + 4 * k ≡ at + 4 * i = omega arith in
    rw e (sym (slice_index-first_words (block_at bytes at) 16 i (omega arith) ∙ block_word bytes at (4 * i) (omega arith)))

-- one block more
pub hash_more : (old new start bytes : List ℕ) (n : ℕ) → old ≡ hash_after start bytes n → new ≡ compress old (block_at bytes (n * 64))
    → new ≡ hash_after start bytes (n + 1)
hash_more old new start bytes n before taken = taken ∙ rw before (sym (hash_after_next start bytes n))

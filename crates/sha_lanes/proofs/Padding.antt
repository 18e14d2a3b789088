-- The last blocks of a padded text, as the buffer that they are written into.
use Rattle.std.proofs.Common.{◌≡◌, ℕ, suc, ◌+◌, ◌-◌, ◌*◌, ◌/◌, ◌%◌, ◌^◌, ◌≤◌, List, ◌∷◌, ◌++◌, length, take, drop, replicate, slice_set, sym, ap, ◌∙◌, arith, length-append, length-drop, append_assoc}
use Rattle.std.proofs.lemmas.List.{drop-append-le, drop-replicate, length-replicate, replicate-append-replicate, set-append_right, take_at}
use Rattle.std.proofs.lemmas.Slice.{take-put_mid}
use Rattle.std.specs.Int.{w64, to_be_bytes}
use Rattle.sha_lanes.specs.UnderWay.{blocks_of, last_blocks}
use borrow.Rule.Slice.PartMut.{put_mid}

abbrev zeros : ℕ → List ℕ
zeros n = replicate n 0

-- the bytes, the bit 1 after them, and zeros
marked : (copied : List ℕ) (r m z : ℕ) → length copied ≡ r → r + 1 + z + m ≡ 128
    → slice_set (copied ++ drop r (zeros 128)) r 0x80 ≡ (copied ++ 0x80 ∷ zeros z) ++ zeros m
marked copied r m z long e =
    let zs : List ℕ = zeros (z + m) in
    let count : 128 - r ≡ suc (z + m) = omega arith in
    let here : r - r ≡ 0 = omega arith in
    let rest : drop r (zeros 128) ≡ 0 ∷ zs = drop-replicate r 128 0 ∙ ap (λ (k : ℕ). zeros k) count in
    let set : slice_set (copied ++ 0 ∷ zs) r 0x80 ≡ copied ++ slice_set (0 ∷ zs) (r - r) 0x80 = set-append_right copied (0 ∷ zs) r r 0x80 long (omega arith) in
    let first : slice_set (0 ∷ zs) (r - r) 0x80 ≡ 0x80 ∷ zs = ap (λ (k : ℕ). slice_set (0 ∷ zs) k 0x80) here in
    let split : zs ≡ zeros z ++ zeros m = sym (replicate-append-replicate z m 0) in
    ap (λ (d : List ℕ). slice_set (copied ++ d) r 0x80) rest ∙ set ∙ ap (λ (d : List ℕ). copied ++ d) (first ∙ ap (λ (d : List ℕ). 0x80 ∷ d) split)
    ∙ sym (append_assoc copied (0x80 ∷ zeros z) (zeros m))

pub padded_tail_is : (text copied bits : List ℕ) (e r k : ℕ) → copied ≡ drop (length text / 64 * 64) text → bits ≡ to_be_bytes w64 (length text * 8 % 2 ^ 64)
    → r ≡ length text - length text / 64 * 64 → e ≡ (blocks_of (length text) - length text / 64) * 64
    → take e (put_mid (e - 8) k (slice_set (copied ++ drop r (zeros 128)) r 0x80) bits) ≡ last_blocks text
padded_tail_is text copied bits e r k ec eb er ee =
    let n : ℕ = length text in
    let q : ℕ = n / 64 * 64 in
    let z : ℕ = (119 - n % 64) % 64 in
    let m : ℕ = 127 - r - z in
    let zs : List ℕ = zeros z in
    let head : List ℕ = copied ++ 0x80 ∷ zs in
    let t : List ℕ = slice_set (copied ++ drop r (zeros 128)) r 0x80 in
    let long : length copied ≡ r = ap length ec ∙ length-drop q text ∙ sym er in
    let lb : length bits ≡ 8 = ap length eb in
    let lz : length zs ≡ z = length-replicate z 0 in
    let lh : length head ≡ r + (1 + z) = omega (arith, length-append copied (0x80 ∷ zs), long, lz) in
    let ends : e - 8 ≡ r + (1 + z) = omega arith in
    let is : t ≡ head ++ zeros m = marked copied r m z long (omega arith) in
    let lt : e - 8 ≤ length t = omega (arith, ap length is, length-append head (zeros m), lh, ends) in
    let front : take (e - 8) t ≡ head = ap (take (e - 8)) is ∙ take_at head (zeros m) (e - 8) (omega (arith, lh, ends)) in
    take-put_mid (e - 8) k t bits e (omega (arith, lb, ends)) lt ∙ ap (λ (x : List ℕ). x ++ bits) front ∙ append_assoc copied (0x80 ∷ zs) bits
    ∙ rw (ec, eb) (sym (drop-append-le q text _ (omega arith)))

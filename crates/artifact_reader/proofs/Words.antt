-- A number by its four bytes.
use Rattle.std.proofs.Common.{◌≡◌, inl, inr, ◌≤◌, ◌<◌, ℕ, Bool, cond, List, length, take, drop, Some, None, sym, ◌∙◌, ap, arith}
use Rattle.std.specs.Int.{w32, from_le_bytes}
use Rattle.std.proofs.lemmas.Bool.{cases_lt, lt-ltb, le-ltb}
use Rattle.std.proofs.lemmas.List.{length-take, take_all}
use Rattle.codes.specs.Codes.{took, read_bytes, read_word}
use Rattle.codes.specs.Reading.{some_same}

-- what is read as so many bytes
pub record AreFront (n : ℕ) (bytes x rest : List ℕ) : Type 0 where
  pub long : n ≤ length bytes
  pub front : take n bytes ≡ x
  pub back : drop n bytes ≡ rest
  pub len : length x ≡ n

pub fronts : (n : ℕ) (bytes x rest : List ℕ) → read_bytes n bytes ≡ Some (x, rest) → AreFront n bytes x rest
fronts n bytes x rest e = elim (cases_lt (length bytes) n) [
  | inl short ↦ let none = ap (λ (b : Bool). cond b None (took (take n bytes) (drop n bytes))) (lt-ltb _ _ short) in absurd (cc (none, e))
  | inr long ↦
      let some = ap (λ (b : Bool). cond b None (took (take n bytes) (drop n bytes))) (le-ltb _ _ long) in
      let same = some_same _ _ _ _ (sym some ∙ e) in
      record { long = long; front = same.0; back = same.1; len = omega (arith, length-take n bytes, long, ap length same.0) }
]

too_short : (n : ℕ) (bytes : List ℕ) → read_bytes n bytes ≡ None → length bytes < n
too_short n bytes e = elim (cases_lt (length bytes) n) [
  | inl short ↦ short
  | inr long ↦ let some = ap (λ (b : Bool). cond b None (took (take n bytes) (drop n bytes))) (le-ltb _ _ long) in absurd (cc (some, e))
]

word_long : (bytes : List ℕ) → 4 ≤ length bytes → read_word bytes ≡ Some (from_le_bytes w32 (take 4 bytes), drop 4 bytes)
unfolding read_word
word_long bytes long = ap (λ (b : Bool). cond b None (took (from_le_bytes w32 (take 4 bytes)) (drop 4 bytes))) (le-ltb _ _ long)

pub word_none : (bytes : List ℕ) → read_bytes 4 bytes ≡ None → read_word bytes ≡ None
unfolding read_word
word_none bytes e = ap (λ (b : Bool). cond b None (took (from_le_bytes w32 (take 4 bytes)) (drop 4 bytes))) (lt-ltb _ _ (too_short 4 bytes e))

pub word_some : (bytes x rest more : List ℕ) (n : ℕ) → read_bytes 4 bytes ≡ Some (x, rest) → read_word x ≡ Some (n, more) → read_word bytes ≡ Some (n, rest)
word_some bytes x rest more n e word =
    let front = fronts 4 bytes x rest e in
    let same = some_same _ _ _ _ (sym (word_long x (omega (arith, front.len))) ∙ word) in
    let all : take 4 x ≡ x = take_all 4 x (omega (arith, front.len)) in
    word_long bytes front.long ∙ (λ i. Some ((ap (from_le_bytes w32) (front.front ∙ sym all) ∙ same.0) i, front.back i))

pub word_there : (bytes x rest : List ℕ) → read_bytes 4 bytes ≡ Some (x, rest) → 4 ≤ length x
word_there bytes x rest e = let front = fronts 4 bytes x rest e in omega (arith, front.len)

pub word_is_there : (x : List ℕ) → 4 ≤ length x → read_word x ≡ None → ⊥
word_is_there x long none = let some = word_long x long in absurd (cc (some, none))

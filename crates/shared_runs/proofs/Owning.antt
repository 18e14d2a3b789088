-- What a run sees once it put pairs itself.
use Rattle.std.proofs.Common.{◌≡◌, inl, inr, ℕ, zero, suc, ◌+◌, ◌<◌, ◌≤◌, Bool, true, false, cond}
use Rattle.std.proofs.Common.{List, [], ◌∷◌, ◌++◌, length, refl, ◌∙◌, ap, arith}
use Rattle.std.specs.Prelude.{◌||◌, nat_lt, nat_eq}
use Rattle.std.specs.List.{All}
use Rattle.std.proofs.lemmas.Bool.{cases_lt, eq-eqb, ne_eqb}
use Rattle.std.proofs.lemmas.List.Elements.{All-append}
use Rattle.std.proofs.lemmas.List.Folds.{list_any-append}
use Rattle.cache_api.specs.declared.puts.Put.{Put}
use Rattle.cache_api.specs.declared.puts.Put.TheVariants.{Stored, Full}
use Rattle.cache_api.specs.Pairs.{Pair, chosen}
use Rattle.pair_reader.specs.Answers.{is_among}
use Rattle.pair_index.specs.declared.seen.SeenPairs.{SeenPairs}
use Rattle.pair_index.specs.Seen.{is_seen, numbered, seen_pairs}
use Rattle.shared_runs.specs.Own.{numbers_on, stored_in}
use Rattle.shared_runs.proofs.Seeing.{numbered_both}

-- ---- how many were put

pub length-chosen : (pairs : List Pair) (puts : List Put) → length puts ≡ length pairs
    → length (chosen pairs puts) ≡ stored_in puts
length-chosen [] [] even = refl
length-chosen [] (p ∷ puts) even = absurd (omega (arith, even))
length-chosen (x ∷ pairs) [] even = absurd (omega (arith, even))
length-chosen (x ∷ pairs) (Stored ∷ puts) even =
    ap suc (length-chosen pairs puts (omega (arith, even)))
length-chosen (x ∷ pairs) (Full ∷ puts) even = length-chosen pairs puts (omega (arith, even))

-- ---- numbers

pub numbers_below : (from count n : ℕ) → from + count ≤ n → All (λ k. k < n) (numbers_on from count)
numbers_below from zero n le = grind arith
numbers_below from (suc count) n le =
    All-append (λ k. k < n) (from ∷ []) (numbers_on (from + 1) count) (grind (arith, le))
    (numbers_below (from + 1) count n (omega (arith, le)))

among_low : (from count k : ℕ) → k < from → is_among (numbers_on from count) k ≡ false
among_low from zero k lt = refl
among_low from (suc count) k lt =
    let apart : nat_eq from k ≡ false = ne_eqb from k (λ same. absurd (omega (arith, lt, same))) in
    (λ i. apart i || is_among (numbers_on (from + 1) count) k)
    ∙ among_low (from + 1) count k (omega (arith, lt))

among_here : (from count k : ℕ) → from ≤ k → k < from + count → is_among (numbers_on from count) k
    ≡ true
among_here from zero k le lt = absurd (omega (arith, le, lt))
among_here from (suc count) k le lt = elim (cases_lt from k) [
  | inl more ↦
      let apart : nat_eq from k ≡ false = ne_eqb from k
      (λ same. absurd (omega (arith, more, same))) in
      (λ i. apart i || is_among (numbers_on (from + 1) count) k)
      ∙ among_here (from + 1) count k (omega (arith, more)) (omega (arith, lt))
  | inr last ↦
      let same : nat_eq from k ≡ true = eq-eqb from k (omega (arith, le, last)) in
      λ i. same i || is_among (numbers_on (from + 1) count) k
]

-- ---- what is seen of pairs with those that were put

or_true : (a : Bool) → (a || true) ≡ true
or_true true = refl
or_true false = refl

or_false : (a : Bool) → (a || false) ≡ a
or_false true = refl
or_false false = refl

module _ (old new : SeenPairs) (from count : ℕ) (first : new.first ≡ old.first)
    (own : new.own ≡ old.own ++ numbers_on from count) where
  among_is : (k : ℕ) → is_among new.own k ≡ (is_among old.own k || is_among
      (numbers_on from count) k)
  among_is k =
      ap (λ (l : List ℕ). is_among l k) own
      ∙ list_any-append (λ (other : ℕ). nat_eq other k) old.own (numbers_on from count)

  sees_low : (k : ℕ) → k < from → is_seen new k ≡ is_seen old k
  sees_low k lt =
      let same : is_among new.own k ≡ is_among old.own k =
      among_is k ∙ ap (λ (b : Bool). is_among old.own k || b) (among_low from count k lt)
      ∙ or_false (is_among old.own k) in
      λ i. nat_lt k (first i) || same i

  sees_here : (k : ℕ) → from ≤ k → k < from + count → is_seen new k ≡ true
  sees_here k le lt =
      let here : is_among new.own k ≡ true =
      among_is k ∙ ap (λ (b : Bool). is_among old.own k || b) (among_here from count k le lt)
      ∙ or_true (is_among old.own k) in
      ap (λ (b : Bool). nat_lt k new.first || b) here ∙ or_true (nat_lt k new.first)

  same_by : {A : Type 0} (a b : Bool) (x : A) (xs ys : List A) → a ≡ b → xs ≡ ys
      → cond a (x ∷ xs) xs ≡ cond b (x ∷ ys) ys
  same_by a b x xs ys is are = λ i. cond (is i) (x ∷ are i) (are i)

  numbered_low : {A : Type 0} (n : ℕ) (xs : List A) → n + length xs ≤ from
      → numbered (is_seen new) n xs ≡ numbered (is_seen old) n xs
  numbered_low n [] le = refl
  numbered_low n (x ∷ xs) le =
      same_by (is_seen new n) (is_seen old n) x (numbered (is_seen new) (n + 1) xs)
      (numbered (is_seen old) (n + 1) xs)
      (sees_low n (omega (arith, le))) (numbered_low (n + 1) xs (omega (arith, le)))

  numbered_here : {A : Type 0} (n : ℕ) (xs : List A) → from ≤ n → n + length xs ≤ from + count
      → numbered (is_seen new) n xs ≡ xs
  numbered_here n [] le lt = refl
  numbered_here n (x ∷ xs) le lt =
      same_by (is_seen new n) true x (numbered (is_seen new) (n + 1) xs) xs
      (sees_here n le (omega (arith, lt))) (numbered_here (n + 1) xs (omega (arith, le))
      (omega (arith, lt)))

  -- pairs in front are seen as before
  pub view_low : {A : Type 0} (xs : List A) → length xs ≤ from → seen_pairs new xs
      ≡ seen_pairs old xs
  view_low xs le = numbered_low 0 xs (omega (arith, le))

  -- and those that were put behind so many are all seen
  pub view_put : {A : Type 0} (xs ys : List A) → length xs ≡ from → length ys ≤ count
      → seen_pairs new (xs ++ ys) ≡ seen_pairs old xs ++ ys
  view_put xs ys len le =
      numbered_both (is_seen new) 0 xs ys
      ∙ (λ i. numbered_low 0 xs (omega (arith, len)) i
      ++ numbered_here (0 + length xs) ys (omega (arith, len)) (omega (arith, len, le)) i)

-- What is kept of keys, as pairs are added.
use Rattle.std.proofs.Common.{◌≡◌, ℕ, zero, suc, ◌+◌, ◌<◌, Bool, true, false, cond, List, [], ◌∷◌, ◌++◌, length, map, take, get_or, Option, refl, sym, ◌∙◌, ap, subst, arith}
use Rattle.std.specs.Prelude.{min}
use Rattle.std.proofs.lemmas.List.{map-append, length-map}
use Rattle.cache_api.specs.declared.puts.Put.{Put}
use Rattle.cache_api.specs.declared.puts.Put.TheVariants.{Stored, Full}
use Rattle.cache_api.specs.Pairs.{Pair, chosen}
use Rattle.pair_reader.specs.declared.wanted.Lengths.{Lengths}
use Rattle.pair_reader.specs.Answers.{is_one_of, print_where}
use Rattle.pair_index.specs.declared.keys.Keys.{Keys}
use Rattle.pair_index.specs.Keys.{len_of, print_of, is_hashed, numbers_from, passing, lens_in, numbers_in, prints_in, number_where, listed_print, IsKeysOf}

-- ---- one pair more

push_by : {A : Type 0} (b : Bool) (x : A) (both front more : List A) → both ≡ front ++ more
    → cond b (x ∷ both) both ≡ cond b (x ∷ front) front ++ more
push_by true x both front more is = ap (λ (l : List _). x ∷ l) is
push_by false x both front more is = is

numbers_push : (test : Pair → Bool) (n : ℕ) (pairs : List Pair) (pair : Pair)
    → numbers_from test n (pairs ++ pair ∷ [])
    ≡ numbers_from test n pairs ++ cond (test pair) ((n + length pairs) ∷ []) []
numbers_push test n [] pair =
    ap (λ (k : ℕ). cond (test pair) (k ∷ []) []) (omega arith)
numbers_push test n (x ∷ pairs) pair =
    let next : n + 1 + length pairs ≡ n + suc (length pairs) = omega arith in
    push_by (test x) n _ (numbers_from test (n + 1) pairs) _
    (numbers_push test (n + 1) pairs pair
    ∙ ap (λ (k : ℕ). numbers_from test (n + 1) pairs ++ cond (test pair) (k ∷ []) []) next)

passing_push : (test : Pair → Bool) (pairs : List Pair) (pair : Pair)
    → passing test (pairs ++ pair ∷ []) ≡ passing test pairs ++ cond (test pair) (pair ∷ []) []
passing_push test [] pair = refl
passing_push test (x ∷ pairs) pair =
    push_by (test x) x _ (passing test pairs) _ (passing_push test pairs pair)

number_by : (b : Bool) (key : List ℕ) (n : ℕ)
    → number_where (print_where b key) n ≡ cond b (n ∷ []) []
number_by true key n = refl
number_by false key n = refl

print_by : (b : Bool) (pair : Pair)
    → listed_print (print_where b pair.0) ≡ map print_of (cond b (pair ∷ []) [])
print_by true pair = refl
print_by false pair = refl

-- these are kept of the keys of pairs
pub record AreKeysOf (lens numbers : List ℕ) (prints : List (List ℕ)) (lengths : Lengths)
    (pairs : List Pair) : Type 0 where
  pub lens_are : lens ≡ map len_of pairs
  pub numbers_are : numbers ≡ numbers_from (is_hashed lengths) 0 pairs
  pub prints_are : prints ≡ map print_of (passing (is_hashed lengths) pairs)

keys_added : (old : Keys) (pairs : List Pair) (pair : Pair) (len : ℕ) (print : Option (List ℕ))
    → IsKeysOf old pairs → len ≡ len_of pair
    → print ≡ print_where (is_one_of old.lengths len) pair.0
    → AreKeysOf (lens_in old ++ len ∷ [])
    (numbers_in old ++ number_where print (length (lens_in old)))
    (prints_in old ++ listed_print print) old.lengths (pairs ++ pair ∷ [])
keys_added old pairs pair len print x is told =
    let test = is_hashed old.lengths in
    let told_by : print ≡ print_where (test pair) pair.0 =
    told ∙ ap (λ (n : ℕ). print_where (is_one_of old.lengths n) pair.0) is in
    let many : length (lens_in old) ≡ length pairs =
    ap length x.lens ∙ length-map pairs len_of in
    let from_zero : length pairs ≡ 0 + length pairs = omega arith in
    record {
      lens_are = (λ i. x.lens i ++ is i ∷ []) ∙ sym (map-append len_of pairs (pair ∷ []));
      numbers_are =
          (λ i. x.numbers i ++ number_where (told_by i) (many i))
          ∙ ap (λ (l : List ℕ). numbers_from test 0 pairs ++ l) (number_by (test pair) pair.0 (length pairs))
          ∙ ap (λ (k : ℕ). numbers_from test 0 pairs ++ cond (test pair) (k ∷ []) []) from_zero
          ∙ sym (numbers_push test 0 pairs pair);
      prints_are =
          (λ i. x.prints i ++ listed_print (told_by i))
          ∙ ap (λ (l : List (List ℕ)). map print_of (passing test pairs) ++ l) (print_by (test pair) pair)
          ∙ sym (map-append print_of (passing test pairs) (cond (test pair) (pair ∷ []) []))
          ∙ ap (map print_of) (sym (passing_push test pairs pair));
    }

pub keys_push : (old : Keys) (pairs : List Pair) (pair : Pair) (len : ℕ) (print : Option (List ℕ))
    → IsKeysOf old pairs → len ≡ len_of pair
    → print ≡ print_where (is_one_of old.lengths len) pair.0
    → (lengths : Lengths) → lengths ≡ old.lengths
    → AreKeysOf (lens_in old ++ len ∷ [])
    (numbers_in old ++ number_where print (length (lens_in old)))
    (prints_in old ++ listed_print print) lengths (pairs ++ pair ∷ [])
keys_push old pairs pair len print x is told lengths same =
    subst (λ (l : Lengths). AreKeysOf (lens_in old ++ len ∷ [])
    (numbers_in old ++ number_where print (length (lens_in old)))
    (prints_in old ++ listed_print print) l (pairs ++ pair ∷ [])) (sym same)
    (keys_added old pairs pair len print x is told)

-- ---- pairs that are put

-- one of them, by whether it was put
abbrev pub chosen_one : Put → Pair → List Pair
chosen_one put pair = chosen (pair ∷ []) (put ∷ [])

chosen_on : (put : Put) (pair : Pair) (both front more : List Pair) (xs : List Pair) (ps : List Put)
    → both ≡ front ++ more → chosen xs ps ≡ front
    → (ys : List Pair) (qs : List Put) → chosen ys qs ≡ both
    → chosen (pair ∷ ys) (put ∷ qs) ≡ chosen (pair ∷ xs) (put ∷ ps) ++ more
chosen_on Stored pair both front more xs ps is front_is ys qs both_is =
    ap (λ (l : List Pair). pair ∷ l) (both_is ∙ is ∙ ap (λ (l : List Pair). l ++ more) (sym front_is))
chosen_on Full pair both front more xs ps is front_is ys qs both_is =
    both_is ∙ is ∙ ap (λ (l : List Pair). l ++ more) (sym front_is)

chosen_suc : (pairs : List Pair) (puts : List Put) (i : ℕ) (d : Pair) (e : Put)
    → i < length pairs → i < length puts
    → chosen (take (suc i) pairs) (take (suc i) puts)
    ≡ chosen (take i pairs) (take i puts) ++ chosen_one (get_or puts i e) (get_or pairs i d)
chosen_suc [] puts i d e lt few = absurd (omega arith)
chosen_suc (x ∷ pairs) [] i d e lt few = absurd (omega arith)
chosen_suc (x ∷ pairs) (p ∷ puts) zero d e lt few = refl
chosen_suc (x ∷ pairs) (p ∷ puts) (suc i) d e lt few =
    chosen_on p x _ _ _ (take i pairs) (take i puts)
    (chosen_suc pairs puts i d e (omega (arith, lt)) (omega (arith, few))) refl _ _ refl

pub chosen_step : (pairs : List Pair) (puts : List Put) (i : ℕ) (d : Pair) (e : Put)
    → i < length pairs → i < length puts
    → chosen (take (i + 1) pairs) (take (i + 1) puts)
    ≡ chosen (take i pairs) (take i puts) ++ chosen_one (get_or puts i e) (get_or pairs i d)
chosen_step pairs puts i d e lt few =
    let next : i + 1 ≡ suc i = omega arith in
    ap (λ (k : ℕ). chosen (take k pairs) (take k puts)) next ∙ chosen_suc pairs puts i d e lt few

chosen_same : (put : Put) (pair : Pair) (xs ys : List Pair) (ps qs : List Put)
    → chosen xs ps ≡ chosen ys qs → chosen (pair ∷ xs) (put ∷ ps) ≡ chosen (pair ∷ ys) (put ∷ qs)
chosen_same Stored pair xs ys ps qs is = ap (λ (l : List Pair). pair ∷ l) is
chosen_same Full pair xs ys ps qs is = is

pub chosen_all : (pairs : List Pair) (puts : List Put) (n : ℕ)
    → n ≡ min (length pairs) (length puts) → chosen (take n pairs) (take n puts) ≡ chosen pairs puts
chosen_all [] puts zero is = refl
chosen_all [] puts (suc n) is = refl
chosen_all (x ∷ pairs) [] zero is = refl
chosen_all (x ∷ pairs) [] (suc n) is = absurd (omega (arith, is))
chosen_all (x ∷ pairs) (p ∷ puts) zero is = absurd (omega (arith, is))
chosen_all (x ∷ pairs) (p ∷ puts) (suc n) is =
    chosen_same p x _ _ _ _ (chosen_all pairs puts n (omega (arith, is)))

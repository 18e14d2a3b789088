-- Steps of loops over values with a code, and the first digits of a hexadecimal text.
use Rattle.std.proofs.Common.{◌≡◌, ℕ, ◌+◌, ◌<◌, List, [], ◌∷◌, ◌++◌, length, get_or, take, drop, refl, sym, ◌∙◌, ap, subst, arith, append_assoc, take-append-drop}
use Rattle.std.specs.Prelude.{slice_index, ◌/◌, ◌%◌}
use Rattle.std.proofs.lemmas.List.{take_at, length-take}
use Rattle.rel_path.proofs.Parts.{turn}
use Rattle.codes.specs.Codes.{items, Each, list}
use Rattle.codes.specs.Reading.{items_push}
use Rattle.hex.specs.Hex.{encode_with}
use Rattle.hex.proofs.HexLemmas.{length-encode_with}

-- one item more
pub items_more : {A : Type 0} (code : A → List ℕ) (all : List A) (n : ℕ) (x : A) → (n < length all) × (x ≡ get_or all n x) → items code (take (n + 1) all) ≡ items code (take n all) ++ code x
items_more code all n x h = ap (items code) (turn all n x h).0 ∙ items_push code (take n all) x

each_push : {A : Type 0} (F : A → Type 0) (xs : List A) (x : A) → Each F xs → F x → Each F (xs ++ x ∷ [])
each_push F [] x h f = (f, tt)
each_push F (y ∷ ys) x h f = (h.0, each_push F ys x h.1 f)

pub each_more : {A : Type 0} (F : A → Type 0) (all : List A) (n : ℕ) (x : A) → (n < length all) × (x ≡ get_or all n x) → Each F (take n all) → F x → Each F (take (n + 1) all)
each_more F all n x at h f = subst (Each F) (sym (turn all n x at).0) (each_push F (take n all) x h f)

-- one text added, and then another
pub then_written : (old mid new first rest : List ℕ) → mid ≡ old ++ first → new ≡ mid ++ rest → new ≡ old ++ (first ++ rest)
then_written old mid new first rest e f = f ∙ ap (λ l. l ++ rest) e ∙ append_assoc old first rest

-- a list added, and then a text
pub then_listed : {A : Type 0} (code : A → List ℕ) (old mid new : List ℕ) (all field : List A) (rest : List ℕ) → mid ≡ old ++ list code all → all ≡ field → new ≡ mid ++ rest → new ≡ old ++ (list code field ++ rest)
then_listed code old mid new all field rest e same f = then_written old mid new (list code field) rest (e ∙ ap (λ l. old ++ list code l) same) f

encode-append : (digits xs ys : List ℕ) → encode_with digits (xs ++ ys) ≡ encode_with digits xs ++ encode_with digits ys
unfolding encode_with
encode-append digits [] ys = refl
encode-append digits (x ∷ xs) ys = ap (λ l. slice_index digits (x / 16) ∷ slice_index digits (x % 16) ∷ l) (encode-append digits xs ys)

-- the digits of the first bytes are the first digits
pub encode-front : (digits xs : List ℕ) → length xs ≡ 32 → encode_with digits (take 8 xs) ≡ take 16 (encode_with digits xs)
encode-front digits xs len =
    let front = encode_with digits (take 8 xs) in
    let rest = encode_with digits (drop 8 xs) in
    let whole : encode_with digits xs ≡ front ++ rest = sym (ap (encode_with digits) (take-append-drop 8 xs)) ∙ encode-append digits (take 8 xs) (drop 8 xs) in
    let sixteen : length front ≡ 16 = omega (arith, length-encode_with digits (take 8 xs), length-take 8 xs, len) in
    sym (take_at front rest 16 sixteen) ∙ ap (take 16) (sym whole)

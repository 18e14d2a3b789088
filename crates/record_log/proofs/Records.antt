-- Going over the pieces of a record.
use Rattle.std.proofs.Common.{◌≡◌, inl, inr, ◌<◌, ℕ, zero, suc, Bool, true, false, cond, List, [], ◌∷◌, ◌++◌, length, Option, Some, None, refl, sym, ◌∙◌, ap, arith}
use Rattle.std.specs.Prelude.{◌&&◌, ◌==◌}
use Rattle.std.proofs.lemmas.Bool.{cases_Bool, and_left, and_right, ne_eqb}
use Rattle.std.specs.Option.{option_map}
use Rattle.std.specs.Int.{Width}
use Rattle.codes.specs.Codes.{Taken, took, then_read, read_items, read_both, whole_of}
use Rattle.codes.specs.Reading.{then_is}
use Rattle.record_log.specs.Pieces.{Piece, read_number, read_piece, piece_by, read_pieces, record_of, is_below, all_below, both_below, behind}

-- what passes a test is there
pub record Passed {A : Type 0} (passes : A → Bool) (t : Taken A) (rest : List ℕ) : Type 0 where
  pub value : A
  pub is : t ≡ Some (value, rest)
  pub good : passes value ≡ true

some_same : (x y : List ℕ) → Some x ≡ Some y → x ≡ y
some_same x y e = cc

passed_one : {A : Type 0} (passes : A → Bool) (x : A) (r rest : List ℕ) → (b : Bool) → passes x ≡ b
    → cond b (Some r) None ≡ Some rest → Passed passes (Some (x, r)) rest
passed_one passes x r rest true good e = record { value = x; is = ap (λ (l : List ℕ). Some (x, l)) (some_same r rest e); good = good }
passed_one passes x r rest false bad e = absurd (cc (e))

pub passed : {A : Type 0} (passes : A → Bool) (t : Taken A) (rest : List ℕ)
    → behind passes t ≡ Some rest → Passed passes t rest
passed passes None rest e = absurd (cc (e))
passed passes (Some p) rest e = passed_one passes p.0 p.1 rest (passes p.0) refl e

pub piece_none : (w : Width) (tag : ℕ) (rest : List ℕ) → read_number w rest ≡ None
    → read_piece w (tag ∷ rest) ≡ None
unfolding read_piece
piece_none w tag rest none = ap (λ (t : Taken ℕ). then_read t (piece_by tag)) none

pub piece_empty : (w : Width) (bytes : List ℕ) → length bytes ≡ 0 → read_piece w bytes ≡ None
unfolding read_piece
piece_empty w [] none = refl
piece_empty w (x ∷ bytes) none = absurd (omega (arith, none))

pub piece_is : (w : Width) (tag n : ℕ) (rest more : List ℕ) → read_number w rest ≡ Some (n, more)
    → read_piece w (tag ∷ rest) ≡ piece_by tag n more
unfolding read_piece
piece_is w tag n rest more is = then_is (read_number w rest) (piece_by tag) n more is

all_below_bad : (contents : ℕ) (xs : List Piece) (x : Piece) → is_below contents x ≡ false
    → all_below contents (xs ++ x ∷ []) ≡ false
all_below_bad contents [] x bad = and_left _ _ bad
all_below_bad contents (y ∷ xs) x bad = and_right _ _ (all_below_bad contents xs x bad)

all_below_front : (contents : ℕ) (xs ys : List Piece) → all_below contents xs ≡ false
    → all_below contents (xs ++ ys) ≡ false
all_below_front contents [] ys bad = absurd (cc (bad))
all_below_front contents (x ∷ xs) ys bad = elim (cases_Bool (is_below contents x)) [
  | inl good ↦ and_right _ _ (all_below_front contents xs ys (ap (λ (b : Bool). b && all_below contents xs) (sym good) ∙ bad))
  | inr none ↦ and_left _ _ none
]

-- once a piece is bad, no list of them passes
items_bad : (contents : ℕ) (r : List ℕ → Taken Piece) (n : ℕ) (xs : List Piece) (rest : List ℕ)
    → all_below contents xs ≡ false → behind (all_below contents) (read_items r xs n rest) ≡ None
items_bad contents r zero xs rest bad = ap (λ (b : Bool). cond b (Some rest) None) bad
items_bad contents r (suc n) xs rest bad = elim (r rest) as (λ (t : Taken Piece). behind (all_below contents) (then_read t (λ x more. read_items r (xs ++ x ∷ []) n more)) ≡ None) [
  | None ↦ refl
  | Some p ↦ items_bad contents r n (xs ++ p.0 ∷ []) p.1 (all_below_front contents xs (p.0 ∷ []) bad)
]

stuck_one : (contents : ℕ) (r : List ℕ → Taken Piece) (n : ℕ) (xs : List Piece) (t : Taken Piece)
    → behind (is_below contents) t ≡ None
    → behind (all_below contents) (then_read t (λ x more. read_items r (xs ++ x ∷ []) n more)) ≡ None
stuck_one contents r n xs None none = refl
stuck_one contents r n xs (Some p) none = elim (cases_Bool (is_below contents p.0)) [
  | inl good ↦ let some = ap (λ (b : Bool). cond b (Some p.1) None) good in absurd (cc (some, none))
  | inr bad ↦ items_bad contents r n (xs ++ p.0 ∷ []) p.1 (all_below_bad contents xs p.0 bad)
]

-- where no piece follows
pub stuck : (contents : ℕ) (r : List ℕ → Taken Piece) (n : ℕ) (xs : List Piece) (rest : List ℕ)
    → 0 < n → behind (is_below contents) (r rest) ≡ None
    → behind (all_below contents) (read_items r xs n rest) ≡ None
stuck contents r zero xs rest some none = absurd (omega (arith, some))
stuck contents r (suc n) xs rest some none = stuck_one contents r n xs (r rest) none

-- and where all have been read
pub ended : (contents : ℕ) (r : List ℕ → Taken Piece) (n : ℕ) (xs : List Piece) (rest : List ℕ)
    → n ≡ 0 → all_below contents xs ≡ true
    → behind (all_below contents) (read_items r xs n rest) ≡ Some rest
ended contents r zero xs rest none good = ap (λ (b : Bool). cond b (Some rest) None) good
ended contents r (suc n) xs rest none good = absurd (omega (arith, none))

pub pieces_is : (w : Width) (bytes : List ℕ) (n : ℕ) (rest : List ℕ)
    → read_number w bytes ≡ Some (n, rest)
    → read_pieces w bytes ≡ read_items (read_piece w) [] n rest
unfolding read_pieces
pieces_is w bytes n rest is = then_is (read_number w bytes) (read_items (read_piece w) []) n rest is

pub pieces_none : (w : Width) (bytes : List ℕ) → read_number w bytes ≡ None
    → read_pieces w bytes ≡ None
unfolding read_pieces
pieces_none w bytes none = ap (λ (t : Taken ℕ). then_read t (read_items (read_piece w) [])) none

-- a record is pieces, and pieces behind them, and nothing else
pub ends_there : Option (List ℕ) → Bool
ends_there None = false
ends_there (Some []) = true
ends_there (Some (x ∷ xs)) = false

bare : (b : Bool) → b ≡ ends_there (cond b (Some []) None)
unfolding ends_there
bare true = refl
bare false = refl

more_behind : (b : Bool) (x : ℕ) (xs : List ℕ) → false ≡ ends_there (cond b (Some (x ∷ xs)) None)
unfolding ends_there
more_behind true x xs = refl
more_behind false x xs = refl

last_pieces : (contents : ℕ) (keys : List Piece) (t : Taken (List Piece))
    → both_below contents (whole_of (then_read t (λ y more. took (keys, y) more))) ≡ (all_below contents keys && ends_there (behind (all_below contents) t))
unfolding ends_there whole_of
last_pieces contents keys None = sym (and_right (all_below contents keys) _ refl)
last_pieces contents keys (Some (values, [])) = ap (λ (b : Bool). all_below contents keys && b) (bare (all_below contents values))
last_pieces contents keys (Some (values, x ∷ xs)) = sym (and_right (all_below contents keys) _ (sym (more_behind (all_below contents values) x xs)))

pub record_behind : (contents : ℕ) (w : Width) (bytes value : List ℕ)
    → behind (all_below contents) (read_pieces w bytes) ≡ Some value
    → both_below contents (record_of w bytes) ≡ ends_there (behind (all_below contents) (read_pieces w value))
unfolding record_of read_both
record_behind contents w bytes value is =
    let p = passed (all_below contents) (read_pieces w bytes) value is in
    ap (λ (t : Taken (List Piece × List Piece)). both_below contents (whole_of t)) (then_is (read_pieces w bytes) (λ x rest. then_read (read_pieces w rest) (λ y more. took (x, y) more)) p.value value p.is)
    ∙ last_pieces contents p.value (read_pieces w value)
    ∙ ap (λ (b : Bool). b && ends_there (behind (all_below contents) (read_pieces w value))) p.good

first_none : (contents : ℕ) (w : Width) (t : Taken (List Piece))
    → behind (all_below contents) t ≡ None
    → both_below contents (whole_of (then_read t (λ x rest. then_read (read_pieces w rest) (λ y more. took (x, y) more)))) ≡ false
unfolding whole_of
first_none contents w None none = refl
first_none contents w (Some p) none = elim (cases_Bool (all_below contents p.0)) [
  | inl good ↦ let some = ap (λ (b : Bool). cond b (Some p.1) None) good in absurd (cc (some, none))
  | inr bad ↦ last_pieces contents p.0 (read_pieces w p.1) ∙ and_left _ _ bad
]

pub record_none : (contents : ℕ) (w : Width) (bytes : List ℕ)
    → behind (all_below contents) (read_pieces w bytes) ≡ None
    → both_below contents (record_of w bytes) ≡ false
unfolding record_of read_both
record_none contents w bytes none = first_none contents w (read_pieces w bytes) none

pub ends_there_none : (o : Option (List ℕ)) → o ≡ None → ends_there o ≡ false
unfolding ends_there
ends_there_none o is = ap ends_there is

pub ends_there_some : (o : Option (List ℕ)) (rest : List ℕ) → o ≡ Some rest
    → ends_there o ≡ ends_there (Some rest)
ends_there_some o rest is = ap ends_there is

pub ends_there_is : (rest : List ℕ) → (length rest == 0) ≡ ends_there (Some rest)
unfolding ends_there
ends_there_is [] = refl
ends_there_is (x ∷ rest) = ne_eqb (length (x ∷ rest)) 0 (λ none. absurd (omega (arith, none)))

-- where nothing was found
pub none_map : {A B : Type 0} (f : A → B) (o : Option A) → ((x : A) → o ≡ Some x → ⊥)
    → option_map f o ≡ None
none_map f None none = refl
none_map f (Some x) none = absurd (none x refl)

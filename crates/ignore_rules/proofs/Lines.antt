-- The first line, and the lines behind it.
use Rattle.std.proofs.Common.{◌≡◌, ◌≢◌, ◌≤◌, ◌+◌, ◌-◌, ℕ, Bool, true, false, cond, ⊎_elim, List, [], ◌∷◌, length, take, drop, refl, arith}
use Rattle.std.specs.Prelude.{Some, None, nat_lt, position}
use Rattle.std.specs.List.{slice_split, position_or_len}
use Rattle.std.proofs.lemmas.Bool.{lt-ltb, cases_lt}
use Rattle.std.proofs.lemmas.List.{take_all, length-drop}
use Rattle.std.proofs.lemmas.List.Quantifiers.{position-Some}
use Rattle.std.proofs.lemmas.List.Sums.{position_or_len_is}
use Rattle.std.proofs.lemmas.List.Splits.{slice_split_first}
use Rattle.ignore_rules.specs.Lines.{is_newline}

not_some : (m : ℕ) → Some m ≢ None
not_some m e = cc

not_within : (n len : ℕ) → cond (nat_lt n len) (Some n) None ≡ None → len ≤ n
not_within n len e = ⊎_elim (λ lt. absurd (not_some n (rw (lt-ltb n len lt) at e))) (λ ge. ge) (cases_lt n len)

one_line : (bytes : List ℕ) → length bytes ≤ position_or_len is_newline bytes → slice_split is_newline bytes ≡ bytes ∷ []
one_line [] le = refl
one_line (b ∷ bs) le = by (is_newline b) refl (one_line bs)
  where
    by : (t : Bool) → is_newline b ≡ t → (length bs ≤ position_or_len is_newline bs → slice_split is_newline bs ≡ bs ∷ []) → slice_split is_newline (b ∷ bs) ≡ (b ∷ bs) ∷ []
    by true h rest = let none : position_or_len is_newline (b ∷ bs) ≡ 0 = rw h refl in absurd (omega (arith, none, le))
    by false h rest =
        let more : position_or_len is_newline (b ∷ bs) ≡ 1 + position_or_len is_newline bs = rw h refl in
        rw (h, rest (omega (arith, more, le))) refl

pub no_newline : (bytes : List ℕ) → position is_newline bytes ≡ None → slice_split is_newline bytes ≡ bytes ∷ []
no_newline bytes e = one_line bytes (not_within (position_or_len is_newline bytes) (length bytes) e)

pub at_newline : (bytes : List ℕ) (end : ℕ) → position is_newline bytes ≡ Some end → slice_split is_newline bytes ≡ take end bytes ∷ slice_split is_newline (take (length bytes - (end + 1)) (drop (end + 1) bytes))
at_newline bytes end e =
    let found = position-Some is_newline bytes end 0 e in
    let place : position_or_len is_newline bytes ≡ end = position_or_len_is is_newline bytes end 0 (omega (arith, found.0)) found.2 (λ lt. found.1) in
    let first = slice_split_first is_newline bytes 0 (rw place found.0) in
    rw (take_all (length bytes - (end + 1)) (drop (end + 1) bytes) (omega (arith, length-drop (end + 1) bytes))) (rw place at first)

-- The first line of a log, and the lines behind it.
use Rattle.std.proofs.Common.{◌≡◌, ◌≢◌, ◌≤◌, ◌<◌, ◌+◌, ◌-◌, ℕ, Bool, true, false, cond, ⊎_elim, List, [], ◌∷◌, length, take, drop, refl, arith}
use Rattle.std.specs.Prelude.{Some, None, nat_lt, position, ◌==◌}
use Rattle.std.specs.List.{slice_split, position_or_len}
use Rattle.std.proofs.lemmas.Bool.{lt-ltb, cases_lt}
use Rattle.std.proofs.lemmas.Bool.Decides.{nat_tests}
use Rattle.std.proofs.lemmas.List.{take_all, length-drop}
use Rattle.std.proofs.lemmas.List.Quantifiers.{position-Some}
use Rattle.std.proofs.lemmas.List.Sums.{position_or_len_is}
use Rattle.std.proofs.lemmas.List.Splits.{slice_split_first, length-slice_split}
use Rattle.page.specs.Blocks.{is_newline, but_empty_last, lines_of}

not_some : (m : ℕ) → Some m ≢ None
not_some m e = cc

not_within : (n len : ℕ) → cond (nat_lt n len) (Some n) None ≡ None → len ≤ n
not_within n len e = ⊎_elim (λ lt. absurd (not_some n (rw (lt-ltb n len lt) at e))) (λ ge. ge) (cases_lt n len)

one_part : (log : List ℕ) → length log ≤ position_or_len is_newline log → slice_split is_newline log ≡ log ∷ []
one_part [] le = refl
one_part (b ∷ bs) le = by (is_newline b) refl (one_part bs)
  where
    by : (t : Bool) → is_newline b ≡ t → (length bs ≤ position_or_len is_newline bs → slice_split is_newline bs ≡ bs ∷ []) → slice_split is_newline (b ∷ bs) ≡ (b ∷ bs) ∷ []
    by true h rest = let none : position_or_len is_newline (b ∷ bs) ≡ 0 = rw h refl in absurd (omega (arith, none, le))
    by false h rest =
        let more : position_or_len is_newline (b ∷ bs) ≡ 1 + position_or_len is_newline bs = rw h refl in
        rw (h, rest (omega (arith, more, le))) refl

only_line : (log : List ℕ) → 0 < length log → but_empty_last (log ∷ []) ≡ log ∷ []
only_line log l = by (length log == 0) refl
  where
    by : (t : Bool) → (length log == 0) ≡ t → but_empty_last (log ∷ []) ≡ log ∷ []
    by true h = absurd (grind (arith, nat_tests, h, l))
    by false h = rw h refl

before_more : (line : List ℕ) (parts : List (List ℕ)) → 0 < length parts → but_empty_last (line ∷ parts) ≡ line ∷ but_empty_last parts
before_more line [] l = absurd (omega arith)
before_more line (next ∷ parts) l = refl

behind_line : (line bs : List ℕ) → but_empty_last (line ∷ slice_split is_newline bs) ≡ line ∷ lines_of bs
behind_line line bs = before_more line (slice_split is_newline bs) (omega (arith, length-slice_split is_newline bs))

-- without a newline the log is its one line
pub last_line : (log rest : List ℕ) → 0 < length log → position is_newline log ≡ None → rest ≡ [] → lines_of log ≡ log ∷ lines_of rest
last_line log rest l e none =
    rw (none, one_part log (not_within (position_or_len is_newline log) (length log) e)) (only_line log l)

-- the first line ends in front of the first newline
pub first_line : (log : List ℕ) (end : ℕ) → position is_newline log ≡ Some end → lines_of log ≡ take end log ∷ lines_of (take (length log - (end + 1)) (drop (end + 1) log))
first_line log end e =
    let found = position-Some is_newline log end 0 e in
    let place : position_or_len is_newline log ≡ end = position_or_len_is is_newline log end 0 (omega (arith, found.0)) found.2 (λ lt. found.1) in
    let first = slice_split_first is_newline log 0 (rw place found.0) in
    let split : slice_split is_newline log ≡ take end log ∷ slice_split is_newline (drop (end + 1) log) = rw place at first in
    rw (take_all (length log - (end + 1)) (drop (end + 1) log) (omega (arith, length-drop (end + 1) log)), split) (behind_line (take end log) (drop (end + 1) log))

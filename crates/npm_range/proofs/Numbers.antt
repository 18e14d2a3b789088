-- Digits that a u64 does not hold are no number of a range.
use Rattle.std.proofs.Common.{◌≡◌, ◌<◌, ◌≤◌, ◌^◌, ◌&&◌, ℕ, Bool, true, false, List, [], ◌∷◌, length, Result, Err, refl, sym, arith, nat_lt, nat_le}
use Rattle.std.specs.Prelude.{not}
use Rattle.std.specs.List.{list_all}
use Rattle.std.specs.Char.{is_ascii_digit}
use Rattle.std.specs.Str.{all_ascii_digits}
use Rattle.std.specs.Str.Parse.{digits_value, ParsesUnsigned}
use Rattle.std.proofs.lemmas.Str.Parse.{IsNumeralModel, numerals_by_value, tells_all_ascii_digits, parse_digits}
use Rattle.std.proofs.lemmas.Bool.Decides.{nat_tests}
use Rattle.semver.specs.Grammar.{has_leading_zero}
use Rattle.npm_range.specs.Grammar.{is_number, largest}

as_digits : (text : List ℕ) → list_all is_ascii_digit text ≡ true → all_ascii_digits text ≡ true
as_digits [] h = refl
as_digits (b ∷ rest) h = digit_step (is_ascii_digit b) (list_all is_ascii_digit rest) (all_ascii_digits rest) (as_digits rest) h
  where
    digit_step : (s t u : Bool) → (t ≡ true → u ≡ true) → (s && t) ≡ true → (s && u) ≡ true
    digit_step true t u ih h = ih h
    digit_step false t u ih h = cc

test_step : (some digits fine small : Bool) → (some ≡ true → small ≡ true → ⊥) → (some && digits && fine && small) ≡ false
test_step true true true true h = absurd (h refl refl)
test_step true true true false h = refl
test_step true true false small h = refl
test_step true false fine small h = refl
test_step false digits fine small h = refl

pub refused-number : {E : Type 0} (text : List ℕ) (e : E) → ParsesUnsigned 64 10 text (Err e) → list_all is_ascii_digit text ≡ true → is_number text ≡ false
refused-number text e parsed digits =
    let own = numerals_by_value (λ ds. all_ascii_digits ds ≡ true) tells_all_ascii_digits in
    let refused = parse_digits own 64 text (Err e) parsed (as_digits text digits) in
    test_step (nat_lt 0 (length text)) (list_all is_ascii_digit text) (not (has_leading_zero text)) (nat_le (digits_value 10 text) largest)
    (λ some small. refused (grind (arith, nat_tests, some), grind (arith, nat_tests, small)))

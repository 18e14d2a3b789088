-- Digits that a u32 does not hold are no number that an option may have.
use Rattle.std.proofs.Common.{◌≡◌, ◌&&◌, ◌<◌, ◌^◌, ◌∙◌, ℕ, Bool, true, false, List, [], ◌∷◌, length, Err, Some, None, refl, ap, arith, nat_lt, nat_le}
use Rattle.std.specs.Prelude.{not, if◌then◌else◌, ◌==◌, ◌||◌}
use Rattle.std.specs.List.{list_all}
use Rattle.std.specs.Char.{is_ascii_digit}
use Rattle.std.specs.Str.{all_ascii_digits}
use Rattle.std.specs.Str.Parse.{digits_value, ParsesUnsigned}
use Rattle.std.proofs.lemmas.Str.Parse.{numerals_by_value, tells_all_ascii_digits, parse_digits}
use Rattle.std.proofs.lemmas.Bool.Decides.{nat_tests}
use Rattle.cli_words.specs.Cuts.{begins_with, zero_digit}
use Rattle.cli_words.specs.Values.{is_numeral, is_within, number}

as_digits : (text : List ℕ) → list_all is_ascii_digit text ≡ true → all_ascii_digits text ≡ true
as_digits [] h = refl
as_digits (b ∷ rest) h = digit_step (is_ascii_digit b) (list_all is_ascii_digit rest) (all_ascii_digits rest) (as_digits rest) h
  where
    digit_step : (s t u : Bool) → (t ≡ true → u ≡ true) → (s && t) ≡ true → (s && u) ≡ true
    digit_step true t u ih h = ih h
    digit_step false t u ih h = cc

test_step : {A : Type 0} (a : A) (some digits fine least most : Bool) → (some ≡ true → digits ≡ true → most ≡ true → ⊥) → (if some && digits && fine && (least && most) then Some a else None) ≡ None
test_step a true true true true true h = absurd (h refl refl refl)
test_step a true true true true false h = refl
test_step a true true true false most h = refl
test_step a true true false least most h = refl
test_step a true false fine least most h = refl
test_step a false digits fine least most h = refl

pub refused-number : {E : Type 0} (least most : ℕ) (text : List ℕ) (e : E) → most < 2 ^ 32 → ParsesUnsigned 32 10 text (Err e) → number least most text ≡ None
unfolding number
refused-number least most text e fits parsed =
    let own = numerals_by_value (λ ds. all_ascii_digits ds ≡ true) tells_all_ascii_digits in
    test_step (digits_value 10 text) (nat_lt 0 (length text)) (list_all is_ascii_digit text) (length text == 1 || not (begins_with zero_digit text)) (nat_le least (digits_value 10 text)) (nat_le (digits_value 10 text) most)
    (λ some digits below. (parse_digits own 32 text (Err e) parsed (as_digits text digits)) (grind (arith, nat_tests, some), grind (arith, nat_tests, below, fits)))

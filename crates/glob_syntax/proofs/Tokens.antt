-- Where no `]` comes before a `/`, no class closes.
use Rattle.std.proofs.Common.{◌≡◌, ◌==◌, ℕ, Bool, true, false, Some, None, cond, not, if◌then◌else◌, ◌&&◌, ◌||◌, List, [], ◌∷◌, ◌++◌, refl, arith}
use Rattle.std.proofs.lemmas.Bool.Decides.{nat_tests}
use Rattle.glob_syntax.specs.declared.mark.Mark.{Mark}
use Rattle.glob_syntax.specs.Marks.{is_plain, is_slash}
use Rattle.glob_syntax.specs.declared.class.Negation.TheVariants.{ExclamationMark}
use Rattle.glob_syntax.specs.Characters.{slash, open_bracket, close_bracket}
use Rattle.glob_syntax.specs.Classes.{has_member}
use Rattle.glob_syntax.specs.Tokens.{closes, has_end, token_of, tokens_of}

pub none_closes : (body ms : List Mark) → has_end ms ≡ false → closes body ms ≡ false
none_closes body [] e = refl
none_closes body (m ∷ ms) e = by (is_slash m) (is_plain close_bracket m) e (none_closes (body ++ m ∷ []) ms)
  where
    by : (slash end : Bool) → cond slash false (end || has_end ms) ≡ false → (has_end ms ≡ false → closes (body ++ m ∷ []) ms ≡ false) → cond slash false (cond (end && has_member ExclamationMark body) true (closes (body ++ m ∷ []) ms)) ≡ false
    by true end e h = refl
    by false true e h = cc
    by false false e h = h e

pub no_end_behind : (m : Mark) (ms : List Mark) → is_slash m ≡ false → has_end (m ∷ ms) ≡ false → has_end ms ≡ false
no_end_behind m ms slash e = by (is_plain close_bracket m) (rw slash at e)
  where
    by : (end : Bool) → (end || has_end ms) ≡ false → has_end ms ≡ false
    by true e = cc
    by false e = e

bracket_no_slash : (quoted : Bool) (c : ℕ) → (not quoted && c == open_bracket) ≡ true → (c == slash) ≡ false
bracket_no_slash true c e = cc
bracket_no_slash false c e = grind (arith, nat_tests)

-- then none begins at the first character either
pub no_class : (m : Mark) (ms : List Mark) → has_end (m ∷ ms) ≡ false → tokens_of None (m ∷ ms) ≡ token_of m ∷ tokens_of None ms
no_class m ms e = by (is_plain open_bracket m) refl
  where
    by : (begins : Bool) → is_plain open_bracket m ≡ begins → (if begins && closes [] ms then tokens_of (Some (m.at, [])) ms else token_of m ∷ tokens_of None ms) ≡ token_of m ∷ tokens_of None ms
    by false p = refl
    by true p =
        let none = none_closes [] ms (no_end_behind m ms (bracket_no_slash m.quoted m.character p) e) in
        rw none refl

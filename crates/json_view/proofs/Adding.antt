-- One more byte of a text with a comma that waits.
use Rattle.std.proofs.Common.{◌≡◌, ◌≢◌, ◌==◌, ◌&&◌, ◌⊎◌, inl, inr, ℕ, ◌+◌, List, [], ◌∷◌, ◌++◌, length, Bool, true, false, Option, Some, None, cond, eqb, refl, sym, ◌∙◌, arith, append_assoc, length-append}
use Rattle.std.proofs.lemmas.Bool.{false≢true}
use Rattle.std.proofs.lemmas.Bool.Decides.{eqb_tells}
use Rattle.std.proofs.lemmas.List.{set-append_left}
use Rattle.std.proofs.Math.Seq.{set-append_seam}
use Rattle.std.proofs.Math.ListN.{length-set}
use Rattle.json_view.specs.declared.plain.Part.{Part}
use Rattle.json_view.specs.declared.plain.Part.TheVariants.{Comment, Text, Plain}
use Rattle.json_view.specs.Plain.{is_white, is_between, is_closer, is_comma, kept_or_blank, closes, shown}
use Rattle.json_view.specs.Waiting.{IsWithin, settled, Adds}

white_is_no_comma : (b : ℕ) → is_white b ≡ true → (b == 44) ≡ false
white_is_no_comma b white = by (eqb_tells b 44) where
  by : ((eqb b 44 ≡ true) × (b ≡ 44)) ⊎ ((eqb b 44 ≡ false) × (b ≢ 44)) → (b == 44) ≡ false
  by (inl comma) = absurd (false≢true (rw comma.1 at white))
  by (inr other) = other.0

between_is_no_comma : (m : ℕ × Part) → is_between m ≡ true → is_comma m ≡ false
between_is_no_comma (b, Comment) between = refl
between_is_no_comma (b, Text) between = refl
between_is_no_comma (b, Plain) between = white_is_no_comma b between

kept : (m : ℕ × Part) → is_between m ≡ false → kept_or_blank m ≡ m.0
kept (b, Comment) other = absurd (false≢true (sym other))
kept (b, Text) other = refl
kept (b, Plain) other = refl

settled_push : (closed : Bool) (waiting : Option ℕ) (text : List ℕ) (b : ℕ) → IsWithin waiting text → settled closed waiting (text ++ b ∷ []) ≡ settled closed waiting text ++ b ∷ []
settled_push false waiting text b within = refl
settled_push true None text b within = refl
settled_push true (Some at) text b within = set-append_left text (b ∷ []) at 32 within

within_push : (waiting : Option ℕ) (text : List ℕ) (b : ℕ) → IsWithin waiting text → IsWithin waiting (text ++ b ∷ [])
within_push None text b within = tt
within_push (Some at) text b within = omega (arith, length-append text (b ∷ []))

pub length-settled : (closed : Bool) (waiting : Option ℕ) (text : List ℕ) → length (settled closed waiting text) ≡ length text
length-settled false waiting text = refl
length-settled true None text = refl
length-settled true (Some at) text = length-set text at 32

longer_by_one : (text : List ℕ) (b n : ℕ) → length text ≡ n → length (text ++ b ∷ []) ≡ n + 1
longer_by_one text b n same = omega (arith, length-append text (b ∷ []))

pub adds_between : (m : ℕ × Part) (waiting : Option ℕ) (text : List ℕ) → IsWithin waiting text → is_between m ≡ true → Adds m waiting text waiting (text ++ kept_or_blank m ∷ [])
adds_between m waiting text within between = record {
  within = within_push waiting text (kept_or_blank m) within;
  longer = longer_by_one text (kept_or_blank m) (length text) refl;
  same = λ behind.
      rw (between, between_is_no_comma m between, settled_push (closes behind) waiting text (kept_or_blank m) within, append_assoc) refl;
}

-- a comma waits at the place n, or none does
abbrev pub waits : Bool → ℕ → Option ℕ
waits true n = Some n
waits false n = None

settled_last : (comma closed : Bool) (text behind : List ℕ) (n b : ℕ) → length text ≡ n → settled closed (waits comma n) (text ++ b ∷ []) ++ behind ≡ text ++ cond (comma && closed) 32 b ∷ behind
settled_last false false text behind n b same = append_assoc text (b ∷ []) behind
settled_last false true text behind n b same = append_assoc text (b ∷ []) behind
settled_last true false text behind n b same = append_assoc text (b ∷ []) behind
settled_last true true text behind n b same =
    rw (← same, set-append_seam text b [] 32) (append_assoc text (32 ∷ []) behind)

within_last : (comma : Bool) (text : List ℕ) (n b : ℕ) → length text ≡ n → IsWithin (waits comma n) (text ++ b ∷ [])
within_last false text n b same = tt
within_last true text n b same = omega (arith, length-append text (b ∷ []))

pub adds_other : (m : ℕ × Part) (waiting : Option ℕ) (text : List ℕ) → is_between m ≡ false
    → Adds m waiting text (waits (is_comma m) (length text)) (settled (is_closer m) waiting text ++ m.0 ∷ [])
adds_other m waiting text other =
    let same_length : length (settled (is_closer m) waiting text) ≡ length text = length-settled (is_closer m) waiting text in
    record {
      within = within_last (is_comma m) (settled (is_closer m) waiting text) (length text) m.0 same_length;
      longer = longer_by_one (settled (is_closer m) waiting text) m.0 (length text) same_length;
      same = λ behind.
          settled_last (is_comma m) (closes behind) (settled (is_closer m) waiting text) (shown behind) (length text) m.0 same_length
          ∙ rw (other, kept m other) refl;
    }

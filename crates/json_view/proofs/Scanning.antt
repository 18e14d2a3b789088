-- One more byte of a text with comments.
use Rattle.std.proofs.Common.{◌≡◌, ◌≢◌, ◌==◌, ◌&&◌, ◌||◌, ◌⊎◌, inl, inr, ℕ, ◌+◌, ◌<◌, List, [], ◌∷◌, ◌++◌, length, drop, get_or, Bool, true, false, not, Option, Some, None, cond, eqb, refl, sym, ap, ◌∙◌, add-zero, ◌≤◌, append-nil}
use Rattle.std.proofs.lemmas.Bool.{false≢true}
use Rattle.std.proofs.lemmas.Bool.Decides.{eqb_tells}
use Rattle.std.proofs.lemmas.List.{drop_more, drop_all, get_or-drop}
use Rattle.json_view.specs.declared.plain.Place.{Place}
use Rattle.json_view.specs.declared.plain.Place.TheVariants.{Outside, InString, Escaped, InLine, Opening, InBlock, Closing}
use Rattle.json_view.specs.Plain.{after, part_of, opens_line, opens_block, ends_block, first_byte, marked, closes, shown, plain, has_end, begins_block, open_from, open_comment}
use Rattle.json_view.specs.Waiting.{IsWithin, settled, Adds}

-- what is known of the open comment in mid-text, where the last block comment began at `opened`
abbrev pub open_now : Place → ℕ → ℕ → List ℕ → Option ℕ
open_now Outside opened at rest = open_from Outside at rest
open_now InString opened at rest = open_from InString at rest
open_now Escaped opened at rest = open_from Escaped at rest
open_now InLine opened at rest = open_from InLine at rest
open_now Opening opened at rest = cond (has_end (drop 1 rest)) (open_from Opening at rest) (Some opened)
open_now InBlock opened at rest = cond (has_end rest) (open_from InBlock at rest) (Some opened)
open_now Closing opened at rest = open_from Closing at rest

and_false : (test : Bool) → (test && false) ≡ false
and_false true = refl
and_false false = refl

-- `//` is not `/*`
line_or_block : (b next : ℕ) → opens_line b next ≡ true → opens_block b next ≡ false
line_or_block b next line = by (eqb_tells next 42) where
  by : ((eqb next 42 ≡ true) × (next ≡ 42)) ⊎ ((eqb next 42 ≡ false) × (next ≢ 42)) → opens_block b next ≡ false
  by (inl star) = absurd (false≢true (sym (and_false (b == 47)) ∙ (rw star.1 at line)))
  by (inr other) = rw other.0 (and_false (b == 47))

module _ (opened at : ℕ) (rest : List ℕ) where
  outside_step : (line block quote : Bool) → (line ≡ true → block ≡ false)
      → let place : Place = cond line InLine (cond block Opening (cond quote InString Outside)) in
      open_now place (cond block at opened) (at + 1) rest ≡ cond (block && not (has_end (drop 1 rest))) (Some at) (open_from place (at + 1) rest)
  outside_step true true quote apart = absurd (false≢true (sym (apart refl)))
  outside_step true false quote apart = refl
  outside_step false true quote apart = by (has_end (drop 1 rest)) where
    by : (ended : Bool) → cond ended (open_from Opening (at + 1) rest) (Some at) ≡ cond (true && not ended) (Some at) (open_from Opening (at + 1) rest)
    by true = refl
    by false = refl
  outside_step false false true apart = refl
  outside_step false false false apart = refl

  string_step : (quote slash : Bool) → let place : Place = cond quote Outside (cond slash Escaped InString) in open_now place opened (at + 1) rest ≡ open_from place (at + 1) rest
  string_step true slash = refl
  string_step false true = refl
  string_step false false = refl

  line_step : (newline : Bool) → let place : Place = cond newline Outside InLine in open_now place opened (at + 1) rest ≡ open_from place (at + 1) rest
  line_step true = refl
  line_step false = refl

  block_step : (ends : Bool) → let place : Place = cond ends Closing InBlock in
      open_now place opened (at + 1) rest ≡ cond (ends || has_end rest) (open_from place (at + 1) rest) (Some opened)
  block_step true = refl
  block_step false = refl

  open_step : (place : Place) (b : ℕ) → let next : ℕ = first_byte rest in
      open_now (after place b next) (cond (begins_block place b next) at opened) (at + 1) rest ≡ open_now place opened at (b ∷ rest)
  unfolding after
  open_step Outside b = outside_step (opens_line b (first_byte rest)) (opens_block b (first_byte rest)) (b == 34) (line_or_block b (first_byte rest))
  open_step InString b = string_step (b == 34) (b == 92)
  open_step Escaped b = refl
  open_step InLine b = line_step (b == 10)
  open_step Opening b = refl
  open_step InBlock b = block_step (ends_block b (first_byte rest))
  open_step Closing b = refl

-- the bytes before the place i were scanned
pub record Scanned (bytes : List ℕ) (i : ℕ) (place : Place) (waiting : Option ℕ) (opened : ℕ) (text : List ℕ) : Type 0 where
  pub within : IsWithin waiting text
  pub long : length text ≡ i
  pub whole : settled (closes (marked place (drop i bytes))) waiting text ++ shown (marked place (drop i bytes)) ≡ plain bytes
  pub comment : open_now place opened i (drop i bytes) ≡ open_comment bytes

settled_nothing : (closed : Bool) → settled closed None [] ≡ []
settled_nothing true = refl
settled_nothing false = refl

pub nothing_scanned : (bytes : List ℕ) → Scanned bytes 0 Outside None 0 []
unfolding plain open_comment
nothing_scanned bytes = record {
  within = tt;
  long = refl;
  whole = ap (λ text. text ++ shown (marked Outside bytes)) (settled_nothing (closes (marked Outside bytes)));
  comment = refl;
}

marked_cons : (place : Place) (bytes rest : List ℕ) (b next : ℕ) → bytes ≡ b ∷ rest → first_byte rest ≡ next
    → marked place bytes ≡ (b, part_of place b next) ∷ marked (after place b next) rest
marked_cons place bytes rest b next first second =
    ap (marked place) first ∙ ap (λ n. (b, part_of place b n) ∷ marked (after place b n) rest) second

pub one_scanned : (bytes : List ℕ) (i : ℕ) (place : Place) (waiting : Option ℕ) (opened : ℕ) (text : List ℕ) (b next : ℕ) (now_waiting : Option ℕ) (now_opened : ℕ) (now : List ℕ)
    → i < length bytes → b ≡ get_or bytes i 0 → next ≡ get_or bytes (i + 1) 0
    → Scanned bytes i place waiting opened text → Adds (b, part_of place b next) waiting text now_waiting now
    → now_opened ≡ cond (begins_block place b next) i opened
    → Scanned bytes (i + 1) (after place b next) now_waiting now_opened now
one_scanned bytes i place waiting opened text b next now_waiting now_opened now less here behind so_far adds begins =
    let rest : List ℕ = drop (i + 1) bytes in
    let first : drop i bytes ≡ b ∷ rest = drop_more bytes i 0 less ∙ ap (λ x. x ∷ rest) (sym here) in
    let second : first_byte rest ≡ next = get_or-drop (i + 1) bytes 0 0 ∙ rw add-zero (sym behind) in
    let marks : marked place (drop i bytes) ≡ (b, part_of place b next) ∷ marked (after place b next) rest = marked_cons place (drop i bytes) rest b next first second in
    record {
      within = adds.within;
      long = adds.longer ∙ ap (λ n. n + 1) so_far.long;
      whole = adds.same (marked (after place b next) rest) ∙ ap (λ ms. settled (closes ms) waiting text ++ shown ms) (sym marks) ∙ so_far.whole;
      comment = rw begins
          (sym (ap (λ n. open_now (after place b n) (cond (begins_block place b n) i opened) (i + 1) rest) second)
          ∙ open_step opened i rest place b ∙ ap (open_now place opened i) (sym first) ∙ so_far.comment);
    }

-- ---- all bytes were scanned

abbrev IsInBlock : Place → Type 0
IsInBlock place = (place ≡ Opening) ⊎ (place ≡ InBlock)

open_at_end : (place : Place) (opened at : ℕ) → IsInBlock place → open_now place opened at [] ≡ Some opened
open_at_end place opened at (inl opening) = rw opening
open_at_end place opened at (inr block) = rw block

none_at_end : (place : Place) (opened at : ℕ) → (place ≡ Opening → ⊥) → (place ≡ InBlock → ⊥) → open_now place opened at [] ≡ None
none_at_end Outside opened at opening block = refl
none_at_end InString opened at opening block = refl
none_at_end Escaped opened at opening block = refl
none_at_end InLine opened at opening block = refl
none_at_end Opening opened at opening block = absurd (opening refl)
none_at_end InBlock opened at opening block = absurd (block refl)
none_at_end Closing opened at opening block = refl

module _ (bytes : List ℕ) (i : ℕ) (place : Place) (waiting : Option ℕ) (opened : ℕ) (text : List ℕ) (so_far : Scanned bytes i place waiting opened text) (over : length bytes ≤ i) where
  pub scanned_text : text ≡ plain bytes
  scanned_text =
      sym (append-nil text) ∙ ap (λ left. settled (closes (marked place left)) waiting text ++ shown (marked place left)) (sym (drop_all i bytes over))
      ∙ so_far.whole

  scanned_comment : open_comment bytes ≡ open_now place opened i []
  scanned_comment = sym so_far.comment ∙ ap (open_now place opened i) (drop_all i bytes over)

  pub scanned_open : IsInBlock place → open_comment bytes ≡ Some opened
  scanned_open block = scanned_comment ∙ open_at_end place opened i block

  pub scanned_none : (place ≡ Opening → ⊥) → (place ≡ InBlock → ⊥) → open_comment bytes ≡ None
  scanned_none opening block = scanned_comment ∙ none_at_end place opened i opening block

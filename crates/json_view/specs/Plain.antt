-- JSON with Comments (jsonc.org), as editors write it: what each byte belongs to, and the text that has blanks over comments and trailing commas.
use Rattle.std.specs.Prelude.{◌≡◌, ◌==◌, ◌+◌, ◌&&◌, ◌||◌, ◌⊎◌, ℕ, List, [], ◌∷◌, length, drop, slice_index, Bool, true, false, not, Option, Some, None, Result, Ok, Err, if◌then◌else◌, ⊤}
use Rattle.json_view.specs.declared.bytes.TheConstants.{TAB, LINE_FEED, CARRIAGE_RETURN, SPACE, QUOTE, ASTERISK, COMMA, SLASH, BACKSLASH, CLOSING_BRACKET, CLOSING_BRACE}
use Rattle.json_view.specs.declared.plain.Place.{Place}
use Rattle.json_view.specs.declared.plain.Place.TheVariants.{Outside, InString, Escaped, InLine, Opening, InBlock, Closing}
use Rattle.json_view.specs.declared.plain.Part.{Part}
use Rattle.json_view.specs.declared.plain.Part.TheVariants.{Comment, Text, Plain}
use Rattle.json_view.specs.declared.error.JsonErr.{JsonErr}
use Rattle.json_view.specs.declared.error.JsonErr.TheVariants.{NotJson, WrongKind, OpenComment, OutOfMemory}

-- ---- what each byte belongs to

-- A byte stands outside of strings and comments, in a string, behind a backslash there, in a line comment (with the newline at its end),
-- at the `*` that opens a block comment, in one, or at the `/` that ends it. The `/` that begins a comment stands outside.

-- two bytes begin a line comment, begin a block comment, end one
abbrev pub opens_line : ℕ → ℕ → Bool
opens_line b next = b == SLASH && next == SLASH

abbrev pub opens_block : ℕ → ℕ → Bool
opens_block b next = b == SLASH && next == ASTERISK

abbrev pub ends_block : ℕ → ℕ → Bool
ends_block b next = b == ASTERISK && next == SLASH

-- where the byte behind b stands, if b stands at the place and `next` is that byte, NO_BYTE at the end
unfoldable pub after : Place → ℕ → ℕ → Place
after Outside b next = if opens_line b next then InLine else (if opens_block b next then Opening else (if b == QUOTE then InString else Outside))
after InString b next = if b == QUOTE then Outside else (if b == BACKSLASH then Escaped else InString)
after Escaped b next = InString
after InLine b next = if b == LINE_FEED then Outside else InLine
after Opening b next = InBlock
after InBlock b next = if ends_block b next then Closing else InBlock
after Closing b next = Outside

-- what b belongs to
unfoldable pub part_of : Place → ℕ → ℕ → Part
part_of Outside b next = if opens_line b next || opens_block b next then Comment else Plain
part_of InString b next = Text
part_of Escaped b next = Text
part_of InLine b next = Comment
part_of Opening b next = Comment
part_of InBlock b next = Comment
part_of Closing b next = Comment

-- the byte that a list begins with, NO_BYTE where it is empty
abbrev pub first_byte : List ℕ → ℕ
first_byte bytes = slice_index bytes 0

-- each byte with what it belongs to, if the first stands at the place
abbrev pub marked : Place → List ℕ → List (ℕ × Part)
marked place [] = []
marked place (b ∷ bytes) = (b, part_of place b (first_byte bytes)) ∷ marked (after place b (first_byte bytes)) bytes

-- ---- the text without comments and trailing commas

abbrev pub is_comment : Part → Bool
is_comment Comment = true
is_comment Text = false
is_comment Plain = false

abbrev pub is_plain : Part → Bool
is_plain Comment = false
is_plain Text = false
is_plain Plain = true

-- JSON's white space
abbrev pub is_white : ℕ → Bool
is_white b = b == SPACE || b == TAB || b == LINE_FEED || b == CARRIAGE_RETURN

abbrev pub is_between : ℕ × Part → Bool
is_between m = is_comment m.1 || (is_plain m.1 && is_white m.0)

abbrev pub is_closer : ℕ × Part → Bool
is_closer m = is_plain m.1 && (m.0 == CLOSING_BRACKET || m.0 == CLOSING_BRACE)

abbrev pub is_comma : ℕ × Part → Bool
is_comma m = is_plain m.1 && m.0 == COMMA

-- the first byte behind comments and white space closes an array or an object
abbrev pub closes : List (ℕ × Part) → Bool
closes [] = false
closes (m ∷ ms) = if is_between m then closes ms else is_closer m

-- a byte of a comment but a newline is shown as a blank
abbrev pub kept_or_blank : ℕ × Part → ℕ
kept_or_blank m = if is_comment m.1 && not (m.0 == LINE_FEED) then SPACE else m.0

-- so is a comma with nothing but comments and white space between it and a closing bracket
abbrev pub shown : List (ℕ × Part) → List ℕ
shown [] = []
shown (m ∷ ms) = (if is_comma m && closes ms then SPACE else kept_or_blank m) ∷ shown ms

-- the text with blanks over comments and trailing commas
unfoldable pub plain : List ℕ → List ℕ
plain bytes = shown (marked Outside bytes)

-- ---- block comments without an end

-- `*/` stands somewhere
abbrev pub has_end : List ℕ → Bool
has_end [] = false
has_end (b ∷ bytes) = ends_block b (first_byte bytes) || has_end bytes

-- a block comment begins with b
abbrev pub begins_block : Place → ℕ → ℕ → Bool
begins_block Outside b next = opens_block b next
begins_block InString b next = false
begins_block Escaped b next = false
begins_block InLine b next = false
begins_block Opening b next = false
begins_block InBlock b next = false
begins_block Closing b next = false

-- the place of the first block comment with no `*/` behind its `/*`, where the first byte has the number `at` and stands at the place
abbrev pub open_from : Place → ℕ → List ℕ → Option ℕ
open_from place at [] = None
open_from place at (b ∷ bytes) = if begins_block place b (first_byte bytes) && not (has_end (drop 1 bytes)) then Some at else open_from (after place b (first_byte bytes)) (at + 1) bytes

-- the place of the block comment that has no end
unfoldable pub open_comment : List ℕ → Option ℕ
open_comment bytes = open_from Outside 0 bytes

-- each byte stays at its place or becomes a blank there
abbrev pub KeepsPlaces : List ℕ → List ℕ → Type 0
KeepsPlaces bytes text = (length text ≡ length bytes) × ((k : ℕ) → (slice_index text k ≡ slice_index bytes k) ⊎ (slice_index text k ≡ SPACE))

-- ---- the answer

-- the plain text where each block comment has an end, else the place of the one that has none
abbrev pub AnswersPlain : List ℕ → Result (List ℕ) JsonErr → Type 0
AnswersPlain bytes (Ok text) = (open_comment bytes ≡ None) × (text ≡ plain bytes)
AnswersPlain bytes (Err NotJson) = ⊥
AnswersPlain bytes (Err (WrongKind pointer wanted)) = ⊥
AnswersPlain bytes (Err (OpenComment at)) = open_comment bytes ≡ Some at
AnswersPlain bytes (Err OutOfMemory) = ⊤

-- What the text of a range says (node-semver's documentation, "Range Grammar"; hyphen ranges are not among them).
use Rattle.std.specs.Prelude.{◌≤◌, ⊤, ℕ, Bool, true, false, not, ◌==◌, ◌&&◌, ◌||◌, nat_lt, nat_le, List, [], ◌∷◌, ◌++◌, length, is_some, Option, Some, None, if◌then◌else◌}
use Rattle.std.specs.Borrow.{Bor}
use Rattle.std.specs.Option.{unwrap_or}
use Rattle.std.specs.Char.{is_ascii_digit}
use Rattle.std.specs.List.{list_all, slice_split}
use Rattle.std.specs.Str.Parse.{digits_value}
use Rattle.semver.specs.Grammar.{has_leading_zero, is_build, is_pre_release}
use Rattle.npm_range.specs.declared.characters.TheConstants.{TAB, SPACE, ASTERISK, PLUS, HYPHEN, DOT, LESS, EQUALS, GREATER, CARET, BAR, TILDE, VERSION_MARK, SMALL_X, LARGE_X}
use Rattle.npm_range.specs.declared.version.TheConstants.{LARGEST}
use Rattle.npm_range.specs.declared.comparator.Operator.{Operator}
use Rattle.npm_range.specs.declared.comparator.Operator.TheVariants as operator
use Rattle.npm_range.specs.declared.comparator.Numbers.{Numbers}
use Rattle.npm_range.specs.declared.comparator.Numbers.TheVariants.{Any, Major, Minor, Full}
use Rattle.npm_range.specs.Limits.{Bound}
use Rattle.npm_range.specs.Table.{bounds}

-- ---- numbers

-- the largest whole number up to which JavaScript tells all, 2 ^ 53 - 1
abbrev pub largest : ℕ
largest = LARGEST

-- digits without a leading zero, of a number that is not too large
abbrev pub is_number : List ℕ → Bool
is_number text = nat_lt 0 (length text) && list_all is_ascii_digit text && not (has_leading_zero text) && nat_le (digits_value 10 text) largest

-- `x`, `X` or `*`
abbrev pub is_wild : List ℕ → Bool
is_wild [] = false
is_wild (b ∷ rest) = length rest == 0 && (b == SMALL_X || b == LARGE_X || b == ASTERISK)

-- a part between dots: any number, or this one
unfoldable pub part : List ℕ → Option (Option ℕ)
part text = if is_wild text then Some None else if is_number text then Some (Some (digits_value 10 text)) else None

-- all behind a part for any number is any
abbrev pub filled : Option ℕ → Option ℕ → Option ℕ → Numbers
filled None minor patch = Any
filled (Some a) None patch = Major a
filled (Some a) (Some b) None = Minor a b
filled (Some a) (Some b) (Some c) = Full a b c

abbrev pub three : Option (Option ℕ) → Option (Option ℕ) → Option (Option ℕ) → Option Numbers
three None minor patch = None
three (Some a) None patch = None
three (Some a) (Some b) None = None
three (Some a) (Some b) (Some c) = Some (filled a b c)

-- the numbers are not too large
abbrev pub AreSmall : Numbers → Type 0
AreSmall Any = ⊤
AreSmall (Major a) = a ≤ largest
AreSmall (Minor a b) = (a ≤ largest) × (b ≤ largest)
AreSmall (Full a b c) = (a ≤ largest) × (b ≤ largest) × (c ≤ largest)

-- ---- versions and partial versions

-- the text before the first such byte
abbrev pub before : ℕ → List ℕ → List ℕ
before mark [] = []
before mark (b ∷ rest) = if b == mark then [] else b ∷ before mark rest

-- the text behind the first such byte, where there is one
abbrev pub behind : ℕ → List ℕ → Option (List ℕ)
behind mark [] = None
behind mark (b ∷ rest) = if b == mark then Some rest else behind mark rest

-- the text behind a reference that may be missing
abbrev pub seen : Option (Bor (List ℕ)) → Option (List ℕ)
seen None = None
seen (Some text) = Some text.now

-- the text without this byte at its front
abbrev pub without : ℕ → List ℕ → List ℕ
without mark [] = []
without mark (b ∷ rest) = if b == mark then rest else b ∷ rest

abbrev pub before_in : ℕ → Option (List ℕ) → Option (List ℕ)
before_in mark None = None
before_in mark (Some text) = Some (before mark text)

abbrev pub behind_in : ℕ → Option (List ℕ) → Option (List ℕ)
behind_in mark None = None
behind_in mark (Some text) = behind mark text

-- the text between the first dot and the second, or behind the only one
abbrev pub minor_in : List ℕ → Option (List ℕ)
minor_in core = before_in DOT (behind DOT core)

-- the text behind the second dot
abbrev pub patch_in : List ℕ → Option (List ℕ)
patch_in core = behind_in DOT (behind DOT core)

-- a part that is missing is any
abbrev pub part_or_any : Option (List ℕ) → Option (Option ℕ)
part_or_any None = Some None
part_or_any (Some text) = part text

-- the numbers of one to three parts between dots; a dot in the third is in no number
unfoldable pub numbers : List ℕ → Option Numbers
numbers core = three (part (before DOT core)) (part_or_any (minor_in core)) (part_or_any (patch_in core))

-- a pre-release or build metadata stands behind three parts alone
abbrev pub is_three : List ℕ → Bool
is_three core = is_some (patch_in core)

-- the tag is missing, or it stands behind three parts, is not empty and has the form of SemVer
abbrev pub is_tag : (List ℕ → Bool) → Bool → Option (List ℕ) → Bool
is_tag has_form allowed None = true
is_tag has_form allowed (Some tag) = allowed && nat_lt 0 (length tag) && has_form tag

abbrev pub are_tags : Bool → Option (List ℕ) → Option (List ℕ) → Bool
are_tags allowed pre build = is_tag is_pre_release allowed pre && is_tag is_build allowed build

abbrev pub or_empty : Option (List ℕ) → List ℕ
or_empty None = []
or_empty (Some text) = text

-- the pre-release that counts: that of a full version
abbrev pub kept : Numbers → List ℕ → List ℕ
kept (Full a b c) pre = pre
kept Any pre = []
kept (Major a) pre = []
kept (Minor a b) pre = []

abbrev pub with_pre : Option Numbers → List ℕ → Option (Numbers × List ℕ)
with_pre None pre = None
with_pre (Some found) pre = Some (found, kept found pre)

-- numbers, behind a `-` a pre-release, and behind a `+` build metadata
unfoldable pub tagged : List ℕ → Option (List ℕ) → Option (List ℕ) → Option (Numbers × List ℕ)
tagged core pre build = if are_tags (is_three core) pre build then with_pre (numbers core) (or_empty pre) else None

abbrev pub untagged : List ℕ → Option (List ℕ) → Option (Numbers × List ℕ)
untagged front build = tagged (before HYPHEN front) (behind HYPHEN front) build

-- a version or partial version behind a `v` that may be left out: its numbers and its pre-release
unfoldable pub version : List ℕ → Option (Numbers × List ℕ)
version word = untagged (before PLUS (without VERSION_MARK word)) (behind PLUS (without VERSION_MARK word))

-- ---- comparators

abbrev pub or_equal : Operator → Operator → List ℕ → Option Operator × List ℕ
or_equal alone with_equal [] = (Some alone, [])
or_equal alone with_equal (b ∷ rest) = if b == EQUALS then (Some with_equal, rest) else (Some alone, b ∷ rest)

-- the operator at the front of a word, and the rest; `~>` is `~`
abbrev pub operator_at : List ℕ → Option Operator × List ℕ
operator_at [] = (None, [])
operator_at (b ∷ rest) =
    if b == TILDE then (Some operator.Tilde, without GREATER rest)
    else if b == CARET then (Some operator.Caret, rest)
    else if b == EQUALS then (Some operator.Equal, rest)
    else if b == GREATER then or_equal operator.Above operator.AtLeast rest
    else if b == LESS then or_equal operator.Below operator.AtMost rest
    else (None, b ∷ rest)

-- a word without an operator asks for that version
abbrev pub or_exactly : Option Operator → Operator
or_exactly found = unwrap_or found operator.Equal

abbrev pub comparator : Operator → Option (Numbers × List ℕ) → Option (List Bound)
comparator found None = None
comparator found (Some v) = Some (bounds found v.0 v.1)

abbrev pub both : Option (List Bound) → Option (List Bound) → Option (List Bound)
both None later = None
both (Some first) None = None
both (Some first) (Some later) = Some (first ++ later)

-- an operator that is a word by itself belongs to the next word
abbrev pub is_alone : Option Operator × List ℕ → Bool
is_alone found = length found.1 == 0

-- the bounds of words, of which the first may have its operator before it; empty words count for nothing
abbrev pub comparators : Option Operator → List (List ℕ) → Option (List Bound)
comparators None [] = Some []
comparators (Some waiting) [] = None
comparators waiting ([] ∷ words) = comparators waiting words
comparators (Some waiting) ((b ∷ word) ∷ words) = both (comparator waiting (version (b ∷ word))) (comparators None words)
comparators None ((b ∷ word) ∷ words) =
    if is_alone (operator_at (b ∷ word)) then comparators (operator_at (b ∷ word)).0 words
    else both (comparator (or_exactly (operator_at (b ∷ word)).0) (version (operator_at (b ∷ word)).1)) (comparators None words)

-- ---- sets and ranges

-- the words between the tabs of each piece between spaces
abbrev pub words_of : List (List ℕ) → List (List ℕ)
words_of [] = []
words_of (piece ∷ pieces) = slice_split (λ b. b == TAB) piece ++ words_of pieces

abbrev pub words : List ℕ → List (List ℕ)
words text = words_of (slice_split (λ b. b == SPACE) text)

-- comparators between blanks, all of which have to hold; none for any version
unfoldable pub set : List ℕ → Option (List Bound)
set text = comparators None (words text)

abbrev pub one_more : Option (List Bound) → Option (List (List Bound)) → Option (List (List Bound))
one_more None later = None
one_more (Some first) None = None
one_more (Some first) (Some later) = Some (first ∷ later)

-- Bars come in twos, so of the pieces between bars each second one is empty. The flag says that a set comes next.
abbrev pub sets : Bool → List (List ℕ) → Option (List (List Bound))
sets true [] = None
sets true (piece ∷ pieces) = one_more (set piece) (sets false pieces)
sets false [] = Some []
sets false ([] ∷ pieces) = sets true pieces
sets false ((b ∷ piece) ∷ pieces) = None

-- one or more sets between `||`
unfoldable pub range : List ℕ → Option (List (List Bound))
range text = sets true (slice_split (λ b. b == BAR) text)

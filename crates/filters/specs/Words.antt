-- What a word of `--filter` writes: an optional `!`, an optional `...` or `...^`, a core, and an optional `...` or `^...` (Turborepo docs, "Filtering packages").
use Rattle.std.specs.Prelude.{ℕ, ◌==◌, ◌-◌, ◌||◌, Bool, true, false, if◌then◌else◌, List, length, take, drop, Option, Some, None, is_some, nat_eq, codes}
use Rattle.std.specs.Option.{option_map, option_and_then, option_or}
use Rattle.std.specs.List.{list_any, starts_with, ends_with}
use Rattle.std.specs.Str.{chars}
use Rattle.wildcards.specs.Bytes.{is_star}
use Rattle.wildcards.specs.Spells.{is_empty}
use Rattle.glob_syntax.specs.Characters.{open_bracket}
use Rattle.glob_syntax.specs.Reading.{fault_at, glob_from}
use Rattle.filters.specs.declared.filter.End.{End}
use Rattle.filters.specs.declared.filter.End.TheVariants.{Bare, Dots, Caret}
use Rattle.filters.specs.declared.filter.Core.{Core}
use Rattle.filters.specs.declared.filter.Core.TheVariants.{Folder, Name, Pattern}
use Rattle.filters.specs.declared.filter.Filter.{Filter}

-- what stands behind the mark at the front of a text, and before the mark at its end
unfoldable pub behind : List ℕ → List ℕ → Option (List ℕ)
behind mark text = if starts_with nat_eq text mark then Some (drop (length mark) text) else None

unfoldable pub before : List ℕ → List ℕ → Option (List ℕ)
before mark text = if ends_with nat_eq text mark then Some (take (length text - length mark) text) else None

-- a text with what was taken off it, or what the later one says
abbrev pub with_rest : {X : Type 0} → X → Option (List ℕ) → X × List ℕ → X × List ℕ
with_rest x None later = later
with_rest x (Some rest) later = (x, rest)

abbrev pub mark_of : List ℕ → Bool × List ℕ
mark_of text = with_rest true (behind (codes "!") text) (false, text)

-- the longer end is tried first
abbrev pub front_of : List ℕ → End × List ℕ
front_of text = with_rest Caret (behind (codes "...^") text) (with_rest Dots (behind (codes "...") text) (Bare, text))

abbrev pub back_of : List ℕ → End × List ℕ
back_of text = with_rest Caret (before (codes "^...") text) (with_rest Dots (before (codes "...") text) (Bare, text))

-- ---- the core

abbrev pub is_bracket : ℕ → Bool
is_bracket b = b == open_bracket

-- the glob of `./dir` or `{./dir}`
abbrev pub folder_glob : List ℕ → Option (List ℕ)
folder_glob text =
    option_or (behind (codes "./") text) (option_and_then (before (codes "}")) (behind (codes "{./") text))

abbrev pub glob_core : List ℕ → Option Core
glob_core text = if is_some (fault_at 0 (chars text)) then None else Some (Folder (glob_from 0 (chars text)))

-- a name pattern has a character at least, and no `[`
abbrev pub name_core : List ℕ → Option Core
name_core text = if is_empty text || list_any is_bracket text then None else Some (if list_any is_star text then Pattern text else Name text)

abbrev pub core_from : Option (List ℕ) → List ℕ → Option Core
core_from None text = name_core text
core_from (Some glob) text = glob_core glob

unfoldable pub core_of : List ℕ → Option Core
core_of text = core_from (folder_glob text) text

-- ---- the word

abbrev pub filter_from : Bool × List ℕ → Option Filter
filter_from (excludes, text) =
    let front = front_of text in
    let back = back_of front.1 in
    option_map (λ core. record { excludes = excludes; front = front.0; core = core; back = back.0 }) (core_of back.1)

-- the filter that a word writes, if it writes one
unfoldable pub filter_of : List ℕ → Option Filter
filter_of word = filter_from (mark_of word)

-- ---- the ends

abbrev pub has_dots : End → Bool
has_dots Bare = false
has_dots Dots = true
has_dots Caret = true

abbrev pub has_caret : End → Bool
has_caret Bare = false
has_caret Dots = false
has_caret Caret = true

-- a `^` stands at one of the ends
abbrev pub leaves_core : Filter → Bool
leaves_core filter = has_caret filter.front || has_caret filter.back

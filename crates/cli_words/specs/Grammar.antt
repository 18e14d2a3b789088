-- How the words of a command are cut into names, options with their values, and extra words: long options as GNU's
-- getopt_long has them, in full and anywhere among the names.
use Rattle.std.specs.Prelude.{ℕ, Bool, zero, suc, ◌+◌, ◌==◌, nat_lt, List, [], ◌∷◌, length, Option, Some, None, if◌then◌else◌, codes, bytes_eq}
use Rattle.std.specs.Option.{option_map}
use Rattle.key_table.specs.declared.row.Kind.{Kind}
use Rattle.key_table.specs.Entry.{Entry, entry_named}
use Rattle.cli_words.specs.declared.options.Command.{Command}
use Rattle.cli_words.specs.Options.{options_of, takes_word, is_top}
use Rattle.cli_words.specs.Cuts.{begins_with, before, behind, dash, equals}

-- What a word is, with the words behind it that belong to it.
pub data Item : Type 0 where
  -- begins with no `-`
  Bare : List ℕ → Item
  -- an option, by its kind and place, with its value where one is given
  Used : Kind → ℕ → Option (List ℕ) → Item
  -- `--`, with all words behind it
  Extra : List (List ℕ) → Item
  -- begins with `-` and is no option
  Stray : Item

-- ---- a word

abbrev pub beside : Option (List ℕ) → Entry → Entry × Option (List ℕ)
beside value option = (option, value)

-- a spelling of more than the two bytes of `-F` and `--`; only such a one has a value behind a `=`
abbrev pub is_long : List ℕ → Bool
is_long name = nat_lt 2 (length name)

abbrev pub named : Command → List ℕ → Option (List ℕ) → Option (Entry × Option (List ℕ))
named command name None = option_map (beside None) (entry_named name (options_of command))
named command name (Some value) = if is_long name then option_map (beside (Some value)) (entry_named name (options_of command)) else None

-- the option that the word is, and the value behind its `=`
unfoldable pub option_in : Command → List ℕ → Option (Entry × Option (List ℕ))
option_in command word = named command (before equals word) (behind equals word)

-- ---- the words behind it

abbrev pub is_end : List ℕ → Bool
is_end word = bytes_eq word (codes "--")

-- the next word where it may be a value
abbrev pub next_value : List (List ℕ) → Option (List ℕ)
next_value [] = None
next_value (next ∷ words) = if is_end next then None else Some next

abbrev pub count : Option (List ℕ) → ℕ
count None = 0
count (Some value) = 1

-- the value of an option, and how many words behind it that takes: the text behind its `=`, or the next word
abbrev pub value_of : Kind → Option (List ℕ) → List (List ℕ) → Option (List ℕ) × ℕ
value_of kind (Some value) words = (Some value, 0)
value_of kind None words = if takes_word kind then (next_value words, count (next_value words)) else (None, 0)

abbrev pub used : Entry → Option (List ℕ) × ℕ → Item × ℕ
used option value = (Used option.kind option.place value.0, value.1)

abbrev pub as_item : Option (Entry × Option (List ℕ)) → List (List ℕ) → Item × ℕ
as_item None words = (Stray, 0)
as_item (Some (option, value)) words = if is_top option.kind then (Extra words, length words) else used option (value_of option.kind value words)

-- the item that begins with this word, and how many of the words behind it belong to it
unfoldable pub first_item : Command → List ℕ → List (List ℕ) → Item × ℕ
first_item command word words = if begins_with dash word then as_item (option_in command word) words else (Bare word, 0)

-- ---- items

-- The items of the words behind the first ones, of which so many belong to an item before, each with the place of its first
-- word. The first word has the place `at`.
unfoldable pub items_behind : Command → ℕ → ℕ → List (List ℕ) → List (ℕ × Item)
items_behind command taken at [] = []
items_behind command zero at (word ∷ words) = (at, (first_item command word words).0) ∷ items_behind command (first_item command word words).1 (at + 1) words
items_behind command (suc taken) at (word ∷ words) = items_behind command taken (at + 1) words

abbrev pub items : Command → ℕ → List (List ℕ) → List (ℕ × Item)
items command at words = items_behind command 0 at words

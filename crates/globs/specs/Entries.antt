-- The globs that a list keeps beside its texts.
use Rattle.std.specs.Prelude.{ℕ, Bool, true, false, not, ◌&&◌, List, map}
use Rattle.std.specs.List.{list_any}
use Rattle.rel_path.specs.Paths.{Path}
use Rattle.glob_syntax.specs.declared.part.Part.{Part}
use Rattle.globs.specs.declared.list.Entry.{Entry}
use Rattle.globs.specs.Match.{matches, matches_whole}
use Rattle.globs.specs.Lists.{is_excluded, glob_in, is_kind}

abbrev pub entry_of : List ℕ → Entry
entry_of text = record { excluded = is_excluded text; glob = glob_in text }

abbrev pub entries_of : List (List ℕ) → List Entry
entries_of texts = map entry_of texts

-- how a glob matches: whole, or also from above
abbrev pub match_as : Bool → List (List Part) → Path → Bool
match_as true glob path = matches_whole glob path
match_as false glob path = matches glob path

unfoldable pub any_matches : Bool → Bool → List Entry → Path → Bool
any_matches whole excluded entries path = list_any (λ entry. is_kind entry.excluded excluded && match_as whole entry.glob path) entries

unfoldable pub takes_entries : Bool → List Entry → Path → Bool
takes_entries whole entries path = any_matches whole false entries path && not (any_matches whole true entries path)

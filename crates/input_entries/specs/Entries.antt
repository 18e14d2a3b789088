-- The entries of a task's `inputs` (Turborepo docs, "Configuring turbo.json", `inputs`, `$TURBO_DEFAULT$` and `$TURBO_ROOT$`).
use Rattle.std.specs.Prelude.{◌&&◌, ℕ, Bool, true, false, not, if◌then◌else◌, List, [], ◌∷◌, Option, Some, None, drop, eqb, bytes_eq, codes}
use Rattle.std.specs.List.{list_any, filter_map, starts_with}
use Rattle.std.specs.Str.{chars}
use Rattle.rel_path.specs.Paths.{Path, strip}
use Rattle.glob_syntax.specs.declared.part.Part.{Part}
use Rattle.glob_syntax.specs.Reading.{glob_from}
use Rattle.globs.specs.Match.{matches}
use Rattle.globs.specs.Lists.{is_kind}
use Rattle.input_entries.specs.declared.entries.Base.{Base}
use Rattle.input_entries.specs.declared.entries.Base.TheVariants.{Root, Owner}
use Rattle.input_entries.specs.declared.entries.InputGlob.{InputGlob}

-- ---- reading an entry

-- stands for the default set
abbrev pub is_default_entry : List ℕ → Bool
is_default_entry text = bytes_eq text (codes "$TURBO_DEFAULT$")

abbrev pub has_default : List (List ℕ) → Bool
has_default texts = list_any is_default_entry texts

abbrev pub glob_entry : Base → Bool → List (List Part) → InputGlob
glob_entry base excluded glob = record { base = base; excluded = excluded; glob = glob }

-- a glob behind `$TURBO_ROOT$/` is relative to the root, each other one to the task's own folder; a `!` in front excludes
unfoldable pub entry_of : List ℕ → Option InputGlob
entry_of text =
    if is_default_entry text then None else
    (if starts_with eqb text (codes "$TURBO_ROOT$/") then Some (glob_entry Root false (glob_from 0 (chars (drop 13 text)))) else
    (if starts_with eqb text (codes "!$TURBO_ROOT$/") then Some (glob_entry Root true (glob_from 0 (chars (drop 14 text)))) else
    (if starts_with eqb text (codes "!") then Some (glob_entry Owner true (glob_from 0 (chars (drop 1 text)))) else
    Some (glob_entry Owner false (glob_from 0 (chars text))))))

-- the globs of a list
abbrev pub entries_of : List (List ℕ) → List InputGlob
entries_of texts = filter_map entry_of texts

-- ---- what an entry matches

-- what is left of a path below a folder, which is not the folder itself
abbrev pub behind : Option Path → Option Path
behind None = None
behind (Some []) = None
behind (Some (name ∷ names)) = Some (name ∷ names)

abbrev pub relative : Path → Path → Option Path
relative folder path = behind (strip folder path)

-- the same where the path is one of the folder's own files, and nothing elsewhere
abbrev pub rest_where : Bool → Path → Path → Option Path
rest_where own folder path = if own then relative folder path else None

abbrev pub matches_below : List (List Part) → Option Path → Bool
matches_below glob None = false
matches_below glob (Some rest) = matches glob rest

-- a glob of the root matches the whole path, one of the task's own folder what is left of the path below that
abbrev pub matches_from : Base → List (List Part) → Path → Option Path → Bool
matches_from Root glob path rest = matches glob path
matches_from Owner glob path rest = matches_below glob rest

-- an entry that excludes, or one that does not, matches the path, of which this is left below the task's own folder
unfoldable pub any_reaches : Bool → List InputGlob → Path → Option Path → Bool
any_reaches excluded entries path rest = list_any (λ entry. is_kind entry.excluded excluded && matches_from entry.base entry.glob path rest) entries

abbrev pub is_root : Base → Bool
is_root Root = true
is_root Owner = false

-- an entry that does not exclude is relative to the root
abbrev pub is_wide : InputGlob → Bool
is_wide entry = is_root entry.base && not entry.excluded

-- an entry of the root that does not exclude matches the path
unfoldable pub any_wide : List InputGlob → Path → Bool
any_wide entries path = list_any (λ entry. is_wide entry && matches entry.glob path) entries

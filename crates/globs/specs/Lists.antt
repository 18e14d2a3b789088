-- Lists of globs: the texts as written, of which one with a leading `!` excludes (lists of globs of Turborepo's `inputs` and `outputs`).
use Rattle.std.specs.Prelude.{◌≡◌, ◌≢◌, ◌⊎◌, ◌==◌, ◌+◌, ℕ, Bool, true, false, not, ◌&&◌, List, [], ◌∷◌, Any, Option, Some, None, if◌then◌else◌}
use Rattle.std.specs.List.{list_any}
use Rattle.std.specs.Str.{chars}
use Rattle.rel_path.specs.Paths.{Path}
use Rattle.glob_syntax.specs.declared.error.GlobErr.{GlobErr}
use Rattle.glob_syntax.specs.declared.error.GlobErr.TheVariants as glob_err
use Rattle.glob_syntax.specs.declared.part.Part.{Part}
use Rattle.glob_syntax.specs.Characters.{exclamation_mark}
use Rattle.glob_syntax.specs.Reading.{fault_at, glob_from}
use Rattle.globs.specs.declared.error.ListGlobErr.{ListGlobErr}
use Rattle.globs.specs.declared.error.ListGlobErr.TheVariants as err
use Rattle.globs.specs.Match.{Matches, MatchesWhole, matches, matches_whole}

-- ---- one text of a list

-- the characters begin with `!`
abbrev pub begins_excluded : List ℕ → Bool
begins_excluded [] = false
begins_excluded (c ∷ cs) = c == exclamation_mark

-- the glob behind a leading `!`, or the whole
abbrev pub glob_behind : List ℕ → List (List Part)
glob_behind [] = glob_from 0 []
glob_behind (c ∷ cs) = if c == exclamation_mark then glob_from 1 cs else glob_from 0 (c ∷ cs)

-- its fault, with the places in the whole
abbrev pub fault_behind : List ℕ → Option GlobErr
fault_behind [] = fault_at 0 []
fault_behind (c ∷ cs) = if c == exclamation_mark then fault_at 1 cs else fault_at 0 (c ∷ cs)

abbrev pub is_excluded : List ℕ → Bool
is_excluded text = begins_excluded (chars text)

abbrev pub glob_in : List ℕ → List (List Part)
glob_in text = glob_behind (chars text)

abbrev pub fault_in : List ℕ → Option GlobErr
fault_in text = fault_behind (chars text)

-- ---- reading a list

abbrev pub at_index : ℕ → Option GlobErr → Option ListGlobErr → Option ListGlobErr
at_index index None later = later
at_index index (Some fault) later = Some (err.At index fault)

-- the fault of the first text that has one, the first of them having this index
abbrev pub list_fault : ℕ → List (List ℕ) → Option ListGlobErr
list_fault index [] = None
list_fault index (text ∷ texts) = at_index index (fault_in text) (list_fault (index + 1) texts)

-- an error is the fault, or want of memory, which may come at any time
abbrev pub MayRefuseList : Option ListGlobErr → ListGlobErr → Type 0
MayRefuseList fault e = (e ≡ err.OutOfMemory) ⊎ (fault ≡ Some e)

-- the error at the index, or want of memory
abbrev pub IsRefusal : ℕ → GlobErr → ListGlobErr → Type 0
IsRefusal index fault e = (e ≡ err.OutOfMemory) ⊎ ((fault ≢ glob_err.OutOfMemory) × (e ≡ err.At index fault))

-- ---- which paths a list takes, as relations

-- a text of the list that excludes, or one that does not, is a glob that matches the path
unfoldable pub AnyMatches : (List (List Part) → Path → Type 0) → Bool → List (List ℕ) → Path → Type 0
AnyMatches Match excluded texts path = Any (λ text. (is_excluded text ≡ excluded) × Match (glob_in text) path) texts

-- a glob without `!` matches the path, and none with `!` does
unfoldable pub Takes : List (List ℕ) → Path → Type 0
Takes texts path = AnyMatches Matches false texts path × ¬ (AnyMatches Matches true texts path)

-- the same, where a glob has to match the path whole
unfoldable pub TakesWhole : List (List ℕ) → Path → Type 0
TakesWhole texts path = AnyMatches MatchesWhole false texts path × ¬ (AnyMatches MatchesWhole true texts path)

-- ---- and as tests

abbrev pub is_kind : Bool → Bool → Bool
is_kind excluded true = excluded
is_kind excluded false = not excluded

abbrev pub list_matches : (List (List Part) → Path → Bool) → Bool → List (List ℕ) → Path → Bool
list_matches match excluded texts path = list_any (λ text. is_kind (is_excluded text) excluded && match (glob_in text) path) texts

unfoldable pub list_takes : List (List ℕ) → Path → Bool
list_takes texts path = list_matches matches false texts path && not (list_matches matches true texts path)

unfoldable pub list_takes_whole : List (List ℕ) → Path → Bool
list_takes_whole texts path = list_matches matches_whole false texts path && not (list_matches matches_whole true texts path)

-- The globs of a root manifest's `workspaces` (npm docs, "workspaces").
use Rattle.std.specs.Prelude.{ℕ, ◌+◌, ◌==◌, ◌&&◌, Bool, false, if◌then◌else◌, List, [], ◌∷◌, ◌++◌, Option, Some, None, map, codes}
use Rattle.std.specs.Option.{option_map}
use Rattle.std.specs.Fmt.{decimal}
use Rattle.glob_syntax.specs.declared.error.GlobErr.{GlobErr}
use Rattle.glob_syntax.specs.Faults.{moved}
use Rattle.globs.specs.Lists.{fault_in}
use Rattle.manifest.specs.declared.manifest.Manifest.{Manifest}
use Rattle.workspaces.specs.declared.error.SpaceErr.{SpaceErr}
use Rattle.workspaces.specs.declared.error.SpaceErr.TheVariants.{Glob}

-- `./` stands in front
abbrev pub has_dot : List ℕ → Bool
has_dot [] = false
has_dot (b ∷ []) = false
has_dot (b ∷ c ∷ bs) = b == 46 && c == 47

-- the text without one `./` in front
abbrev pub without_dot : List ℕ → List ℕ
without_dot [] = []
without_dot (b ∷ []) = b ∷ []
without_dot (b ∷ c ∷ bs) = if b == 46 && c == 47 then bs else b ∷ c ∷ bs

-- the text without one `/` at its end
abbrev pub without_slash : List ℕ → List ℕ
without_slash [] = []
without_slash (b ∷ []) = if b == 47 then [] else b ∷ []
without_slash (b ∷ c ∷ bs) = b ∷ without_slash (c ∷ bs)

-- the glob of an entry
abbrev pub trimmed : List ℕ → List ℕ
trimmed entry = without_slash (without_dot entry)

-- how many characters in front of it are dropped
abbrev pub dropped : List ℕ → ℕ
dropped entry = if has_dot entry then 2 else 0

-- why an entry is no glob; places count the characters of the entry as it stands
abbrev pub entry_fault : List ℕ → Option GlobErr
entry_fault entry = option_map (moved (dropped entry)) (fault_in (trimmed entry))

-- the globs, of which one with a leading `!` excludes
abbrev pub globs_of : Manifest → List (List ℕ)
globs_of root = map trimmed root.workspaces

-- where the list of globs stands
abbrev pub list_pointer : Bool → List ℕ
list_pointer object_form = if object_form then codes "/workspaces/packages" else codes "/workspaces"

abbrev pub entry_pointer : Bool → ℕ → List ℕ
entry_pointer object_form index = list_pointer object_form ++ 47 ∷ decimal index

abbrev pub fault_or : Bool → ℕ → Option GlobErr → Option SpaceErr → Option SpaceErr
fault_or object_form index None later = later
fault_or object_form index (Some fault) later = Some (Glob (entry_pointer object_form index) fault)

-- the fault of the first entry that has one, the first of them having this index
abbrev pub entries_fault : Bool → ℕ → List (List ℕ) → Option SpaceErr
entries_fault object_form index [] = None
entries_fault object_form index (entry ∷ entries) = fault_or object_form index (entry_fault entry) (entries_fault object_form (index + 1) entries)

unfoldable pub globs_fault : Manifest → Option SpaceErr
globs_fault root = entries_fault root.object_form 0 root.workspaces

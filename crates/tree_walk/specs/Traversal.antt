-- Which files going through a folder finds, and where it stops.
use Rattle.std.specs.Prelude.{◌≡◌, ℕ, ◌+◌, ◌≤◌, Bool, true, false, ◌&&◌, ◌||◌, List, [], ◌∷◌, ◌++◌, length, Option, Some, None, Result, Ok, Err}
use Rattle.std.specs.List.Sorted.{IsStrictlySortedBy}
use Rattle.std.specs.Ordering.{is_lt}
use Rattle.rel_path.specs.Paths.{Path, path_cmp, is_among, strip}
use Rattle.rel_path.specs.Files.{FileMap, has}
use Rattle.tree_dev.specs.declared.entries.Entry.{Entry}
use Rattle.tree_dev.specs.Names.{entry_of, same_entry, lists}
use Rattle.tree_walk.specs.declared.error.WalkErr.{WalkErr}
use Rattle.tree_walk.specs.declared.error.WalkErr.TheVariants.{TooDeep, TooMany, Failed, OutOfMemory}

-- which folders of a folder are entered
abbrev pub Entering : Type 0
Entering = Path → List ℕ → Bool

-- each folder between this one and the end of what follows it is entered
unfoldable pub passes : Entering → Path → Path → Bool
passes enters folder [] = false
passes enters folder (name ∷ []) = true
passes enters folder (name ∷ more ∷ rest) = enters folder name && passes enters (folder ++ name ∷ []) (more ∷ rest)

unfoldable pub passes_if : Entering → Path → Option Path → Bool
passes_if enters folder None = false
passes_if enters folder (Some rest) = passes enters folder rest

-- the path lies below the folder, and each folder between is entered
unfoldable pub reached : Entering → Path → Path → Bool
reached enters folder path = passes_if enters folder (strip folder path)

-- what is looked for: which folders are entered, and which files are wanted
pub record Choice : Type 0 where
  pub enters : Entering
  pub wants : Path → Bool

-- a wanted file that is reached
unfoldable pub is_chosen : FileMap → Choice → Path → Path → Bool
is_chosen files choice folder path = has files path && (choice.wants path && reached choice.enters folder path)

-- a file stands at the path, or may
abbrev pub stands : FileMap → (Path → Bool) → Path → Bool
stands files held path = has files path || held path

-- a file or a folder on the way: it is reached, and a file stands at it or below it
pub record IsOnTheWay (exists : Path → Bool) (enters : Entering) (folder path : Path) : Type 0 where
  pub reached : reached enters folder path ≡ true
  pub rest : Path
  pub there : exists (path ++ rest) ≡ true

-- the path stands before the place of a stop, where there is one
abbrev pub is_before : Option Path → Path → Bool
is_before None path = true
is_before (Some stop) path = is_lt (path_cmp path stop)

-- exactly the chosen files within some part of a folder that stand before a stop were found, and nothing on the way to it is too deep
pub record Went (files : FileMap) (choice : Choice) (depth : ℕ) (folder : Path) (within : Path → Bool) (stop : Option Path) (found : List Path) : Type 0 where
  pub exact : (path : Path) → is_among found path ≡ (is_chosen files choice folder path && (within path && is_before stop path))
  pub shallow : (path : Path) → IsOnTheWay (has files) choice.enters folder path → within path ≡ true → is_before stop path ≡ true → length path ≤ depth

pub record StopsDeep (files : FileMap) (held : Path → Bool) (choice : Choice) (depth : ℕ) (folder : Path) (within : Path → Bool) (stop : Path) (found : List Path) : Type 0 where
  pub went : Went files choice depth folder within (Some stop) found
  pub way : IsOnTheWay (stands files held) choice.enters folder stop
  pub inside : within stop ≡ true
  pub deep : length stop ≡ depth + 1

pub record StopsMany (files : FileMap) (choice : Choice) (depth : ℕ) (folder : Path) (within : Path → Bool) (stop : Path) (found : List Path) : Type 0 where
  pub went : Went files choice depth folder within (Some stop) found
  pub chosen : is_chosen files choice folder stop ≡ true
  pub inside : within stop ≡ true
  pub fine : length stop ≤ depth

-- what going through a part of a folder answers, where so many paths were wanted at most, and so many are there now
abbrev pub Answers : FileMap → (Path → Bool) → Choice → ℕ → ℕ → Path → (Path → Bool) → List Path → ℕ → Result (Unit {0}) WalkErr → Type 0
Answers files held choice depth most folder within found now (Ok _) = Went files choice depth folder within None found
Answers files held choice depth most folder within found now (Err (TooDeep stop)) = StopsDeep files held choice depth folder within stop found
Answers files held choice depth most folder within found now (Err TooMany) = ((stop : Path) × StopsMany files choice depth folder within stop found) × (now ≡ most)
Answers files held choice depth most folder within found now (Err Failed) = Unit {0}
Answers files held choice depth most folder within found now (Err OutOfMemory) = Unit {0}

-- paths were added: in order, each wanted and reached, within some part of a folder
pub record Adds (choice : Choice) (folder : Path) (within : Path → Bool) (found : List Path) : Type 0 where
  pub ascend : IsStrictlySortedBy path_cmp found
  pub inside : (path : Path) → is_among found path ≡ true → (reached choice.enters folder path ≡ true) × (choice.wants path ≡ true) × (within path ≡ true)

-- the paths that were added to these
pub record Grows (choice : Choice) (folder : Path) (within : Path → Bool) (old new : List Path) : Type 0 where
  pub more : List Path
  pub is : new ≡ old ++ more
  pub adds : Adds choice folder within more

-- they are added, and where the files are told they are the right ones
pub record Gathered (Tells : Type 0) (files : FileMap) (held : Path → Bool) (choice : Choice) (depth most : ℕ) (folder : Path) (within : Path → Bool) (old new : List Path) (result : Result (Unit {0}) WalkErr) : Type 0 where
  pub more : List Path
  pub is : new ≡ old ++ more
  pub adds : Adds choice folder within more
  pub told : Tells → Answers files held choice depth most folder within more (length new) result

-- the path's first name in the folder is this entry
abbrev pub is_at : Path → Entry → Path → Bool
is_at folder entry path = elim (entry_of folder path) as (λ _. Bool) [ None ↦ false | Some other ↦ same_entry entry other ]

-- the path's first name in the folder is one of these
abbrev pub is_in : Path → List Entry → Path → Bool
is_in folder names path = elim (entry_of folder path) as (λ _. Bool) [ None ↦ false | Some entry ↦ lists names entry ]

abbrev pub everywhere : Path → Bool
everywhere path = true

-- a file gives the folder this entry
abbrev pub IsThere : FileMap → Path → Entry → Type 0
IsThere files folder entry = (path : Path) × (entry_of folder path ≡ Some entry) × (has files path ≡ true)

-- a file or a held path gives the folder this entry
abbrev pub IsListed : FileMap → (Path → Bool) → Path → Entry → Type 0
IsListed files held folder entry = (path : Path) × (entry_of folder path ≡ Some entry) × ((has files path || held path) ≡ true)

-- the path of an entry as too deep, or memory was wanting
abbrev pub IsDeepAt : Path → Entry → WalkErr → Type 0
IsDeepAt folder entry (TooDeep path) = path ≡ folder ++ entry.name ∷ []
IsDeepAt folder entry TooMany = ⊥
IsDeepAt folder entry Failed = ⊥
IsDeepAt folder entry OutOfMemory = Unit {0}

-- the first name, where there is one, is too deep
abbrev pub FirstDeep : Path → List Entry → Result (Unit {0}) WalkErr → Type 0
FirstDeep folder [] (Ok _) = Unit {0}
FirstDeep folder [] (Err stop) = ⊥
FirstDeep folder (entry ∷ entries) (Ok _) = ⊥
FirstDeep folder (entry ∷ entries) (Err stop) = IsDeepAt folder entry stop

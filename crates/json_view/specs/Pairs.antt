-- Objects whose members are texts, as the dependencies and scripts of a package.json (npm docs, "package.json").
use Rattle.std.specs.Prelude.{◌≡◌, ◌⊎◌, ℕ, List, [], ◌∷◌, Option, Some, None, Result, Ok, Err, MatchResult, if◌then◌else◌, map}
use Rattle.std.specs.List.Sorted.{IsStrictlySortedBy}
use Rattle.std.specs.Ordering.{is_gt, nat_cmp}
use Rattle.std.specs.Cmp.Lexicographic.{slice_cmp}
use Rattle.serde_json.specs.Data.{Data, Members, no_members, member}
use Rattle.serde_json.specs.Find.{as_str, as_object, pointer}
use Rattle.json_view.specs.declared.error.Shape.TheVariants.{Text as a_text, Object as an_object}
use Rattle.json_view.specs.declared.error.JsonErr.{JsonErr}
use Rattle.json_view.specs.declared.error.JsonErr.TheVariants.{WrongKind, OutOfMemory}
use Rattle.json_view.specs.Pointer.{pointer_to}

-- a member that is a text, in front of the others
abbrev pub with_text : List ℕ → Option (List ℕ) → List (List ℕ × List ℕ) → List (List ℕ × List ℕ)
with_text name None pairs = pairs
with_text name (Some text) pairs = (name, text) ∷ pairs

-- the members that are texts, in their order
abbrev pub text_members : Members → List (List ℕ × List ℕ)
text_members no_members = []
text_members (member name d ms) = with_text name (as_str d) (text_members ms)

abbrev pub with_other : List ℕ → Option (List ℕ) → List (List ℕ) → List (List ℕ)
with_other name None names = name ∷ names
with_other name (Some text) names = names

-- the names of those that are none
abbrev pub other_members : Members → List (List ℕ)
other_members no_members = []
other_members (member name d ms) = with_other name (as_str d) (other_members ms)

-- the lesser of a pointer and another, if there is one
abbrev pub lesser : List ℕ → Option (List ℕ) → List ℕ
lesser p None = p
lesser p (Some q) = if is_gt (slice_cmp nat_cmp p q) then q else p

-- the least of the pointers to members of these names
abbrev pub least_pointer : List ℕ → List (List ℕ) → Option (List ℕ)
least_pointer at [] = None
least_pointer at (name ∷ names) = Some (lesser (pointer_to at name) (least_pointer at names))

abbrev pub unless_other : List (List ℕ × List ℕ) → Option (List ℕ) → Result (List (List ℕ × List ℕ)) JsonErr
unless_other pairs None = Ok pairs
unless_other pairs (Some at) = Err (WrongKind at a_text)

abbrev pub pairs_if : List ℕ → Option Members → Result (List (List ℕ × List ℕ)) JsonErr
pairs_if at None = Err (WrongKind at an_object)
pairs_if at (Some ms) = unless_other (text_members ms) (least_pointer at (other_members ms))

-- the names and texts of an object of texts; else where the wrong kind stands: at the object, or at the least pointer to a member that is no text
unfoldable pub pairs_of : List ℕ → Data → Result (List (List ℕ × List ℕ)) JsonErr
pairs_of at d = pairs_if at (as_object d)

-- the names ascend, each once
abbrev pub AscendByName : List (List ℕ × List ℕ) → Type 0
AscendByName pairs = IsStrictlySortedBy (slice_cmp nat_cmp) (map (λ p. p.0) pairs)

-- read as it is meant; want of memory may come at any time
abbrev pub MayFail : {A : Type 0} → Result A JsonErr → Result A JsonErr → Type 0
MayFail meant result = MatchResult result (λ a. meant ≡ Ok a) (λ e. (e ≡ OutOfMemory) ⊎ (meant ≡ Err e))

abbrev pub some_of : {A : Type 0} → Result A JsonErr → Result (Option A) JsonErr
some_of (Ok a) = Ok (Some a)
some_of (Err e) = Err e

-- where nothing stands there is nothing to read
abbrev pub if_there : {A : Type 0} → (Data → Result A JsonErr) → Option Data → Result (Option A) JsonErr
if_there read None = Ok None
if_there read (Some d) = some_of (read d)

-- what an object of texts at a pointer holds
unfoldable pub pairs_in : List ℕ → Data → Result (Option (List (List ℕ × List ℕ))) JsonErr
pairs_in at d = if_there (pairs_of at) (pointer at d)

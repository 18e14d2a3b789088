-- The parts of a package.json, each as it reads by itself (npm docs, "package.json").
use Rattle.std.specs.Prelude.{ℕ, List, [], Bool, Option, Some, None, option_and_then, is_some, if◌then◌else◌, Result, Ok, Err, codes}
use Rattle.serde_json.specs.Data.{Data}
use Rattle.serde_json.specs.Find.{as_object}
use Rattle.json_view.specs.declared.error.Shape.TheVariants.{Text as a_text, Texts as some_texts}
use Rattle.json_view.specs.declared.error.JsonErr.{JsonErr}
use Rattle.json_view.specs.declared.error.JsonErr.TheVariants.{WrongKind}
use Rattle.json_view.specs.Look.{Look, Nothing, Here, Else, text_in, texts_in, value_in}
use Rattle.json_view.specs.Pairs.{pairs_in}

-- a text, or nothing
abbrev pub text_of : List ℕ → Look (List ℕ) → Result (Option (List ℕ)) JsonErr
text_of at Nothing = Ok None
text_of at (Here text) = Ok (Some text)
text_of at Else = Err (WrongKind at a_text)

abbrev pub text_part : List ℕ → Data → Result (Option (List ℕ)) JsonErr
text_part at d = text_of at (text_in at d)

-- the package manager, which is read of the root's manifest alone
abbrev pub manager_part : Bool → Data → Result (Option (List ℕ)) JsonErr
manager_part is_root d = if is_root then text_part (codes "/packageManager") d else Ok None

-- an object of texts, as names with their texts; nothing is the empty object
abbrev pub or_no_pairs : Result (Option (List (List ℕ × List ℕ))) JsonErr → Result (List (List ℕ × List ℕ)) JsonErr
or_no_pairs (Ok None) = Ok []
or_no_pairs (Ok (Some pairs)) = Ok pairs
or_no_pairs (Err e) = Err e

abbrev pub map_part : List ℕ → Data → Result (List (List ℕ × List ℕ)) JsonErr
map_part at d = or_no_pairs (pairs_in at d)

-- an object stands at the pointer
abbrev pub is_object_at : List ℕ → Data → Bool
is_object_at at d = is_some (option_and_then as_object (value_in at d))

-- the array `packages` of an object `workspaces`, which has to be there
abbrev pub packages_of : Look (List (List ℕ)) → Result (List (List ℕ)) JsonErr
packages_of Nothing = Err (WrongKind (codes "/workspaces/packages") some_texts)
packages_of (Here texts) = Ok texts
packages_of Else = Err (WrongKind (codes "/workspaces/packages") some_texts)

-- `workspaces` is an array of texts, or an object whose `packages` is one
abbrev pub workspaces_of : Data → Look (List (List ℕ)) → Result (List (List ℕ)) JsonErr
workspaces_of d Nothing = Ok []
workspaces_of d (Here texts) = Ok texts
workspaces_of d Else = if is_object_at (codes "/workspaces") d then packages_of (texts_in (codes "/workspaces/packages") d) else Err (WrongKind (codes "/workspaces") some_texts)

abbrev pub workspaces_part : Data → Result (List (List ℕ)) JsonErr
workspaces_part d = workspaces_of d (texts_in (codes "/workspaces") d)

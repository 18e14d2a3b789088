-- What stands at a pointer (RFC 6901) of a JSON value, for each kind that is asked for.
use Rattle.std.specs.Prelude.{ℕ, List, [], ◌∷◌, Bool, Option, Some, None, option_and_then}
use Rattle.std.specs.Option.{option_map}
use Rattle.serde_json.specs.Data.{Data, Items, no_items, item, Members, no_members, member}
use Rattle.serde_json.specs.Find.{as_bool, as_number, as_u64, as_str, as_array, as_object, pointer}

-- Nothing is there, or what is wanted, or something else.
pub data Look (A : Type 0) : Type 0 where
  Nothing : Look A
  Here : A → Look A
  Else : Look A

abbrev pub of_kind : {A : Type 0} → Option A → Look A
of_kind None = Else
of_kind (Some a) = Here a

-- what is there, seen as the kind
abbrev pub look : {A : Type 0} → (Data → Option A) → Option Data → Look A
look kind None = Nothing
look kind (Some d) = of_kind (kind d)

-- the texts of an array of texts alone
abbrev pub texts_of : Items → Option (List (List ℕ))
texts_of no_items = Some []
texts_of (item d ds) = option_and_then (λ text. option_map (λ texts. text ∷ texts) (texts_of ds)) (as_str d)

abbrev pub as_texts : Data → Option (List (List ℕ))
as_texts d = option_and_then texts_of (as_array d)

abbrev pub as_whole : Data → Option ℕ
as_whole d = option_and_then as_u64 (as_number d)

-- the names of an object's members, in their order
abbrev pub names_of : Members → List (List ℕ)
names_of no_members = []
names_of (member name d ms) = name ∷ names_of ms

abbrev pub as_keys : Data → Option (List (List ℕ))
as_keys d = option_map names_of (as_object d)

unfoldable pub text_in : List ℕ → Data → Look (List ℕ)
text_in at d = look as_str (pointer at d)

unfoldable pub texts_in : List ℕ → Data → Look (List (List ℕ))
texts_in at d = look as_texts (pointer at d)

unfoldable pub flag_in : List ℕ → Data → Look Bool
flag_in at d = look as_bool (pointer at d)

unfoldable pub whole_in : List ℕ → Data → Look ℕ
whole_in at d = look as_whole (pointer at d)

unfoldable pub keys_in : List ℕ → Data → Look (List (List ℕ))
keys_in at d = look as_keys (pointer at d)

unfoldable pub value_in : List ℕ → Data → Option Data
value_in at d = pointer at d

-- What the calls behind a reading of a manifest answer, part by part.
use Rattle.std.specs.Prelude.{ℕ, ◌≡◌, ◌⊎◌, Bool, List, [], ◌∷◌, Option, Some, None, Result, Ok, MatchResult}
use Rattle.std.specs.Option.{option_or}
use Rattle.serde_json.specs.Data.{Data}
use Rattle.json_view.specs.declared.error.JsonErr.{JsonErr}
use Rattle.json_view.specs.declared.error.JsonErr.TheVariants as json
use Rattle.manifest.specs.declared.manifest.Manifest.{Manifest}
use Rattle.manifest.specs.declared.error.ManifestErr.{ManifestErr}
use Rattle.manifest.specs.declared.error.ManifestErr.TheVariants.{NotJson, WrongKind, OutOfMemory}
use Rattle.manifest.specs.Parts.{manager_part}
use Rattle.manifest.specs.Faults.{Wrong, wrong_of, wrong_kind, wrongs}
use Rattle.manifest.specs.Manifest.{parts_in}

-- an error of the crate below as one of this crate; over a text that was read the middle two never come
abbrev pub as_fault : JsonErr → ManifestErr
as_fault (json.WrongKind pointer wanted) = WrongKind pointer wanted
as_fault json.NotJson = NotJson
as_fault (json.OpenComment at) = NotJson
as_fault json.OutOfMemory = OutOfMemory

-- an error is the fault, or want of memory, which may come at any time
abbrev pub MayFault : Option ManifestErr → ManifestErr → Type 0
MayFault fault e = (e ≡ OutOfMemory) ⊎ (fault ≡ Some e)

-- a part was found as it reads, or is of the wrong kind
abbrev pub Finds : {A : Type 0} → Result A JsonErr → Result A ManifestErr → Type 0
Finds part result = MatchResult result (λ a. part ≡ Ok a) (MayFault (wrong_kind (wrong_of part)))

-- the fault of the first part that is wrong
abbrev pub first_wrong : List (Option Wrong) → Option ManifestErr
first_wrong [] = None
first_wrong (w ∷ ws) = option_or (wrong_kind w) (first_wrong ws)

-- no part is wrong, and this is what they hold; or the first that is wrong
abbrev pub FindsAll : Bool → Data → Result (Manifest × Option (List ℕ)) ManifestErr → Type 0
FindsAll is_root d result = MatchResult result
    (λ r. (first_wrong (wrongs is_root d) ≡ None) × (r.0 ≡ parts_in d) × (manager_part is_root d ≡ Ok r.1))
    (MayFault (first_wrong (wrongs is_root d)))

-- Why a value is no package.json: parts of the wrong kind, a name that no package may have, another package manager.
use Rattle.std.specs.Prelude.{ℕ, ◌==◌, ◌&&◌, Bool, true, false, not, if◌then◌else◌, List, [], ◌∷◌, length, Option, Some, None, Result, Ok, Err, nat_eq, bytes_eq, codes}
use Rattle.std.specs.List.{list_any, starts_with}
use Rattle.std.specs.Option.{option_or}
use Rattle.std.specs.Ordering.{is_gt}
use Rattle.serde_json.specs.Data.{Data}
use Rattle.json_view.specs.declared.error.Shape.{Shape}
use Rattle.json_view.specs.declared.error.Shape.TheVariants.{Object as an_object}
use Rattle.json_view.specs.declared.error.JsonErr.{JsonErr}
use Rattle.json_view.specs.declared.error.JsonErr.TheVariants as json
use Rattle.rel_path.specs.Paths.{name_cmp}
use Rattle.manifest.specs.Parts.{text_part, map_part, manager_part, workspaces_part, is_object_at}
use Rattle.manifest.specs.declared.manifest.TheConstants.{HASH}
use Rattle.manifest.specs.declared.error.ManifestErr.{ManifestErr}
use Rattle.manifest.specs.declared.error.ManifestErr.TheVariants.{NoName, WrongKind, OtherManager}

-- ---- parts of the wrong kind

-- a pointer (RFC 6901) at which something else stands, and what is wanted there
abbrev pub Wrong : Type 0
Wrong = List ℕ × Shape

-- what is wrong with a part
abbrev pub wrong_of : {A : Type 0} → Result A JsonErr → Option Wrong
wrong_of (Ok a) = None
wrong_of (Err (json.WrongKind at wanted)) = Some (at, wanted)
wrong_of (Err json.NotJson) = None
wrong_of (Err (json.OpenComment at)) = None
wrong_of (Err json.OutOfMemory) = None

-- the one with the lesser pointer by its bytes, where there are both
abbrev pub lesser : Option Wrong → Option Wrong → Option Wrong
lesser None q = q
lesser (Some p) None = Some p
lesser (Some p) (Some q) = if is_gt (name_cmp p.0 q.0) then Some q else Some p

-- the one with the least pointer
abbrev pub least : List (Option Wrong) → Option Wrong
least [] = None
least (p ∷ ps) = lesser p (least ps)

abbrev pub top_wrong : Data → Option Wrong
top_wrong d = if is_object_at [] d then None else Some ([], an_object)

-- what is wrong with each part that is read
abbrev pub wrongs : Bool → Data → List (Option Wrong)
wrongs is_root d =
    top_wrong d
    ∷ wrong_of (map_part (codes "/dependencies") d)
    ∷ wrong_of (map_part (codes "/devDependencies") d)
    ∷ wrong_of (text_part (codes "/name") d)
    ∷ wrong_of (map_part (codes "/optionalDependencies") d)
    ∷ wrong_of (manager_part is_root d)
    ∷ wrong_of (map_part (codes "/peerDependencies") d)
    ∷ wrong_of (map_part (codes "/scripts") d)
    ∷ wrong_of (text_part (codes "/version") d)
    ∷ wrong_of (workspaces_part d)
    ∷ []

-- ---- names and package managers

-- a name that a package may have: not empty, not `//`, without `#`
abbrev pub is_package_name : List ℕ → Bool
is_package_name name = not (length name == 0) && (not (bytes_eq name (codes "//")) && not (list_any (λ b. b == HASH) name))

abbrev pub name_fault : Option (List ℕ) → Option ManifestErr
name_fault None = Some NoName
name_fault (Some name) = if is_package_name name then None else Some NoName

-- a package manager that is named is npm, with a version behind `@`
abbrev pub manager_fault : Option (List ℕ) → Option ManifestErr
manager_fault None = None
manager_fault (Some text) = if starts_with nat_eq text (codes "npm@") then None else Some (OtherManager text)

-- the text of a part, none where it is wrong
abbrev pub text_or_none : Result (Option (List ℕ)) JsonErr → Option (List ℕ)
text_or_none (Ok text) = text
text_or_none (Err e) = None

-- ---- all faults in their order

abbrev pub wrong_kind : Option Wrong → Option ManifestErr
wrong_kind None = None
wrong_kind (Some wrong) = Some (WrongKind wrong.0 wrong.1)

-- a package needs a name; the root needs none, and may name its package manager
abbrev pub given_fault : Bool → Option (List ℕ) → Option (List ℕ) → Option ManifestErr
given_fault true name manager = manager_fault manager
given_fault false name manager = name_fault name

abbrev pub last_fault : Bool → Data → Option ManifestErr
last_fault is_root d = given_fault is_root (text_or_none (text_part (codes "/name") d)) (text_or_none (manager_part is_root d))

-- why a value is no manifest: the part of the wrong kind with the least pointer comes before all else
unfoldable pub manifest_fault : Bool → Data → Option ManifestErr
manifest_fault is_root d = option_or (wrong_kind (least (wrongs is_root d))) (last_fault is_root d)

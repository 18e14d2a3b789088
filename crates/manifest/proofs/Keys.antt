-- Where each part is wrong, and the parts of a manifest in the order of their keys.
use Rattle.std.proofs.Common.{◌≡◌, ℕ, Bool, true, false, cond, List, [], ◌∷◌, ◌++◌, refl, sym, ap, append-nil}
use Rattle.std.specs.Prelude.{Option, Some, None, Result, Ok, Err, ⊤, codes}
use Rattle.std.specs.Ordering.{is_gt, nat_cmp}
use Rattle.std.specs.Cmp.Lexicographic.{slice_cmp}
use Rattle.std.specs.Option.{option_or}
use Rattle.serde_json.specs.Data.{Data, Members}
use Rattle.serde_json.specs.Find.{as_object, pointer}
use Rattle.json_view.specs.declared.error.Shape.TheVariants.{Texts as some_texts, Object as an_object}
use Rattle.json_view.specs.declared.error.JsonErr.{JsonErr}
use Rattle.json_view.specs.declared.error.JsonErr.TheVariants.{WrongKind}
use Rattle.json_view.specs.Look.{Look, Nothing, Here, Else, text_in, texts_in}
use Rattle.json_view.specs.Pointer.{pointer_to}
use Rattle.json_view.specs.Pairs.{lesser, least_pointer, unless_other, pairs_if, pairs_of, some_of, if_there, pairs_in, text_members, other_members}
use Rattle.manifest.specs.Parts.{text_of, text_part, or_no_pairs, map_part, manager_part, packages_of, workspaces_of, workspaces_part, is_object_at}
use Rattle.manifest.specs.Faults.{Wrong, wrong_of, least, wrong_kind, top_wrong, wrongs}
use Rattle.manifest.specs.declared.error.ManifestErr.{ManifestErr}
use Rattle.manifest.specs.Steps.{MayFault, first_wrong}
use Rattle.manifest.proofs.Chain.{Under, AllUnder, ascend, least_is_first, top_is_first}

itself : (at : List ℕ) → (rest : List ℕ) × (at ≡ at ++ rest)
itself at = ([], sym (append-nil at))

-- ---- texts

under_look : (at : List ℕ) (there : Look (List ℕ)) → Under at (wrong_of (text_of at there))
under_look at Nothing = tt
under_look at (Here text) = tt
under_look at Else = itself at

under_text : (at : List ℕ) (d : Data) → Under at (wrong_of (text_part at d))
under_text at d = under_look at (text_in at d)

under_manager : (is_root : Bool) (d : Data) → Under (codes "/packageManager") (wrong_of (manager_part is_root d))
under_manager true d = under_text (codes "/packageManager") d
under_manager false d = tt

-- ---- objects of texts

-- a pointer, if there is one, begins with the key
abbrev Begins : List ℕ → Option (List ℕ) → Type 0
Begins at None = ⊤
Begins at (Some p) = (rest : List ℕ) × (p ≡ at ++ rest)

longer : (at name : List ℕ) → (rest : List ℕ) × (pointer_to at name ≡ at ++ rest)
unfolding pointer_to
longer at name = (_, refl)

begins_lesser : (at p : List ℕ) (q : Option (List ℕ)) → (rest : List ℕ) × (p ≡ at ++ rest) → Begins at q → (rest : List ℕ) × (lesser p q ≡ at ++ rest)
begins_lesser at p None first second = first
begins_lesser at p (Some q) first second = by (is_gt (slice_cmp nat_cmp p q)) where
  by : (greater : Bool) → (rest : List ℕ) × (cond greater q p ≡ at ++ rest)
  by true = second
  by false = first

begins_least : (at : List ℕ) (names : List (List ℕ)) → Begins at (least_pointer at names)
begins_least at [] = tt
begins_least at (name ∷ names) = begins_lesser at (pointer_to at name) (least_pointer at names) (longer at name) (begins_least at names)

-- what is wrong with an object of texts, by what reads it
abbrev wrong_in : Result (List (List ℕ × List ℕ)) JsonErr → Option Wrong
wrong_in r = wrong_of r

under_unless : (at : List ℕ) (pairs : List (List ℕ × List ℕ)) (o : Option (List ℕ)) → Begins at o → Under at (wrong_in (unless_other pairs o))
under_unless at pairs None begins = tt
under_unless at pairs (Some p) begins = begins

under_if : (at : List ℕ) (o : Option Members) → Under at (wrong_in (pairs_if at o))
under_if at None = itself at
under_if at (Some ms) = under_unless at (text_members ms) (least_pointer at (other_members ms)) (begins_least at (other_members ms))

under_of : (at : List ℕ) (d : Data) → Under at (wrong_in (pairs_of at d))
unfolding pairs_of
under_of at d = under_if at (as_object d)

same_wrong : (r : Result (List (List ℕ × List ℕ)) JsonErr) → wrong_of (or_no_pairs (some_of r)) ≡ wrong_in r
same_wrong (Ok pairs) = refl
same_wrong (Err e) = refl

under_there : (at : List ℕ) (o : Option Data) → Under at (wrong_of (or_no_pairs (if_there (pairs_of at) o)))
under_there at None = tt
under_there at (Some d) = rw (same_wrong (pairs_of at d)) (under_of at d)

under_map : (at : List ℕ) (d : Data) → Under at (wrong_of (map_part at d))
unfolding pairs_in
under_map at d = under_there at (pointer at d)

-- ---- workspaces

under_packages : (there : Look (List (List ℕ))) → Under (codes "/workspaces") (wrong_of (packages_of there))
under_packages Nothing = (codes "/packages", refl)
under_packages (Here texts) = tt
under_packages Else = (codes "/packages", refl)

under_workspaces : (d : Data) (there : Look (List (List ℕ))) → Under (codes "/workspaces") (wrong_of (workspaces_of d there))
under_workspaces d Nothing = tt
under_workspaces d (Here texts) = tt
under_workspaces d Else = by (is_object_at (codes "/workspaces") d) where
  by : (is : Bool) → Under (codes "/workspaces") (wrong_of (cond is (packages_of (texts_in (codes "/workspaces/packages") d)) (Err (WrongKind (codes "/workspaces") some_texts))))
  by true = under_packages (texts_in (codes "/workspaces/packages") d)
  by false = itself (codes "/workspaces")

-- ---- all parts

keys : List (List ℕ)
keys = codes "/dependencies" ∷ codes "/devDependencies" ∷ codes "/name" ∷ codes "/optionalDependencies" ∷ codes "/packageManager" ∷ codes "/peerDependencies" ∷ codes "/scripts" ∷ codes "/version" ∷ codes "/workspaces" ∷ []

-- the parts behind the top
abbrev pub parts_wrong : Bool → Data → List (Option Wrong)
parts_wrong is_root d =
    wrong_of (map_part (codes "/dependencies") d)
    ∷ wrong_of (map_part (codes "/devDependencies") d)
    ∷ wrong_of (text_part (codes "/name") d)
    ∷ wrong_of (map_part (codes "/optionalDependencies") d)
    ∷ wrong_of (manager_part is_root d)
    ∷ wrong_of (map_part (codes "/peerDependencies") d)
    ∷ wrong_of (map_part (codes "/scripts") d)
    ∷ wrong_of (text_part (codes "/version") d)
    ∷ wrong_of (workspaces_part d)
    ∷ []

all_under : (is_root : Bool) (d : Data) → AllUnder keys (parts_wrong is_root d)
unfolding keys
all_under is_root d = (
  under_map (codes "/dependencies") d,
  (
    under_map (codes "/devDependencies") d,
    (
      under_text (codes "/name") d,
      (
        under_map (codes "/optionalDependencies") d,
        (
          under_manager is_root d,
          (
            under_map (codes "/peerDependencies") d,
            (
              under_map (codes "/scripts") d,
              (
                under_text (codes "/version") d,
                (under_workspaces d (texts_in (codes "/workspaces") d), tt),
              ),
            ),
          ),
        ),
      ),
    ),
  ),
)

keys_ascend : ascend keys ≡ true
unfolding keys
keys_ascend = refl

pub first_is_least : (is_root : Bool) (d : Data) → wrong_kind (least (wrongs is_root d)) ≡ first_wrong (wrongs is_root d)
first_is_least is_root d = by (is_object_at [] d) where
  by : (is : Bool) → wrong_kind (least (cond is None (Some ([], an_object)) ∷ parts_wrong is_root d)) ≡ first_wrong (cond is None (Some ([], an_object)) ∷ parts_wrong is_root d)
  by true = least_is_first keys (parts_wrong is_root d) keys_ascend (all_under is_root d)
  by false = ap wrong_kind (top_is_first an_object (least (parts_wrong is_root d)))

-- an object at the top leaves the fault to the parts
pub past_top : (d : Data) (later : Option ManifestErr) (e : ManifestErr) → is_object_at [] d ≡ true → MayFault later e → MayFault (option_or (wrong_kind (top_wrong d)) later) e
past_top d later e is fault = rw is fault

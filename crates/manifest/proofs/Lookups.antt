-- What a look-up of an object of texts answers, as a part.
use Rattle.std.proofs.Common.{◌≡◌, ◌⊎◌, inl, inr, ℕ, List, refl, subst}
use Rattle.std.specs.Prelude.{Option, Some, None, Result, Ok, Err, ⊤}
use Rattle.serde_json.specs.Data.{Data, Members}
use Rattle.serde_json.specs.Find.{as_object, pointer}
use Rattle.json_view.specs.declared.error.JsonErr.{JsonErr}
use Rattle.json_view.specs.declared.error.JsonErr.TheVariants.{NotJson, WrongKind, OpenComment, OutOfMemory}
use Rattle.json_view.specs.Pairs.{unless_other, pairs_if, pairs_of, some_of, if_there, pairs_in, text_members, other_members, least_pointer}
use Rattle.manifest.specs.Parts.{or_no_pairs}
use Rattle.manifest.specs.Faults.{wrong_of, wrong_kind}
use Rattle.manifest.specs.Steps.{as_fault, MayFault}

-- the only error is a wrong kind
abbrev pub IsOfKinds : {A : Type 0} → Result A JsonErr → Type 0
IsOfKinds (Ok a) = ⊤
IsOfKinds (Err NotJson) = ⊥
IsOfKinds (Err (WrongKind at wanted)) = ⊤
IsOfKinds (Err (OpenComment at)) = ⊥
IsOfKinds (Err OutOfMemory) = ⊥

kinds_unless : (pairs : List (List ℕ × List ℕ)) (o : Option (List ℕ)) → IsOfKinds (unless_other pairs o)
kinds_unless pairs None = tt
kinds_unless pairs (Some at) = tt

kinds_if : (at : List ℕ) (o : Option Members) → IsOfKinds (pairs_if at o)
kinds_if at None = tt
kinds_if at (Some ms) = kinds_unless (text_members ms) (least_pointer at (other_members ms))

kinds_of : (at : List ℕ) (d : Data) → IsOfKinds (pairs_of at d)
unfolding pairs_of
kinds_of at d = kinds_if at (as_object d)

kinds_some : {A : Type 0} (r : Result A JsonErr) → IsOfKinds r → IsOfKinds (some_of r)
kinds_some (Ok a) kinds = tt
kinds_some (Err NotJson) kinds = kinds
kinds_some (Err (WrongKind at wanted)) kinds = tt
kinds_some (Err (OpenComment at)) kinds = kinds
kinds_some (Err OutOfMemory) kinds = kinds

kinds_there : (at : List ℕ) (o : Option Data) → IsOfKinds (if_there (pairs_of at) o)
kinds_there at None = tt
kinds_there at (Some d) = kinds_some (pairs_of at d) (kinds_of at d)

pub kinds_in : (at : List ℕ) (d : Data) → IsOfKinds (pairs_in at d)
unfolding pairs_in
kinds_in at d = kinds_there at (pointer at d)

-- such an error is the part's fault
pub map_fault : (meant : Result (Option (List (List ℕ × List ℕ))) JsonErr) (e : JsonErr) → IsOfKinds meant → (e ≡ OutOfMemory) ⊎ (meant ≡ Err e) → MayFault (wrong_kind (wrong_of (or_no_pairs meant))) (as_fault e)
map_fault meant e kinds (inl memory) = rw memory (inl refl)
map_fault meant e kinds (inr is) = rw is (by e (subst (λ (r : Result (Option (List (List ℕ × List ℕ))) JsonErr). IsOfKinds r) is kinds)) where
  by : (f : JsonErr) → IsOfKinds {A = Option (List (List ℕ × List ℕ))} (Err f) → MayFault (wrong_kind (wrong_of (or_no_pairs (Err f)))) (as_fault f)
  by NotJson none = absurd none
  by (WrongKind at wanted) kind = inr refl
  by (OpenComment at) none = absurd none
  by OutOfMemory none = absurd none

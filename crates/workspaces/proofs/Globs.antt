-- The faults of the globs of `workspaces`, as those of the texts that are read.
use Rattle.std.proofs.Common.{◌≡◌, inl, inr, ℕ, suc, ◌+◌, List, [], ◌∷◌, get_or, map, refl, ◌∙◌, subst, arith}
use Rattle.std.specs.Prelude.{Option, Some, None, Bool}
use Rattle.glob_syntax.specs.declared.error.GlobErr.{GlobErr}
use Rattle.glob_syntax.specs.Faults.{moved}
use Rattle.globs.specs.declared.error.ListGlobErr.TheVariants.{At, OutOfMemory as list_memory}
use Rattle.globs.specs.Lists.{fault_in, at_index, list_fault, MayRefuseList}
use Rattle.workspaces.specs.declared.error.SpaceErr.{SpaceErr}
use Rattle.workspaces.specs.declared.error.SpaceErr.TheVariants.{Glob}
use Rattle.workspaces.specs.Entries.{trimmed, dropped, entry_pointer, fault_or, entries_fault}
use Rattle.std.specs.Option.{option_map}
use Rattle.workspaces.specs.Steps.{MayRefuse}

pub no_fault : (form : Bool) (n : ℕ) (entries : List (List ℕ)) → list_fault n (map trimmed entries) ≡ None → entries_fault form n entries ≡ None
no_fault form n [] none = refl
no_fault form n (entry ∷ entries) none = by (fault_in (trimmed entry)) none (no_fault form (n + 1) entries) where
  by : (o : Option GlobErr) → at_index n o (list_fault (n + 1) (map trimmed entries)) ≡ None → (list_fault (n + 1) (map trimmed entries) ≡ None → entries_fault form (n + 1) entries ≡ None) → fault_or form n (option_map (moved (dropped entry)) o) (entries_fault form (n + 1) entries) ≡ None
  by None later inner = inner later
  by (Some fault) later inner = cc

abbrev pub FaultAt : Bool → ℕ → List (List ℕ) → ℕ → GlobErr → Type 0
FaultAt form n entries i fault = (j : ℕ) × (i ≡ n + j) × (entries_fault form n entries ≡ Some (Glob (entry_pointer form i) (moved (dropped (get_or entries j [])) fault)))

pub fault_at : (form : Bool) (n : ℕ) (entries : List (List ℕ)) (i : ℕ) (fault : GlobErr) → list_fault n (map trimmed entries) ≡ Some (At i fault) → FaultAt form n entries i fault
fault_at form n [] i fault is = cc
fault_at form n (entry ∷ entries) i fault is = by (fault_in (trimmed entry)) refl is (fault_at form (n + 1) entries i fault) where
  further : (fault_in (trimmed entry) ≡ None) → FaultAt form (n + 1) entries i fault → FaultAt form n (entry ∷ entries) i fault
  further none inner = (suc inner.0, omega (arith, inner.1), rw none inner.2)

  by : (o : Option GlobErr) → fault_in (trimmed entry) ≡ o → at_index n o (list_fault (n + 1) (map trimmed entries)) ≡ Some (At i fault) → (list_fault (n + 1) (map trimmed entries) ≡ Some (At i fault) → FaultAt form (n + 1) entries i fault) → FaultAt form n (entry ∷ entries) i fault
  by None none later inner = further none (inner later)
  by (Some first) some here inner =
      let place : n ≡ i = cc in
      let same : first ≡ fault = cc in
      (0, omega (arith, place), rw (some, same, place) refl)

-- the refusal of the first text that is no glob
pub found_fault : (form : Bool) (entries : List (List ℕ)) (i : ℕ) (fault : GlobErr) (e : SpaceErr) → MayRefuseList (list_fault 0 (map trimmed entries)) (At i fault)
    → MayRefuse (Some (Glob (entry_pointer form i) (moved (dropped (get_or entries i [])) fault))) e → MayRefuse (entries_fault form 0 entries) e
found_fault form entries i fault e (inl memory) refusal = absurd (by memory) where
  by : At i fault ≡ list_memory → ⊥
  by same = cc
found_fault form entries i fault e (inr is) (inl memory) = inl memory
found_fault form entries i fault e (inr is) (inr same) =
    let at : FaultAt form 0 entries i fault = fault_at form 0 entries i fault is in
    let place : at.0 ≡ i = omega (arith, at.1) in
    inr (subst (λ j. entries_fault form 0 entries ≡ Some (Glob (entry_pointer form i) (moved (dropped (get_or entries j [])) fault))) place at.2 ∙ same)

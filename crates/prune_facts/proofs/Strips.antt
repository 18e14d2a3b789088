-- Paths below folders.
use Rattle.std.proofs.Common.{◌≡◌, ◌⊎◌, ℕ, Bool, true, false, cond, List, [], ◌∷◌, ◌++◌, length, Option, Some, None, refl, sym, ap, ◌∙◌, inl, inr, append_assoc, append-nil, arith}
use Rattle.std.specs.Prelude.{is_some}
use Rattle.std.proofs.lemmas.Bool.{false≢true, false_from_ne_true, ne_eqb}
use Rattle.rel_path.specs.Paths.{Path, name_eq, strip}
use Rattle.rel_path.proofs.PathLaws.{strip_is, strip_append, name_same, name_self}
use Rattle.workspaces.specs.Space.{is_proper, lies_below, is_root_folder}
use Rattle.collect.specs.Steps.{folder_of}
use Rattle.prune_facts.proofs.Lists.{some_of}

-- the path is the folder or lies in it
abbrev pub is_in : Path → Path → Bool
is_in path folder = is_some (strip folder path)

-- what is left of it
pub left_in : (path folder : Path) → is_in path folder ≡ true → (rest : Path) × (path ≡ folder ++ rest)
left_in path folder h = let r = some_of (strip folder path) h in (r.0, strip_is folder path r.0 r.1)

pub in_from : (folder rest : Path) → is_in (folder ++ rest) folder ≡ true
in_from folder rest = ap is_some (strip_append folder rest)

pub below_from : (folder : Path) (name : List ℕ) (rest : Path) → lies_below (folder ++ name ∷ rest) folder ≡ true
below_from folder name rest = ap is_proper (strip_append folder (name ∷ rest))

pub left_below : (path folder : Path) → lies_below path folder ≡ true → (name : List ℕ) × (rest : Path) × (path ≡ folder ++ name ∷ rest)
left_below path folder h = by (strip folder path) refl h
  where
    by : (o : Option Path) → strip folder path ≡ o → is_proper o ≡ true → (name : List ℕ) × (rest : Path) × (path ≡ folder ++ name ∷ rest)
    by None e k = absurd (false≢true k)
    by (Some []) e k = absurd (false≢true k)
    by (Some (name ∷ rest)) e k = (name, rest, strip_is folder path (name ∷ rest) e)

pub below_in : (path folder : Path) → lies_below path folder ≡ true → is_in path folder ≡ true
below_in path folder h = let r = left_below path folder h in ap (λ p. is_in p folder) r.2 ∙ in_from folder (r.0 ∷ r.1)

pub in_trans : (path folder above : Path) → is_in path folder ≡ true → is_in folder above ≡ true → is_in path above ≡ true
in_trans path folder above h k =
    let r = left_in path folder h in
    let s = left_in folder above k in
    ap (λ p. is_in p above) (r.1 ∙ ap (λ f. f ++ r.0) s.1 ∙ append_assoc above s.0 r.0) ∙ in_from above (s.0 ++ r.0)

below_append : (folder rest : Path) (name : List ℕ) (more : Path) → lies_below ((folder ++ rest) ++ name ∷ more) folder ≡ true
below_append folder [] name more = ap (λ f. lies_below (f ++ name ∷ more) folder) (append-nil folder) ∙ below_from folder name more
below_append folder (next ∷ rest) name more = ap (λ p. lies_below p folder) (append_assoc folder (next ∷ rest) (name ∷ more)) ∙ below_from folder next (rest ++ name ∷ more)

-- what lies below a folder lies below each folder that holds it
pub below_above : (path folder above : Path) → lies_below path folder ≡ true → is_in folder above ≡ true → lies_below path above ≡ true
below_above path folder above h k =
    let r = left_below path folder h in
    let s = left_in folder above k in
    ap (λ p. lies_below p above) (r.2 ∙ ap (λ f. f ++ r.0 ∷ r.1) s.1) ∙ below_append above s.0 r.0 r.1

-- of two folders of a path one holds the other
pub one_in_other : (a b path : Path) → is_in path a ≡ true → is_in path b ≡ true → (is_in b a ≡ true) ⊎ (is_in a b ≡ true)
one_in_other [] b path h k = inl refl
one_in_other (x ∷ a) [] path h k = inr refl
one_in_other (x ∷ a) (y ∷ b) [] h k = absurd (false≢true h)
one_in_other (x ∷ a) (y ∷ b) (z ∷ path) h k =
    let s = step x a z path h in
    let t = step y b z path k in
    let e : x ≡ y = s.0 ∙ sym t.0 in
    elim (one_in_other a b path s.1 t.1) [
      | inl u ↦ inl (ap (λ w. is_in (w ∷ b) (x ∷ a)) (sym e) ∙ ap (λ c. is_some (cond c (strip a b) None)) (name_self x) ∙ u)
      | inr u ↦ inr (ap (λ w. is_in (x ∷ a) (w ∷ b)) (sym e) ∙ ap (λ c. is_some (cond c (strip b a) None)) (name_self x) ∙ u)
    ]
  where
    step : (x : List ℕ) (a : Path) (z : List ℕ) (path : Path) → is_in (z ∷ path) (x ∷ a) ≡ true → (x ≡ z) × (is_in path a ≡ true)
    step x a z path h = by (name_eq x z) refl h
      where
        by : (c : Bool) → name_eq x z ≡ c → is_some (cond c (strip a path) None) ≡ true → (x ≡ z) × (is_in path a ≡ true)
        by true e k = (name_same x z e, k)
        by false e k = absurd (false≢true k)

-- ---- a file in its folder

pub folder-in : (folder : Path) (name : List ℕ) → folder_of (folder ++ name ∷ []) ≡ folder
folder-in [] name = refl
folder-in (f ∷ []) name = refl
folder-in (f ∷ g ∷ fs) name = ap (λ rest. f ∷ rest) (folder-in (g ∷ fs) name)

folder_behind : (folder : Path) (name : List ℕ) (rest : Path) → folder_of (folder ++ name ∷ rest) ≡ folder ++ folder_of (name ∷ rest)
folder_behind [] name rest = refl
folder_behind (f ∷ []) name rest = refl
folder_behind (f ∷ g ∷ fs) name rest = ap (λ more. f ∷ more) (folder_behind (g ∷ fs) name rest)

-- what a path lies below, its folder lies in
pub folder_inside : (path folder : Path) → lies_below path folder ≡ true → is_in (folder_of path) folder ≡ true
folder_inside path folder h =
    let r = left_below path folder h in
    ap (λ p. is_in p folder) (ap folder_of r.2 ∙ folder_behind folder r.0 r.1) ∙ in_from folder (folder_of (r.0 ∷ r.1))

pub in_empty : (folder : Path) → is_in [] folder ≡ true → folder ≡ []
in_empty [] h = refl
in_empty (f ∷ fs) h = absurd (false≢true h)

-- a single name lies below the root alone
pub one_name : (folder : Path) (name : List ℕ) → (folder ≡ [] → ⊥) → lies_below (name ∷ []) folder ≡ false
one_name folder name inner = false_from_ne_true _ (λ h. inner (in_empty folder (folder_inside (name ∷ []) folder h)))

pub below_root : (folder : Path) (name : List ℕ) → lies_below (folder ++ name ∷ []) [] ≡ true
below_root [] name = refl
below_root (f ∷ fs) name = refl

pub inner_folder : (folder : Path) → (folder ≡ [] → ⊥) → is_root_folder folder ≡ false
inner_folder [] inner = absurd (inner refl)
inner_folder (f ∷ fs) inner = ne_eqb (length (f ∷ fs)) 0 (λ e. omega (arith, e))

pub root_or_inner : (folder : Path) → (folder ≡ []) ⊎ (folder ≡ [] → ⊥)
root_or_inner [] = inl refl
root_or_inner (f ∷ fs) = inr (λ e. cc)

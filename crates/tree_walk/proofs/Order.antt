-- Names in a folder in order, and the paths that begin with them.
use Rattle.std.proofs.Common.{◌≡◌, ℕ, suc, ◌+◌, ◌<◌, ◌≤◌, Bool, true, false, ltb, ◌||◌, List, [], ◌∷◌, ◌++◌, length, get_or, take, length-take, refl, sym, ap, ◌∙◌, arith}
use Rattle.std.specs.Prelude.{Some, None}
use Rattle.std.specs.List.Sorted.{IsStrictlySortedBy}
use Rattle.std.specs.declared.cmp.Ordering.TheVariants.{Less, Equal, Greater}
use Rattle.std.specs.Ordering.{ordering_then, ordering_reverse, bool_cmp, is_lt}
use Rattle.std.proofs.lemmas.Bool.Decides.{Decides-ltb}
use Rattle.std.proofs.lemmas.List.{get_or-take, get_or_default}
use Rattle.std.proofs.lemmas.List.Folds.{list_any_at, list_any_more}
use Rattle.std.proofs.lemmas.Map.Keys.{Less-from_sorted}
use Rattle.rel_path.specs.Paths.{Path, strip, name_cmp, path_cmp}
use Rattle.rel_path.proofs.PathLaws.{path_cmp_total}
use Rattle.rel_path.proofs.PathLaws.{name_cmp_self, path_cmp_below, strip_is}
use Rattle.tree_dev.specs.declared.entries.Entry.{Entry}
use Rattle.tree_dev.specs.Names.{first_of, entry_of, entry_cmp, same_entry, lists}
use Rattle.tree_dev.proofs.NamesOf.{same_entries, entry_self}
use Rattle.tree_walk.specs.Traversal.{is_at, is_in, is_before}

-- what follows the folder in a path whose first name there is this entry
pub data Shape (folder path : Path) (e : Entry) : Type 0 where
  AsFile : strip folder path ≡ Some (e.name ∷ []) → e.folder ≡ false → Shape folder path e
  AsFolder : (next : List ℕ) (rest : Path) → strip folder path ≡ Some (e.name ∷ next ∷ rest) → e.folder ≡ true → Shape folder path e

shape_rest : (folder path rest : Path) (e : Entry) → strip folder path ≡ Some rest → first_of (Some rest) ≡ Some e → Shape folder path e
shape_rest folder path [] e s is = cc
shape_rest folder path (n ∷ []) e s is = let en : n ≡ e.name = cc in let ef : false ≡ e.folder = cc in AsFile (s ∙ ap (λ x. Some (x ∷ [])) en) (sym ef)
shape_rest folder path (n ∷ m ∷ r) e s is = let en : n ≡ e.name = cc in let ef : true ≡ e.folder = cc in AsFolder m r (s ∙ ap (λ x. Some (x ∷ m ∷ r)) en) (sym ef)

pub shape : (folder path : Path) (e : Entry) → entry_of folder path ≡ Some e → Shape folder path e
shape folder path e is =
    elim (strip folder path) as (λ o. strip folder path ≡ o → first_of o ≡ Some e → Shape folder path e) [
      | None ↦ λ s h. cc
      | Some rest ↦ λ s h. shape_rest folder path rest e s h
    ] refl is

entry_order : (a b : List ℕ) (x y : Bool) (r s : Path) → ordering_then (name_cmp a b) (bool_cmp x y) ≡ Less
    → (x ≡ false → r ≡ []) → (y ≡ true → (m : List ℕ) × (t : Path) × (s ≡ m ∷ t)) → ordering_then (name_cmp a b) (path_cmp r s) ≡ Less
entry_order a b x y r s h f g =
    elim (name_cmp a b) as (λ o. ordering_then o (bool_cmp x y) ≡ Less → ordering_then o (path_cmp r s) ≡ Less) [
      | Less ↦ λ k. refl
      | Equal ↦ λ k. tied x y k f g
      | Greater ↦ λ k. k
    ] h
  where
    tied : (x y : Bool) → bool_cmp x y ≡ Less → (x ≡ false → r ≡ []) → (y ≡ true → (m : List ℕ) × (t : Path) × (s ≡ m ∷ t)) → path_cmp r s ≡ Less
    tied true true k f g = cc
    tied true false k f g = cc
    tied false false k f g = cc
    tied false true k f g = let e = f refl in let w = g refl in let e2 : s ≡ w.0 ∷ w.1 = w.2 in (λ i. path_cmp (e i) (e2 i))

abbrev pub Rest : Path → Path → Entry → Type 0
Rest folder path e = (rest : Path) × (path ≡ folder ++ e.name ∷ rest) × (e.folder ≡ false → rest ≡ []) × (e.folder ≡ true → (m : List ℕ) × (t : Path) × (rest ≡ m ∷ t))

pub rest_of : (folder path : Path) (e : Entry) → Shape folder path e → Rest folder path e
rest_of folder path e (AsFile s f) = ([], strip_is folder path (e.name ∷ []) s, λ h. refl, λ h. cc)
rest_of folder path e (AsFolder m r s f) = (m ∷ r, strip_is folder path (e.name ∷ m ∷ r) s, λ h. cc, λ h. (m, r, refl))

-- paths stand as their first names in a folder do
pub path_order : (folder p q : Path) (a b : Entry) → entry_of folder p ≡ Some a → entry_of folder q ≡ Some b → entry_cmp a b ≡ Less → path_cmp p q ≡ Less
path_order folder p q a b pa qb less =
    let x = rest_of folder p a (shape folder p a pa) in let y = rest_of folder q b (shape folder q b qb) in
    (λ i. path_cmp (x.1 i) (y.1 i)) ∙ path_cmp_below folder (a.name ∷ x.0) (b.name ∷ y.0)
    ∙ entry_order a.name b.name a.folder b.folder x.0 y.0 less x.2 y.3

pub entry_cmp_self : (e : Entry) → entry_cmp e e ≡ Equal
entry_cmp_self e = ap (λ o. ordering_then o (bool_cmp e.folder e.folder)) (name_cmp_self e.name) ∙ elim e.folder as (λ b. bool_cmp b b ≡ Equal) [ true ↦ refl | false ↦ refl ]

-- an element of a list by its place
pub place_of : (names : List Entry) (e : Entry) → lists names e ≡ true → (j : ℕ) × (j < length names) × (get_or names j e ≡ e)
place_of [] e h = cc
place_of (x ∷ xs) e h =
    elim (same_entry x e) as (λ b. same_entry x e ≡ b → (b || lists xs e) ≡ true → (j : ℕ) × (j < length (x ∷ xs)) × (get_or (x ∷ xs) j e ≡ e)) [
      | true ↦ λ t k. (0, omega arith, same_entries x e t)
      | false ↦ λ t k. let r = place_of xs e k in (suc r.0, omega (arith, r.1), r.2)
    ] refl h

pub from_some : {A : Type 0} (x y : A) → Some x ≡ Some y → x ≡ y
from_some x y e = cc

pub take_place : (names : List Entry) (i : ℕ) (e : Entry) → lists (take i names) e ≡ true → (j : ℕ) × (j < i) × (j < length names) × (get_or names j e ≡ e)
take_place names i e h =
    let r = place_of (take i names) e h in
    let l : r.0 < length (take i names) = r.1 in
    let a : r.0 < i = omega (arith, l, length-take i names) in
    (r.0, a, omega (arith, l, length-take i names), sym (get_or-take i names r.0 e a) ∙ r.2)

pub once : (names : List Entry) (i j : ℕ) (d e : Entry) → IsStrictlySortedBy entry_cmp names → i < j → j < length names → get_or names i d ≡ e → get_or names j d ≡ e → ⊥
once names i j d e sorted lt within a b =
    let less : entry_cmp e e ≡ Less = (λ k. entry_cmp (sym a k) (sym b k)) ∙ Less-from_sorted entry_cmp names i j d sorted lt within in
    let equal = entry_cmp_self e in cc

pub at_is : (folder : Path) (e : Entry) (p : Path) → is_at folder e p ≡ true → entry_of folder p ≡ Some e
at_is folder e p h =
    elim (entry_of folder p) as (λ o. elim o as (λ _. Bool) [ None ↦ false | Some other ↦ same_entry e other ] ≡ true → o ≡ Some e) [
      | None ↦ λ k. cc
      | Some other ↦ λ k. ap Some (sym (same_entries e other k))
    ] h

pub at_so : (folder : Path) (e : Entry) (p : Path) → entry_of folder p ≡ Some e → is_at folder e p ≡ true
at_so folder e p h = ap (λ o. elim o as (λ _. Bool) [ None ↦ false | Some other ↦ same_entry e other ]) h ∙ entry_self e

pub in_is : (folder : Path) (names : List Entry) (p : Path) → is_in folder names p ≡ true → (e : Entry) × (entry_of folder p ≡ Some e) × (lists names e ≡ true)
in_is folder names p h =
    elim (entry_of folder p) as (λ o. elim o as (λ _. Bool) [ None ↦ false | Some entry ↦ lists names entry ] ≡ true → (e : Entry) × (o ≡ Some e) × (lists names e ≡ true)) [
      | None ↦ λ k. cc
      | Some other ↦ λ k. (other, refl, k)
    ] h

pub in_so : (folder : Path) (names : List Entry) (p : Path) (e : Entry) → entry_of folder p ≡ Some e → lists names e ≡ true → is_in folder names p ≡ true
in_so folder names p e h l = ap (λ o. elim o as (λ _. Bool) [ None ↦ false | Some entry ↦ lists names entry ]) h ∙ l

pub in_more : (folder : Path) (names : List Entry) (i : ℕ) (d : Entry) (p : Path) → i < length names → is_in folder (take (i + 1) names) p ≡ (is_in folder (take i names) p || is_at folder (get_or names i d) p)
in_more folder names i d p lt =
    elim (entry_of folder p) as (λ o. elim o as (λ _. Bool) [ None ↦ false | Some entry ↦ lists (take (i + 1) names) entry ]
    ≡ (elim o as (λ _. Bool) [ None ↦ false | Some entry ↦ lists (take i names) entry ] || elim o as (λ _. Bool) [ None ↦ false | Some other ↦ same_entry (get_or names i d) other ])) [
      | None ↦ refl
      | Some e ↦ list_any_more (λ other. same_entry other e) names i d lt
    ]

pub by_false : (b : Bool) → (b ≡ true → ⊥) → b ≡ false
by_false true f = absurd (f refl)
by_false false f = refl

-- where a path stands, by its first name, beside a stop at one of the names
pub data Place (behind here before : Bool) : Type 0 where
  Behind : behind ≡ true → here ≡ false → before ≡ true → Place behind here before
  Here : behind ≡ false → here ≡ true → Place behind here before
  Ahead : behind ≡ false → here ≡ false → before ≡ false → Place behind here before

after_lt : (p q : Path) → path_cmp q p ≡ Less → is_lt (path_cmp p q) ≡ false
after_lt p q h = ap is_lt (path_cmp_total.antisymm p q ∙ ap ordering_reverse h)

pub place : (folder : Path) (names : List Entry) (i : ℕ) (d : Entry) (q p : Path) → IsStrictlySortedBy entry_cmp names → i < length names
    → entry_of folder q ≡ Some (get_or names i d) → is_in folder names p ≡ true
    → Place (is_in folder (take i names) p) (is_at folder (get_or names i d) p) (is_before (Some q) p)
place folder names i d q p sorted lt qi listed =
    let r = in_is folder names p listed in
    let e = r.0 in
    let s = place_of names e r.2 in
    let at_j : get_or names s.0 d ≡ e = get_or_default names s.0 d e s.1 ∙ s.2 in
    by_order folder names i d q p sorted lt qi e r.1 s.0 s.1 at_j
  where
    not_taken : (folder : Path) (names : List Entry) (i : ℕ) (d : Entry) (p : Path) (e : Entry) (j : ℕ) → IsStrictlySortedBy entry_cmp names → entry_of folder p ≡ Some e → j < length names → get_or names j d ≡ e → i ≤ j
        → is_in folder (take i names) p ≡ false
    not_taken folder names i d p e j sorted pe lj ej le = by_false _ (λ h.
        let r = in_is folder (take i names) p h in
        let same : r.0 ≡ e = from_some r.0 e (sym r.1 ∙ pe) in
        let t = take_place names i r.0 r.2 in
        once names t.0 j d e sorted (omega (arith, t.1)) lj (get_or_default names t.0 d r.0 t.2 ∙ t.3 ∙ same) ej)

    not_at : (folder : Path) (names : List Entry) (i : ℕ) (d : Entry) (p : Path) (e : Entry) → entry_of folder p ≡ Some e → (get_or names i d ≡ e → ⊥) → is_at folder (get_or names i d) p ≡ false
    not_at folder names i d p e pe apart = by_false _ (λ h. apart (from_some (get_or names i d) e (sym (at_is folder (get_or names i d) p h) ∙ pe)))

    by_order : (folder : Path) (names : List Entry) (i : ℕ) (d : Entry) (q p : Path) → IsStrictlySortedBy entry_cmp names → i < length names
        → entry_of folder q ≡ Some (get_or names i d) → (e : Entry) → entry_of folder p ≡ Some e → (j : ℕ) → j < length names → get_or names j d ≡ e
        → Place (is_in folder (take i names) p) (is_at folder (get_or names i d) p) (is_before (Some q) p)
    by_order folder names i d q p sorted lt qi e pe j lj ej =
        elim (ltb j i) as (λ b. ltb j i ≡ b → Place (is_in folder (take i names) p) (is_at folder (get_or names i d) p) (is_before (Some q) p)) [
          | true ↦ λ t.
              let jlt : j < i = (Decides-ltb j i).0 t in
              Behind
              (in_so folder (take i names) p e pe (list_any_at (λ other. same_entry other e) (take i names) j d (omega (arith, length-take i names)) (ap (λ x. same_entry x e) (get_or-take i names j d jlt ∙ ej) ∙ entry_self e)))
              (not_at folder names i d p e pe (λ h. once names j i d e sorted jlt lt ej h))
              (ap is_lt (path_order folder p q e (get_or names i d) pe qi (ap (λ x. entry_cmp x (get_or names i d)) (sym ej) ∙ Less-from_sorted entry_cmp names j i d sorted jlt lt)))
          | false ↦ λ t. elim (ltb i j) as (λ b. ltb i j ≡ b → Place (is_in folder (take i names) p) (is_at folder (get_or names i d) p) (is_before (Some q) p)) [
            | true ↦ λ u.
                let ilt : i < j = (Decides-ltb i j).0 u in
                Ahead
                (not_taken folder names i d p e j sorted pe lj ej (omega arith))
                (not_at folder names i d p e pe (λ h. once names i j d e sorted ilt lj h ej))
                (after_lt p q (path_order folder q p (get_or names i d) e qi pe (ap (entry_cmp (get_or names i d)) (sym ej) ∙ Less-from_sorted entry_cmp names i j d sorted ilt lj)))
            | false ↦ λ u.
                let nj : j < i → ⊥ = λ h. let k = (Decides-ltb j i).1 h in cc in
                let ni : i < j → ⊥ = λ h. let k = (Decides-ltb i j).1 h in cc in
                let same : j ≡ i = omega arith in
                Here
                (not_taken folder names i d p e j sorted pe lj ej (omega arith))
                (at_so folder (get_or names i d) p (pe ∙ ap Some (sym ej ∙ ap (λ k. get_or names k d) same)))
          ] refl
        ] refl

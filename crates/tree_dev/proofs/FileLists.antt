-- Lists of files, and what stands at a path after one is taken away, changed or added.
use Rattle.std.proofs.Common.{◌≡◌, ℕ, zero, suc, ◌+◌, ◌<◌, ◌≤◌, true, false, not, cond, List, [], ◌∷◌, ◌++◌, length, get_or, set, refl, sym, ap, ◌∙◌, arith, max}
use Rattle.std.specs.Prelude.{Some, None, is_some}
use Rattle.std.specs.List.{position, position_from}
use Rattle.std.proofs.lemmas.Iterator.Adapters.{position_from-zero}
use Rattle.rel_path.specs.Paths.{Path, path_eq}
use Rattle.rel_path.specs.Files.{file_at, over, SameBut}
use Rattle.rel_path.proofs.PathLaws.{path_same, path_self, path_other}
use Rattle.tree_dev.specs.Memory.{is_at, is_elsewhere, without}
use Rattle.tree_dev.specs.Listing.{deepest}

abbrev Held : Type 0
Held = List (Path × List ℕ)

pub without_others : (path : Path) (files : Held) → SameBut path (file_at files) (file_at (without path files))
without_others path [] other apart = refl
without_others path (e ∷ files) other apart =
    elim (path_eq e.0 path) as (λ b. path_eq e.0 path ≡ b → file_at (cond (not b) (e ∷ without path files) (without path files)) other ≡ file_at (e ∷ files) other) [
      | true ↦ λ t. let ne : path_eq e.0 other ≡ false = path_other e.0 other (λ h. apart (sym h ∙ path_same e.0 path t)) in
          without_others path files other apart ∙ sym (ap (λ b. cond b (Some e.1) (file_at files other)) ne)
      | false ↦ λ t. ap (cond (path_eq e.0 other) (Some e.1)) (without_others path files other apart)
    ] refl

pub without_here : (path : Path) (files : Held) → file_at (without path files) path ≡ None
without_here path [] = refl
without_here path (e ∷ files) =
    elim (path_eq e.0 path) as (λ b. path_eq e.0 path ≡ b → file_at (cond (not b) (e ∷ without path files) (without path files)) path ≡ None) [
      | true ↦ λ t. without_here path files
      | false ↦ λ t. ap (λ b. cond b (Some e.1) (file_at (without path files) path)) t ∙ without_here path files
    ] refl

pub push_others : (path : Path) (bytes : List ℕ) (files : Held) → SameBut path (file_at files) (file_at (files ++ (path, bytes) ∷ []))
push_others path bytes [] other apart = ap (λ b. cond b (Some bytes) None) (path_other path other (λ h. apart (sym h)))
push_others path bytes (e ∷ files) other apart = ap (cond (path_eq e.0 other) (Some e.1)) (push_others path bytes files other apart)

pub push_here : (path : Path) (bytes : List ℕ) (files : Held) → file_at files path ≡ None → file_at (files ++ (path, bytes) ∷ []) path ≡ Some bytes
push_here path bytes [] none = ap (λ b. cond b (Some bytes) None) (path_self path)
push_here path bytes (e ∷ files) none =
    elim (path_eq e.0 path) as (λ b. cond b (Some e.1) (file_at files path) ≡ None → cond b (Some e.1) (file_at (files ++ (path, bytes) ∷ []) path) ≡ Some bytes) [
      | true ↦ λ h. cc
      | false ↦ λ h. push_here path bytes files h
    ] none

pub deepest-without : (path : Path) (files : Held) → deepest (without path files) ≤ deepest files
deepest-without path [] = omega arith
deepest-without path (e ∷ files) =
    elim (is_elsewhere path e) as (λ b. deepest (cond b (e ∷ without path files) (without path files)) ≤ max (length e.0) (deepest files)) [
      | true ↦ omega (arith, deepest-without path files)
      | false ↦ omega (arith, deepest-without path files)
    ]

pub deepest-at : (files : Held) (i : ℕ) (d : Path × List ℕ) → i < length files → length (get_or files i d).0 ≤ deepest files
deepest-at [] i d lt = omega arith
deepest-at (e ∷ files) zero d lt = omega arith
deepest-at (e ∷ files) (suc i) d lt = omega (arith, deepest-at files i d (omega arith))

-- other bytes in the place of a file at the path
pub set_others : (path : Path) (bytes : List ℕ) (files : Held) (i : ℕ) (d : Path × List ℕ) → path_eq (get_or files i d).0 path ≡ true
    → SameBut path (file_at files) (file_at (set files i ((get_or files i d).0, bytes)))
set_others path bytes [] i d at other apart = refl
set_others path bytes (e ∷ files) zero d at other apart =
    let ne : path_eq e.0 other ≡ false = path_other e.0 other (λ h. apart (sym h ∙ path_same e.0 path at)) in
    ap (λ b. cond b (Some bytes) (file_at files other)) ne ∙ sym (ap (λ b. cond b (Some e.1) (file_at files other)) ne)
set_others path bytes (e ∷ files) (suc i) d at other apart = ap (cond (path_eq e.0 other) (Some e.1)) (set_others path bytes files i d at other apart)

pub set_here : (path : Path) (bytes : List ℕ) (files : Held) (i : ℕ) (d : Path × List ℕ) → i < length files → path_eq (get_or files i d).0 path ≡ true
    → ((k : ℕ) → k < i → path_eq (get_or files k d).0 path ≡ false) → file_at (set files i ((get_or files i d).0, bytes)) path ≡ Some bytes
set_here path bytes [] i d lt at before = absurd (omega (arith, lt))
set_here path bytes (e ∷ files) zero d lt at before = ap (λ b. cond b (Some bytes) (file_at files path)) at
set_here path bytes (e ∷ files) (suc i) d lt at before =
    ap (λ b. cond b (Some e.1) (file_at (set files i ((get_or files i d).0, bytes)) path)) (before zero (omega arith))
    ∙ set_here path bytes files i d (omega arith) at (λ k l. before (suc k) (omega (arith, l)))

nothing_from : (path : Path) (i : ℕ) (files : Held) → position_from (is_at path) i files ≡ None → file_at files path ≡ None
nothing_from path i [] none = refl
nothing_from path i (e ∷ files) none =
    elim (path_eq e.0 path) as (λ b. cond b (Some i) (position_from (is_at path) (i + 1) files) ≡ None → cond b (Some e.1) (file_at files path) ≡ None) [
      | true ↦ λ h. cc
      | false ↦ λ h. nothing_from path (i + 1) files h
    ] none

-- no place of a file at the path, and so no file there
pub nothing_at : (path : Path) (files : Held) → position (is_at path) files ≡ None → file_at files path ≡ None
nothing_at path files none = nothing_from path 0 files (sym (position_from-zero (is_at path) files) ∙ none)

-- files before others stand over them
pub before_others : (files others : Held) → file_at (files ++ others) ≡ over (file_at others) (file_at files)
before_others files others = λ i. λ path. at files path i
  where
    at : (files : Held) (path : Path) → file_at (files ++ others) path ≡ over (file_at others) (file_at files) path
    at [] path = refl
    at (f ∷ files) path = elim (path_eq f.0 path) as (λ b. cond b (Some f.1) (file_at (files ++ others) path) ≡ cond (is_some (cond b (Some f.1) (file_at files path))) (cond b (Some f.1) (file_at files path)) (file_at others path)) [
      | true ↦ refl
      | false ↦ at files path
    ]

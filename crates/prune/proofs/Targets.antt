-- Paths below a folder.
use Rattle.std.proofs.Common.{◌≡◌, ℕ, true, false, List, [], ◌∷◌, ◌++◌, refl, sym, ap, ◌∙◌, append_assoc}
use Rattle.std.specs.Prelude.{Option, Some, None, option_and_then}
use Rattle.std.proofs.lemmas.Bool.{false≢true}
use Rattle.rel_path.specs.Paths.{Path, strip}
use Rattle.rel_path.specs.Files.{FileMap, over}
use Rattle.rel_path.proofs.PathLaws.{strip_is, strip_append}
use Rattle.workspaces.specs.Space.{is_proper, lies_below}
use Rattle.prune.specs.Folders.{out_folder, moved_to}
use Rattle.prune.specs.Steps.{IsOut}

-- a file below the folder
pub moved_here : (folder rest : Path) (files : FileMap) → moved_to folder files (folder ++ rest) ≡ files rest
moved_here folder rest files = ap (option_and_then files) (strip_append folder rest)

-- a path below `out`
pub below_out : (folder : Path) (name : List ℕ) (names : Path) → IsOut folder → lies_below (folder ++ name ∷ names) out_folder ≡ true
below_out folder name names (rest, is) =
    ap is_proper (ap (strip out_folder) (ap (λ f. f ++ name ∷ names) is ∙ append_assoc out_folder rest (name ∷ names)) ∙ strip_append out_folder (rest ++ name ∷ names)) ∙ proper rest
  where
    proper : (r : Path) → is_proper (Some (r ++ name ∷ names)) ≡ true
    proper [] = refl
    proper (x ∷ r) = refl

-- no file that is moved below `out` stands at a path that does not lie there
pub moved_none : (folder path : Path) (files : FileMap) → IsOut folder → files [] ≡ None → lies_below path out_folder ≡ false → moved_to folder files path ≡ None
moved_none folder path files out none outside = by (strip folder path) refl where
  by : (o : Option Path) → strip folder path ≡ o → option_and_then files o ≡ None
  by None e = refl
  by (Some []) e = none
  by (Some (name ∷ names)) e = absurd (false≢true (sym outside ∙ ap (λ p. lies_below p out_folder) (strip_is folder path (name ∷ names) e) ∙ below_out folder name names out))

pub over_none : (path : Path) (old above : FileMap) → above path ≡ None → over old above path ≡ old path
over_none path old above none = rw none refl

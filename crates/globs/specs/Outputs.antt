-- Which paths a task declares, owns and shares, by its `outputs` and those of the other configured tasks of its package (Turborepo's `outputs`; who owns a file is this project's own rule).
use Rattle.std.specs.Prelude.{◌≡◌, ◌++◌, ℕ, Bool, false, not, ◌&&◌, ◌||◌, List, [], ◌∷◌, Option, Some, None, IsTrue, Any, bytes_eq, codes}
use Rattle.std.specs.List.{list_any}
use Rattle.rel_path.specs.Paths.{Path, strip}
use Rattle.globs.specs.declared.out_set.OutSet.{OutSet}
use Rattle.globs.specs.Lists.{Takes, list_takes}

-- ---- what no task may declare

abbrev pub is_kept_folder : List ℕ → Bool
is_kept_folder name = bytes_eq name (codes "node_modules") || bytes_eq name (codes ".git") || bytes_eq name (codes ".turbo")

abbrev pub is_kept_file : List ℕ → Bool
is_kept_file name = bytes_eq name (codes "package.json") || bytes_eq name (codes "turbo.json") || bytes_eq name (codes "package-lock.json") || bytes_eq name (codes ".gitignore")

-- a task may declare a path with these components below the folder of its package
abbrev pub may_declare : Path → Bool
may_declare [] = false
may_declare (name ∷ []) = not (is_kept_folder name) && not (is_kept_file name)
may_declare (name ∷ next ∷ rest) = not (is_kept_folder name)

-- ---- as relations

-- the outputs of a task in the folder take the path, by its components below the folder
unfoldable pub Declares : List (List ℕ) → Path → Path → Type 0
Declares outputs folder path = (rest : Path) × (path ≡ folder ++ rest) × IsTrue (may_declare rest) × Takes outputs rest

-- some of these outputs declare the path
unfoldable pub AnyDeclares : List (List (List ℕ)) → Path → Path → Type 0
AnyDeclares others folder path = Any (λ outputs. Declares outputs folder path) others

-- the task declares the path, and no other one of its package does
unfoldable pub Owned : OutSet → Path → Type 0
Owned set path = Declares set.mine set.folder path × ¬ (AnyDeclares set.others set.folder path)

-- the task and another one declare the path
unfoldable pub Shared : OutSet → Path → Type 0
Shared set path = Declares set.mine set.folder path × AnyDeclares set.others set.folder path

-- ---- as tests

abbrev pub declares_below : List (List ℕ) → Option Path → Bool
declares_below outputs None = false
declares_below outputs (Some rest) = may_declare rest && list_takes outputs rest

abbrev pub declares : List (List ℕ) → Path → Path → Bool
declares outputs folder path = declares_below outputs (strip folder path)

unfoldable pub any_declares : List (List (List ℕ)) → Path → Path → Bool
any_declares others folder path = list_any (λ outputs. declares outputs folder path) others

-- whether the task owns the path
unfoldable pub takes : OutSet → Path → Bool
takes set path = declares set.mine set.folder path && not (any_declares set.others set.folder path)

-- whether the task shares the path with another one
unfoldable pub shares : OutSet → Path → Bool
shares set path = declares set.mine set.folder path && any_declares set.others set.folder path

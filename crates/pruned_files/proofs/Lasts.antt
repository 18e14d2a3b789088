-- The last name of a path.
use Rattle.std.proofs.Common.{◌≡◌, ◌&&◌, ◌||◌, ℕ, Bool, true, false, List, [], ◌∷◌, ◌++◌, length, refl, sym, ap, ◌∙◌, arith}
use Rattle.std.specs.Prelude.{bytes_eq}
use Rattle.std.specs.List.{list_any}
use Rattle.rel_path.specs.Paths.{Path, path_eq, name_eq}
use Rattle.workspaces.specs.declared.member.Package.{Package}
use Rattle.workspaces.specs.Space.{manifest_in, manifest_name}
use Rattle.task_inputs.specs.Ignores.{is_ignore_file, ignore_name}
use Rattle.collect.specs.Steps.{folder_of}
use Rattle.pruned_files.specs.Folders.{Folders, is_folder, is_ignore_in}

pub last_name : (above : Path) (last : List ℕ) → is_ignore_file (above ++ last ∷ []) ≡ bytes_eq last ignore_name
last_name [] last = refl
last_name (x ∷ []) last = refl
last_name (x ∷ y ∷ above) last = last_name (y ∷ above) last

pub folder_above : (above : Path) (last : List ℕ) → folder_of (above ++ last ∷ []) ≡ above
folder_above [] last = refl
folder_above (x ∷ []) last = refl
folder_above (x ∷ y ∷ above) last = ap (λ p. x ∷ p) (folder_above (y ∷ above) last)

pub ignore_is : (folders : Folders) (above : Path) (last : List ℕ) → is_ignore_in folders (above ++ last ∷ []) ≡ (bytes_eq last ignore_name && is_folder folders above)
ignore_is folders above last = ap (λ b. b && is_folder folders (folder_of (above ++ last ∷ []))) (last_name above last) ∙ ap (λ f. bytes_eq last ignore_name && is_folder folders f) (folder_above above last)

pub none_left : (path : Path) → length path ≡ 0 → path ≡ []
none_left [] e = refl
none_left (x ∷ path) e = absurd (omega (arith, e))

-- ---- a name behind a folder

and_true : (a : Bool) → (a && true) ≡ a
and_true true = refl
and_true false = refl

and_swap : (a b c : Bool) → (a && (b && c)) ≡ (b && (a && c))
and_swap true true c = refl
and_swap true false c = refl
and_swap false true c = refl
and_swap false false c = refl

nothing_both : (a : Bool) → (a && false) ≡ false
nothing_both true = refl
nothing_both false = refl

pub behind_is : (above folder : Path) (last name : List ℕ) → path_eq (above ++ last ∷ []) (folder ++ name ∷ []) ≡ (name_eq last name && path_eq above folder)
behind_is [] [] last name = refl
behind_is [] (f ∷ []) last name = nothing_both (name_eq last f) ∙ sym (nothing_both (name_eq last name))
behind_is [] (f ∷ g ∷ folder) last name = nothing_both (name_eq last f) ∙ sym (nothing_both (name_eq last name))
behind_is (x ∷ []) [] last name = nothing_both (name_eq x name) ∙ sym (nothing_both (name_eq last name))
behind_is (x ∷ y ∷ above) [] last name = nothing_both (name_eq x name) ∙ sym (nothing_both (name_eq last name))
behind_is (x ∷ above) (f ∷ folder) last name = ap (λ b. name_eq x f && b) (behind_is above folder last name) ∙ and_swap (name_eq x f) (name_eq last name) (path_eq above folder)

any_both : {X : Type 0} (a : Bool) (test : X → Bool) (xs : List X) → list_any (λ x. a && test x) xs ≡ (a && list_any test xs)
any_both a test [] = sym (nothing_both a)
any_both true test (x ∷ xs) = ap (λ b. test x || b) (any_both true test xs)
any_both false test (x ∷ xs) = any_both false test xs

any_same : {X : Type 0} (p q : X → Bool) (xs : List X) → ((x : X) → p x ≡ q x) → list_any p xs ≡ list_any q xs
any_same p q [] same = refl
any_same p q (x ∷ xs) same = ap (λ b. b || list_any p xs) (same x) ∙ ap (λ b. q x || b) (any_same p q xs same)

-- the manifest of one of the owners
pub manifest_is : (members : List Package) (above : Path) (last : List ℕ) → list_any (λ p. path_eq (above ++ last ∷ []) (manifest_in p.folder)) members ≡ (name_eq last manifest_name && list_any (λ p. path_eq above p.folder) members)
manifest_is members above last =
    any_same (λ (p : Package). path_eq (above ++ last ∷ []) (manifest_in p.folder)) (λ p. name_eq last manifest_name && path_eq above p.folder) members (λ p. behind_is above p.folder last manifest_name)
    ∙ any_both (name_eq last manifest_name) (λ (p : Package). path_eq above p.folder) members

pub no_manifest : (members : List Package) → list_any (λ p. path_eq [] (manifest_in p.folder)) members ≡ false
no_manifest [] = refl
no_manifest (p ∷ members) = ap (λ b. b || list_any (λ (q : Package). path_eq [] (manifest_in q.folder)) members) (none p.folder) ∙ no_manifest members where
  none : (folder : Path) → path_eq [] (manifest_in folder) ≡ false
  none [] = refl
  none (f ∷ folder) = refl

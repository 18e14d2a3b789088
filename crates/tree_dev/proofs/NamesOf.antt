-- From the entries that a list of files gives a folder to the names in the folder.
use Rattle.std.proofs.Common.{◌≡◌, ℕ, ◌+◌, ◌<◌, ◌≤◌, Bool, true, false, cond, ◌||◌, ◌&&◌, List, [], ◌∷◌, ◌++◌, length, get_or, take, refl, sym, ap, ◌∙◌, arith, IsTrue, append-nil, length-append}
use Rattle.std.specs.Prelude.{Option, Some, None, IfSome, option_to_list}
use Rattle.std.specs.Cmp.{first_so, second_so}
use Rattle.std.specs.List.{list_any, list_all, dedup, dedup_from, All}
use Rattle.std.proofs.lemmas.List.Folds.{list_any-append, list_all-append, list_any_more}
use Rattle.std.proofs.lemmas.List.Elements.{All-push}
use Rattle.rel_path.specs.Paths.{Path, strip, path_eq, name_eq, is_component}
use Rattle.rel_path.specs.Files.{file_at, has}
use Rattle.rel_path.proofs.PathLaws.{path_same, path_self, name_same, name_self, strip_is}
use Rattle.tree_dev.specs.declared.entries.Entry.{Entry}
use Rattle.tree_dev.specs.Names.{first_of, entry_of, same_entry, IsProper, NamesIn}
use Rattle.tree_dev.specs.Listing.{is_this, Gives}
use mathlib.Core.Bool.{beq}

same_bools : (a b : Bool) → beq a b ≡ true → a ≡ b
same_bools true true e = refl
same_bools true false e = sym e
same_bools false true e = e
same_bools false false e = refl

pub same_entries : (a b : Entry) → same_entry a b ≡ true → a ≡ b
same_entries a b e =
    let n : a.name ≡ b.name = name_same a.name b.name (first_so (name_eq a.name b.name) (beq a.folder b.folder) e) in
    let f : a.folder ≡ b.folder = same_bools a.folder b.folder (second_so (name_eq a.name b.name) (beq a.folder b.folder) e) in
    λ i. record { name = n i; folder = f i }

bool_self : (a : Bool) → beq a a ≡ true
bool_self true = refl
bool_self false = refl

pub entry_self : (a : Entry) → same_entry a a ≡ true
entry_self a = rw (name_self a.name) (bool_self a.folder)

first_proper : (rest : Path) (e : Entry) → list_all is_component rest ≡ true → first_of (Some rest) ≡ Some e → (is_component e.name ≡ true) × (e.folder ≡ true → 1 < length rest)
first_proper [] e ok is = cc
first_proper (n ∷ []) e ok is =
    let en : n ≡ e.name = cc in
    let ef : false ≡ e.folder = cc in
    (ap is_component (sym en) ∙ first_so (is_component n) true ok, λ t. cc)
first_proper (n ∷ m ∷ r) e ok is =
    let en : n ≡ e.name = cc in
    (ap is_component (sym en) ∙ first_so (is_component n) (list_all is_component (m ∷ r)) ok, λ t. omega arith)

pub proper_entry : (folder path : Path) (e : Entry) → IsTrue (list_all is_component path) → entry_of folder path ≡ Some e → IsProper (length path) folder e
proper_entry folder path e ok is =
    elim (strip folder path) as (λ o. strip folder path ≡ o → first_of o ≡ Some e → IsProper (length path) folder e) [
      | None ↦ λ s h. cc
      | Some rest ↦ λ s h.
          let p : path ≡ folder ++ rest = strip_is folder path rest s in
          let all : (list_all is_component folder && list_all is_component rest) ≡ true = sym (list_all-append is_component folder rest) ∙ ap (list_all is_component) (sym p) ∙ ok in
          let f = first_proper rest e (second_so (list_all is_component folder) (list_all is_component rest) all) h in
          let len : length path ≡ length folder + length rest = ap length p ∙ length-append folder rest in
          record { named = f.0; shallow = λ t. let more : 1 < length rest = f.1 t in omega arith }
    ] refl is

pub proper_more : (a b : ℕ) (folder : Path) (e : Entry) → a ≤ b → IsProper a folder e → IsProper b folder e
proper_more a b folder e le p = record { named = p.named; shallow = λ f. omega (arith, p.shallow f) }

pub proper_in : (folder path : Path) (o : Option Entry) → IsTrue (list_all is_component path) → o ≡ entry_of folder path → IfSome o (IsProper (length path) folder)
proper_in folder path None ok is = tt
proper_in folder path (Some e) ok is = proper_entry folder path e ok (sym is)

any_gives : (o : Option Entry) (entry : Entry) → list_any (λ other. same_entry other entry) (option_to_list o) ≡ is_this entry o
any_gives None entry = refl
any_gives (Some e) entry = elim (same_entry e entry) as (λ b. (b || false) ≡ b) [ true ↦ refl | false ↦ refl ]

-- one more file
pub gives_more : (folder : Path) (files : List (Path × List ℕ)) (i : ℕ) (d : Path × List ℕ) (names : List Entry) (o : Option Entry) → i < length files → o ≡ entry_of folder (get_or files i d).0
    → Gives (take i files) folder names → Gives (take (i + 1) files) folder (names ++ option_to_list o)
gives_more folder files i d names o lt is before entry =
    list_any-append (λ other. same_entry other entry) names (option_to_list o)
    ∙ ap (λ b. b || list_any (λ other. same_entry other entry) (option_to_list o)) (before entry)
    ∙ ap (λ b. list_any (λ f. is_this entry (entry_of folder f.0)) (take i files) || b) (any_gives o entry ∙ ap (is_this entry) is)
    ∙ sym (list_any_more (λ f. is_this entry (entry_of folder f.0)) files i d lt)

pub all_push : (P : Entry → Type 0) (names : List Entry) (o : Option Entry) → All P names → IfSome o P → All P (names ++ option_to_list o)
all_push P names None all one = rw (append-nil names) all
all_push P names (Some e) all one = All-push P names e all one

pub proper_some : (a b : ℕ) (folder : Path) (o : Option Entry) → a ≤ b → IfSome o (IsProper a folder) → IfSome o (IsProper b folder)
proper_some a b folder None le p = tt
proper_some a b folder (Some e) le p = proper_more a b folder e le p

any-dedup_from : (E : Entry → Entry → Bool) (p : Entry → Bool) → ((a b : Entry) → E a b ≡ true → p a ≡ p b) → (k : Entry) (xs : List Entry) → list_any p (dedup_from E k xs) ≡ (p k || list_any p xs)
any-dedup_from E p alike k [] = refl
any-dedup_from E p alike k (x ∷ xs) =
    elim (E x k) as (λ b. E x k ≡ b → list_any p (cond b (dedup_from E k xs) (k ∷ dedup_from E x xs)) ≡ (p k || (p x || list_any p xs))) [
      | true ↦ λ t. any-dedup_from E p alike k xs ∙ twice (p k) (p x) (list_any p xs) (alike x k t)
      | false ↦ λ t. ap (λ b. p k || b) (any-dedup_from E p alike x xs)
    ] refl
  where
    twice : (a b c : Bool) → b ≡ a → (a || c) ≡ (a || (b || c))
    twice true b c e = refl
    twice false true c e = cc
    twice false false c e = refl

pub any-dedup : (E : Entry → Entry → Bool) (p : Entry → Bool) → ((a b : Entry) → E a b ≡ true → p a ≡ p b) → (xs : List Entry) → list_any p (dedup E xs) ≡ list_any p xs
any-dedup E p alike [] = refl
any-dedup E p alike (x ∷ xs) = any-dedup_from E p alike x xs

gives_is : (folder : Path) (entry : Entry) (path : Path) → is_this entry (entry_of folder path) ≡ true → entry_of folder path ≡ Some entry
gives_is folder entry path e =
    elim (entry_of folder path) as (λ o. is_this entry o ≡ true → o ≡ Some entry) [
      | None ↦ λ h. cc
      | Some other ↦ λ h. ap Some (same_entries other entry h)
    ] e

gives_so : (folder : Path) (entry : Entry) (path : Path) → entry_of folder path ≡ Some entry → is_this entry (entry_of folder path) ≡ true
gives_so folder entry path e = ap (is_this entry) e ∙ entry_self entry

or_so : (a b : Bool) → a ≡ true → (a || b) ≡ true
or_so a b e = ap (λ x. x || b) e

or_right : (a b : Bool) → b ≡ true → (a || b) ≡ true
or_right true b e = refl
or_right false b e = e

any_here : (folder : Path) (entry : Entry) (path : Path) (files : List (Path × List ℕ)) → entry_of folder path ≡ Some entry → has (file_at files) path ≡ true → list_any (λ f. is_this entry (entry_of folder f.0)) files ≡ true
any_here folder entry path [] is here = cc
any_here folder entry path (f ∷ files) is here =
    elim (path_eq f.0 path) as (λ b. path_eq f.0 path ≡ b → has (λ _. cond b (Some f.1) (file_at files path)) path ≡ true → (is_this entry (entry_of folder f.0) || list_any (λ f. is_this entry (entry_of folder f.0)) files) ≡ true) [
      | true ↦ λ t h. or_so _ _ (gives_so folder entry f.0 (ap (entry_of folder) (path_same f.0 path t) ∙ is))
      | false ↦ λ t h. or_right (is_this entry (entry_of folder f.0)) _ (any_here folder entry path files is h)
    ] refl here

abbrev StandsIn : Path → Entry → List (Path × List ℕ) → Type 0
StandsIn folder entry files = (path : Path) × (entry_of folder path ≡ Some entry) × (has (file_at files) path ≡ true)

found_more : (folder : Path) (entry : Entry) (f : Path × List ℕ) (files : List (Path × List ℕ)) → StandsIn folder entry files → StandsIn folder entry (f ∷ files)
found_more folder entry f files (path, is, here) = (
  path,
  is,
  elim (path_eq f.0 path) as (λ b. has (λ _. cond b (Some f.1) (file_at files path)) path ≡ true) [ true ↦ refl | false ↦ here ],
)

found_in : (folder : Path) (entry : Entry) (files : List (Path × List ℕ)) → list_any (λ f. is_this entry (entry_of folder f.0)) files ≡ true → StandsIn folder entry files
found_in folder entry [] e = cc
found_in folder entry (f ∷ files) e =
    elim (is_this entry (entry_of folder f.0)) as (λ b. is_this entry (entry_of folder f.0) ≡ b → (b || list_any (λ f. is_this entry (entry_of folder f.0)) files) ≡ true → StandsIn folder entry (f ∷ files)) [
      | true ↦ λ t h. (f.0, gives_is folder entry f.0 t, ap (λ b. has (λ _. cond b (Some f.1) (file_at files f.0)) f.0) (path_self f.0))
      | false ↦ λ t h. found_more folder entry f files (found_in folder entry files h)
    ] refl e

pub names-of : (folder : Path) (files : List (Path × List ℕ)) (names : List Entry) → Gives files folder names → (held : Path → Bool) → NamesIn (file_at files) held folder names
names-of folder files names all held = record {
  all = λ path entry is here. all entry ∙ any_here folder entry path files is here;
  only = λ entry is. let found : StandsIn folder entry files = found_in folder entry files (sym (all entry) ∙ is) in (found.0, found.1, or_so _ _ found.2);
}

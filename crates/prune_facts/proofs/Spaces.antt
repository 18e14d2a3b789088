-- What the packages of a workspace are to one another.
use Rattle.std.proofs.Common.{◌≡◌, ◌⊎◌, inl, inr, ℕ, Bool, true, false, cond, List, [], ◌∷◌, map, filter, refl, sym, ap, ◌∙◌, subst}
use Rattle.std.specs.Prelude.{Option, Some, None, Result, Ok, Err, bytes_eq, unwrap_or}
use Rattle.std.specs.List.{AllByRecursion, filter_map}
use Rattle.std.specs.List.Sorted.{IsStrictlySortedBy}
use Rattle.std.specs.Option.{option_or}
use Rattle.std.specs.declared.cmp.Ordering.{Ordering}
use Rattle.std.specs.declared.cmp.Ordering.TheVariants.{Less, Equal, Greater}
use Rattle.std.specs.Ordering.{ordering_then}
use Rattle.std.specs.Cmp.Lexicographic.{nat_list_cmp_total}
use Rattle.std.proofs.lemmas.Bool.{false≢true}
use Rattle.std.proofs.lemmas.Map.Lookups.{exact_bytes}
use Rattle.std.proofs.lemmas.Slice.Eq.{bytes_eq-Decides}
use Rattle.serde_json.specs.Data.{Data}
use Rattle.json_view.specs.Reading.{reading}
use Rattle.rel_path.specs.Paths.{Path, name_cmp, path_cmp}
use Rattle.rel_path.specs.Files.{FileMap}
use Rattle.rel_path.specs.Limits.{file_limit}
use Rattle.rel_path.proofs.PathLaws.{path_cmp_total, name_cmp_self}
use Rattle.tree_dev.specs.declared.tree.Found.{Found}
use Rattle.tree_dev.specs.declared.tree.Found.TheVariants.{Absent, TooLong, Here}
use Rattle.tree_dev.specs.Tree.{within}
use Rattle.manifest.specs.declared.manifest.Manifest.{Manifest}
use Rattle.manifest.specs.declared.error.ManifestErr.{ManifestErr}
use Rattle.manifest.specs.declared.error.ManifestErr.TheVariants.{NoName}
use Rattle.manifest.specs.Parts.{text_part}
use Rattle.manifest.specs.Faults.{text_or_none, is_package_name, name_fault, wrong_kind, least, wrongs, last_fault, manifest_fault}
use Rattle.manifest.specs.Manifest.{parts_in, unless, manifest_in, manifest_of}
use Rattle.workspaces.specs.declared.member.Package.{Package}
use Rattle.workspaces.specs.declared.error.SpaceErr.{SpaceErr}
use Rattle.workspaces.specs.declared.error.SpaceErr.TheVariants.{NameTwice}
use Rattle.workspaces.specs.Lists.{ascending, Has}
use Rattle.workspaces.specs.Order.{package_cmp, package_total}
use Rattle.workspaces.specs.Entries.{globs_of, globs_fault}
use Rattle.workspaces.specs.Space.{Space, AreApart, is_taken, folder_of, folders_in, package_from, package_at, and_more, packages_at, inside_fault, twice_fault, or_then, unless as unless_fault, checks_fault, space_from, space_of, manifest_in as manifest_at}
use Rattle.workspaces.specs.Steps.{AscendingNames}
use Rattle.workspaces.specs.Reading.{DifferByFolder}
use Rattle.workspaces.proofs.Apart.{all_apart, members_apart}
use Rattle.prune_facts.proofs.Lists.{filter-has}
use Rattle.prune_facts.proofs.Sorted.{all_member, member_all, has-ascending, sorted-ascending}

-- ---- a package that was read

none_later : {A : Type 0} (o later : Option A) → option_or o later ≡ None → later ≡ None
none_later None later e = e
none_later (Some a) later e = absurd (cc)

named_well : (name : Option (List ℕ)) → name_fault name ≡ None → is_package_name (unwrap_or name []) ≡ true
named_well None e = absurd (cc)
named_well (Some name) e = by (is_package_name name) refl e
  where
    by : (b : Bool) → is_package_name name ≡ b → cond b None (Some NoName) ≡ None → is_package_name name ≡ true
    by true k l = k
    by false k l = absurd (cc)

read_name : (bytes : List ℕ) (m : Manifest) → manifest_of false bytes ≡ Ok m → is_package_name (unwrap_or m.name []) ≡ true
unfolding manifest_of manifest_fault
read_name bytes m e = by (reading bytes) e
  where
    fault : (d : Data) (o : Option ManifestErr) → manifest_fault false d ≡ o → unless o (parts_in d) ≡ Ok m → is_package_name (unwrap_or m.name []) ≡ true
    fault d None none k =
        let same : parts_in d ≡ m = cc in
        ap (λ (x : Manifest). is_package_name (unwrap_or x.name [])) (sym same) ∙ named_well (text_or_none (text_part _ d)) (none_later (wrong_kind (least (wrongs false d))) (last_fault false d) none)
    fault d (Some f) none k = absurd (cc)

    by : (o : Option Data) → manifest_in false o ≡ Ok m → is_package_name (unwrap_or m.name []) ≡ true
    by None k = absurd (cc)
    by (Some d) k = fault d (manifest_fault false d) refl k

read_at : (folder : Path) (found : Found) (m : Package) → package_at folder found ≡ Ok (Some m) → (m.folder ≡ folder) × (is_package_name m.name ≡ true)
read_at folder Absent m e = absurd (cc)
read_at folder TooLong m e = absurd (cc)
read_at folder (Here bytes) m e = by (manifest_of false bytes) refl e
  where
    by : (r : Result Manifest ManifestErr) → manifest_of false bytes ≡ r → package_from folder r ≡ Ok (Some m) → (m.folder ≡ folder) × (is_package_name m.name ≡ true)
    by (Ok manifest) k l =
        let same : record { name = unwrap_or manifest.name []; folder = folder; manifest = manifest } ≡ m = cc in
        (ap (λ (x : Package). x.folder) (sym same), ap (λ (x : Package). is_package_name x.name) (sym same) ∙ read_name bytes manifest k)
    by (Err fault) k l = absurd (cc)

-- ---- packages that were read

abbrev folders_of : List Package → List Path
folders_of packages = map (λ (member : Package). member.folder) packages

map_all : (P : Path → Type 0) (packages : List Package) → ((p : Package) → Has packages p → P p.folder) → AllByRecursion P (folders_of packages)
map_all P [] each = tt
map_all P (p ∷ packages) each = (each p (inl refl), map_all P packages (λ q h. each q (inr h)))

-- they stand in these folders, in their order, and have names that packages may have
pub record AreRead (folders : List Path) (packages : List Package) : Type 0 where
  pub among : (p : Package) → Has packages p → Has folders p.folder
  pub ascend : IsStrictlySortedBy path_cmp folders → DifferByFolder packages
  pub names : (p : Package) → Has packages p → is_package_name p.name ≡ true

later_read : (folder : Path) (folders : List Path) (packages : List Package) → AreRead folders packages → AreRead (folder ∷ folders) packages
unfolding IsStrictlySortedBy
later_read folder folders packages r = record { among = λ p h. inr (r.among p h); ascend = λ up. r.ascend up.1; names = r.names }

first_read : (folder : Path) (folders : List Path) (m : Package) (packages : List Package) → m.folder ≡ folder → is_package_name m.name ≡ true → AreRead folders packages → AreRead (folder ∷ folders) (m ∷ packages)
unfolding IsStrictlySortedBy
first_read folder folders m packages at named r = record { among = among'; ascend = ascend'; names = names' }
  where
    among' : (p : Package) → Has (m ∷ packages) p → Has (folder ∷ folders) p.folder
    among' p (inl e) = inl (sym at ∙ ap (λ (x : Package). x.folder) e)
    among' p (inr h) = inr (r.among p h)

    names' : (p : Package) → Has (m ∷ packages) p → is_package_name p.name ≡ true
    names' p (inl e) = ap (λ (x : Package). is_package_name x.name) (sym e) ∙ named
    names' p (inr h) = r.names p h

    ascend' : IsStrictlySortedBy path_cmp (folder ∷ folders) → DifferByFolder (m ∷ packages)
    ascend' up = (map_all (λ f. path_cmp m.folder f ≡ Less) packages (λ p h. ap (λ f. path_cmp f p.folder) at ∙ all_member (λ f. path_cmp folder f ≡ Less) folders p.folder up.0 (r.among p h)), r.ascend up.1)

all_read : (files : FileMap) (folders : List Path) (packages : List Package) → packages_at files folders ≡ Ok packages → AreRead folders packages
unfolding packages_at IsStrictlySortedBy
all_read files [] packages e =
    let none : [] ≡ packages = cc in
    subst (AreRead []) none (record { among = λ p h. h; ascend = λ up. tt; names = λ p h. absurd h })
all_read files (folder ∷ folders) packages e = by (package_at folder (within file_limit (files (manifest_at folder)))) refl (packages_at files folders) refl e (all_read files folders)
  where
    by : (one : Result (Option Package) SpaceErr) → package_at folder (within file_limit (files (manifest_at folder))) ≡ one → (more : Result (List Package) SpaceErr) → packages_at files folders ≡ more → and_more one more ≡ Ok packages
        → ((ps : List Package) → packages_at files folders ≡ Ok ps → AreRead folders ps) → AreRead (folder ∷ folders) packages
    by (Err fault) is more also k rest = absurd (cc)
    by (Ok None) is more also k rest = later_read folder folders packages (rest packages (also ∙ k))
    by (Ok (Some m)) is (Err fault) also k rest = absurd (cc)
    by (Ok (Some m)) is (Ok ps) also k rest =
        let same : m ∷ ps ≡ packages = cc in
        let r = read_at folder (within file_limit (files (manifest_at folder))) m is in
        subst (AreRead (folder ∷ folders)) same (first_read folder folders m ps r.0 r.1 (rest ps also))

-- ---- names in order

lesser_name : (p q : Package) → package_cmp p q ≡ Less → bytes_eq p.name q.name ≡ false → name_cmp p.name q.name ≡ Less
lesser_name p q less apart = by (name_cmp p.name q.name) refl less
  where
    by : (o : Ordering) → name_cmp p.name q.name ≡ o → ordering_then o (path_cmp p.folder q.folder) ≡ Less → o ≡ Less
    by Less e first = refl
    by Equal e first = absurd (false≢true (sym apart ∙ (bytes_eq-Decides p.name q.name).1 (exact_bytes p.name q.name e)))
    by Greater e first = cc

names_ascend : (packages : List Package) → IsStrictlySortedBy package_cmp packages → twice_fault packages ≡ None → AscendingNames packages
unfolding twice_fault IsStrictlySortedBy
names_ascend [] up none = tt
names_ascend (p ∷ []) up none = (tt, tt)
names_ascend (p ∷ q ∷ packages) up none = by (bytes_eq p.name q.name) refl none (names_ascend (q ∷ packages) up.1)
  where
    further : name_cmp p.name q.name ≡ Less → AllByRecursion (λ n. name_cmp q.name n ≡ Less) (map (λ (r : Package). r.name) packages) → AllByRecursion (λ n. name_cmp p.name n ≡ Less) (map (λ (r : Package). r.name) packages)
    further less all = member_all (λ n. name_cmp p.name n ≡ Less) (map (λ (r : Package). r.name) packages) (λ n h. nat_list_cmp_total.trans p.name q.name n less (all_member (λ m. name_cmp q.name m ≡ Less) (map (λ (r : Package). r.name) packages) n all h))

    by : (t : Bool) → bytes_eq p.name q.name ≡ t → cond t (Some (NameTwice p.name p.folder q.folder)) (twice_fault (q ∷ packages)) ≡ None → (twice_fault (q ∷ packages) ≡ None → AscendingNames (q ∷ packages)) → AscendingNames (p ∷ q ∷ packages)
    by true e later inner = cc
    by false e later inner =
        let first : name_cmp p.name q.name ≡ Less = lesser_name p q up.0.0 e in
        let rest = inner later in
        ((first, further first rest.0), rest)

has_name : (packages : List Package) (p : Package) → Has packages p → Has (map (λ (r : Package). r.name) packages) p.name
has_name [] p h = absurd h
has_name (q ∷ packages) p (inl e) = inl (ap (λ (r : Package). r.name) e)
has_name (q ∷ packages) p (inr h) = inr (has_name packages p h)

named_once : (packages : List Package) → AscendingNames packages → (p q : Package) → Has packages p → Has packages q → p.name ≡ q.name → p ≡ q
unfolding IsStrictlySortedBy
named_once [] up p q h k e = absurd h
named_once (m ∷ packages) up p q (inl a) (inl b) e = sym a ∙ b
named_once (m ∷ packages) up p q (inl a) (inr b) e = absurd (below q.name (subst (λ n. name_cmp n q.name ≡ Less) (ap (λ (r : Package). r.name) a ∙ e) (all_member (λ n. name_cmp m.name n ≡ Less) (map (λ (r : Package). r.name) packages) q.name up.0 (has_name packages q b))))
  where
    below : (n : List ℕ) → name_cmp n n ≡ Less → ⊥
    below n less = let self = name_cmp_self n in cc
named_once (m ∷ packages) up p q (inr a) (inl b) e = absurd (below p.name (subst (λ n. name_cmp n p.name ≡ Less) (ap (λ (r : Package). r.name) b ∙ sym e) (all_member (λ n. name_cmp m.name n ≡ Less) (map (λ (r : Package). r.name) packages) p.name up.0 (has_name packages p a))))
  where
    below : (n : List ℕ) → name_cmp n n ≡ Less → ⊥
    below n less = let self = name_cmp_self n in cc
named_once (m ∷ packages) up p q (inr a) (inr b) e = named_once packages up.1 p q a b e

-- ---- a workspace

-- its folders are below the root and apart, and its names are those of packages and differ
pub record IsApart (space : Space) : Type 0 where
  pub inner : (p : Package) → Has space.packages p → p.folder ≡ [] → ⊥
  pub apart : (p q : Package) → Has space.packages p → Has space.packages q → (p ≡ q) ⊎ AreApart p.folder q.folder
  pub names : (p : Package) → Has space.packages p → is_package_name p.name ≡ true
  pub once : (p q : Package) → Has space.packages p → Has space.packages q → p.name ≡ q.name → p ≡ q

below_root : (globs : List (List ℕ)) (walk : List Path) (folder : Path) → Has (folders_in globs walk) folder → folder ≡ [] → ⊥
unfolding folders_in
below_root globs walk folder h root =
    let k = (filter-has (is_taken globs) (filter_map folder_of walk) folder (has-ascending path_cmp (filter (is_taken globs) (filter_map folder_of walk)) folder h)).1 in
    false≢true (ap (is_taken globs) (sym root) ∙ k)

both_none : (a b : Option SpaceErr) → or_then a b ≡ None → (a ≡ None) × (b ≡ None)
both_none None b e = (refl, e)
both_none (Some a) b e = absurd (cc)

made_of : (files : FileMap) (globs : List (List ℕ)) (walk : List Path) (root : Manifest) (packages : List Package) → packages_at files (folders_in globs walk) ≡ Ok packages → checks_fault packages ≡ None → IsApart (record { root = root; packages = ascending package_cmp packages })
made_of files globs walk root packages read none =
    let r = all_read files (folders_in globs walk) packages read in
    let fine = both_none (inside_fault packages) (twice_fault (ascending package_cmp packages)) none in
    let up = sorted-folders in
    let named = names_ascend (ascending package_cmp packages) (sorted-ascending package_cmp package_total packages) fine.1 in
    record {
      inner = λ p h. below_root globs walk p.folder (r.among p (has-ascending package_cmp packages p h));
      apart = members_apart (ascending package_cmp packages) (all_apart packages (r.ascend up) fine.0 named);
      names = λ p h. r.names p (has-ascending package_cmp packages p h);
      once = named_once (ascending package_cmp packages) named;
    }
  where
    sorted-folders : IsStrictlySortedBy path_cmp (folders_in globs walk)
    sorted-folders = unfold folders_in in sorted-ascending path_cmp path_cmp_total (filter (is_taken globs) (filter_map folder_of walk))

pub space_apart : (files : FileMap) (walk : List Path) (root : Manifest) (space : Space) → space_of files walk root ≡ Ok space → IsApart space
unfolding space_of
space_apart files walk root space e = by (globs_fault root) e
  where
    checked : (packages : List Package) (o : Option SpaceErr) → packages_at files (folders_in (globs_of root) walk) ≡ Ok packages → checks_fault packages ≡ o → unless_fault o (Ok (record { root = root; packages = ascending package_cmp packages })) ≡ Ok space → IsApart space
    checked packages None read none k = let same : record { root = root; packages = ascending package_cmp packages } ≡ space = cc in subst IsApart same (made_of files (globs_of root) walk root packages read none)
    checked packages (Some fault) read none k = absurd (cc)

    found : (r : Result (List Package) SpaceErr) → packages_at files (folders_in (globs_of root) walk) ≡ r → space_from root r ≡ Ok space → IsApart space
    found (Ok packages) read k = checked packages (checks_fault packages) read refl k
    found (Err fault) read k = absurd (cc)

    by : (o : Option SpaceErr) → unless_fault o (space_from root (packages_at files (folders_in (globs_of root) walk))) ≡ Ok space → IsApart space
    by None k = found (packages_at files (folders_in (globs_of root) walk)) refl k
    by (Some fault) k = absurd (cc)

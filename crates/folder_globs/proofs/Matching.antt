-- What the parts of an exclusion take: the paths below its folder.
use Rattle.std.proofs.Common.{◌≡◌, ◌==◌, ◌&&◌, ◌||◌, ℕ, Bool, true, false, cond, List, [], ◌∷◌, map, refl, sym, ◌∙◌, ap, None}
use Rattle.std.specs.Prelude.{bytes_eq}
use Rattle.std.specs.List.{list_all}
use Rattle.std.specs.Str.{chars, IsUtf8}
use Rattle.std.proofs.lemmas.Bool.{and_from, and_right}
use Rattle.std.proofs.lemmas.Bool.Decides.{same_from_decides, Decides-eqb, Decides-like}
use Rattle.std.proofs.lemmas.Slice.Eq.{bytes_eq-Decides}
use Rattle.std.proofs.lemmas.Str.{encodes-chars}
use Rattle.std.proofs.Math.Utf8.{encodes}
use Rattle.rel_path.specs.Paths.{Path, name_eq, strip}
use Rattle.rel_path.proofs.PathLaws.{name_same, name_self}
use Rattle.glob_syntax.specs.declared.atom.Atom.TheVariants as atom
use Rattle.glob_syntax.specs.declared.part.Part.TheVariants.{Named}
use Rattle.glob_syntax.specs.Atoms.{is_char}
use Rattle.glob_syntax.specs.Match.{spells_atoms, spells_name, takes_component, spells_path}
use Rattle.globs.specs.Match.{are_plain, matches}
use Rattle.folder_globs.specs.Exclusions.{is_proper, lies_below, AreTexts}
use Rattle.folder_globs.proofs.Reading.{name_part, folder_parts}

-- ---- a name takes itself alone
eqb_sym : (a b : ℕ) → (a == b) ≡ (b == a)
eqb_sym a b = same_from_decides (a == b) (b == a) (Decides-eqb a b) (Decides-like (b == a) sym sym (Decides-eqb b a))

spells_chars : (cs ds : List ℕ) → spells_atoms (map (λ c. atom.Char c) cs) ds ≡ bytes_eq cs ds
spells_chars [] [] = refl
spells_chars [] (d ∷ ds) = refl
spells_chars (c ∷ cs) [] = refl
spells_chars (c ∷ cs) (d ∷ ds) = rw (eqb_sym d c, spells_chars cs ds) refl

same_text : (xs ys : List ℕ) → IsUtf8 xs → IsUtf8 ys → chars xs ≡ chars ys → xs ≡ ys
same_text xs ys u v e = sym (encodes-chars xs u) ∙ ap encodes e ∙ encodes-chars ys v

same_chars : (xs ys : List ℕ) → IsUtf8 xs → IsUtf8 ys → bytes_eq (chars xs) (chars ys) ≡ name_eq xs ys
same_chars xs ys u v = same_from_decides (bytes_eq (chars xs) (chars ys)) (name_eq xs ys) (bytes_eq-Decides (chars xs) (chars ys)) (Decides-like (name_eq xs ys) (ap chars) (same_text xs ys u v) (bytes_eq-Decides xs ys))

takes_itself : (name : List ℕ) → takes_component (name_part (chars name)) name ≡ true
unfolding spells_name
takes_itself name = spells_chars (chars name) (chars name) ∙ name_self (chars name)

takes_same : (name component : List ℕ) → IsUtf8 name → IsUtf8 component → takes_component (name_part (chars name)) component ≡ name_eq name component
unfolding spells_name
takes_same name component u v = spells_chars (chars name) (chars component) ∙ same_chars name component u v

-- ---- any components and one more are at least one
star_takes : (cs : List ℕ) → spells_atoms (atom.Star ∷ []) cs ≡ true
star_takes [] = refl
star_takes (c ∷ cs) = star_takes cs

takes_any : (component : List ℕ) → takes_component (Named (atom.Star ∷ [])) component ≡ true
unfolding spells_name
takes_any component = star_takes (chars component)

some_more : (name : List ℕ) (names : Path) → spells_path (folder_parts []) (name ∷ names) ≡ true
some_more name [] = rw (takes_any name) refl
some_more name (next ∷ names) = rw (takes_any name) (some_more next names)

-- ---- the folder
abbrev pub texts_of : Path → Path
texts_of folder = map (λ name. chars name) folder

pub below_taken : (folder path : Path) → lies_below path folder ≡ true → spells_path (folder_parts (texts_of folder)) path ≡ true
below_taken [] [] e = cc
below_taken [] (name ∷ names) e = some_more name names
below_taken (f ∷ fs) [] e = cc
below_taken (f ∷ fs) (n ∷ ns) e = by (name_eq f n) refl e (below_taken fs ns)
  where
    by : (same : Bool) → name_eq f n ≡ same → is_proper (cond same (strip fs ns) None) ≡ true → (is_proper (strip fs ns) ≡ true → spells_path (folder_parts (texts_of fs)) ns ≡ true) → spells_path (folder_parts (texts_of (f ∷ fs))) (n ∷ ns) ≡ true
    by true s e more = and_from (takes_component (name_part (chars f)) n) (spells_path (folder_parts (texts_of fs)) ns) (ap (takes_component (name_part (chars f))) (sym (name_same f n s)) ∙ takes_itself f) (more e)
    by false s e more = cc

pub taken_is_below : (folder path : Path) → AreTexts folder → AreTexts path → spells_path (folder_parts (texts_of folder)) path ≡ lies_below path folder
taken_is_below [] [] f p = refl
taken_is_below [] (name ∷ names) f p = some_more name names
taken_is_below (f ∷ fs) [] u p = refl
taken_is_below (f ∷ fs) (n ∷ ns) u p = rw (takes_same f n u.0 p.0, taken_is_below fs ns u.1 p.1) (by (name_eq f n))
  where
    by : (same : Bool) → (same && is_proper (strip fs ns)) ≡ is_proper (cond same (strip fs ns) None)
    by true = refl
    by false = refl

-- ---- the glob, which matches no path from above
not_plain : (names : Path) → are_plain (folder_parts names) ≡ false
not_plain [] = refl
not_plain (name ∷ names) = and_right (list_all is_char (map (λ c. atom.Char c) name)) (are_plain (folder_parts names)) (not_plain names)

pub matches_folder : (names path : Path) → matches (folder_parts names ∷ []) path ≡ spells_path (folder_parts names) path
unfolding matches
matches_folder names path = rw (not_plain names) (either (spells_path (folder_parts names) path))
  where
    either : (a : Bool) → ((a || false) || false) ≡ a
    either true = refl
    either false = refl

-- The characters of a name: some, not `.` or `..`, and no slash.
use Rattle.std.proofs.Common.{◌≡◌, ◌≢◌, ◌==◌, ◌||◌, ℕ, Bool, true, false, cond, List, [], ◌∷◌, map, length, refl, sym, ◌∙◌, ap, inl, inr, arith, Some, None}
use Rattle.std.specs.Prelude.{is_none, bytes_eq}
use Rattle.std.specs.List.{AllByRecursion, list_any}
use Rattle.std.specs.Str.{chars, IsUtf8}
use Rattle.std.proofs.lemmas.Bool.{cases_lt, ne_eqb, both_ways, and_parts}
use Rattle.std.proofs.lemmas.Bool.Decides.{same_from_decides, Decides-like}
use Rattle.std.proofs.lemmas.List.Folds.{list_any-append}
use Rattle.std.proofs.lemmas.Slice.Eq.{bytes_eq-Decides}
use Rattle.std.proofs.lemmas.Str.{encode_ascii, encodes-chars, chars-encodes}
use Rattle.std.proofs.Math.Utf8.{scalars, encode, encodes}
use Rattle.rel_path.specs.declared.error.PathErr.TheVariants.{Empty, DotPart, Slash}
use Rattle.rel_path.specs.Paths.{Path, AreNames, is_component, is_dots, is_slash}
use Rattle.folder_globs.specs.Exclusions.{AreTexts}
use Rattle.folder_globs.proofs.Characters.{AreHigh, high}

pub record AreNameChars (cs : List ℕ) : Type 0 where
  pub some : cs ≢ []
  pub dots : is_dots cs ≡ false
  pub slashes : list_any is_slash cs ≡ false

-- ---- what the bytes of a name say
name_tests : (name : List ℕ) → is_component name ≡ true → ((length name == 0) ≡ false) × (is_dots name ≡ false) × (list_any is_slash name ≡ false)
name_tests name e = by (length name == 0) (is_dots name) (list_any is_slash name) e
  where
    by : (empty dots slash : Bool) → is_none (cond empty (Some Empty) (cond dots (Some DotPart) (cond slash (Some Slash) None))) ≡ true → (empty ≡ false) × (dots ≡ false) × (slash ≡ false)
    by true dots slash e = cc
    by false true slash e = cc
    by false false true e = cc
    by false false false e = (refl, refl, refl)

-- ---- the characters say the same
ascii_same : (name cs : List ℕ) → IsUtf8 name → scalars cs ≡ true → encodes cs ≡ cs → bytes_eq (chars name) cs ≡ bytes_eq name cs
ascii_same name cs u s e =
    same_from_decides (bytes_eq (chars name) cs) (bytes_eq name cs) (bytes_eq-Decides (chars name) cs)
    (Decides-like (bytes_eq name cs) (λ is. ap chars (is ∙ sym e) ∙ chars-encodes cs s) (λ is. sym (encodes-chars name u) ∙ ap encodes is ∙ e) (bytes_eq-Decides name cs))

dot : encodes (46 ∷ []) ≡ 46 ∷ []
unfolding encode
dot = refl

dot_dot : encodes (46 ∷ 46 ∷ []) ≡ 46 ∷ 46 ∷ []
unfolding encode
dot_dot = refl

dots_same : (name : List ℕ) → IsUtf8 name → is_dots (chars name) ≡ is_dots name
dots_same name u = rw (ascii_same name (46 ∷ []) u refl dot, ascii_same name (46 ∷ 46 ∷ []) u refl dot_dot) refl

no_slash_high : (bs : List ℕ) → AreHigh bs → list_any is_slash bs ≡ false
no_slash_high [] h = refl
no_slash_high (b ∷ bs) h = rw (ne_eqb b 47 (λ same. omega arith), no_slash_high bs h.1) refl

slash_encode : (c : ℕ) → list_any is_slash (encode c) ≡ is_slash c
slash_encode c = elim (cases_lt c 128) [
  | inl lt ↦ rw (encode_ascii c lt) (or_none (is_slash c))
  | inr le ↦ no_slash_high (encode c) (high c le) ∙ sym (ne_eqb c 47 (λ same. omega arith))
]
  where
    or_none : (a : Bool) → (a || false) ≡ a
    or_none true = refl
    or_none false = refl

slash_encodes : (cs : List ℕ) → list_any is_slash (encodes cs) ≡ list_any is_slash cs
slash_encodes [] = refl
slash_encodes (c ∷ cs) = list_any-append is_slash (encode c) (encodes cs) ∙ rw (slash_encode c, slash_encodes cs) refl

slash_same : (name : List ℕ) → IsUtf8 name → list_any is_slash (chars name) ≡ list_any is_slash name
slash_same name u = sym (slash_encodes (chars name)) ∙ ap (list_any is_slash) (encodes-chars name u)

-- ---- so they are those of a name
name_chars : (name : List ℕ) → IsUtf8 name → is_component name ≡ true → AreNameChars (chars name)
name_chars name u e =
    let tests = name_tests name e in
    record {
      some = λ none. let empty : name ≡ [] = sym (encodes-chars name u) ∙ ap encodes none in both_ways (length name == 0) tests.0 (ap (λ (bs : List ℕ). length bs == 0) empty);
      dots = dots_same name u ∙ tests.1;
      slashes = slash_same name u ∙ tests.2;
    }

pub folder_chars : (folder : Path) → AreNames folder → AreTexts folder → AllByRecursion AreNameChars (map (λ name. chars name) folder)
folder_chars [] names texts = tt
folder_chars (name ∷ rest) names texts =
    let both = and_parts (is_component name) _ names in
    (name_chars name texts.0 both.0, folder_chars rest both.1 texts.1)

-- The characters of an exclusion: those of its folder, quoted in the same way.
use Rattle.std.proofs.Common.{◌≡◌, ◌<◌, ◌≤◌, ℕ, Bool, true, false, cond, List, [], ◌∷◌, ◌++◌, map, refl, sym, ◌∙◌, ap, inl, inr, arith}
use Rattle.std.specs.List.{AllByRecursion}
use Rattle.std.specs.Prelude.{codes, ltb}
use Rattle.std.specs.Str.{chars, IsUtf8}
use Rattle.std.proofs.lemmas.Bool.{cases_lt, ne_eqb, and_parts, cond_both, ltb-true}
use Rattle.std.proofs.lemmas.List.{append-nil}
use Rattle.std.proofs.lemmas.Str.{encodes-append, encode_ascii, encodes-chars, scalars-chars, chars-encodes, chars-append}
use Rattle.std.proofs.Math.Utf8.{scalar, scalars, encode, encodes, low_scalar}
use Rattle.rel_path.specs.Paths.{Path}
use Rattle.glob_syntax.specs.Characters.{backslash, slash, exclamation_mark}
use Rattle.folder_globs.specs.Exclusions.{is_special, escaped, below_folder, exclusion, AreTexts}

-- ---- escaping, of what stands one after another
escaped-append : (xs ys : List ℕ) → escaped (xs ++ ys) ≡ escaped xs ++ escaped ys
escaped-append [] ys = refl
escaped-append (x ∷ xs) ys = by (is_special x) (escaped-append xs ys)
  where
    by : (special : Bool) → escaped (xs ++ ys) ≡ escaped xs ++ escaped ys → cond special (backslash ∷ x ∷ escaped (xs ++ ys)) (x ∷ escaped (xs ++ ys)) ≡ cond special (backslash ∷ x ∷ escaped xs) (x ∷ escaped xs) ++ escaped ys
    by true e = ap (λ (rest : List ℕ). backslash ∷ x ∷ rest) e
    by false e = ap (λ (rest : List ℕ). x ∷ rest) e

-- ---- no byte of a character outside ASCII is special
high_plain : (c : ℕ) → 128 ≤ c → is_special c ≡ false
unfolding is_special
high_plain c le = rw (ne_eqb c 42 (λ e. omega arith), ne_eqb c 63 (λ e. omega arith), ne_eqb c 91 (λ e. omega arith), ne_eqb c 93 (λ e. omega arith), ne_eqb c 123 (λ e. omega arith), ne_eqb c 125 (λ e. omega arith), ne_eqb c 33 (λ e. omega arith), ne_eqb c 44 (λ e. omega arith), ne_eqb c 92 (λ e. omega arith)) refl

abbrev pub AreHigh : List ℕ → Type 0
AreHigh bs = AllByRecursion (λ b. 128 ≤ b) bs

escaped_high : (bs : List ℕ) → AreHigh bs → escaped bs ≡ bs
escaped_high [] h = refl
escaped_high (b ∷ bs) h = rw (high_plain b h.0, escaped_high bs h.1) refl

pub high : (c : ℕ) → 128 ≤ c → AreHigh (encode c)
unfolding encode
high c le =
    cond_both (ltb c 128) _ _ AreHigh (λ e. absurd (omega (arith, ltb-true c 128 e)))
    (λ _. cond_both (ltb c 2048) _ _ AreHigh (λ _. (omega arith, (omega arith, tt)))
    (λ _. cond_both (ltb c 65536) _ _ AreHigh (λ _. (omega arith, (omega arith, (omega arith, tt))))
    (λ _. (omega arith, (omega arith, (omega arith, (omega arith, tt)))))))

-- ---- the bytes and the characters of a name are escaped alike
escaped_encode : (c : ℕ) → escaped (encode c) ≡ encodes (escaped (c ∷ []))
escaped_encode c = elim (cases_lt c 128) [ inl lt ↦ ascii lt | inr le ↦ other le ]
  where
    ascii : c < 128 → escaped (encode c) ≡ encodes (escaped (c ∷ []))
    ascii lt = rw (encode_ascii c lt) (by (is_special c))
      where
        by : (special : Bool) → cond special (backslash ∷ c ∷ []) (c ∷ []) ≡ encodes (cond special (backslash ∷ c ∷ []) (c ∷ []))
        by true = rw (encode_ascii c lt, encode_ascii 92 (omega arith)) refl
        by false = rw (encode_ascii c lt) refl

    other : 128 ≤ c → escaped (encode c) ≡ encodes (escaped (c ∷ []))
    other le = escaped_high (encode c) (high c le) ∙ rw (high_plain c le) (sym (append-nil (encode c)))

-- one character, and one more
pub escaped_special : (c : ℕ) → is_special c ≡ true → escaped (encode c) ≡ encode backslash ++ encode c
escaped_special c special = escaped_encode c ∙ rw special (ap (λ bs. encode backslash ++ bs) (append-nil (encode c)))

pub escaped_plain : (c : ℕ) → is_special c ≡ false → escaped (encode c) ≡ encode c
escaped_plain c plain = escaped_encode c ∙ rw plain (append-nil (encode c))

pub escaped_more : (cs : List ℕ) (c : ℕ) → escaped (encodes (cs ++ c ∷ [])) ≡ escaped (encodes cs) ++ escaped (encode c)
escaped_more cs c =
    ap escaped (encodes-append cs (c ∷ []) ∙ ap (λ bs. encodes cs ++ bs) (append-nil (encode c)))
    ∙ escaped-append (encodes cs) (encode c)

escaped_encodes : (cs : List ℕ) → escaped (encodes cs) ≡ encodes (escaped cs)
escaped_encodes [] = refl
escaped_encodes (c ∷ cs) =
    escaped-append (encode c) (encodes cs)
    ∙ rw (escaped_encode c, escaped_encodes cs) (sym (encodes-append (escaped (c ∷ [])) (escaped cs)))
    ∙ ap encodes (sym (escaped-append (c ∷ []) cs))

scalars_escaped : (cs : List ℕ) → scalars cs ≡ true → scalars (escaped cs) ≡ true
scalars_escaped [] e = refl
scalars_escaped (c ∷ cs) e =
    let both = and_parts (scalar c) (scalars cs) e in
    by (is_special c) both.0 (scalars_escaped cs both.1)
  where
    by : (special : Bool) → scalar c ≡ true → scalars (escaped cs) ≡ true → scalars (cond special (backslash ∷ c ∷ escaped cs) (c ∷ escaped cs)) ≡ true
    by true s h = rw (s, h) refl
    by false s h = rw (s, h) refl

escaped_text : (name : List ℕ) → IsUtf8 name → escaped name ≡ encodes (escaped (chars name))
escaped_text name u = ap escaped (sym (encodes-chars name u)) ∙ escaped_encodes (chars name)

chars_escaped : (name : List ℕ) → IsUtf8 name → chars (escaped name) ≡ escaped (chars name)
chars_escaped name u = ap chars (escaped_text name u) ∙ chars-encodes (escaped (chars name)) (scalars_escaped (chars name) (scalars-chars name u))

IsUtf8-escaped : (name : List ℕ) → IsUtf8 name → IsUtf8 (escaped name)
IsUtf8-escaped name u = (escaped (chars name), (scalars_escaped (chars name) (scalars-chars name u), sym (escaped_text name u)))

-- ---- the whole text
chars-ascii : (c : ℕ) (bs : List ℕ) → c < 128 → chars (c ∷ bs) ≡ c ∷ chars bs
chars-ascii c bs lt =
    let one : scalars (c ∷ []) ≡ true = rw (low_scalar c (omega arith)) refl in
    let same : encodes (c ∷ []) ≡ c ∷ [] = rw (encode_ascii c lt) refl in
    chars-append (c ∷ []) bs (c ∷ [], (one, same)) ∙ ap (λ cs. cs ++ chars bs) (ap chars (sym same) ∙ chars-encodes (c ∷ []) one)

chars_stars : chars (codes "**/*") ≡ codes "**/*"
unfolding chars
chars_stars = refl

chars_below : (folder : Path) → AreTexts folder → chars (below_folder folder) ≡ below_folder (map (λ name. chars name) folder)
chars_below [] h = chars_stars
chars_below (name ∷ names) h =
    chars-append (escaped name) (slash ∷ below_folder names) (IsUtf8-escaped name h.0)
    ∙ rw (chars_escaped name h.0, chars-ascii slash (below_folder names) (omega arith), chars_below names h.1) refl

pub chars_exclusion : (folder : Path) → AreTexts folder → chars (exclusion folder) ≡ exclamation_mark ∷ below_folder (map (λ name. chars name) folder)
unfolding exclusion
chars_exclusion folder h = chars-ascii exclamation_mark (below_folder folder) (omega arith) ∙ ap (λ (cs : List ℕ). exclamation_mark ∷ cs) (chars_below folder h)

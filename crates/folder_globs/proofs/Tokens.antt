-- The tokens of the glob of what lies below a folder, whose names are given by their characters.
use Rattle.std.proofs.Common.{◌≡◌, ◌≢◌, ◌==◌, ◌+◌, ℕ, Bool, true, false, cond, List, [], ◌∷◌, ◌++◌, map, refl, sym, ◌∙◌, ap, inl, None}
use Rattle.std.specs.List.{AllByRecursion}
use Rattle.std.proofs.lemmas.Bool.{ne_eqb, both_ways}
use Rattle.std.proofs.lemmas.List.{map-append}
use Rattle.rel_path.specs.Paths.{Path}
use Rattle.glob_syntax.specs.declared.mark.Mark.{Mark}
use Rattle.glob_syntax.specs.Characters.{asterisk, comma, slash, question_mark, open_bracket, backslash, open_brace, close_brace}
use Rattle.glob_syntax.specs.Marks.{plain_mark, quoted_mark, marks_of}
use Rattle.glob_syntax.specs.Tokens.{token_of, tokens_of}
use Rattle.glob_syntax.specs.Reading.{tokens_at}
use Rattle.glob_syntax.proofs.Marks.{marks_of-plain}
use Rattle.folder_globs.specs.Exclusions.{is_special, escaped, below_folder}

-- ---- the characters, of which those of a name count as quoted
-- the place behind a character
abbrev pub past : ℕ → ℕ → ℕ
past at c = cond (is_special c) (at + 2) (at + 1)

abbrev pub past_name : ℕ → List ℕ → ℕ
past_name at [] = at
past_name at (c ∷ cs) = past_name (past at c) cs

abbrev pub name_marks : ℕ → List ℕ → List Mark
name_marks at [] = []
name_marks at (c ∷ cs) = quoted_mark at c ∷ name_marks (past at c) cs

abbrev pub folder_marks : ℕ → Path → List Mark
folder_marks at [] = plain_mark at asterisk ∷ plain_mark (at + 1) asterisk ∷ plain_mark (at + 1 + 1) slash ∷ plain_mark (at + 1 + 1 + 1) asterisk ∷ []
folder_marks at (name ∷ names) = name_marks at name ++ plain_mark (past_name at name) slash ∷ folder_marks (past_name at name + 1) names

-- ---- one character
other_than : (c d : ℕ) → is_special c ≡ false → is_special d ≡ true → c ≢ d
other_than c d plain special same = both_ways (is_special c) plain (ap is_special same ∙ special)

other_test : (c d : ℕ) → is_special c ≡ false → is_special d ≡ true → (c == d) ≡ false
other_test c d plain special = ne_eqb c d (other_than c d plain special)

are_special : AllByRecursion (λ d. is_special d ≡ true) (open_brace ∷ close_brace ∷ comma ∷ open_bracket ∷ asterisk ∷ question_mark ∷ backslash ∷ [])
unfolding is_special
are_special = (refl, (refl, (refl, (refl, (refl, (refl, (refl, tt)))))))

no_backslash : (c : ℕ) → is_special c ≡ false → c ≢ backslash
no_backslash c plain = other_than c backslash plain are_special.1.1.1.1.1.1.0

-- a character that is not special says the same as quoted
plain_token : (at c : ℕ) → is_special c ≡ false → token_of (plain_mark at c) ≡ token_of (quoted_mark at c)
plain_token at c plain =
    let s = are_special in
    rw (other_test c open_brace plain s.0, other_test c close_brace plain s.1.0, other_test c comma plain s.1.1.0, other_test c open_bracket plain s.1.1.1.0, other_test c asterisk plain s.1.1.1.1.0, other_test c question_mark plain s.1.1.1.1.1.0) refl

first_plain : (at c : ℕ) (ms : List Mark) → is_special c ≡ false → tokens_of None (plain_mark at c ∷ ms) ≡ token_of (plain_mark at c) ∷ tokens_of None ms
first_plain at c ms plain = rw (other_test c open_bracket plain are_special.1.1.1.0) refl

-- one character more, escaped and not
tokens_quoted : (at c : ℕ) (rest : List ℕ) → tokens_at at (backslash ∷ c ∷ rest) ≡ token_of (quoted_mark at c) ∷ tokens_at (at + 2) rest
tokens_quoted at c rest = refl

tokens_plain : (at c d : ℕ) (rest : List ℕ) → is_special c ≡ false → tokens_at at (c ∷ d ∷ rest) ≡ token_of (quoted_mark at c) ∷ tokens_at (at + 1) (d ∷ rest)
tokens_plain at c d rest plain =
    ap (tokens_of None) (marks_of-plain at c (d ∷ rest) (inl (no_backslash c plain)))
    ∙ first_plain at c (marks_of (at + 1) (d ∷ rest)) plain
    ∙ ap (λ t. t ∷ tokens_at (at + 1) (d ∷ rest)) (plain_token at c plain)

tokens_front : (at c : ℕ) (cs behind : List ℕ) → is_special c ≡ false → tokens_at at (c ∷ (cs ++ slash ∷ behind)) ≡ token_of (quoted_mark at c) ∷ tokens_at (at + 1) (cs ++ slash ∷ behind)
tokens_front at c [] behind plain = tokens_plain at c slash behind plain
tokens_front at c (d ∷ ds) behind plain = tokens_plain at c d (ds ++ slash ∷ behind) plain

tokens_slash : (at : ℕ) (rest : List ℕ) → tokens_at at (slash ∷ rest) ≡ token_of (plain_mark at slash) ∷ tokens_at (at + 1) rest
tokens_slash at rest = ap (tokens_of None) (marks_of-plain at slash rest (inl (λ same. cc)))

-- ---- a name and the slash behind it
tokens_char : (at c : ℕ) (cs behind : List ℕ) (special : Bool) → is_special c ≡ special → ((place : ℕ) → tokens_at place (escaped cs ++ slash ∷ behind) ≡ map token_of (name_marks place cs) ++ tokens_at (past_name place cs) (slash ∷ behind)) →
    tokens_at at (cond special (backslash ∷ c ∷ escaped cs) (c ∷ escaped cs) ++ slash ∷ behind) ≡ token_of (quoted_mark at c) ∷ (map token_of (name_marks (cond special (at + 2) (at + 1)) cs) ++ tokens_at (past_name (cond special (at + 2) (at + 1)) cs) (slash ∷ behind))
tokens_char at c cs behind true s more = tokens_quoted at c (escaped cs ++ slash ∷ behind) ∙ ap (λ ts. token_of (quoted_mark at c) ∷ ts) (more (at + 2))
tokens_char at c cs behind false s more = tokens_front at c (escaped cs) behind s ∙ ap (λ ts. token_of (quoted_mark at c) ∷ ts) (more (at + 1))

tokens_name : (at : ℕ) (name behind : List ℕ) → tokens_at at (escaped name ++ slash ∷ behind) ≡ map token_of (name_marks at name) ++ tokens_at (past_name at name) (slash ∷ behind)
tokens_name at [] behind = refl
tokens_name at (c ∷ cs) behind = tokens_char at c cs behind (is_special c) refl (λ place. tokens_name place cs behind)

pub tokens_below : (at : ℕ) (names : Path) → tokens_at at (below_folder names) ≡ map token_of (folder_marks at names)
tokens_below at [] = refl
tokens_below at (name ∷ names) =
    tokens_name at name (below_folder names)
    ∙ ap (λ ts. map token_of (name_marks at name) ++ ts) (tokens_slash (past_name at name) (below_folder names))
    ∙ ap (λ ts. map token_of (name_marks at name) ++ token_of (plain_mark (past_name at name) slash) ∷ ts) (tokens_below (past_name at name + 1) names)
    ∙ sym (map-append token_of (name_marks at name) (plain_mark (past_name at name) slash ∷ folder_marks (past_name at name + 1) names))

-- Lists of patterns: the texts as written, of which one with a leading `!` excludes (Turborepo's `env`, `globalEnv`, `passThroughEnv` and `globalPassThroughEnv`).
use Rattle.std.specs.Prelude.{◌≡◌, ◌==◌, ℕ, Bool, true, false, not, ◌&&◌, List, [], ◌∷◌, Any, if◌then◌else◌}
use Rattle.std.specs.List.{list_any}
use Rattle.env_select.specs.declared.pattern.Sign.{Sign}
use Rattle.env_select.specs.Patterns.{exclamation_mark, signs_of, SpellsName, spells_name}

-- ---- one text of a list

-- it begins with `!`
abbrev pub is_excluded : List ℕ → Bool
is_excluded [] = false
is_excluded (b ∷ bs) = b == exclamation_mark

-- the pattern behind a leading `!`, or the whole
abbrev pub pattern_in : List ℕ → List Sign
pattern_in [] = signs_of []
pattern_in (b ∷ bs) = if b == exclamation_mark then signs_of bs else signs_of (b ∷ bs)

-- ---- which names a list selects, as a relation

-- a text of the list that excludes, or one that does not, matches the name
unfoldable pub AnyMatches : Bool → List (List ℕ) → List ℕ → Type 0
AnyMatches excluded texts name = Any (λ text. (is_excluded text ≡ excluded) × SpellsName (pattern_in text) name) texts

-- a pattern without `!` matches the name, and none with `!` does
unfoldable pub Selects : List (List ℕ) → List ℕ → Type 0
Selects texts name = AnyMatches false texts name × ¬ (AnyMatches true texts name)

-- ---- and as a test

abbrev pub is_kind : Bool → Bool → Bool
is_kind excluded true = excluded
is_kind excluded false = not excluded

unfoldable pub any_matches : Bool → List (List ℕ) → List ℕ → Bool
any_matches excluded texts name = list_any (λ text. is_kind (is_excluded text) excluded && spells_name (pattern_in text) name) texts

unfoldable pub selects : List (List ℕ) → List ℕ → Bool
selects texts name = any_matches false texts name && not (any_matches true texts name)

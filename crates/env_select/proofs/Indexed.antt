-- The patterns of a list, as they are added one after another, and what they select.
use Rattle.std.proofs.Common.{◌≡◌, ◌≢◌, ◌∙◌, ◌==◌, ◌&&◌, ◌||◌, ℕ, Bool, true, false, not, List, [], ◌∷◌, ◌++◌, refl, sym, ap}
use Rattle.std.proofs.lemmas.List.Folds.{list_any-append}
use Rattle.std.proofs.lemmas.Bool.{eqb-true}
use Rattle.env_select.specs.declared.patterns.Patterns.{Patterns}
use Rattle.env_select.specs.Patterns.{exclamation_mark, signs_of, spells_name}
use Rattle.env_select.specs.Lists.{is_excluded, pattern_in, is_kind, any_matches, selects}
use Rattle.env_select.specs.Index.{index_takes, Indexes, AddsText}
use Rattle.env_select.proofs.Plain.{or_none}

-- the pattern that is added to one of the two
abbrev pub Adds : List ℕ → Patterns → Patterns → Type 0
Adds pattern old new = (name : List ℕ) → index_takes new name ≡ (index_takes old name || spells_name (signs_of pattern) name)

pub adds_excluded : (text behind : List ℕ) (old new : Patterns) → text ≡ exclamation_mark ∷ behind → Adds behind old new → AddsText true text old new
unfolding AddsText any_matches
adds_excluded text behind old new e h = rw e (λ name. h name ∙ ap (λ last. index_takes old name || last) (sym (or_none (spells_name (signs_of behind) name))))

pub keeps_included : (text behind : List ℕ) (kept : Patterns) → text ≡ exclamation_mark ∷ behind → AddsText false text kept kept
unfolding AddsText any_matches
keeps_included text behind kept e = rw e (λ name. sym (or_none (index_takes kept name)))

pub adds_included : (text : List ℕ) (old new : Patterns) → ((rest : List ℕ) → text ≢ exclamation_mark ∷ rest) → Adds text old new → AddsText false text old new
unfolding AddsText any_matches
adds_included [] old new never h = λ name. h name ∙ ap (λ last. index_takes old name || last) (sym (or_none (spells_name (signs_of []) name)))
adds_included (b ∷ bs) old new never h = by (b == exclamation_mark) refl
  where
    by : (mark : Bool) → (b == exclamation_mark) ≡ mark → (name : List ℕ) → index_takes new name ≡ (index_takes old name || ((is_kind (b == exclamation_mark) false && spells_name (pattern_in (b ∷ bs)) name) || false))
    by true e = absurd (never bs (ap (λ c. c ∷ bs) (eqb-true b exclamation_mark e)))
    by false e = λ name. rw e (h name ∙ ap (λ last. index_takes old name || last) (sym (or_none (spells_name (signs_of (b ∷ bs)) name))))

pub keeps_excluded : (text : List ℕ) (kept : Patterns) → ((rest : List ℕ) → text ≢ exclamation_mark ∷ rest) → AddsText true text kept kept
unfolding AddsText any_matches
keeps_excluded [] kept never = λ name. sym (or_none (index_takes kept name))
keeps_excluded (b ∷ bs) kept never = by (b == exclamation_mark) refl
  where
    by : (mark : Bool) → (b == exclamation_mark) ≡ mark → (name : List ℕ) → index_takes kept name ≡ (index_takes kept name || ((is_kind (b == exclamation_mark) true && spells_name (pattern_in (b ∷ bs)) name) || false))
    by true e = absurd (never bs (ap (λ c. c ∷ bs) (eqb-true b exclamation_mark e)))
    by false e = λ name. rw e (sym (or_none (index_takes kept name)))

pub indexes_none : (excluded : Bool) (patterns : Patterns) → ((name : List ℕ) → index_takes patterns name ≡ false) → Indexes excluded [] patterns
unfolding Indexes any_matches
indexes_none excluded patterns h = h

pub indexes_more : (excluded : Bool) (texts : List (List ℕ)) (text : List ℕ) (old new : Patterns) → Indexes excluded texts old → AddsText excluded text old new → Indexes excluded (texts ++ text ∷ []) new
unfolding Indexes AddsText any_matches
indexes_more excluded texts text old new before step = λ name.
    step name ∙ ap (λ so_far. so_far || any_matches excluded (text ∷ []) name) (before name)
    ∙ sym (list_any-append (λ text. is_kind (is_excluded text) excluded && spells_name (pattern_in text) name) texts (text ∷ []))

-- what the two say of a name
pub select_then : (texts : List (List ℕ)) (included excluded : Patterns) (name : List ℕ) (found barred : Bool) → Indexes false texts included → Indexes true texts excluded → found ≡ index_takes included name → found ≡ true → barred ≡ index_takes excluded name → not barred ≡ selects texts name
unfolding Indexes selects
select_then texts included excluded name found barred inside outside f t b = rw (b, ← inside name, ← f, t, outside name) refl

pub select_else : (texts : List (List ℕ)) (included : Patterns) (name : List ℕ) (found : Bool) → Indexes false texts included → found ≡ index_takes included name → found ≡ false → found ≡ selects texts name
unfolding Indexes selects
select_else texts included name found inside f t = rw (← inside name, ← f, t) refl

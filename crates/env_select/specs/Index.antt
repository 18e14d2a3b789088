-- How a list keeps its patterns: plain names in a sorted set, the others one after another.
use Rattle.std.specs.Prelude.{◌≡◌, ℕ, Bool, ◌||◌, List, [], ◌∷◌}
use Rattle.std.specs.List.{list_any}
use Rattle.std.specs.BTreeSet.{contains}
use Rattle.rel_path.specs.Paths.{name_cmp}
use Rattle.env_select.specs.declared.patterns.Patterns.{Patterns}
use Rattle.env_select.specs.Patterns.{spells_name}
use Rattle.env_select.specs.Lists.{any_matches}

-- one of the patterns matches the name
abbrev pub index_takes : Patterns → List ℕ → Bool
index_takes patterns name = contains name_cmp patterns.names name || list_any (λ signs. spells_name signs name) patterns.wild.items

-- they are those of the texts that exclude, or of those that do not
unfoldable pub Indexes : Bool → List (List ℕ) → Patterns → Type 0
Indexes excluded texts patterns = (name : List ℕ) → index_takes patterns name ≡ any_matches excluded texts name

-- the pattern of the text is added where it is of that kind
unfoldable pub AddsText : Bool → List ℕ → Patterns → Patterns → Type 0
AddsText excluded text old new = (name : List ℕ) → index_takes new name ≡ (index_takes old name || any_matches excluded (text ∷ []) name)

-- The tasks that a task stands on, directly and through others (Turborepo docs, "Package and Task Graphs": a task
-- graph has an edge for each `dependsOn`).
use Rattle.std.specs.Prelude.{ℕ, zero, suc, ◌<◌, Bool, true, false, not, ◌||◌, ◌==◌, List, [], ◌∷◌, slice_index_or}
use Rattle.std.specs.List.{list_any, AllByRecursion}
use Rattle.listing.specs.declared.part.Part.{Part}
use Rattle.listing.specs.declared.part.Listing.{Listing}

-- a part of nothing, which stands at the places past the end
abbrev pub blank : Part
blank = record { «package» = []; folder = []; task = []; scripts = []; args = []; outs = record { folder = []; mine = []; others = [] }; env = []; inputs = []; externals = []; deps = [] }

abbrev pub part_at : Listing → ℕ → Part
part_at l i = slice_index_or l.parts i blank

abbrev pub is_nil : {X : Type 0} → List X → Bool
is_nil [] = true
is_nil (x ∷ xs) = false

-- the task runs something; one without a script passes on what it depends on (Turborepo docs, "Configuring tasks")
abbrev pub has_script : Part → Bool
has_script part = not (is_nil part.scripts)

-- from place i at least one edge and at most n lead to place j
abbrev pub reaches : Listing → ℕ → ℕ → ℕ → Bool
reaches l zero i j = false
reaches l (suc n) i j = list_any (λ d. (d == j) || reaches l n d j) (part_at l i).deps

-- j is an ancestor of i: edges lead to lower places, so that no way from i has more than i of them
abbrev pub is_above : Listing → ℕ → ℕ → Bool
is_above l i j = reaches l i i j

-- dependencies stand at lower places
abbrev pub IsLower : Listing → Type 0
IsLower l = (i : ℕ) → AllByRecursion (λ d. d < i) (part_at l i).deps

-- The part of a listing that the result of one task depends on: the task and its ancestors, renumbered, with the
-- files that they name (Turborepo docs, "Caching": the hash of a task has those of the tasks that it depends on).
use Rattle.std.specs.Prelude.{◌≡◌, ℕ, Bool, true, ◌||◌, ◌==◌, List, map, filter}
use Rattle.std.specs.List.{list_any, AllByRecursion}
use Rattle.rel_path.specs.Paths.{Path, is_among}
use Rattle.listing.specs.declared.part.Part.{Part}
use Rattle.listing.specs.declared.part.Listing.{Listing}
use Rattle.run_laws.specs.Picks.{pick, rank}
use Rattle.run_laws.specs.Ancestors.{part_at, is_above}

-- the path is an input of one of these parts
abbrev pub names : List Part → Path → Bool
names parts path = list_any (λ part. is_among part.inputs path) parts

-- the same part among those that are kept: its dependencies by their numbers there
abbrev pub renumbered : (ℕ → Bool) → Part → Part
renumbered keep part = record part { deps = map (rank keep) part.deps }

abbrev pub sub_parts : Listing → (ℕ → Bool) → List Part
sub_parts l keep = map (renumbered keep) (pick keep l.parts)

-- the parts that are kept, in the same order, and the files that they name
abbrev pub sub_listing : Listing → (ℕ → Bool) → Listing
sub_listing l keep = record { files = filter (λ f. names (sub_parts l keep) f.0) l.files; parts = sub_parts l keep }

-- the task itself and its ancestors
abbrev pub in_closure : Listing → ℕ → ℕ → Bool
in_closure l i j = (j == i) || is_above l i j

-- the listing of a task and its ancestors
abbrev pub closure : Listing → ℕ → Listing
closure l i = sub_listing l (in_closure l i)

-- what is kept has its dependencies among what is kept
abbrev pub IsClosed : Listing → (ℕ → Bool) → Type 0
IsClosed l keep = (i : ℕ) → keep i ≡ true → AllByRecursion (λ d. keep d ≡ true) (part_at l i).deps

-- The least of several pointers (RFC 6901) in the order of their bytes.
use Rattle.std.specs.Prelude.{ℕ, List, [], ◌∷◌, Option, Some, None, if◌then◌else◌}
use Rattle.std.specs.Ordering.{is_gt}
use Rattle.rel_path.specs.Paths.{name_cmp}

-- the one with the lesser pointer, the first where they are the same
abbrev pub lesser_by : {A : Type 0} → (A → List ℕ) → Option A → Option A → Option A
lesser_by pointer None other = other
lesser_by pointer (Some a) None = Some a
lesser_by pointer (Some a) (Some b) = if is_gt (name_cmp (pointer a) (pointer b)) then Some b else Some a

-- the one with the least pointer
abbrev pub least_by : {A : Type 0} → (A → List ℕ) → List A → Option A
least_by pointer [] = None
least_by pointer (a ∷ others) = lesser_by pointer (Some a) (least_by pointer others)

-- A topological order of a graph by numbers, as far as there is one.
use Rattle.std.specs.Prelude.{ℕ, ◌≡◌, ◌<◌, ◌&&◌, ◌-◌, ◌==◌, Bool, true, false, not, List, [], ◌∷◌, ◌++◌, length, count_by, nat_lt, slice_index_or}
use Rattle.std.specs.List.{list_all}
use Rattle.workspaces.specs.Lists.{places}
use Rattle.workspaces.specs.Reach.{is_in, row_at}
use Rattle.task_graph.specs.declared.slots.Slot.{Slot}

-- a number that is not before, while its row is
abbrev pub is_ready : List (List ℕ) → List ℕ → ℕ → Bool
is_ready rows before n = nat_lt n (length rows) && (not (is_in before n) && list_all (is_in before) (row_at rows n))

pub record IsNext (rows : List (List ℕ)) (before : List ℕ) (n : ℕ) : Type 0 where
  pub ready : is_ready rows before n ≡ true
  pub least : (q : ℕ) → q < n → is_ready rows before q ≡ false

abbrev pub FollowRows : List (List ℕ) → List ℕ → List ℕ → Type 0
FollowRows rows before [] = Unit {0}
FollowRows rows before (n ∷ ns) = IsNext rows before n × FollowRows rows (before ++ n ∷ []) ns

-- ---- what is counted

abbrev pub no_slot : Slot
no_slot = record { unmet = 0; places = [] }

abbrev pub slot_at : List Slot → ℕ → Slot
slot_at slots n = slice_index_or slots n no_slot

-- one dependency less is open; it stands at that place
abbrev pub settled : ℕ → Slot → Slot
settled place slot = record { unmet = slot.unmet - 1; places = slot.places ++ place ∷ [] }

-- how many of a row are not in the order yet, and where in it the others stand
pub record Fits (rows : List (List ℕ)) (order : List ℕ) (n : ℕ) (slot : Slot) : Type 0 where
  pub unmet : slot.unmet ≡ count_by (λ d. not (is_in order d)) (row_at rows n)
  pub places : slot.places ≡ places (is_in (row_at rows n)) order

-- an order that nothing can follow
pub record IsSorted (rows : List (List ℕ)) (order : List ℕ) (slots : List Slot) : Type 0 where
  pub same : length slots ≡ length rows
  pub follow : FollowRows rows [] order
  pub fits : (n : ℕ) → Fits rows order n (slot_at slots n)
  pub inner : (n : ℕ) → is_in order n ≡ true → list_all (is_in order) (row_at rows n) ≡ true
  pub stuck : (n : ℕ) → is_ready rows order n ≡ false

-- ---- what is left

abbrev pub is_left : List Slot → ℕ → Bool
is_left slots n = not ((slot_at slots n).unmet == 0)

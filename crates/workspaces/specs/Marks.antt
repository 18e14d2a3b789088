-- Marks on what was reached, with places whose edges are still to be followed.
use Rattle.std.specs.Prelude.{ℕ, suc, ◌≡◌, ◌⊎◌, ◌||◌, ◌+◌, ◌*◌, ◌≤◌, Bool, true, if◌then◌else◌, List, [], ◌∷◌, length}
use Rattle.workspaces.specs.Lists.{passes_at}
use Rattle.workspaces.specs.Reach.{is_in}

abbrev pub itself : Bool → Bool
itself mark = mark

abbrev pub is_marked : List Bool → ℕ → Bool
is_marked marks place = passes_at itself marks place

-- how many are not marked
abbrev pub unmarked : List Bool → ℕ
unmarked [] = 0
unmarked (mark ∷ marks) = if mark then unmarked marks else suc (unmarked marks)

-- places were marked, and those that were not before wait
pub record Adds (places : List ℕ) (old : List Bool) (old_waiting : List ℕ) (new : List Bool) (new_waiting : List ℕ) : Type 0 where
  pub same : length new ≡ length old
  pub marks : (place : ℕ) → is_marked new place ≡ (is_marked old place || is_in places place)
  pub waits : (place : ℕ) → is_marked new place ≡ true → (is_marked old place ≡ true) ⊎ (is_in new_waiting place ≡ true)
  pub kept : (place : ℕ) → is_in old_waiting place ≡ true → is_in new_waiting place ≡ true
  pub only : (place : ℕ) → is_in new_waiting place ≡ true → (is_in old_waiting place ≡ true) ⊎ (is_marked new place ≡ true)
  pub fewer : length new_waiting + 2 * unmarked new ≤ length old_waiting + 2 * unmarked old

-- What an order to compact came to, and what it prints.
use Rattle.std.specs.Prelude.{◌≡◌, ℕ, List, ◌++◌, length, Option, codes, decimal}
use Rattle.store_answers.specs.Stores.{Stores}
use Rattle.compact_orders.specs.Asking.{IsCompactable, current_pairs, kept_pairs}

-- how many pairs were kept, of how many
abbrev pub kept_line : ℕ → ℕ → List ℕ
kept_line kept before =
    codes "kept " ++ (decimal kept ++ (codes " of " ++ (decimal before ++ codes "\n")))

-- the line for what is kept of the current one of two stores
abbrev pub line_for : Option ℕ → Stores → List ℕ
line_for keep stores = kept_line (length (kept_pairs keep stores)) (length (current_pairs stores))

-- the current one could be compacted, and the line was printed
pub record Compacted (keep : Option ℕ) (Heard : Type 0) (stores : Stores) (before after : List ℕ)
    (status : ℕ) : Type 0 where
  pub could : IsCompactable keep stores
  pub page_is : Heard → after ≡ before ++ line_for keep stores
  pub status_is : status ≡ 0

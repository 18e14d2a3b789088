-- What holds of every order.
use Rattle.std.specs.Prelude.{◌≡◌, ◌⊎◌, ℕ, ◌<◌, ◌≤◌, Bool, List, Ok, Option, IfSome, IsTrue}
use Rattle.rel_path.specs.Limits.{width_limit}
use Rattle.cli_words.specs.declared.values.TheConstants.{MAX_SAMPLE, MAX_KEEP}
use Rattle.cli_words.specs.declared.order.Order.{Order}
use Rattle.cli_words.specs.declared.order.Order.TheVariants.{Run, Prune, Sample, Compact, Help}
use Rattle.cli_words.specs.declared.order.Access.{Access}
use Rattle.cli_words.specs.Orders.{order_of}

-- a store that results are put into is read too, and there is one at least
abbrev pub IsAccess : Access → Type 0
IsAccess access = (IsTrue access.local_puts → IsTrue access.local_reads) × (IsTrue access.second_puts → IsTrue access.second_reads) × (IsTrue access.local_puts ⊎ IsTrue access.second_puts)

-- A run has a command at once or more, up to the limit; a sample has a package or more, up to its own; no more are kept than may be.
abbrev pub IsWithin : Order → Type 0
IsWithin (Run order) = (0 < order.width) × (order.width ≤ width_limit) × IsAccess order.access
IsWithin (Prune targets docker) = Unit {0}
IsWithin (Sample size) = (0 < size) × (size ≤ MAX_SAMPLE)
IsWithin (Compact keep) = IfSome keep (λ n. n ≤ MAX_KEEP)
IsWithin Help = Unit {0}

-- the order of every list of words is within these limits
abbrev pub WidthLaw : Type 0
WidthLaw = (words : List (List ℕ)) (order : Order) → order_of words ≡ Ok order → IsWithin order

-- When two stores, of which one may be missing, serve an access.
use Rattle.std.specs.Prelude.{◌≡◌, Bool, true, false, ◌||◌, IsTrue, Option, Some, None}
use Rattle.cli_words.specs.declared.order.Access.{Access}

abbrev pub is_there : {A : Type 0} → Option A → Bool
is_there None = false
is_there (Some x) = true

-- A store is there exactly where it is read. What is put into is also read, and one at least is
-- put into.
pub record IsAccessOf {A B : Type 0} (access : Access) (local : Option A) (second : Option B)
    : Type 0 where
  pub local_there : is_there local ≡ access.local_reads
  pub second_there : is_there second ≡ access.second_reads
  pub local_puts : IsTrue access.local_puts → IsTrue access.local_reads
  pub second_puts : IsTrue access.second_puts → IsTrue access.second_reads
  pub puts : IsTrue (access.local_puts || access.second_puts)

-- Which stores an order uses.
use Rattle.std.proofs.Common.{◌≡◌, Bool, true, false, refl}
use Rattle.std.specs.Prelude.{IsTrue, if◌then◌else◌}
use Rattle.cli_words.specs.declared.order.RunOrder.{RunOrder}
use Rattle.run_orders.specs.Uses.{uses_of}
use Rattle.run_orders.specs.declared.uses.Uses.TheVariants.{Current, Second, Shared}

by_words : (shared reads : Bool)
    → (if shared then Shared else (if reads then Second else Current)) ≡ Second → IsTrue reads
by_words true reads is = cc
by_words false true is = refl
by_words false false is = cc

-- the second store is used where it is read
pub second_read : (order : RunOrder) → uses_of order ≡ Second → IsTrue order.access.second_reads
second_read order is = by_words order.shared order.access.second_reads is

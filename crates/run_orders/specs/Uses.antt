-- Which stores an order to run uses.
use Rattle.std.specs.Prelude.{if◌then◌else◌}
use Rattle.cli_words.specs.declared.order.RunOrder.{RunOrder}
use Rattle.run_orders.specs.declared.uses.Uses.{Uses}
use Rattle.run_orders.specs.declared.uses.Uses.TheVariants.{Current, Second, Shared}

-- the shared file, where it says so; or the second store, where that is read, beside the current
-- one of the store and the spare one; or that one alone
abbrev pub uses_of : RunOrder → Uses
uses_of order =
    if order.shared then Shared else (if order.access.second_reads then Second else Current)

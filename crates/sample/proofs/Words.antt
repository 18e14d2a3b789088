-- What the words of each run ask for.
use Rattle.std.proofs.Common.{◌≡◌, Ok, refl}
use Rattle.cli_words.specs.Orders.{order_of, command_order, run_order, first_fault, fault_in}
use Rattle.cli_words.specs.Orders.{first_use, names_in, extra_in, values_in}
use Rattle.cli_words.specs.Grammar.{option_in, first_item, items_behind}
use Rattle.cli_words.specs.Cuts.{before, behind}
use Rattle.cli_words.specs.Values.{number, access}
use Rattle.cli_words.specs.declared.order.Order.TheVariants.{Run}
use Rattle.sample.specs.Runs.{build_order, build_words}

pub words_law : order_of build_words ≡ Ok (Run build_order)
unfolding order_of command_order run_order first_fault fault_in first_use names_in extra_in values_in option_in first_item items_behind before behind number access
words_law = refl

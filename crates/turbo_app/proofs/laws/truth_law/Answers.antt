-- By the order of the words.
use Rattle.cli_words.specs.Orders.{order_of}
use Rattle.turbo_app.proofs.Truth.{truth_by_words}
use Rattle.turbo_app.proofs.laws.truth_law.Goals as goal

pub returns : goal.returns
returns g c store spare words book env old steps truth held f s left =
    truth_by_words book (g.S.StoreDevice.images store) (g.P.StoreDevice.images spare) truth env old
    held steps f s
    (order_of words) left

use Rattle.std.proofs.Common.{◌≡◌, ◌∷◌, ◌++◌, [], arith}
use Rattle.std.proofs.lemmas.Grind.{common_steps}
use Rattle.std.proofs.lemmas.List.Elements.{All-push}
use Rattle.os_edge.specs.Paths.{IsNamed}
use Rattle.os_edge.proofs.folders.names_in.Goals as goal

pub loop-item-preserved-in-Some-2 : goal.loop-item-preserved-in-Some-2
loop-item-preserved-in-Some-2 g c =
    let pushed : c.push.new.self.items ≡ c.loop-item.names.items ++ c.in-Some-2.entry ∷ [] = grind (arith, common_steps) in
    let named = rw c.in-Some-2.is at c.in_ok-entry.ensures in
    rw pushed (All-push IsNamed c.loop-item.names.items c.in-Some-2.entry c.loop-item.invariant named)

use Rattle.print_index.proofs.Pushes.{no_digests, indexes_none}
use Rattle.print_index.proofs.index.PrintIndex.new.Goals as goal

pub invariant_of-result : goal.invariant_of-result
invariant_of-result c = indexes_none c.new.result c.new-2.result.items c.new.ensures.empty c.new-2.ensures.items

pub returns : goal.returns
returns c = no_digests c.new.result c.new-2.result.items c.new.ensures.empty c.new-2.ensures.items

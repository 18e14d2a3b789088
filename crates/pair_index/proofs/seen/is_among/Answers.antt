use Rattle.std.proofs.Common.{◌∙◌}
use Rattle.std.proofs.lemmas.List.Sorted.{searched}
use Rattle.pair_reader.proofs.Searching.{among_by}
use Rattle.pair_index.proofs.Rising.{rise_of}
use Rattle.pair_index.proofs.seen.is_among.Goals as goal

pub returns : goal.returns
returns c =
    c.is_ok.ensures.value
    ∙ among_by c.args.numbers.now c.args.number c.binary_search.result
    (searched c.args.numbers.now c.args.number c.binary_search.result c.binary_search.ensures.position
    (rise_of c.args.numbers.now c.requires))

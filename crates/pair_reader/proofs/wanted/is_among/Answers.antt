use Rattle.std.proofs.Common.{◌∙◌}
use Rattle.std.proofs.lemmas.List.Sorted.{searched}
use Rattle.pair_reader.proofs.Searching.{among_by}
use Rattle.pair_reader.proofs.wanted.is_among.Goals as goal

pub returns : goal.returns
returns c =
    c.is_ok.ensures.value
    ∙ among_by c.args.lens.now c.args.len c.binary_search.result
    (searched c.args.lens.now c.args.len c.binary_search.result c.binary_search.ensures.position c.requires)

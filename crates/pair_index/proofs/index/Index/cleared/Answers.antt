use Rattle.std.proofs.Common.{sym, subst}
use Rattle.pair_index.specs.Keys.{IsKeysOf}
use Rattle.pair_index.proofs.IndexLaws.{pairs_none}
use Rattle.pair_index.proofs.index.Index.cleared.Goals as goal

pub returns-clause-none : goal.returns-clause-none
returns-clause-none c = record {
  frames = c.new.ensures.items;
  keys = subst (IsKeysOf c.cleared.result) (sym pairs_none) c.cleared.ensures.none;
}

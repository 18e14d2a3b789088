use Rattle.collect.proofs.Apart.{listing_sound}
use Rattle.collect.proofs.laws.listing_law.Goals as goal

pub returns : goal.returns
returns c = listing_sound c.definition_law.ensures c.log_law.ensures c.exclusion_law.ensures.list

use Rattle.listing.proofs.Separates.{key_texts_differ, files_separate, parts_separate}
use Rattle.listing.proofs.key.key_text_law.Goals as goal

pub returns-clause-listings_differ : goal.returns-clause-listings_differ
returns-clause-listings_differ c = key_texts_differ

pub returns-clause-files_differ : goal.returns-clause-files_differ
returns-clause-files_differ c = files_separate

pub returns-clause-parts_differ : goal.returns-clause-parts_differ
returns-clause-parts_differ c = parts_separate

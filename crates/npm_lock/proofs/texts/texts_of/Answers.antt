use Rattle.npm_lock.proofs.Locating.{has_at}
use Rattle.npm_lock.proofs.texts.texts_of.Goals as goal

pub text_of-requires-clause-there : goal.text_of-requires-clause-there
text_of-requires-clause-there c =
    rw c.as_str.ensures (c.requires.there c.entry-item.result (has_at c.args.entries.now c.loop-entry.entry-index c.entry-item.result c.loop-entry-test.true c.entry-item.is))

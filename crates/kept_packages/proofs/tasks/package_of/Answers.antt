use Rattle.std.proofs.Common.{None, lit<, sym}
use Rattle.std.proofs.lemmas.Str.Pattern.{split_once_first}
use Rattle.kept_packages.proofs.Texts.{no_hash}
use Rattle.kept_packages.proofs.tasks.package_of.Goals as goal

pub returns-in-None-clause-value : goal.returns-in-None-clause-value
returns-in-None-clause-value c = sym (no_hash c.args.text.now (split_once_first 35 c.args.text.now None c.in-None.ensures.cases (lit< tt)))

use Rattle.std.proofs.Common.{◌∙◌, sym}
use Rattle.kept_packages.proofs.Texts.{text_owner}
use Rattle.kept_packages.proofs.tasks.add_text.Goals as goal

pub returns-clause-added : goal.returns-clause-added
returns-clause-added c =
    let is = rw c.as_str.ensures at c.in_ok-name.ensures.value in
    text_owner c.args.packages.now c.args.text.now c.in-Some.name c.in-Some-owner_of.owner c.args.found.now.items c.push.new.self.items (sym is ∙ c.in-Some.is) c.in-Some-owner_of.ensures c.in_ok-push.ensures.items

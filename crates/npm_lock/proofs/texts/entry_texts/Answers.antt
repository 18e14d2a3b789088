use Rattle.std.proofs.Common.{◌≡◌, ◌∙◌, ap, subst, Some, Option, codes}
use Rattle.std.proofs.lemmas.Result.{IfOk-weaker}
use Rattle.serde_json.specs.Data.{Data}
use Rattle.serde_json.specs.Find.{get}
use Rattle.serde_json.specs.View.{view}
use Rattle.npm_lock.specs.Externals.{texts_in}
use Rattle.npm_lock.specs.Sets.{Has}
use Rattle.npm_lock.proofs.texts.entry_texts.Goals as goal

pub texts_of-requires-clause-there : goal.texts_of-requires-clause-there
texts_of-requires-clause-there c = λ e h. c.packages.ensures.there e (subst (λ es. Has es e) c.requires.read h)

pub returns : goal.returns
returns c =
    let texts = λ (o : Option Data). texts_in o c.args.entries.now in
    IfOk-weaker c.texts_of.result (λ t. t ≡ texts (Some (view c.packages.result.now))) (λ t. t ≡ texts (get (codes "packages") (view c.args.value.now)))
    (λ t h. h ∙ ap texts c.packages.ensures.value) c.texts_of.ensures

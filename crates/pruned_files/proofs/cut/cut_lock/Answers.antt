use Rattle.std.proofs.Common.{◌∙◌, sym, subst}
use Rattle.std.specs.Prelude.{Option, Some}
use Rattle.std.specs.Option.{option_map}
use Rattle.serde_json.specs.View.{view}
use Rattle.npm_lock.specs.declared.lock.Lock.{Lock}
use Rattle.repository.specs.Reading.{contents_of}
use Rattle.pruned_files.specs.Cut.{IsCutLock}
use Rattle.pruned_files.proofs.cut.cut_lock.Goals as goal

pub returns-in-Ok : goal.returns-in-Ok
returns-in-Ok c = λ set are.
    let text = c.in-Ok.ensures set (c.as_slice.ensures ∙ are) in
    (Some text.0, subst (λ (lock : Option Lock). IsCutLock (contents_of c.args.repository.now) set (option_map view lock) (Some text.0) (Some c.in-Ok.text)) (sym c.in-Some.is) (text.1, text.2))

use Rattle.std.proofs.Common.{◌∙◌, ◌<◌, ℕ, List, length, sym, subst}
use Rattle.std.specs.Prelude.{Ok, Err}
use Rattle.std.specs.List.{AllByRecursion}
use Rattle.serde_json.specs.View.{view}
use Rattle.npm_lock.specs.Cut.{cut}
use Rattle.workspaces.specs.Space.{owners}
use Rattle.repository.specs.Reading.{contents_of}
use Rattle.pruned_files.specs.Calls.{Locates}
use Rattle.pruned_files.proofs.Members.{below_named}
use Rattle.pruned_files.proofs.Cutting.{cut_is, text_stop}
use Rattle.pruned_files.proofs.cut.text_for.Goals as goal

pub locations-requires : goal.locations-requires
locations-requires c =
    let space = c.args.repository.now.packages in
    subst (λ (ns : List ℕ). AllByRecursion (λ n. n < length (owners space)) ns) (sym (c.as_slice.ensures.value ∙ c.in-Ok.ensures.value)) (below_named space (length (owners space)) c.args.numbers.now c.requires)

pub returns-in-Err-locations : goal.returns-in-Err-locations
returns-in-Err-locations c = λ set are.
    let contents = contents_of c.args.repository.now in
    text_stop contents set (view c.args.lock.now) c.args.numbers.now c.in-Err-locations.e are c.requires
    (subst (λ (ns : List ℕ). Locates contents.space (view c.args.lock.now) ns (Err c.in-Err-locations.e)) (c.as_slice.ensures.value ∙ c.in-Ok.ensures.value) c.in-Err-locations.ensures)

pub returns-in-Ok-cut_text : goal.returns-in-Ok-cut_text
returns-in-Ok-cut_text c = λ set are.
    let contents = contents_of c.args.repository.now in let lock = view c.args.lock.now in (
      cut c.in-Ok-folders.folders c.in-Ok-locations.keep lock,
      cut_is contents set lock c.args.numbers.now c.in-Ok-folders.folders c.in-Ok-locations.keep are c.requires c.in-Ok-folders.ensures.value
          (subst (λ (ns : List ℕ). Locates contents.space lock ns (Ok c.in-Ok-locations.keep)) (c.as_slice.ensures.value ∙ c.in-Ok.ensures.value) c.in-Ok-locations.ensures),
      c.in-Ok-cut_text.ensures.text,
    )

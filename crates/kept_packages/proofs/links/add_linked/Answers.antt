use Rattle.std.proofs.Common.{◌≡◌, ◌∙◌, ap}
use Rattle.std.specs.Option.{option_map}
use Rattle.std.proofs.lemmas.Result.{on_ok_weaker}
use Rattle.serde_json.specs.View.{view}
use Rattle.collect.specs.Parts.{starts_of}
use Rattle.workspaces.specs.declared.member.Package.{Package}
use Rattle.workspaces.specs.Space.{owners}
use Rattle.repository.specs.Reading.{contents_of}
use Rattle.kept_packages.proofs.Gains.{held, there}
use Rattle.kept_packages.proofs.Needing.{links_gain}
use Rattle.kept_packages.proofs.links.add_linked.Goals as goal

pub returns-clause-added : goal.returns-clause-added
returns-clause-added c =
    let contents = contents_of c.args.repository.now in
    let space = c.args.repository.now.packages in
    let p = there (owners space) c.args.owner c.requires.owner in
    let starts = c.as_slice.ensures.value ∙ held (λ (q : Package). c.in_ok-starts.starts.items ≡ starts_of space q) (owners space) c.args.owner p.0 c.in_ok-starts.ensures.value p.1 in
    on_ok_weaker c.add_written.result (λ gains. links_gain contents c.args.owner p.0 (view c.in-Some.lock) c.as_slice.result.now c.in_ok-texts.texts c.args.found.now.items c.add_written.new.found.items p.1 (ap (option_map view) c.in-Some.is) starts c.in_ok-texts.ensures
    (rw c.as_slice-2.ensures at gains)) (c.add_written.ensures.added space c.requires.index)

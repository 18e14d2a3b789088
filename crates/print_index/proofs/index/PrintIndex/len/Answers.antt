use Rattle.std.proofs.Common.{◌≡◌, ◌∙◌, [], length, ap, sym, zero-add}
use Rattle.std.specs.HashMap.{keys}
use Rattle.print_index.specs.Index.{Index}
use Rattle.print_index.proofs.Pushes.{length-digests_from}
use Rattle.print_index.proofs.index.PrintIndex.len.Goals as goal

pub returns : goal.returns
returns c =
    let links = c.self.inside.earlier.items in
    let long : length c.args.self.now.digests ≡ length links = ap (λ (x : Index). length x.digests) (sym c.self.view_is) ∙ length-digests_from [] (keys c.self.inside.last) links ∙ zero-add (length links) in
    c.len.ensures ∙ c.self.inside.earlier.ok.0 ∙ sym long

use Rattle.std.proofs.Common.{◌≡◌, ◌∙◌, ap}
use Rattle.std.specs.Prelude.{bytes_eq}
use Rattle.filters.specs.Selection.{has_name}
use Rattle.workspaces.proofs.Owners.{at_package}
use Rattle.filters.proofs.Places.{passes_held}
use Rattle.filters.proofs.cores.is_named.Goals as goal

pub returns : goal.returns
returns c =
    let name = at_package (λ m. c.name.result.now ≡ m.name) c.args.packages.now c.args.p c.name.ensures c.requires in
    passes_held (has_name c.args.name.now) c.eq.result c.args.packages.now.packages c.args.p c.requires (λ d. c.eq.ensures ∙ ap (λ n. bytes_eq n c.args.name.now) (name d))

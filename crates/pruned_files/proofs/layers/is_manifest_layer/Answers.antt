use Rattle.std.proofs.Common.{◌∙◌, ◌||◌, sym, ap}
use Rattle.std.specs.List.{list_any}
use Rattle.rel_path.specs.Paths.{path_eq}
use Rattle.workspaces.specs.declared.member.Package.{Package}
use Rattle.workspaces.specs.Space.{manifest_in}
use Rattle.pruned_files.proofs.layers.is_manifest_layer.Goals as goal

pub returns-else-is_layer_root : goal.returns-else-is_layer_root
returns-else-is_layer_root c = λ members of.
    c.is_manifest_in.ensures members of ∙ sym (ap (λ b. b || list_any (λ (p : Package). path_eq c.args.path.now (manifest_in p.folder)) members) (sym c.is_layer_root.ensures ∙ c.if-is_layer_root.false))

use Rattle.std.proofs.Common.{◌≡◌, ◌++◌, ◌∷◌, [], ◌&&◌, ◌∙◌, sym, ap}
use Rattle.std.specs.List.{list_any}
use Rattle.rel_path.specs.Paths.{path_eq, name_eq}
use Rattle.workspaces.specs.declared.member.Package.{Package}
use Rattle.workspaces.specs.Space.{manifest_in, manifest_name}
use Rattle.pruned_files.proofs.Lasts.{manifest_is, no_manifest, none_left}
use Rattle.pruned_files.proofs.layers.is_manifest_in.Goals as goal

pub returns-in-None : goal.returns-in-None
returns-in-None c = λ members of.
    sym (ap (λ path. list_any (λ (p : Package). path_eq path (manifest_in p.folder)) members) (sym c.components.ensures.value ∙ none_left c.components.result.now c.in-None.ensures.cases) ∙ no_manifest members)

pub returns-then-eq : goal.returns-then-eq
returns-then-eq c = λ members of.
    let path : c.in-Some.folder.now ++ c.in-Some.last.now ∷ [] ≡ c.args.path.now = sym c.in-Some.ensures.cases.0 ∙ c.components.ensures.value in
    c.has_folder.ensures ∙ of c.in-Some.folder.now ∙ sym (ap (λ b. b && list_any (λ (p : Package). path_eq c.in-Some.folder.now p.folder) members) (sym (c.eq.ensures ∙ ap (λ n. name_eq n manifest_name) c.as_str.ensures) ∙ c.if-eq.true))
    ∙ sym (manifest_is members c.in-Some.folder.now c.in-Some.last.now) ∙ ap (λ q. list_any (λ (p : Package). path_eq q (manifest_in p.folder)) members) path

pub returns-else-eq : goal.returns-else-eq
returns-else-eq c = λ members of.
    let path : c.in-Some.folder.now ++ c.in-Some.last.now ∷ [] ≡ c.args.path.now = sym c.in-Some.ensures.cases.0 ∙ c.components.ensures.value in
    c.if-eq.false ∙ sym (ap (λ b. b && list_any (λ (p : Package). path_eq c.in-Some.folder.now p.folder) members) (sym (c.eq.ensures ∙ ap (λ n. name_eq n manifest_name) c.as_str.ensures) ∙ c.if-eq.false))
    ∙ sym (manifest_is members c.in-Some.folder.now c.in-Some.last.now) ∙ ap (λ q. list_any (λ (p : Package). path_eq q (manifest_in p.folder)) members) path

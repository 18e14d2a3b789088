use Rattle.std.proofs.Common.{◌≡◌, ◌∙◌, ◌++◌, ◌∷◌, [], true, false, not, sym, ap}
use Rattle.std.specs.Prelude.{bytes_eq}
use Rattle.workspaces.specs.Space.{manifest_name}
use Rattle.workspaces.proofs.FolderOf.{other_last, manifest_last, not_true, not_false}
use Rattle.workspaces.proofs.folders.folder_of.Goals as goal

pub returns-then-ne-clause-value : goal.returns-then-ne-clause-value
returns-then-ne-clause-value c =
    let whole : c.args.path.now ≡ c.in-Some.above.now ++ c.in-Some.last.now ∷ [] = sym c.components.ensures.value ∙ c.in-Some.ensures.cases.0 in
    let last : c.as_str.result.now ≡ c.in-Some.last.now = c.as_str.ensures in
    let other : bytes_eq c.in-Some.last.now manifest_name ≡ false = not_true _ (ap (λ t. not (bytes_eq t manifest_name)) (sym last) ∙ (sym c.ne.ensures ∙ c.if-ne.true)) in
    rw whole (sym (other_last c.in-Some.above.now c.in-Some.last.now other))

pub returns-clause-value : goal.returns-clause-value
returns-clause-value c =
    let whole : c.args.path.now ≡ c.in-Some.above.now ++ c.in-Some.last.now ∷ [] = sym c.components.ensures.value ∙ c.in-Some.ensures.cases.0 in
    let last : c.as_str.result.now ≡ c.in-Some.last.now = c.as_str.ensures in
    let same : bytes_eq c.in-Some.last.now manifest_name ≡ true = not_false _ (ap (λ t. not (bytes_eq t manifest_name)) (sym last) ∙ (sym c.ne.ensures ∙ c.if-ne.false)) in
    rw (whole, c.in_ok-path_of.ensures.value) (sym (manifest_last c.in-Some.above.now c.in-Some.last.now same))

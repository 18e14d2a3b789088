use Rattle.std.proofs.Common.{◌≡◌, ◌∙◌, sym, refl, true, []}
use Rattle.std.proofs.lemmas.Result.{err_from_is_err_and}
use Rattle.json_view.specs.Answer.{data_of}
use Rattle.manifest.specs.Parts.{is_object_at}
use Rattle.manifest.proofs.Chain.{passes, stops}
use Rattle.manifest.proofs.Keys.{past_top}
use Rattle.manifest.proofs.manifest.parts_at.Goals as goal

pub returns-in_err-deps-clause-found : goal.returns-in_err-deps-clause-found
returns-in_err-deps-clause-found c =
    let error = err_from_is_err_and c.from_residual.result c.from_residual.ensures.1 in
    rw (error.1, error.2) (past_top _ _ _ (sym c.is_object_at.ensures ∙ c.if-not-is_object_at.false) (stops _ _ _ c.in_err-deps.ensures.found))

pub returns-in_err-dev-clause-found : goal.returns-in_err-dev-clause-found
returns-in_err-dev-clause-found c =
    let error = err_from_is_err_and c.from_residual-in_err-dev.result c.from_residual-in_err-dev.ensures.1 in
    rw (error.1, error.2) (past_top _ _ _ (sym c.is_object_at.ensures ∙ c.if-not-is_object_at.false) (passes _ _ _ _ c.in_ok-deps.ensures.found (stops _ _ _ c.in_err-dev.ensures.found)))

pub returns-in_err-name-clause-found : goal.returns-in_err-name-clause-found
returns-in_err-name-clause-found c =
    let error = err_from_is_err_and c.from_residual-in_err-name.result c.from_residual-in_err-name.ensures.1 in
    rw (error.1, error.2) (past_top _ _ _ (sym c.is_object_at.ensures ∙ c.if-not-is_object_at.false) (passes _ _ _ _ c.in_ok-deps.ensures.found (passes _ _ _ _ c.in_ok-dev.ensures.found (stops _ _ _ c.in_err-name.ensures))))

pub returns-in_err-optional-clause-found : goal.returns-in_err-optional-clause-found
returns-in_err-optional-clause-found c =
    let error = err_from_is_err_and c.from_residual-in_err-optional.result c.from_residual-in_err-optional.ensures.1 in
    rw (error.1, error.2) (past_top _ _ _ (sym c.is_object_at.ensures ∙ c.if-not-is_object_at.false) (passes _ _ _ _ c.in_ok-deps.ensures.found (passes _ _ _ _ c.in_ok-dev.ensures.found (passes _ _ _ _ c.in_ok-name.ensures (stops _ _ _ c.in_err-optional.ensures.found)))))

pub returns-in_err-manager-clause-found : goal.returns-in_err-manager-clause-found
returns-in_err-manager-clause-found c =
    let error = err_from_is_err_and c.from_residual-in_err-manager.result c.from_residual-in_err-manager.ensures.1 in
    rw (error.1, error.2) (past_top _ _ _ (sym c.is_object_at.ensures ∙ c.if-not-is_object_at.false) (passes _ _ _ _ c.in_ok-deps.ensures.found (passes _ _ _ _ c.in_ok-dev.ensures.found (passes _ _ _ _ c.in_ok-name.ensures (passes _ _ _ _ c.in_ok-optional.ensures.found (stops _ _ _ c.in_err-manager.ensures))))))

pub returns-in_err-peer-clause-found : goal.returns-in_err-peer-clause-found
returns-in_err-peer-clause-found c =
    let error = err_from_is_err_and c.from_residual-in_err-peer.result c.from_residual-in_err-peer.ensures.1 in
    rw (error.1, error.2) (past_top _ _ _ (sym c.is_object_at.ensures ∙ c.if-not-is_object_at.false) (passes _ _ _ _ c.in_ok-deps.ensures.found (passes _ _ _ _ c.in_ok-dev.ensures.found (passes _ _ _ _ c.in_ok-name.ensures (passes _ _ _ _ c.in_ok-optional.ensures.found (passes _ _ _ _ c.in_ok-manager.ensures (stops _ _ _ c.in_err-peer.ensures.found)))))))

pub returns-in_err-scripts-clause-found : goal.returns-in_err-scripts-clause-found
returns-in_err-scripts-clause-found c =
    let error = err_from_is_err_and c.from_residual-in_err-scripts.result c.from_residual-in_err-scripts.ensures.1 in
    rw (error.1, error.2) (past_top _ _ _ (sym c.is_object_at.ensures ∙ c.if-not-is_object_at.false) (passes _ _ _ _ c.in_ok-deps.ensures.found (passes _ _ _ _ c.in_ok-dev.ensures.found (passes _ _ _ _ c.in_ok-name.ensures (passes _ _ _ _ c.in_ok-optional.ensures.found (passes _ _ _ _ c.in_ok-manager.ensures (passes _ _ _ _ c.in_ok-peer.ensures.found (stops _ _ _ c.in_err-scripts.ensures.found))))))))

pub returns-in_err-version-clause-found : goal.returns-in_err-version-clause-found
returns-in_err-version-clause-found c =
    let error = err_from_is_err_and c.from_residual-in_err-version.result c.from_residual-in_err-version.ensures.1 in
    rw (error.1, error.2) (past_top _ _ _ (sym c.is_object_at.ensures ∙ c.if-not-is_object_at.false) (passes _ _ _ _ c.in_ok-deps.ensures.found (passes _ _ _ _ c.in_ok-dev.ensures.found (passes _ _ _ _ c.in_ok-name.ensures (passes _ _ _ _ c.in_ok-optional.ensures.found (passes _ _ _ _ c.in_ok-manager.ensures (passes _ _ _ _ c.in_ok-peer.ensures.found (passes _ _ _ _ c.in_ok-scripts.ensures.found (stops _ _ _ c.in_err-version.ensures)))))))))

pub returns-in_err-workspaces-clause-found : goal.returns-in_err-workspaces-clause-found
returns-in_err-workspaces-clause-found c =
    let error = err_from_is_err_and c.from_residual-in_err-workspaces.result c.from_residual-in_err-workspaces.ensures.1 in
    rw (error.1, error.2) (past_top _ _ _ (sym c.is_object_at.ensures ∙ c.if-not-is_object_at.false) (passes _ _ _ _ c.in_ok-deps.ensures.found (passes _ _ _ _ c.in_ok-dev.ensures.found (passes _ _ _ _ c.in_ok-name.ensures (passes _ _ _ _ c.in_ok-optional.ensures.found (passes _ _ _ _ c.in_ok-manager.ensures (passes _ _ _ _ c.in_ok-peer.ensures.found (passes _ _ _ _ c.in_ok-scripts.ensures.found (passes _ _ _ _ c.in_ok-version.ensures (stops _ _ _ c.in_err-workspaces.ensures))))))))))

pub returns-clause-found : goal.returns-clause-found
returns-clause-found c =
    let top : is_object_at [] (data_of c.args.view.now) ≡ true = sym c.is_object_at.ensures ∙ c.if-not-is_object_at.false in
    rw (top, c.in_ok-deps.ensures.found, c.in_ok-dev.ensures.found, c.in_ok-name.ensures, c.in_ok-optional.ensures.found, c.in_ok-manager.ensures, c.in_ok-peer.ensures.found, c.in_ok-scripts.ensures.found, c.in_ok-version.ensures, c.in_ok-workspaces.ensures, c.is_object_at-object_form.ensures) (refl, refl, refl)

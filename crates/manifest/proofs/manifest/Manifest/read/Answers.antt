use Rattle.std.proofs.Common.{◌∙◌, sym, ap}
use Rattle.std.specs.Prelude.{Ok}
use Rattle.std.proofs.lemmas.Result.{err_from_is_err_and}
use Rattle.json_view.specs.Answer.{data_of}
use Rattle.manifest.specs.Faults.{last_fault}
use Rattle.manifest.specs.Steps.{MayFault}
use Rattle.manifest.proofs.Reading.{no_view, wrong_part, wrong_text, no_fault, given_is}
use Rattle.manifest.proofs.manifest.Manifest.read.Goals as goal

pub returns-in_err-view-clause-manifest : goal.returns-in_err-view-clause-manifest
returns-in_err-view-clause-manifest c =
    let error = err_from_is_err_and c.from_residual.result c.from_residual.ensures.1 in
    rw (error.1, error.2) (no_view c.args.root c.args.bytes.now _ c.in_err-view.ensures)

pub returns-in_err-manifest-clause-manifest : goal.returns-in_err-manifest-clause-manifest
returns-in_err-manifest-clause-manifest c =
    let error = err_from_is_err_and c.from_residual-in_err-manifest.result c.from_residual-in_err-manifest.ensures.1 in
    rw (error.1, error.2) (wrong_part c.args.root c.args.bytes.now _ _ c.in_ok-view.ensures c.in_err-manifest.ensures.found)

pub returns-in_err-check_given-clause-manifest : goal.returns-in_err-check_given-clause-manifest
returns-in_err-check_given-clause-manifest c =
    let error = err_from_is_err_and c.from_residual-in_err-check_given.result c.from_residual-in_err-check_given.ensures.1 in
    let found = c.in_ok-manifest.ensures.found in
    let given = given_is c.args.root (data_of c.in_ok-view.view) c.in_ok-manifest.manifest c.in_ok-manifest.manager found.1 found.2 in
    let fault : MayFault (last_fault c.args.root (data_of c.in_ok-view.view)) c.in_err-check_given.field-0.0 = rw (← given) c.in_err-check_given.ensures in
    rw (error.1, error.2) (wrong_text c.args.root c.args.bytes.now _ _ c.in_ok-view.ensures found.0 fault)

pub returns-clause-manifest : goal.returns-clause-manifest
returns-clause-manifest c =
    let found = c.in_ok-manifest.ensures.found in
    let given = given_is c.args.root (data_of c.in_ok-view.view) c.in_ok-manifest.manifest c.in_ok-manifest.manager found.1 found.2 in
    no_fault c.args.root c.args.bytes.now (data_of c.in_ok-view.view) c.in_ok-view.ensures found.0 (sym given ∙ c.in_ok-check_given.ensures) ∙ ap Ok (sym found.1)

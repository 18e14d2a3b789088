use Rattle.std.proofs.Common.{◌≡◌, ◌∙◌, [], length, refl, ap, sym, subst}
use Rattle.std.specs.Prelude.{Some, slice_get, slice_index_or}
use Rattle.env_select.specs.Choice.{IsChosen, is_given}
use Rattle.task_definitions.specs.Setup.{task_def}
use Rattle.turbo_config.specs.declared.entry.TaskDef.{TaskDef}
use Rattle.turbo_config.specs.declared.files.Globals.{Globals}
use Rattle.turbo_config.specs.declared.task_id.TaskId.{TaskId}
use Rattle.collect.specs.Listings.{ArePaired}
use Rattle.collect.proofs.Lists.{paired_length}
use Rattle.run_laws.specs.Ancestors.{blank}
use Rattle.planner.specs.Settings.{env_mode_for}
use Rattle.planner.proofs.planning.plan_of.Goals as goal

pub all_given-requires : goal.all_given-requires
all_given-requires c =
    let config = c.args.config.now in
    ap length c.as_slice-3.ensures
    ∙ (c.requires.same
    ∙ sym (ap length c.as_slice-2.ensures ∙ (paired_length (λ (id : TaskId) (def : TaskDef). task_def config id.«package» id.task ≡ Some def) c.as_slice.result.now c.in_ok-defs.defs c.in_ok-defs.ensures.value ∙ ap length c.as_slice.ensures)))

pub returns : goal.returns
returns c =
    let config = c.args.config.now in
    let word = c.args.order.now.env_word in
    let env = c.args.env.now in
    let pass : c.in-Ok.pass ≡ config.globals.pass = c.in-Ok.ensures ∙ ap (λ (globals : Globals). globals.pass) c.globals-globals.ensures.value in
    let mode : c.env_mode_for-mode.result ≡ env_mode_for word config.globals.env_mode = c.env_mode_for-mode.ensures ∙ ap (λ (globals : Globals). env_mode_for word globals.env_mode) c.globals-globals.ensures.value in
    record {
      value = record {
        ids = refl;
        defs = subst (λ ids. ArePaired (λ (id : TaskId) (def : TaskDef). task_def config id.«package» id.task ≡ Some def) ids c.in_ok-defs.defs) c.as_slice.ensures c.in_ok-defs.ensures.value;
        listing_is = refl;
        passed = c.in_ok-given.ensures.same
            ∙ (ap length c.as_slice-2.ensures ∙ (paired_length (λ (id : TaskId) (def : TaskDef). task_def config id.«package» id.task ≡ Some def) c.as_slice.result.now c.in_ok-defs.defs c.in_ok-defs.ensures.value ∙ ap length c.as_slice.ensures));
        given = λ t def at.
            subst (λ m. IsChosen (is_given m def.pass config.globals.pass (slice_index_or c.args.listing.parts t blank).env) env (slice_index_or c.in_ok-given.given t [])) mode
            (subst (λ global. IsChosen (is_given c.env_mode_for-mode.result def.pass global (slice_index_or c.args.listing.parts t blank).env) env (slice_index_or c.in_ok-given.given t [])) pass
            (subst (λ parts. IsChosen (is_given c.env_mode_for-mode.result def.pass c.in-Ok.pass (slice_index_or parts t blank).env) env (slice_index_or c.in_ok-given.given t [])) c.as_slice-3.ensures
            (c.in_ok-given.ensures.value t def (subst (λ defs. slice_get defs t ≡ Some def) (sym c.as_slice-2.ensures) at))));
        width = refl;
        mode = c.mode_of.ensures;
        force = refl;
        logs = c.logs_of.ensures;
        limit = refl;
      };
    }

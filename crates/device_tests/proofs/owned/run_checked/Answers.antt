use Rattle.std.proofs.Common.{rules, ◌≡◌, ◌∙◌, sym, ap, true, not}
use Rattle.std.specs.List.{list_all}
use Rattle.globs.specs.Outputs.{takes}
use Rattle.device_tests.proofs.Apart.{none_stand}
use Rattle.device_tests.proofs.owned.run_checked.Goals as goal

pub run_alone-requires-clause-absent : goal.run_alone-requires-clause-absent
run_alone-requires-clause-absent g c = λ told path owned.
    let clear : c.is_clear-clear.result ≡ true = search rules in
    let outs = c.args.command.outs in
    ap (λ files. files path) c.files.ensures
    ∙ none_stand outs c.files.result.now (ap (list_all (λ file. not (takes outs file.0))) (sym c.as_slice.ensures) ∙ sym c.is_clear-clear.ensures ∙ clear) path owned

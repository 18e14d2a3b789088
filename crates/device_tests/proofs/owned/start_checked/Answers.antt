use Rattle.std.proofs.Common.{rules, ◌≡◌, ◌∙◌, sym, ap, true, not}
use Rattle.std.specs.List.{list_all}
use Rattle.globs.specs.Outputs.{takes}
use Rattle.device_tests.proofs.Apart.{none_stand, none_both, reads_nothing}
use Rattle.device_tests.proofs.owned.start_checked.Goals as goal

pub start_both-requires-clause-absent : goal.start_both-requires-clause-absent
start_both-requires-clause-absent g c = λ told.
    let first : c.is_clear-clear.result ≡ true = search rules in
    let second : c.is_clear-clear-2.result ≡ true = search rules in
    let one = c.args.first.outs in
    let other = c.args.second.outs in (
      λ path owned. ap (λ files. files path) c.files.ensures
          ∙ none_stand one c.files.result.now (ap (list_all (λ file. not (takes one file.0))) (sym c.as_slice.ensures) ∙ sym c.is_clear-clear.ensures ∙ first) path owned,
      λ path owned. ap (λ files. files path) c.files-2.ensures
          ∙ none_stand other c.files-2.result.now (ap (list_all (λ file. not (takes other file.0))) (sym c.as_slice-2.ensures) ∙ sym c.is_clear-clear-2.ensures ∙ second) path owned,
    )

pub start_both-requires-clause-apart : goal.start_both-requires-clause-apart
start_both-requires-clause-apart g c = λ path owned.
    let apart : c.go_apart-apart.result ≡ true = search rules in
    none_both c.args.first.outs c.args.second.outs path (sym c.go_apart-apart.ensures ∙ apart) owned

pub start_both-requires-clause-reads : goal.start_both-requires-clause-reads
start_both-requires-clause-reads g c =
    (λ path. reads_nothing c.args.first path c.requires.above.0 c.requires.reads.0, λ path. reads_nothing c.args.second path c.requires.above.1 c.requires.reads.1)

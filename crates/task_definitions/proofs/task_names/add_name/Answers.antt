use Rattle.std.proofs.Common.{◌≡◌, ◌∙◌, true, false, not, sym, ap}
use Rattle.std.specs.BTreeSet.{contains}
use Rattle.rel_path.specs.Paths.{name_cmp}
use Rattle.turbo_config.specs.Names.{has_hash}
use Rattle.task_definitions.proofs.Gains.{gains_good, gains_bad}
use Rattle.task_definitions.proofs.task_names.add_name.Goals as goal

pub returns-then-has_hash-clause-added : goal.returns-then-has_hash-clause-added
returns-then-has_hash-clause-added c = λ name.
    let hash : has_hash c.args.name.now ≡ true = ap has_hash (sym c.as_str.ensures) ∙ sym c.has_hash.ensures ∙ c.if-has_hash.true in
    gains_bad (λ other. not (has_hash other)) c.args.name.now name (contains name_cmp c.args.names.now name) (ap not hash)

pub returns-clause-added : goal.returns-clause-added
returns-clause-added c = λ name.
    let none : has_hash c.args.name.now ≡ false = ap has_hash (sym c.as_str.ensures) ∙ sym c.has_hash.ensures ∙ c.if-has_hash.false in
    let updates = rw c.in_ok-copy.ensures.value at c.in_ok-insert.ensures.updates in
    gains_good (λ other. not (has_hash other)) c.args.name.now name (contains name_cmp c.args.names.now name) (contains name_cmp c.insert.new.self name) (ap not none) (updates.0 name)

use Rattle.std.proofs.Common.{◌≡◌, ◌∙◌, true, false, length, Some, arith, sym, ap}
use Rattle.std.proofs.lemmas.Grind.{common_steps}
use Rattle.json_view.specs.Plain.{is_between, is_comma}
use Rattle.json_view.proofs.Adding.{adds_between, adds_other, waits, length-settled}
use Rattle.json_view.proofs.plain.add.Goals as goal
use Rattle.json_view.proofs.plain.add.Goals.{then-is_comma, else-is_comma}

pub returns-then-is_between-clause-added : goal.returns-then-is_between-clause-added
returns-then-is_between-clause-added c =
    let between : is_between (c.args.byte, c.args.part) ≡ true = sym c.is_between.ensures ∙ c.if-is_between.true in
    rw (c.in_ok-push.ensures.items, c.kept_or_blank.ensures)
    (adds_between (c.args.byte, c.args.part) c.args.waiting c.args.text.now.items c.requires between)

pub returns-clause-added : goal.returns-clause-added
returns-clause-added c =
    let other : is_between (c.args.byte, c.args.part) ≡ false = sym c.is_between.ensures ∙ c.if-is_between.false in
    let filled : c.len-place.result ≡ length c.settle.new.text.items = grind (arith, common_steps) in
    let place : c.len-place.result ≡ length c.args.text.now.items =
    filled ∙ ap length c.settle.ensures ∙ length-settled c.is_closer.result c.args.waiting c.args.text.now.items in
    let waiting : c.if-is_comma.result ≡ waits (is_comma (c.args.byte, c.args.part)) (length c.args.text.now.items) =
    elim c.if-is_comma.branch [
      | then-is_comma w ↦ w.result-is ∙ ap Some place ∙ ap (λ comma. waits comma (length c.args.text.now.items)) (sym w.if-is_comma.true ∙ c.is_comma.ensures)
      | else-is_comma w ↦ w.result-is ∙ ap (λ comma. waits comma (length c.args.text.now.items)) (sym w.if-is_comma.false ∙ c.is_comma.ensures)
    ] in
    rw (waiting, c.in_ok-push-2.ensures.items, c.settle.ensures, c.is_closer.ensures)
    (adds_other (c.args.byte, c.args.part) c.args.waiting c.args.text.now.items other)

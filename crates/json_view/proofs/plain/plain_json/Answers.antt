use Rattle.std.proofs.Common.{◌≡◌, ◌∙◌, ℕ, Bool, cond, get_or, refl, sym, ap, arith}
use Rattle.json_view.specs.Plain.{begins_block, part_of}
use Rattle.json_view.specs.Waiting.{Adds}
use Rattle.json_view.proofs.Scanning.{nothing_scanned, one_scanned, scanned_text, scanned_open, scanned_none}
use Rattle.json_view.proofs.Places.{keeps_places}
use Rattle.json_view.proofs.plain.plain_json.Goals as goal
use Rattle.json_view.proofs.plain.plain_json.Goals.{then-begins_block, else-begins_block}

pub loop-i-init : goal.loop-i-init
loop-i-init c = rw c.in_ok-text.ensures.items (nothing_scanned c.args.bytes.now)

pub loop-i-preserved : goal.loop-i-preserved
loop-i-preserved c =
    let b : ℕ = get_or c.args.bytes.now c.loop-i.i 0 in
    let begins : Bool = begins_block c.loop-i.place b c.byte_at-next.result in
    let opened : c.if-begins_block.opened ≡ cond begins c.loop-i.i c.loop-i.opened =
    elim c.if-begins_block.branch [
      | then-begins_block w ↦ w.opened-is ∙ ap (λ t. cond t c.loop-i.i c.loop-i.opened) (sym w.if-begins_block.true ∙ c.begins_block.ensures)
      | else-begins_block w ↦ w.opened-is ∙ ap (λ t. cond t c.loop-i.i c.loop-i.opened) (sym w.if-begins_block.false ∙ c.begins_block.ensures)
    ] in
    let added : Adds (b, part_of c.loop-i.place b c.byte_at-next.result) c.loop-i.waiting c.loop-i.text.items c.in_ok-waiting.waiting c.add.new.text.items =
    rw (← c.part_of.ensures) c.in_ok-waiting.ensures.added in
    rw c.after-place.ensures
    (one_scanned c.args.bytes.now c.loop-i.i c.loop-i.place c.loop-i.waiting c.loop-i.opened c.loop-i.text.items b c.byte_at-next.result _ _ _ (omega arith) refl c.byte_at-next.ensures c.loop-i.invariant added opened)

pub returns-in-Opening-clause-answer : goal.returns-in-Opening-clause-answer
returns-in-Opening-clause-answer c = scanned_open _ _ _ _ _ _ c.loop-i.invariant c.loop-i-test.false c.in-Opening.is

pub returns-in_default-clause-answer : goal.returns-in_default-clause-answer
returns-in_default-clause-answer c = (
  scanned_none _ _ _ _ _ _ c.loop-i.invariant c.loop-i-test.false c.in_default.not-Opening c.in_default.not-InBlock,
  c.from_vec.ensures ∙ scanned_text _ _ _ _ _ _ c.loop-i.invariant c.loop-i-test.false,
)

pub returns-in_default-clause-places : goal.returns-in_default-clause-places
returns-in_default-clause-places c =
    rw (c.from_vec.ensures, scanned_text _ _ _ _ _ _ c.loop-i.invariant c.loop-i-test.false) (keeps_places c.args.bytes.now)

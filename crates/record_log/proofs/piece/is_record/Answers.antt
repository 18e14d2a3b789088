use Rattle.std.proofs.Common.{◌≡◌, None, sym, ◌∙◌}
use Rattle.record_log.specs.Pieces.{width, behind, all_below, read_pieces}
use Rattle.record_log.proofs.Records.{record_behind, record_none, ends_there_none, ends_there_some, ends_there_is, none_map}
use Rattle.record_log.proofs.piece.is_record.Goals as goal

pub returns-in_default : goal.returns-in_default
returns-in_default c =
    let w = width c.args.long in
    let none : behind (all_below c.args.contents) (read_pieces w c.args.bytes.now) ≡ None = sym c.behind_pieces.ensures ∙ none_map (λ r. r.now) c.behind_pieces.result c.in_default.not-Some in
    sym (record_none c.args.contents w c.args.bytes.now none)

pub returns-in_default-behind_pieces : goal.returns-in_default-behind_pieces
returns-in_default-behind_pieces c =
    let w = width c.args.long in
    let value = c.in-Some.value.now in
    let none : behind (all_below c.args.contents) (read_pieces w value) ≡ None = sym c.behind_pieces-2.ensures ∙ none_map (λ r. r.now) c.behind_pieces-2.result c.in_default-behind_pieces.not-Some in
    sym (record_behind c.args.contents w c.args.bytes.now value (sym c.in-Some.ensures) ∙ ends_there_none (behind (all_below c.args.contents) (read_pieces w value)) none)

pub returns : goal.returns
returns c =
    let w = width c.args.long in
    let value = c.in-Some.value.now in
    let rest = c.in-Some-behind_pieces.rest.now in
    let some = ends_there_some (behind (all_below c.args.contents) (read_pieces w value)) rest (sym c.in-Some-behind_pieces.ensures) in
    c.is_empty.ensures ∙ ends_there_is rest ∙ sym (record_behind c.args.contents w c.args.bytes.now value (sym c.in-Some.ensures) ∙ some)

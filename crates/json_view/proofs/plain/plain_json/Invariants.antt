use Rattle.json_view.proofs.Scanning.{Scanned}
use Rattle.json_view.proofs.plain.plain_json.Given as goal

abbrev pub invariant-loop-i : goal.invariant-loop-i
invariant-loop-i l = Scanned l.bytes l.i l.place l.waiting l.opened l.text.items

use Rattle.serde_json.specs.View.{members_view}
use Rattle.npm_lock.specs.Cut.{is_in, cut_top}
use Rattle.npm_lock.proofs.Picked.{Going}
use Rattle.npm_lock.proofs.cut.cut_members.Given as goal

abbrev pub invariant-loop-name : goal.invariant-loop-name
invariant-loop-name l = Going (cut_top (is_in l.folders) (is_in l.locations)) l.top.entries l.name-iterator (members_view l.cut.entries)

use Rattle.std.proofs.Common.{◌≡◌, drop}
use Rattle.serde_json.specs.View.{items_view, members_view}
use Rattle.lock_entries.specs.Least.{lesser_by, least_by}
use Rattle.lock_entries.specs.Floats.{item_floats, member_floats}
use Rattle.lock_entries.proofs.floats.+least_at.Given as goal

abbrev pub invariant-least_of_items-loop-i : goal.invariant-least_of_items-loop-i
invariant-least_of_items-loop-i l = lesser_by (λ p. p) l.least (least_by (λ p. p) (item_floats l.at l.i (items_view (drop l.i l.item-items)))) ≡ least_by (λ p. p) (item_floats l.at 0 (items_view l.item-items))

abbrev pub invariant-least_of_members-loop-name : goal.invariant-least_of_members-loop-name
invariant-least_of_members-loop-name l = lesser_by (λ p. p) l.least (least_by (λ p. p) (member_floats l.at (members_view l.name-iterator))) ≡ least_by (λ p. p) (member_floats l.at (members_view l.members.entries))

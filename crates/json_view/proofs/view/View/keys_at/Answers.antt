use Rattle.std.proofs.Common.{sym, ap, ◌∙◌}
use Rattle.json_view.specs.Look.{Here, keys_in}
use Rattle.json_view.proofs.Keys.{names_of-members_view}
use Rattle.json_view.proofs.Members.{names_from_keys}
use Rattle.json_view.proofs.view.View.keys_at.Goals as goal

pub returns-in_ok-keys_of-in-Some-as_object-clause-answer : goal.returns-in_ok-keys_of-in-Some-as_object-clause-answer
unfolding keys_in
returns-in_ok-keys_of-in-Some-as_object-clause-answer c =
    rw (← c.in-Some.ensures, ← c.in-Some-as_object.ensures)
    (ap Here (names_of-members_view c.in-Some-as_object.members.now.entries ∙ sym c.in_ok-keys_of-in-Some-as_object.ensures.keys))

pub returns-in_ok-keys_of-in-Some-as_object-clause-exact : goal.returns-in_ok-keys_of-in-Some-as_object-clause-exact
returns-in_ok-keys_of-in-Some-as_object-clause-exact c =
    names_from_keys _ _ _ (returns-in_ok-keys_of-in-Some-as_object-clause-answer c)

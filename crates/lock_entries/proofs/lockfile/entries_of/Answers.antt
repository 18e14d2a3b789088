use Rattle.std.proofs.Common.{◌++◌, inr, sym, ap, ◌∙◌, append-nil}
use Rattle.serde_json.specs.View.{members_view}
use Rattle.lock_entries.specs.Entries.{entries_of, least_wrong}
use Rattle.lock_entries.specs.Lockfile.{wrong_of}
use Rattle.lock_entries.proofs.Entering.{no_entry, lesser_wrong, least_at_end}
use Rattle.lock_entries.proofs.Ascending.{entries-Ascend}
use Rattle.lock_entries.proofs.lockfile.entries_of.Goals as goal

pub loop-location-preserved : goal.loop-location-preserved
loop-location-preserved c =
    let wrong = c.in-Err-WrongKind in record {
      read = ap (λ es. c.loop-location.entries.items ++ es) (no_entry c.loop-location.location-iterator c.next.new.self c.in-Some.location.now c.in-Some.value.now wrong.pointer wrong.wanted c.in-Some.ensures.steps _ c.as_str.ensures.value wrong.field-0 wrong.field-0-is wrong.ensures) ∙ c.loop-location.invariant.read;
      least = lesser_wrong c.loop-location.location-iterator c.next.new.self c.in-Some.location.now c.in-Some.value.now wrong.pointer wrong.wanted c.in-Some.ensures.steps _ c.as_str.ensures.value wrong.field-0 wrong.field-0-is wrong.ensures c.loop-location.least _ c.lesser.result c.lesser.ensures c.loop-location.invariant.least;
    }

pub returns-in-None-least-clause-entries : goal.returns-in-None-least-clause-entries
unfolding least_wrong
returns-in-None-least-clause-entries c = (
  ap wrong_of (sym (least_at_end _ _ c.in-None.ensures.steps.0 c.loop-location.invariant.least) ∙ c.in-None-least.is),
  sym (append-nil _) ∙ ap (λ es. c.loop-location.entries.items ++ entries_of (members_view es)) (sym c.in-None.ensures.steps.0) ∙ c.loop-location.invariant.read,
)

pub returns-in-None-least-clause-ascend : goal.returns-in-None-least-clause-ascend
returns-in-None-least-clause-ascend c =
    rw (returns-in-None-least-clause-entries c).1 (entries-Ascend _ c.iter-location-items.ensures.ordered)

pub returns-in-Some-least-clause-entries : goal.returns-in-Some-least-clause-entries
unfolding least_wrong
returns-in-Some-least-clause-entries c =
    inr (ap wrong_of (sym (least_at_end _ _ c.in-None.ensures.steps.0 c.loop-location.invariant.least) ∙ c.in-Some-least.is))

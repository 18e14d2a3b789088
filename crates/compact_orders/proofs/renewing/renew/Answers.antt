use Rattle.std.proofs.Common.{inr, sym, ◌∙◌, subst}
use Rattle.std.specs.Prelude.{IfOk, OnOk}
use Rattle.compact.specs.declared.side.Side.TheVariants.{First, Spare}
use Rattle.compact.specs.Current.{pairs_held, pairs_of}
use Rattle.compact.specs.Left.{ReadsAs, IsCountIn, IsCountOf, chosen_in, next_generation}
use Rattle.compact.proofs.Orders.{still_current}
use Rattle.store_answers.specs.Stores.{stores_of}
use Rattle.compact_orders.specs.Asking.{IsCompactable, current_pairs, kept_pairs}
use Rattle.compact_orders.specs.Left.{LastsCompacted}
use Rattle.compact_orders.specs.Steps.{IsRefusalIn}
use Rattle.compact_orders.proofs.Reading.{current_is, kept_is, could_on, refused_on, counts_on, renewing_as}
use Rattle.compact_orders.proofs.Halting.{if_ok, could_by, refused_by}
use Rattle.compact_orders.proofs.Leaving.{are_opened, sound_both, lasts_by, after_by, rests_still, rests_new, passes, left_then, either_as}
use Rattle.compact_orders.proofs.renewing.renew.Goals as goal

-- ---- the first one is current

pub compact-result-requires-clause-current : goal.compact-result-requires-clause-current
compact-result-requires-clause-current g c told tells =
    let s = g.S.StoreDevice in
    let p = g.P.StoreDevice in
    let found = c.current-found in
    let x = are_opened s p c.args.store found.result.1 c.args.spare found.result.2 found.result.0 c.in-Ok-First.field-0 First c.in-Ok-First.is (rw c.in-Ok-First.is at c.in-Ok-First.field-0-is) (found.ensures.side told tells) (found.ensures.first told) (found.ensures.spare tells) in
    (First, still_current First (s.content c.args.store) (p.content c.args.spare) (s.content found.result.1) (p.content found.result.2) x.first.reads x.second.reads x.is)

pub returns-in-Ok-First-clause-could : goal.returns-in-Ok-First-clause-could
returns-in-Ok-First-clause-could g c told tells =
    let s = g.S.StoreDevice in
    let p = g.P.StoreDevice in
    let found = c.current-found in
    let store = c.args.store in
    let spare = c.args.spare in
    let mid = found.result.1 in
    let turn = found.result.2 in
    let stores = stores_of (s.content store) (p.content spare) in
    let x = are_opened s p store mid spare turn found.result.0 c.in-Ok-First.field-0 First c.in-Ok-First.is (rw c.in-Ok-First.is at c.in-Ok-First.field-0-is) (found.ensures.side told tells) (found.ensures.first told) (found.ensures.spare tells) in
    let sound = sound_both s p store mid spare turn x.first x.second in
    let keep = c.args.keep in
    let r = c.compact-result.result.0 in
    subst (λ o. OnOk o (IsCompactable keep stores)) (sym c.outcome.ensures)
    (could_by First r keep (s.content mid) (IsCompactable keep stores) (c.compact-result.ensures.last told) (c.compact-result.ensures.room told tells)
    (could_on keep stores (s.content mid) First x.is x.first.reads sound))

pub returns-in-Ok-First-clause-counts : goal.returns-in-Ok-First-clause-counts
returns-in-Ok-First-clause-counts g c told tells =
    let s = g.S.StoreDevice in
    let p = g.P.StoreDevice in
    let found = c.current-found in
    let store = c.args.store in
    let spare = c.args.spare in
    let mid = found.result.1 in
    let turn = found.result.2 in
    let stores = stores_of (s.content store) (p.content spare) in
    let x = are_opened s p store mid spare turn found.result.0 c.in-Ok-First.field-0 First c.in-Ok-First.is (rw c.in-Ok-First.is at c.in-Ok-First.field-0-is) (found.ensures.side told tells) (found.ensures.first told) (found.ensures.spare tells) in
    let sound = sound_both s p store mid spare turn x.first x.second in
    let keep = c.args.keep in
    let r = c.compact-result.result.0 in
    subst (λ o. IfOk o (IsCountIn (current_pairs stores) keep)) (sym c.outcome.ensures)
    (if_ok First r (IsCountOf (s.content mid) keep) (IsCountIn (current_pairs stores) keep)
    (counts_on keep stores (s.content mid) First x.is x.first.reads sound) (c.compact-result.ensures.counts told))

pub returns-in-Ok-First-clause-lasts : goal.returns-in-Ok-First-clause-lasts
returns-in-Ok-First-clause-lasts g c told tells =
    let s = g.S.StoreDevice in
    let p = g.P.StoreDevice in
    let found = c.current-found in
    let store = c.args.store in
    let spare = c.args.spare in
    let mid = found.result.1 in
    let turn = found.result.2 in
    let stores = stores_of (s.content store) (p.content spare) in
    let x = are_opened s p store mid spare turn found.result.0 c.in-Ok-First.field-0 First c.in-Ok-First.is (rw c.in-Ok-First.is at c.in-Ok-First.field-0-is) (found.ensures.side told tells) (found.ensures.first told) (found.ensures.spare tells) in
    let sound = sound_both s p store mid spare turn x.first x.second in
    let keep = c.args.keep in
    let r = c.compact-result.result.0 in
    let cur = still_current First (s.content store) (p.content spare) (s.content mid) (p.content turn) x.first.reads x.second.reads x.is in
    subst (λ o. OnOk o (LastsCompacted s p keep stores c.compact-result.result.1 c.compact-result.result.2)) (sym c.outcome.ensures)
    (lasts_by s p First r keep stores (pairs_held (s.content mid)) (chosen_in (s.content mid) keep) c.compact-result.result.1 c.compact-result.result.2
    (rests_still s r mid c.compact-result.result.1 (c.compact-result.ensures.still told)) (rests_new p r (next_generation (s.content mid)) (chosen_in (s.content mid) keep) c.compact-result.result.2 (c.compact-result.ensures.renewed told tells))
    (λ f t now there. c.compact-result.ensures.after told tells First cur f t now there) (kept_is keep stores (s.content mid) First x.is x.first.reads sound))

pub returns-in-Ok-First-clause-refused : goal.returns-in-Ok-First-clause-refused
returns-in-Ok-First-clause-refused g c told tells reason is =
    let s = g.S.StoreDevice in
    let p = g.P.StoreDevice in
    let found = c.current-found in
    let store = c.args.store in
    let spare = c.args.spare in
    let mid = found.result.1 in
    let turn = found.result.2 in
    let stores = stores_of (s.content store) (p.content spare) in
    let x = are_opened s p store mid spare turn found.result.0 c.in-Ok-First.field-0 First c.in-Ok-First.is (rw c.in-Ok-First.is at c.in-Ok-First.field-0-is) (found.ensures.side told tells) (found.ensures.first told) (found.ensures.spare tells) in
    let sound = sound_both s p store mid spare turn x.first x.second in
    let keep = c.args.keep in
    let r = c.compact-result.result.0 in
    refused_on keep stores (s.content mid) First x.is x.first.reads sound reason
    (refused_by First r keep (s.content mid) (c.compact-result.ensures.from_sound told) (c.compact-result.ensures.to_sound tells) (c.compact-result.ensures.last told) (c.compact-result.ensures.room told tells)
    reason (subst (λ o. IsRefusalIn o reason) c.outcome.ensures is))

pub returns-in-Ok-First-clause-after : goal.returns-in-Ok-First-clause-after
returns-in-Ok-First-clause-after g c told tells reason is =
    let s = g.S.StoreDevice in
    let p = g.P.StoreDevice in
    let found = c.current-found in
    let store = c.args.store in
    let spare = c.args.spare in
    let mid = found.result.1 in
    let turn = found.result.2 in
    let stores = stores_of (s.content store) (p.content spare) in
    let x = are_opened s p store mid spare turn found.result.0 c.in-Ok-First.field-0 First c.in-Ok-First.is (rw c.in-Ok-First.is at c.in-Ok-First.field-0-is) (found.ensures.side told tells) (found.ensures.first told) (found.ensures.spare tells) in
    let sound = sound_both s p store mid spare turn x.first x.second in
    let keep = c.args.keep in
    let r = c.compact-result.result.0 in
    let cur = still_current First (s.content store) (p.content spare) (s.content mid) (p.content turn) x.first.reads x.second.reads x.is in
    after_by s p First r (pairs_held (s.content mid)) (chosen_in (s.content mid) keep) store c.compact-result.result.1 spare c.compact-result.result.2 (c.compact-result.ensures.from_sound told) (c.compact-result.ensures.to_sound tells)
    (λ f t now there. c.compact-result.ensures.after told tells First cur f t now there) (current_is keep stores (s.content mid) First x.is x.first.reads sound) reason (subst (λ o. IsRefusalIn o reason) c.outcome.ensures is)

pub returns-in-Ok-First-clause-moments : goal.returns-in-Ok-First-clause-moments
returns-in-Ok-First-clause-moments g c told tells =
    let s = g.S.StoreDevice in
    let p = g.P.StoreDevice in
    let found = c.current-found in
    let store = c.args.store in
    let spare = c.args.spare in
    let mid = found.result.1 in
    let turn = found.result.2 in
    let stores = stores_of (s.content store) (p.content spare) in
    let x = are_opened s p store mid spare turn found.result.0 c.in-Ok-First.field-0 First c.in-Ok-First.is (rw c.in-Ok-First.is at c.in-Ok-First.field-0-is) (found.ensures.side told tells) (found.ensures.first told) (found.ensures.spare tells) in
    let sound = sound_both s p store mid spare turn x.first x.second in
    let keep = c.args.keep in
    let r = c.compact-result.result.0 in
    let cur = still_current First (s.content store) (p.content spare) (s.content mid) (p.content turn) x.first.reads x.second.reads x.is in
    inr (passes s p store mid c.compact-result.result.1 spare turn c.compact-result.result.2 _ _ _ (found.ensures.first_left told) (found.ensures.spare_left tells) x.first x.second
    (c.compact-result.ensures.from_left told) (c.compact-result.ensures.to_left told tells)
    (λ f t now there. either_as (pairs_held (s.content mid)) (chosen_in (s.content mid) keep) (current_pairs stores) (kept_pairs keep stores) (pairs_of f t)
    (current_is keep stores (s.content mid) First x.is x.first.reads sound) (kept_is keep stores (s.content mid) First x.is x.first.reads sound) (c.compact-result.ensures.moments told tells First cur f t now there)))

pub returns-in-Ok-First-clause-left : goal.returns-in-Ok-First-clause-left
returns-in-Ok-First-clause-left g c told tells =
    let s = g.S.StoreDevice in
    let p = g.P.StoreDevice in
    let found = c.current-found in
    let store = c.args.store in
    let spare = c.args.spare in
    let mid = found.result.1 in
    let turn = found.result.2 in
    let stores = stores_of (s.content store) (p.content spare) in
    let x = are_opened s p store mid spare turn found.result.0 c.in-Ok-First.field-0 First c.in-Ok-First.is (rw c.in-Ok-First.is at c.in-Ok-First.field-0-is) (found.ensures.side told tells) (found.ensures.first told) (found.ensures.spare tells) in
    let sound = sound_both s p store mid spare turn x.first x.second in
    let keep = c.args.keep in
    let r = c.compact-result.result.0 in
    left_then s store mid c.compact-result.result.1 First First keep stores (ReadsAs (s.content mid)) sound x.is (found.ensures.first_left told)
    (c.compact-result.ensures.from_left told) (λ b p. p ∙ x.first.reads)

pub returns-in-Ok-First-clause-spare_left : goal.returns-in-Ok-First-clause-spare_left
returns-in-Ok-First-clause-spare_left g c told tells =
    let s = g.S.StoreDevice in
    let p = g.P.StoreDevice in
    let found = c.current-found in
    let store = c.args.store in
    let spare = c.args.spare in
    let mid = found.result.1 in
    let turn = found.result.2 in
    let stores = stores_of (s.content store) (p.content spare) in
    let x = are_opened s p store mid spare turn found.result.0 c.in-Ok-First.field-0 First c.in-Ok-First.is (rw c.in-Ok-First.is at c.in-Ok-First.field-0-is) (found.ensures.side told tells) (found.ensures.first told) (found.ensures.spare tells) in
    let sound = sound_both s p store mid spare turn x.first x.second in
    let keep = c.args.keep in
    let r = c.compact-result.result.0 in
    left_then p spare turn c.compact-result.result.2 Spare First keep stores _ sound x.is (found.ensures.spare_left tells)
    (c.compact-result.ensures.to_left told tells) (λ b w. renewing_as keep (s.content store) (s.content mid) (p.content spare) (p.content turn) b x.first.reads x.second.reads w)

-- ---- the spare one is current

pub compact-result-requires-in-Ok-Spare-clause-current :
    goal.compact-result-requires-in-Ok-Spare-clause-current
compact-result-requires-in-Ok-Spare-clause-current g c tells told =
    let s = g.S.StoreDevice in
    let p = g.P.StoreDevice in
    let found = c.current-found in
    let x = are_opened s p c.args.store found.result.1 c.args.spare found.result.2 found.result.0 c.in-Ok-Spare.field-0 Spare c.in-Ok-Spare.is (rw c.in-Ok-Spare.is at c.in-Ok-Spare.field-0-is) (found.ensures.side told tells) (found.ensures.first told) (found.ensures.spare tells) in
    (Spare, still_current Spare (p.content c.args.spare) (s.content c.args.store) (p.content found.result.2) (s.content found.result.1) x.second.reads x.first.reads x.is)

pub returns-in-Ok-Spare-clause-could : goal.returns-in-Ok-Spare-clause-could
returns-in-Ok-Spare-clause-could g c told tells =
    let s = g.S.StoreDevice in
    let p = g.P.StoreDevice in
    let found = c.current-found in
    let store = c.args.store in
    let spare = c.args.spare in
    let mid = found.result.1 in
    let turn = found.result.2 in
    let stores = stores_of (s.content store) (p.content spare) in
    let x = are_opened s p store mid spare turn found.result.0 c.in-Ok-Spare.field-0 Spare c.in-Ok-Spare.is (rw c.in-Ok-Spare.is at c.in-Ok-Spare.field-0-is) (found.ensures.side told tells) (found.ensures.first told) (found.ensures.spare tells) in
    let sound = sound_both s p store mid spare turn x.first x.second in
    let keep = c.args.keep in
    let r = c.compact-result-in-Ok-Spare.result.0 in
    subst (λ o. OnOk o (IsCompactable keep stores)) (sym c.outcome-in-Ok-Spare.ensures)
    (could_by Spare r keep (p.content turn) (IsCompactable keep stores) (c.compact-result-in-Ok-Spare.ensures.last tells) (c.compact-result-in-Ok-Spare.ensures.room tells told)
    (could_on keep stores (p.content turn) Spare x.is x.second.reads sound))

pub returns-in-Ok-Spare-clause-counts : goal.returns-in-Ok-Spare-clause-counts
returns-in-Ok-Spare-clause-counts g c told tells =
    let s = g.S.StoreDevice in
    let p = g.P.StoreDevice in
    let found = c.current-found in
    let store = c.args.store in
    let spare = c.args.spare in
    let mid = found.result.1 in
    let turn = found.result.2 in
    let stores = stores_of (s.content store) (p.content spare) in
    let x = are_opened s p store mid spare turn found.result.0 c.in-Ok-Spare.field-0 Spare c.in-Ok-Spare.is (rw c.in-Ok-Spare.is at c.in-Ok-Spare.field-0-is) (found.ensures.side told tells) (found.ensures.first told) (found.ensures.spare tells) in
    let sound = sound_both s p store mid spare turn x.first x.second in
    let keep = c.args.keep in
    let r = c.compact-result-in-Ok-Spare.result.0 in
    subst (λ o. IfOk o (IsCountIn (current_pairs stores) keep)) (sym c.outcome-in-Ok-Spare.ensures)
    (if_ok Spare r (IsCountOf (p.content turn) keep) (IsCountIn (current_pairs stores) keep)
    (counts_on keep stores (p.content turn) Spare x.is x.second.reads sound) (c.compact-result-in-Ok-Spare.ensures.counts tells))

pub returns-in-Ok-Spare-clause-lasts : goal.returns-in-Ok-Spare-clause-lasts
returns-in-Ok-Spare-clause-lasts g c told tells =
    let s = g.S.StoreDevice in
    let p = g.P.StoreDevice in
    let found = c.current-found in
    let store = c.args.store in
    let spare = c.args.spare in
    let mid = found.result.1 in
    let turn = found.result.2 in
    let stores = stores_of (s.content store) (p.content spare) in
    let x = are_opened s p store mid spare turn found.result.0 c.in-Ok-Spare.field-0 Spare c.in-Ok-Spare.is (rw c.in-Ok-Spare.is at c.in-Ok-Spare.field-0-is) (found.ensures.side told tells) (found.ensures.first told) (found.ensures.spare tells) in
    let sound = sound_both s p store mid spare turn x.first x.second in
    let keep = c.args.keep in
    let r = c.compact-result-in-Ok-Spare.result.0 in
    let cur = still_current Spare (p.content spare) (s.content store) (p.content turn) (s.content mid) x.second.reads x.first.reads x.is in
    subst (λ o. OnOk o (LastsCompacted s p keep stores c.compact-result-in-Ok-Spare.result.2 c.compact-result-in-Ok-Spare.result.1)) (sym c.outcome-in-Ok-Spare.ensures)
    (lasts_by s p Spare r keep stores (pairs_held (p.content turn)) (chosen_in (p.content turn) keep) c.compact-result-in-Ok-Spare.result.2 c.compact-result-in-Ok-Spare.result.1
    (rests_new s r (next_generation (p.content turn)) (chosen_in (p.content turn) keep) c.compact-result-in-Ok-Spare.result.2 (c.compact-result-in-Ok-Spare.ensures.renewed tells told)) (rests_still p r turn c.compact-result-in-Ok-Spare.result.1 (c.compact-result-in-Ok-Spare.ensures.still tells))
    (λ f t now there. c.compact-result-in-Ok-Spare.ensures.after tells told Spare cur t f there now) (kept_is keep stores (p.content turn) Spare x.is x.second.reads sound))

pub returns-in-Ok-Spare-clause-refused : goal.returns-in-Ok-Spare-clause-refused
returns-in-Ok-Spare-clause-refused g c told tells reason is =
    let s = g.S.StoreDevice in
    let p = g.P.StoreDevice in
    let found = c.current-found in
    let store = c.args.store in
    let spare = c.args.spare in
    let mid = found.result.1 in
    let turn = found.result.2 in
    let stores = stores_of (s.content store) (p.content spare) in
    let x = are_opened s p store mid spare turn found.result.0 c.in-Ok-Spare.field-0 Spare c.in-Ok-Spare.is (rw c.in-Ok-Spare.is at c.in-Ok-Spare.field-0-is) (found.ensures.side told tells) (found.ensures.first told) (found.ensures.spare tells) in
    let sound = sound_both s p store mid spare turn x.first x.second in
    let keep = c.args.keep in
    let r = c.compact-result-in-Ok-Spare.result.0 in
    refused_on keep stores (p.content turn) Spare x.is x.second.reads sound reason
    (refused_by Spare r keep (p.content turn) (c.compact-result-in-Ok-Spare.ensures.from_sound tells) (c.compact-result-in-Ok-Spare.ensures.to_sound told) (c.compact-result-in-Ok-Spare.ensures.last tells) (c.compact-result-in-Ok-Spare.ensures.room tells told)
    reason (subst (λ o. IsRefusalIn o reason) c.outcome-in-Ok-Spare.ensures is))

pub returns-in-Ok-Spare-clause-after : goal.returns-in-Ok-Spare-clause-after
returns-in-Ok-Spare-clause-after g c told tells reason is =
    let s = g.S.StoreDevice in
    let p = g.P.StoreDevice in
    let found = c.current-found in
    let store = c.args.store in
    let spare = c.args.spare in
    let mid = found.result.1 in
    let turn = found.result.2 in
    let stores = stores_of (s.content store) (p.content spare) in
    let x = are_opened s p store mid spare turn found.result.0 c.in-Ok-Spare.field-0 Spare c.in-Ok-Spare.is (rw c.in-Ok-Spare.is at c.in-Ok-Spare.field-0-is) (found.ensures.side told tells) (found.ensures.first told) (found.ensures.spare tells) in
    let sound = sound_both s p store mid spare turn x.first x.second in
    let keep = c.args.keep in
    let r = c.compact-result-in-Ok-Spare.result.0 in
    let cur = still_current Spare (p.content spare) (s.content store) (p.content turn) (s.content mid) x.second.reads x.first.reads x.is in
    after_by s p Spare r (pairs_held (p.content turn)) (chosen_in (p.content turn) keep) store c.compact-result-in-Ok-Spare.result.2 spare c.compact-result-in-Ok-Spare.result.1 (c.compact-result-in-Ok-Spare.ensures.from_sound tells) (c.compact-result-in-Ok-Spare.ensures.to_sound told)
    (λ f t now there. c.compact-result-in-Ok-Spare.ensures.after tells told Spare cur t f there now) (current_is keep stores (p.content turn) Spare x.is x.second.reads sound) reason (subst (λ o. IsRefusalIn o reason) c.outcome-in-Ok-Spare.ensures is)

pub returns-in-Ok-Spare-clause-moments : goal.returns-in-Ok-Spare-clause-moments
returns-in-Ok-Spare-clause-moments g c told tells =
    let s = g.S.StoreDevice in
    let p = g.P.StoreDevice in
    let found = c.current-found in
    let store = c.args.store in
    let spare = c.args.spare in
    let mid = found.result.1 in
    let turn = found.result.2 in
    let stores = stores_of (s.content store) (p.content spare) in
    let x = are_opened s p store mid spare turn found.result.0 c.in-Ok-Spare.field-0 Spare c.in-Ok-Spare.is (rw c.in-Ok-Spare.is at c.in-Ok-Spare.field-0-is) (found.ensures.side told tells) (found.ensures.first told) (found.ensures.spare tells) in
    let sound = sound_both s p store mid spare turn x.first x.second in
    let keep = c.args.keep in
    let r = c.compact-result-in-Ok-Spare.result.0 in
    let cur = still_current Spare (p.content spare) (s.content store) (p.content turn) (s.content mid) x.second.reads x.first.reads x.is in
    inr (passes s p store mid c.compact-result-in-Ok-Spare.result.2 spare turn c.compact-result-in-Ok-Spare.result.1 _ _ _ (found.ensures.first_left told) (found.ensures.spare_left tells) x.first x.second
    (c.compact-result-in-Ok-Spare.ensures.to_left tells told) (c.compact-result-in-Ok-Spare.ensures.from_left tells)
    (λ f t now there. either_as (pairs_held (p.content turn)) (chosen_in (p.content turn) keep) (current_pairs stores) (kept_pairs keep stores) (pairs_of f t)
    (current_is keep stores (p.content turn) Spare x.is x.second.reads sound) (kept_is keep stores (p.content turn) Spare x.is x.second.reads sound) (c.compact-result-in-Ok-Spare.ensures.moments tells told Spare cur t f there now)))

pub returns-in-Ok-Spare-clause-left : goal.returns-in-Ok-Spare-clause-left
returns-in-Ok-Spare-clause-left g c told tells =
    let s = g.S.StoreDevice in
    let p = g.P.StoreDevice in
    let found = c.current-found in
    let store = c.args.store in
    let spare = c.args.spare in
    let mid = found.result.1 in
    let turn = found.result.2 in
    let stores = stores_of (s.content store) (p.content spare) in
    let x = are_opened s p store mid spare turn found.result.0 c.in-Ok-Spare.field-0 Spare c.in-Ok-Spare.is (rw c.in-Ok-Spare.is at c.in-Ok-Spare.field-0-is) (found.ensures.side told tells) (found.ensures.first told) (found.ensures.spare tells) in
    let sound = sound_both s p store mid spare turn x.first x.second in
    let keep = c.args.keep in
    let r = c.compact-result-in-Ok-Spare.result.0 in
    left_then s store mid c.compact-result-in-Ok-Spare.result.2 First Spare keep stores _ sound x.is (found.ensures.first_left told)
    (c.compact-result-in-Ok-Spare.ensures.to_left tells told) (λ b w. renewing_as keep (p.content spare) (p.content turn) (s.content store) (s.content mid) b x.second.reads x.first.reads w)

pub returns-in-Ok-Spare-clause-spare_left : goal.returns-in-Ok-Spare-clause-spare_left
returns-in-Ok-Spare-clause-spare_left g c told tells =
    let s = g.S.StoreDevice in
    let p = g.P.StoreDevice in
    let found = c.current-found in
    let store = c.args.store in
    let spare = c.args.spare in
    let mid = found.result.1 in
    let turn = found.result.2 in
    let stores = stores_of (s.content store) (p.content spare) in
    let x = are_opened s p store mid spare turn found.result.0 c.in-Ok-Spare.field-0 Spare c.in-Ok-Spare.is (rw c.in-Ok-Spare.is at c.in-Ok-Spare.field-0-is) (found.ensures.side told tells) (found.ensures.first told) (found.ensures.spare tells) in
    let sound = sound_both s p store mid spare turn x.first x.second in
    let keep = c.args.keep in
    let r = c.compact-result-in-Ok-Spare.result.0 in
    left_then p spare turn c.compact-result-in-Ok-Spare.result.1 Spare Spare keep stores (ReadsAs (p.content turn)) sound x.is (found.ensures.spare_left tells)
    (c.compact-result-in-Ok-Spare.ensures.from_left tells) (λ b w. w ∙ x.second.reads)

use Rattle.std.proofs.Common.{◌≡◌, ◌≤◌, [], ◌∷◌, length, refl, sym, ap, subst, arith}
use Rattle.record_log.specs.declared.kind.TheConstants.{CONTENT, LONG_RECORD}
use Rattle.record_log.specs.Kinds.{Entry, entry}
use Rattle.blob_pool.specs.Contents.{contents_of}
use Rattle.blob_pool.specs.Known.{room_in}
use Rattle.pair_writer.specs.Learning.{GoesOn}
use Rattle.pair_writer.specs.Held.{staged_entry}
use Rattle.pair_writer.proofs.Pools.{on_ok, goes_learned, goes_by}
use Rattle.pair_writer.proofs.learning.learn.Goals as goal

pub returns-in-Content-clause-pool : goal.returns-in-Content-clause-pool
returns-in-Content-clause-pool c =
    let old = c.args.pool.now in
    let new = c.learn.new.self in
    let e = entry CONTENT c.in-Content.digest c.in-Content.bytes.now in
    let is : staged_entry c.args.frame.now ≡ e = ap staged_entry c.in-Content.is in
    let one : length (contents_of (e ∷ [])) ≤ room_in old = subst (λ (x : Entry). length (contents_of (x ∷ [])) ≤ room_in old) is c.requires in
    let ok = c.learn.ensures.succeeds (omega (arith, one)) in
    subst (λ (x : Entry). GoesOn c.args.number (x ∷ []) old new) (sym is)
    (goes_learned c.args.number e old new refl (on_ok c.learn.result _ ok c.learn.ensures.places) (on_ok c.learn.result _ ok c.learn.ensures.digests))

pub returns-in-Record-clause-pool : goal.returns-in-Record-clause-pool
returns-in-Record-clause-pool c =
    let pool = c.args.pool.now in
    let e = entry LONG_RECORD c.in-Record.print c.in-Record.text.items in
    let is : staged_entry c.args.frame.now ≡ e = ap staged_entry c.in-Record.is in
    subst (λ (x : Entry). GoesOn c.args.number (x ∷ []) pool pool) (sym is) (goes_by c.args.number e pool (λ same. absurd (omega (arith, same))))

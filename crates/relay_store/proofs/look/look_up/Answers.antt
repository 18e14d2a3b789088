use Rattle.std.proofs.Common.{◌≡◌, Option, Some, sym, ◌∙◌, ap, subst}
use Rattle.std.specs.Prelude.{IfSome}
use Rattle.codes.specs.Views.{found_as}
use Rattle.cache_api.specs.declared.hit.Hit.{Hit}
use Rattle.cache_api.specs.Artifacts.{Artifact}
use Rattle.cache_api.specs.Keys.{text_of}
use Rattle.cache_api.specs.Reading.{artifact_in}
use Rattle.relay_store.specs.Parts.{pairs_of, shows}
use Rattle.relay_store.proofs.Finding.{found_last, found_first, shown_same}
use Rattle.relay_store.proofs.Finding.{found_other, found_own}
use Rattle.relay_store.proofs.Relays.{unread}
use Rattle.relay_store.proofs.look.look_up.Goals as goal

pub returns-in_err-hit-clause-first_read : goal.returns-in_err-hit-clause-first_read
returns-in_err-hit-clause-first_read g c =
    unread g.met.F.StoreDevice.only_now c.args.first.now c.requires.first

pub returns-in-Some-clause-first_read : goal.returns-in-Some-clause-first_read
returns-in-Some-clause-first_read g c =
    unread g.met.F.StoreDevice.only_now c.args.first.now c.requires.first

pub returns-in-Some-clause-found : goal.returns-in-Some-clause-found
returns-in-Some-clause-found g c t u show at_last at_first =
    let hit = c.in-Some.hit in
    let last = c.lookup.new.self in
    let side : hit.side ≡ c.args.last_side =
    subst (λ (o : Option Hit). IfSome o (λ h. h.side ≡ c.args.last_side)) c.in-Some.is
    c.in_ok-hit.ensures.side in
    let is = sym (c.in_ok-hit.ensures.found t) ∙ ap (λ (o : Option Hit). found_as (shows last) o)
    c.in-Some.is in
    ap (λ (a : Artifact). Some a) (at_last hit side)
    ∙ sym (found_last artifact_in (text_of c.args.key) c.args.outs.now (pairs_of c.args.first.now)
    (pairs_of c.args.last.now) (shows last hit) is)

pub returns-clause-found : goal.returns-clause-found
returns-clause-found g c t u show at_last at_first =
    let last = c.lookup.new.self in
    let none = sym (c.in_ok-hit.ensures.found t)
    ∙ ap (λ (o : Option Hit). found_as (shows last) o) c.in_default.is in
    shown_same c.lookup-2.result c.args.first_side (shows c.lookup-2.new.self) show _ _
    (c.lookup-2.ensures.found u)
    (sym (found_first artifact_in (text_of c.args.key) c.args.outs.now (pairs_of c.args.first.now)
    (pairs_of c.args.last.now) none))
    c.lookup-2.ensures.side at_first

-- ---- of each part alone

pub returns-in-Some-clause-last_found : goal.returns-in-Some-clause-last_found
returns-in-Some-clause-last_found g c t =
    let last = c.lookup.new.self in
    let side : c.in-Some.hit.side ≡ c.args.last_side =
    subst (λ (o : Option Hit). IfSome o (λ h. h.side ≡ c.args.last_side)) c.in-Some.is
    c.in_ok-hit.ensures.side in
    let is = sym (c.in_ok-hit.ensures.found t)
    ∙ ap (λ (o : Option Hit). found_as (shows last) o) c.in-Some.is in
    record {
      hit = λ here. is;
      none = λ e. absurd (cc);
      first = λ asked a e. side;
    }

pub returns-in-Some-clause-first_found : goal.returns-in-Some-clause-first_found
returns-in-Some-clause-first_found g c u =
    let side : c.in-Some.hit.side ≡ c.args.last_side =
    subst (λ (o : Option Hit). IfSome o (λ h. h.side ≡ c.args.last_side)) c.in-Some.is
    c.in_ok-hit.ensures.side in
    record {
      hit = λ here. absurd (c.requires.sides (sym side ∙ here));
      none = λ e. absurd (cc);
      first = λ asked. absurd asked;
    }

pub returns-clause-last_found : goal.returns-clause-last_found
returns-clause-last_found g c t =
    let none = sym (c.in_ok-hit.ensures.found t)
    ∙ ap (λ (o : Option Hit). found_as (shows c.lookup.new.self) o) c.in_default.is in
    found_other c.lookup-2.result c.args.last_side c.args.first_side (Unit {0})
    (shows c.lookup.new.self) _ c.requires.sides none c.lookup-2.ensures.side

pub returns-clause-first_found : goal.returns-clause-first_found
returns-clause-first_found g c u =
    found_own c.lookup-2.result c.args.first_side (shows c.lookup-2.new.self) _
    (c.lookup-2.ensures.found u)

use Rattle.std.proofs.Common.{◌≡◌, inl, inr, ⊎_elim, Err, refl, ap, ◌∙◌}
use Rattle.json_view.specs.declared.error.Shape.TheVariants.{Object}
use Rattle.serde_json.specs.View.{view}
use Rattle.serde_json.specs.Find.{as_object}
use Rattle.lock_entries.specs.Entries.{entry_of, entry_with, entry_pointer, link_in}
use Rattle.lock_entries.proofs.Entering.{checked, may_fail}
use Rattle.lock_entries.proofs.parts.entry_of.Goals as goal

pub returns : goal.returns
unfolding entry_of
returns c =
    ap (entry_with c.args.location.now) (checked (entry_pointer c.args.location.now) Object (as_object (view c.args.value.now)) _ c.in_ok-check_object.ensures)
    ∙ rw (c.in_ok-needed.ensures, c.in_ok-is_link.ensures, c.in_ok-optional.ensures, c.in_ok-peers.ensures, c.in_ok-link.ensures, c.in_ok-names.ensures.names, c.in_ok-location.ensures.value) refl

pub returns-in_err-link : goal.returns-in_err-link
unfolding entry_of
returns-in_err-link c =
    let refused = λ (q : link_in c.in_ok-is_link.is_link (entry_pointer c.args.location.now) (view c.args.value.now) ≡ Err c.in_err-link.field-0.0).
    ap (entry_with c.args.location.now) (checked (entry_pointer c.args.location.now) Object (as_object (view c.args.value.now)) _ c.in_ok-check_object.ensures)
    ∙ rw (c.in_ok-needed.ensures, c.in_ok-is_link.ensures, c.in_ok-optional.ensures, c.in_ok-peers.ensures, q) refl in
    may_fail c.from_residual-in_err-link.result c.in_err-link.field-0.0 _ c.from_residual-in_err-link.ensures.1 (⊎_elim (λ e. inl e) (λ q. inr (refused q)) c.in_err-link.ensures)

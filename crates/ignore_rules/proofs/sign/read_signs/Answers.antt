use Rattle.std.proofs.Common.{◌∙◌, sym}
use Rattle.std.specs.Prelude.{None}
use Rattle.glob_syntax.specs.declared.atom.Atom.TheVariants as atom
use Rattle.ignore_rules.specs.declared.sign.Sign.TheVariants as sign
use Rattle.glob_syntax.specs.Classes.{class_of}
use Rattle.ignore_rules.specs.Signs.{negation, sign_of, signs_from}
use Rattle.ignore_rules.proofs.Signs.{all_onto-push}
use Rattle.ignore_rules.proofs.sign.read_signs.Goals as goal

pub loop-mark-preserved-in_ok-push : goal.loop-mark-preserved-in_ok-push
loop-mark-preserved-in_ok-push c =
    let plain = sym c.is_plain.ensures ∙ c.if-is_plain.false in
    let step = all_onto-push c.loop-mark.signs.items (sign_of c.in-Some.mark.now) (signs_from None c.in-Some.behind.now) in
    let before = rw (c.if-not-inside.true, c.in-Some.ensures.cases.0, plain, step) at c.loop-mark.invariant in
    rw (c.if-not-inside.true, c.in_ok-push.ensures.items, c.sign_of.ensures) before

pub loop-mark-preserved-in_ok-push-2 : goal.loop-mark-preserved-in_ok-push-2
loop-mark-preserved-in_ok-push-2 c =
    let ends = rw c.deref.ensures.value at (sym c.ends_class.ensures ∙ c.if-ends_class.true) in
    let step = all_onto-push c.loop-mark.signs.items (sign.Atom (atom.OneOf (class_of negation c.loop-mark.body.items))) (signs_from None c.in-Some.behind.now) in
    let before = rw (c.if-not-inside.false, c.in-Some.ensures.cases.0, ends, step) at c.loop-mark.invariant in
    rw (c.in_ok-push-2.ensures.items, c.in_ok-class.ensures, c.deref-then-ends_class.ensures.value) before

pub loop-mark-preserved : goal.loop-mark-preserved
loop-mark-preserved c =
    let goes_on = rw c.deref.ensures.value at (sym c.ends_class.ensures ∙ c.if-ends_class.false) in
    let before = rw (c.if-not-inside.false, c.in-Some.ensures.cases.0, goes_on) at c.loop-mark.invariant in
    rw (c.if-not-inside.false, c.in_ok-push-3.ensures.items) before

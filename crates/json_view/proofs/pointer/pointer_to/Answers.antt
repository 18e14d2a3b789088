use Rattle.std.proofs.Common.{◌≡◌, ◌≢◌, ◌++◌, [], sym, ◌∙◌, ap, append-nil, append_assoc, arith}
use Rattle.std.proofs.lemmas.List.{nil_from_length}
use Rattle.std.specs.Prelude.{string_bytes}
use Rattle.json_view.specs.Pointer.{escaped, pointer_to}
use Rattle.json_view.proofs.Pointers.{escaped_char, reaches_member}
use Rattle.json_view.proofs.pointer.pointer_to.Goals as goal

pub loop-c-preserved : goal.loop-c-preserved
loop-c-preserved c =
    let no_tilde : c.in-Some.c ≢ 126 = omega arith in
    let no_slash : c.in-Some.c ≢ 47 = omega arith in
    rw (c.in_ok-push-in_default.ensures.bytes, append_assoc)
    (ap (λ l. string_bytes c.loop-c.longer ++ l) (sym (escaped_char c.in-Some.c c.next.new.self.rest.now no_tilde no_slash))
    ∙ ap (λ rest. string_bytes c.loop-c.longer ++ escaped rest) (sym c.in-Some.ensures.steps.0) ∙ c.loop-c.invariant)

pub returns-clause-text : goal.returns-clause-text
unfolding pointer_to
returns-clause-text c =
    let over : c.loop-c.c-iterator.rest.now ≡ [] = nil_from_length _ c.in-None.ensures.steps.0.0 in
    c.from_string.ensures ∙ sym (append-nil _) ∙ sym (ap (λ rest. string_bytes c.loop-c.longer ++ escaped rest) over) ∙ c.loop-c.invariant

pub returns-clause-reaches : goal.returns-clause-reaches
returns-clause-reaches c = rw (returns-clause-text c) (reaches_member c.args.pointer.now c.args.name.now)

use Rattle.std.proofs.Common.{◌≡◌, ◌≢◌, ◌++◌, [], sym, ◌∙◌, ap, append-nil, append_assoc, arith}
use Rattle.std.proofs.lemmas.List.{nil_from_length}
use Rattle.std.specs.Prelude.{string_bytes}
use Rattle.run_laws.specs.Plans.{spelled}
use Rattle.run_plan.proofs.Spelling.{spelled_char}
use Rattle.run_plan.proofs.log_file.spelled.Goals as goal

pub loop-c-preserved : goal.loop-c-preserved
loop-c-preserved c =
    let no_colon : c.in-Some.c ≢ 58 = omega arith in
    let no_slash : c.in-Some.c ≢ 47 = omega arith in
    rw (c.in_ok-push-in_default.ensures.bytes, append_assoc)
    (ap (λ l. string_bytes c.loop-c.name ++ l) (sym (spelled_char c.in-Some.c c.next.new.self.rest.now no_colon no_slash))
    ∙ ap (λ rest. string_bytes c.loop-c.name ++ spelled rest) (sym c.in-Some.ensures.steps.0) ∙ c.loop-c.invariant)

pub returns-clause-name : goal.returns-clause-name
returns-clause-name c =
    let over : c.loop-c.c-iterator.rest.now ≡ [] = nil_from_length _ c.in-None.ensures.steps.0.0 in
    sym (append-nil _) ∙ sym (ap (λ rest. string_bytes c.loop-c.name ++ spelled rest) over) ∙ c.loop-c.invariant

use Rattle.std.proofs.Common.{◌≡◌, ◌∷◌, ◌++◌, [], length, ap, arith, append_assoc}
use Rattle.std.proofs.lemmas.Grind.{common_steps}
use Rattle.std.specs.Str.{chars}
use Rattle.glob_syntax.specs.Marks.{quoted_mark, plain_mark}
use Rattle.glob_syntax.proofs.Marks.{marks_of-plain, length-chars-le}
use Rattle.glob_syntax.proofs.mark.read_marks.Goals as goal

pub overflow_add-at : goal.overflow_add-at
overflow_add-at c =
    let first = ap length c.in-Some.ensures.first in
    let next = ap length c.in-Some-quoted_by.ensures.quoted.1 in
    omega (arith, first, next, c.requires, c.loop-c.invariant.2, length-chars-le c.args.text.now c.utf8.text)

pub loop-c-preserved-in-Some-quoted_by : goal.loop-c-preserved-in-Some-quoted_by
loop-c-preserved-in-Some-quoted_by c =
    let quoted = c.in-Some-quoted_by.ensures.quoted in
    let pushed : c.push.new.self.items ≡ c.loop-c.marks.items ++ quoted_mark c.loop-c.at c.in-Some-quoted_by.character ∷ [] = grind (arith, common_steps) in
    let first = ap length c.in-Some.ensures.first in
    let next = ap length quoted.1 in
    (c.in-Some-quoted_by.ensures.text, rw (pushed, append_assoc) (rw (c.in-Some.ensures.first, quoted.1, quoted.0) at c.loop-c.invariant.1), omega (arith, first, next, c.loop-c.invariant.2))

pub overflow_add-at-in-None : goal.overflow_add-at-in-None
overflow_add-at-in-None c =
    let first = ap length c.in-Some.ensures.first in
    omega (arith, first, c.requires, c.loop-c.invariant.2, length-chars-le c.args.text.now c.utf8.text)

pub loop-c-preserved : goal.loop-c-preserved
loop-c-preserved c =
    let pushed : c.push-in-None.new.self.items ≡ c.loop-c.marks.items ++ plain_mark c.loop-c.at c.in-Some.c ∷ [] = grind (arith, common_steps) in
    let step = marks_of-plain c.loop-c.at c.in-Some.c (chars c.in-Some.behind.now) c.in-None.ensures.quoted in
    let first = ap length c.in-Some.ensures.first in
    (c.in-Some.ensures.text, rw (pushed, append_assoc) (rw (c.in-Some.ensures.first, step) at c.loop-c.invariant.1), omega (arith, first, c.loop-c.invariant.2))

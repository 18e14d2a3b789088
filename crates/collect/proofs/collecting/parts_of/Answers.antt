use Rattle.collect.proofs.collecting.parts_of.Goals as goal

pub returns-clause-value : goal.returns-clause-value
returns-clause-value c = rw (c.deref.ensures.value, c.deref-2.ensures.value, c.deref-3.ensures.value, c.as_slice.ensures) at c.all_parts.ensures.value

use Rattle.std.proofs.Common.{sym}
use Rattle.refusals.proofs.refusal_text.inside.Goals as goal

pub returns : goal.returns
returns c = record {
  text = rw (sym c.in_ok-inner.ensures.value, sym c.as_str-inner.ensures, sym c.in_ok-outer.ensures.value, sym c.as_str-outer.ensures) c.in_ok-format.ensures.ok;
}

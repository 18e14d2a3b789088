use Rattle.std.proofs.Common.{◌∙◌, sym, ap, Some}
use Rattle.serde_json.specs.View.{view}
use Rattle.json_view.specs.Answer.{data_of}
use Rattle.npm_lock.proofs.Shallow.{reading-shallow}
use Rattle.npm_lock.proofs.Answered.{reads_accepted}
use Rattle.npm_lock.proofs.lock.Lock.read.Goals as goal

pub from_value-requires : goal.from_value-requires
from_value-requires c = rw c.into_value-value.ensures (reading-shallow c.args.bytes.now (data_of c.in_ok-read.field-0) c.in_ok-read.ensures)

pub returns : goal.returns
returns c = reads_accepted c.args.bytes.now (view c.into_value-value.result) (c.in_ok-read.ensures ∙ ap Some (sym c.into_value-value.ensures)) c.from_value.result c.from_value.ensures

use Rattle.sha_lanes.proofs.Rows.{row_words}
use Rattle.sha_lanes.proofs.load.row.Goals as goal

pub returns : goal.returns
returns c = row_words c.args.bytes.now c.args.at c.requires c.type_inv.bytes

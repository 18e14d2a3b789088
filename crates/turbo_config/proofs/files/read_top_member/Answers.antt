use Rattle.key_table.specs.Entry.{entry_of}
use Rattle.turbo_config.proofs.Places.{top_key_has_place}
use Rattle.turbo_config.proofs.files.read_top_member.Goals as goal

pub read_global-requires : goal.read_global-requires
read_global-requires c = top_key_has_place c.args.name.now c.args.keys.now (entry_of c.in-Some.row) c.requires c.in-Some.ensures.found

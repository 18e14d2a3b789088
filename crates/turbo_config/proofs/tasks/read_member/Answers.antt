use Rattle.key_table.specs.Entry.{entry_of}
use Rattle.turbo_config.proofs.Places.{key_has_place}
use Rattle.turbo_config.proofs.tasks.read_member.Goals as goal

pub read_value-requires : goal.read_value-requires
read_value-requires c = key_has_place c.args.name.now c.args.keys.now (entry_of c.in-Some.row) c.requires c.in-Some.ensures.found

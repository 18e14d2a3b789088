-- An index by its fields.
use Rattle.std.specs.Prelude.{◌-◌, min, vec_len, vec_capacity}
use Rattle.std.specs.HashMap.{keys, spare}
use Rattle.print_index.specs.declared.index.PrintIndex.TheInside.{Inside}
use Rattle.print_index.specs.Index.{Index}
use Rattle.print_index.specs.Fields.{digests_in, Indexes}

abbrev pub index_in : Inside → Index
index_in a = record { digests = digests_in (keys a.last) a.earlier.items; room = min (spare a.last) (vec_capacity a.earlier - vec_len a.earlier) }

abbrev pub IsIndexed : Inside → Type 0
IsIndexed a = Indexes a.last a.earlier.items (digests_in (keys a.last) a.earlier.items)

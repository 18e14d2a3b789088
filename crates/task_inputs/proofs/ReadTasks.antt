-- Tasks that were read, and the files that they take.
use Rattle.std.proofs.Common.{◌≡◌, ◌∙◌, ◌<◌, List, [], ◌∷◌, length, get_or, refl, ap, arith}
use Rattle.std.specs.Prelude.{Option}
use Rattle.std.proofs.lemmas.Option.{slice_get-get_or}
use Rattle.rel_path.specs.Paths.{Path}
use Rattle.workspaces.specs.declared.member.Package.{Package}
use Rattle.task_inputs.specs.declared.definitions.DefinedTask.{DefinedTask}
use Rattle.input_entries.specs.declared.entries.InputList.{InputList}
use Rattle.task_inputs.specs.Facts.{IsRead, IsList}

pub task_read : (members : List Package) (t : DefinedTask) (folder copy : Path) (inputs : Option InputList) → t.owner < length members → ((d : Package) → folder ≡ (get_or members t.owner d).folder) → copy ≡ folder → IsList t.def.inputs inputs
    → IsRead members t (record { place = t.owner; folder = copy; inputs = inputs })
task_read members t folder copy inputs less its same list = by members refl less where
  by : (ps : List Package) → ps ≡ members → t.owner < length members → IsRead members t (record { place = t.owner; folder = copy; inputs = inputs })
  by [] e l = absurd (omega (arith, ap length e))
  by (d ∷ ps) e l = record {
    member = get_or members t.owner d;
    stands = slice_get-get_or members t.owner d l;
    place = refl;
    folder = same ∙ its d;
    inputs = list;
  }

-- What is left of a path below a folder is a path.
use Rattle.std.proofs.Common.{◌≡◌, [], ◌∷◌, ◌++◌, Bool, true, false, subst}
use Rattle.std.specs.Prelude.{Some, ◌&&◌, IsTrue}
use Rattle.std.specs.List.{list_all}
use Rattle.rel_path.specs.Paths.{Path, strip, AreNames, is_component}
use Rattle.rel_path.proofs.PathLaws.{strip_is}

and_behind : (a b : Bool) → IsTrue (a && b) → IsTrue b
and_behind true b e = e
and_behind false b e = cc

names_after : (folder rest : Path) → AreNames (folder ++ rest) → AreNames rest
names_after [] rest names = names
names_after (f ∷ fs) rest names = names_after fs rest (and_behind (is_component f) (list_all is_component (fs ++ rest)) names)

pub names_behind : (folder path rest : Path) → strip folder path ≡ Some rest → AreNames path → AreNames rest
names_behind folder path rest e names = names_after folder rest (subst AreNames (strip_is folder path rest e) names)

-- A set of numbers as a complete binary tree of flags.
use Rattle.std.specs.Prelude.{◌≡◌, ◌*◌, ◌^◌, ◌≤◌, Bool, List, length, drop}
use Rattle.run_core.specs.declared.place_set.PlaceSet.TheInside.{Inside}
use Rattle.run_core.specs.Trees.{AreRight, IsPower}

abbrev pub members : Inside → List Bool
members s = drop s.leaves s.flags.items

pub record IsTree (s : Inside) : Type 0 where
  pub power : IsPower s.leaves
  pub few : s.leaves ≤ 2 ^ 33
  pub nodes : length s.flags.items ≡ 2 * s.leaves
  pub right : AreRight s.flags.items

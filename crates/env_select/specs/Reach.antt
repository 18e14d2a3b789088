-- The names that a choice asks for, as the code tells them apart.
use Rattle.std.specs.Prelude.{ℕ, Bool, List}
use Rattle.env_select.specs.declared.choose.EnvMode.{EnvMode}
use Rattle.env_select.specs.declared.choose.EnvMode.TheVariants.{Strict, Loose}
use Rattle.env_select.specs.declared.choose.Reach.{Reach}
use Rattle.env_select.specs.declared.choose.Reach.TheVariants.{Listed, Known, All}
use Rattle.env_select.specs.Choice.{is_hashed, is_passed}

abbrev pub reach_of : EnvMode → Reach
reach_of Strict = Known
reach_of Loose = All

abbrev pub is_wanted : Reach → List (List ℕ) → List (List ℕ) → List ℕ → Bool
is_wanted Listed task global name = is_hashed task global name
is_wanted Known task global name = is_passed Strict task global name
is_wanted All task global name = is_passed Loose task global name

-- That the laws of pruned plans speak of some repository.
use Rattle.std.specs.Prelude.{◌≡◌, length}
use Rattle.pruned_files.specs.Pruned.{kept_packages}
use Rattle.prune_plans.specs.Laws.{Asked}

-- What these laws ask for holds together: of some repository of two packages, pruned for one of
-- them alone, and of an order for one task.
abbrev pub ExampleLaw : Type 0
ExampleLaw = (a : Asked)
    × (length a.contents.space.packages ≡ 2)
    × (length (kept_packages a.contents.space a.pruning.set) ≡ 1)
    × (length a.plan.ids ≡ 1)

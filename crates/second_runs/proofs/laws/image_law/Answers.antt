-- By what the images tell.
use Rattle.std.proofs.Common.{inl, inr, Bool, true, false, List, [], ℕ}
use Rattle.cache_runs.specs.Openings.{opening_at}
use Rattle.second_runs.specs.Images.{AddsBehind, adds}
use Rattle.second_runs.proofs.Reading.{adds_sound}
use Rattle.second_runs.proofs.Truth.{left_good}
use Rattle.second_runs.proofs.laws.image_law.Goals as goal

pub returns-clause-sound : goal.returns-clause-sound
returns-clause-sound c = adds_sound

-- with nothing behind them
as_more : (puts : Bool) (d c : List ℕ) → AddsBehind puts d c → AddsBehind true d c
as_more true d c behind = behind
as_more false d c (inl same) = inl same
as_more false d c (inr (pairs, stands, (more, told))) = inr (pairs, stands, ([], told))

pub returns-clause-more : goal.returns-clause-more
returns-clause-more c = as_more

pub returns-clause-truth : goal.returns-clause-truth
returns-clause-truth c is_dry puts book plan old steps pairs first left told good behind is =
    left_good (adds is_dry puts) plan (opening_at book old pairs) steps first left told good behind is

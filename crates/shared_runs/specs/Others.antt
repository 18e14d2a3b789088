-- What other runs put, and the frames that a file then has.
use Rattle.std.specs.Prelude.{◌-◌, ℕ, List, [], ◌++◌, map, Ok, Err}
use Rattle.rel_path.specs.Limits.{store_limit}
use Rattle.record_log.specs.Kinds.{Entry}
use Rattle.record_log.specs.Frames.{reading, ends}
use Rattle.cache_api.specs.Artifacts.{artifact}
use Rattle.cache_api.specs.Pairs.{Pair, pair_for}
use Rattle.pair_frames.specs.Puts.{added}
use Rattle.shared_runs.specs.declared.others.OtherPut.{OtherPut}

-- the pairs that are put
abbrev pub pairs_of : List OtherPut → List Pair
pairs_of puts = map (λ put. pair_for put.key (artifact put.artifact)) puts

-- these frames with those of pairs that are put behind them, where there is room
abbrev pub with_pairs : List Entry → List Pair → List Entry
with_pairs es pairs = es ++ added (store_limit - ends es) es pairs

-- the frames of a file with these bytes once the pairs were put, and none where it is no store
unfoldable pub frames_with : List ℕ → List Pair → List Entry
frames_with bytes pairs = elim (reading bytes) [ Ok es ↦ with_pairs es pairs | Err _ ↦ [] ]

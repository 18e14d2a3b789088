-- Results by what they say more weakly, and a board that has learned fingerprints.
use Rattle.std.proofs.Common.{◌≡◌, Result, Ok, Err}
use Rattle.std.specs.Prelude.{IfErr, OnOk, OnErr}
use Rattle.tree_dev.specs.Tree.{TreeState}
use Rattle.cache_api.specs.Cache.{CacheState}
use Rattle.spawn_dev.specs.declared.effect.Effect.{Effect}
use Rattle.spawn_dev.specs.Effects.{Seen}
use Rattle.spawn_dev.specs.Spawn.{Runs}
use Rattle.run_core.specs.Core.{states}
use Rattle.run_plan.specs.Reports.{report_in}
use Rattle.run_board.specs.declared.board.Board.{Board}
use Rattle.run_board.specs.Ahead.{HashesAhead}
use Rattle.run_board.specs.Progress.{now_of}
use Rattle.run_board.specs.Tables.{log_in}

pub ok-more : {T E P Q : Type 0} (result : Result T E) → (P → Q) → OnOk result P → OnOk result Q
ok-more (Ok v) to is = to is
ok-more (Err e) to is = tt

pub err-more : {T E : Type 0} (P Q : E → Type 0) (result : Result T E) → ((e : E) → P e → Q e)
    → IfErr result P → IfErr result Q
err-more P Q (Ok v) to is = tt
err-more P Q (Err e) to is = to e is

pub err-known : {T E P : Type 0} (Q : E → Type 0) (result : Result T E) → ((e : E) → P → Q e)
    → OnErr result P → IfErr result Q
err-known Q (Ok v) to is = tt
err-known Q (Err e) to is = to e is

-- what was learned is no part of how far the run is
pub now-ahead : {B R D : Type 0} (effect : B → Seen → Effect) (world : Runs B) (tree : TreeState R)
    (cache : CacheState D) (old new : Board) → HashesAhead old new
    → now_of new effect world tree cache ≡ now_of old effect world tree cache
now-ahead effect world tree cache old new ahead = λ i. record {
  states = states (ahead.core i);
  book = effect world.book;
  steps = world.steps;
  will = world.will;
  files = tree.files;
  pairs = cache.pairs;
  lasting = cache.lasting;
  room = cache.room;
  reports = report_in (ahead.reports i);
  logs = log_in (ahead.logs i);
  shown = ahead.shown i;
}

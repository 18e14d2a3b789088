-- A world in memory over a made repository, before anything was done.
use Rattle.std.specs.Prelude.{◌≡◌, ℕ, [], None, false}
use Rattle.rel_path.specs.Files.{FileMap}
use Rattle.spawn_dev.specs.MemWorld.{state_of, runs_of, turns_of, order_of, ends_of, waits_of}
use Rattle.spawn_dev.specs.Progress.{will_at}
use Rattle.spawn_dev.specs.declared.world.MemWorld.{MemWorld}
use Rattle.sample_repository.specs.Repository.{sample_rules}

-- A world with these files, in which the commands of n packages may run. Nothing was started, no
-- call of the world fails, and of the commands that run the first one ends first.
pub record IsFresh (n : ℕ) (files : FileMap) (world : MemWorld) : Type 0 where
  pub files_are : (state_of world).files ≡ files
  pub none_held : (state_of world).held ≡ (λ path. false)
  pub no_faults : (state_of world).faults ≡ 0
  pub runs_are : runs_of world ≡ record {
    book = sample_rules n;
    at = λ place. None;
    will = will_at [];
    steps = [];
    count = 0;
    faults = 0;
  }
  pub none_runs : order_of world ≡ []
  pub none_fails : (turns_of world).fails.items ≡ []
  pub no_calls : (turns_of world).next ≡ 0
  pub first_ends : ends_of world ≡ []
  pub no_waits : waits_of world ≡ 0

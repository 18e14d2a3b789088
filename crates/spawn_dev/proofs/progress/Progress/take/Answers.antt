use Rattle.std.proofs.Common.{◌≡◌, get_or, ap, sym, ◌∙◌}
use Rattle.std.specs.Prelude.{Some, None}
use Rattle.spawn_dev.specs.Effects.{no_effect}
use Rattle.spawn_dev.specs.Progress.{command_of, held_at, owned_once, own_files, runs_at, will_at}
use Rattle.spawn_dev.specs.RunningLaws.{distinct_remove, once_remove, known_here, known_remove, held_less, freed}
use Rattle.spawn_dev.specs.Spawn.{put_at}
use Rattle.spawn_dev.specs.declared.effect.Running.{Running}
use Rattle.spawn_dev.proofs.RunningLists.{owned_remove, owned_here}
use Rattle.spawn_dev.proofs.progress.Progress.take.Goals as goal

pub invariant_of-self : goal.invariant_of-self
invariant_of-self c =
    let old = c.args.self.now in
    record {
      distinct = rw c.remove.ensures.items (distinct_remove command_of old.running.items c.args.index c.requires old.distinct);
      apart = λ path. ap (λ xs. owned_once xs path) c.remove.ensures.items ∙ once_remove command_of old.running.items c.args.index path c.requires (old.apart path);
      owned = ap own_files c.remove.ensures.items ∙ owned_remove old.running.items c.args.index c.requires old.owned;
      started = old.started;
    }

pub returns-clause-ran : goal.returns-clause-ran
returns-clause-ran c =
    let old = c.args.self.now in
    let taken : get_or old.running.items c.args.index c.remove.result ≡ c.remove.result = sym c.remove.ensures.value in
    ap (λ (run : Running). runs_at old.running.items run.command.place) (sym taken)
    ∙ known_here command_of (λ run. Some run.command) None old.running.items c.args.index c.remove.result c.requires old.distinct ∙ ap (λ (run : Running). Some run.command) taken

pub returns-clause-runs : goal.returns-clause-runs
returns-clause-runs c =
    let old = c.args.self.now in
    let taken : get_or old.running.items c.args.index c.remove.result ≡ c.remove.result = sym c.remove.ensures.value in
    ap runs_at c.remove.ensures.items ∙ known_remove command_of (λ run. Some run.command) None old.running.items c.args.index c.remove.result c.requires old.distinct
    ∙ ap (λ (run : Running). put_at (runs_at old.running.items) run.command.place None) taken

pub returns-clause-did : goal.returns-clause-did
returns-clause-did c =
    let old = c.args.self.now in
    let taken : get_or old.running.items c.args.index c.remove.result ≡ c.remove.result = sym c.remove.ensures.value in
    ap (λ (run : Running). will_at old.running.items run.command.place) (sym taken)
    ∙ known_here command_of (λ run. run.effect) no_effect old.running.items c.args.index c.remove.result c.requires old.distinct ∙ ap (λ (run : Running). run.effect) taken

pub returns-clause-will : goal.returns-clause-will
returns-clause-will c =
    let old = c.args.self.now in
    let taken : get_or old.running.items c.args.index c.remove.result ≡ c.remove.result = sym c.remove.ensures.value in
    ap will_at c.remove.ensures.items ∙ known_remove command_of (λ run. run.effect) no_effect old.running.items c.args.index c.remove.result c.requires old.distinct
    ∙ ap (λ (run : Running). put_at (will_at old.running.items) run.command.place no_effect) taken

pub returns-clause-owned : goal.returns-clause-owned
returns-clause-owned c =
    let old = c.args.self.now in
    let taken : get_or old.running.items c.args.index c.remove.result ≡ c.remove.result = sym c.remove.ensures.value in
    rw taken at (owned_here old.running.items c.args.index c.remove.result c.requires old.owned)

pub returns-clause-held : goal.returns-clause-held
returns-clause-held c = λ path held.
    let old = c.args.self.now in
    held_less command_of old.running.items c.args.index path c.requires (ap (λ xs. held_at xs path) (sym c.remove.ensures.items) ∙ held)

pub returns-clause-freed : goal.returns-clause-freed
returns-clause-freed c = λ path held.
    let old = c.args.self.now in
    let taken : get_or old.running.items c.args.index c.remove.result ≡ c.remove.result = sym c.remove.ensures.value in
    rw taken at (freed command_of old.running.items c.args.index c.remove.result path c.requires (old.apart path) (ap (λ xs. held_at xs path) (sym c.remove.ensures.items) ∙ held))

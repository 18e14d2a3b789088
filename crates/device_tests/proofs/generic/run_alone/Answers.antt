use Rattle.std.proofs.Common.{◌≡◌, ◌∙◌, sym, ap, subst}
use Rattle.rel_path.specs.Files.{file_at, over}
use Rattle.globs.specs.OwnedFiles.{SameOutside}
use Rattle.spawn_dev.specs.declared.command.Command.{Command}
use Rattle.spawn_dev.specs.declared.effect.Effect.{Effect}
use Rattle.spawn_dev.specs.Effects.{seen_by}
use Rattle.spawn_dev.proofs.Alone.{alone, idle_again, held_nowhere, live_started}
use Rattle.device_tests.proofs.generic.run_alone.Goals as goal

pub start-requires-clause-reads : goal.start-requires-clause-reads
start-requires-clause-reads g c = λ path reads. held_nowhere (g.W.Spawner.runs c.args.world.now) path ((g.W.Tree.state c.args.world.now).held path) c.requires.idle (g.met.W.Spawner.held_by_running c.args.world.now path)

pub wait-requires : goal.wait-requires
wait-requires g c =
    record { busy = (c.args.command.place, live_started (g.W.Spawner.runs c.args.world.now).at (g.W.Spawner.runs c.start.new.self).at c.args.command c.in_ok-start.ensures.started.at) }

pub returns-in_err-ended-clause-idle : goal.returns-in_err-ended-clause-idle
returns-in_err-ended-clause-idle g c =
    let failed = c.in_err-ended.ensures.failed in
    idle_again (g.W.Spawner.runs c.args.world.now).at (g.W.Spawner.runs c.start.new.self).at (g.W.Spawner.runs c.wait.new.self).at c.args.command failed.1.command failed.0
    c.requires.idle c.in_ok-start.ensures.started.at failed.1.ran failed.1.at

pub returns-in_err-ended-clause-outside : goal.returns-in_err-ended-clause-outside
returns-in_err-ended-clause-outside g c =
    let failed = c.in_err-ended.ensures.failed in
    let same = (alone (g.W.Spawner.runs c.args.world.now).at (g.W.Spawner.runs c.start.new.self).at c.args.command failed.1.command failed.0 c.requires.idle c.in_ok-start.ensures.started.at failed.1.ran).1 in
    subst (λ files. SameOutside c.args.command.outs files (g.W.Tree.state c.wait.new.self).files) c.start.ensures.tree.files
    (subst (λ (command : Command). SameOutside command.outs (g.W.Tree.state c.start.new.self).files (g.W.Tree.state c.wait.new.self).files) same failed.1.outside)

pub returns-clause-idle : goal.returns-clause-idle
returns-clause-idle g c =
    let over = c.in_ok-ended.ensures.over in
    idle_again (g.W.Spawner.runs c.args.world.now).at (g.W.Spawner.runs c.start.new.self).at (g.W.Spawner.runs c.wait.new.self).at c.args.command over.command c.in_ok-ended.ended.place
    c.requires.idle c.in_ok-start.ensures.started.at over.ran over.at

pub returns-clause-place : goal.returns-clause-place
returns-clause-place g c =
    let over = c.in_ok-ended.ensures.over in
    (alone (g.W.Spawner.runs c.args.world.now).at (g.W.Spawner.runs c.start.new.self).at c.args.command over.command c.in_ok-ended.ended.place c.requires.idle c.in_ok-start.ensures.started.at over.ran).0

pub returns-clause-effect : goal.returns-clause-effect
returns-clause-effect g c = λ told.
    let over = c.in_ok-ended.ensures.over in
    let place = (alone (g.W.Spawner.runs c.args.world.now).at (g.W.Spawner.runs c.start.new.self).at c.args.command over.command c.in_ok-ended.ended.place c.requires.idle c.in_ok-start.ensures.started.at over.ran).0 in
    (c.in_ok-ended.ensures.ends told).status ∙ ap (λ p. ((g.W.Spawner.runs c.start.new.self).will p).status) place ∙ ap (λ (effect : Effect). effect.status) (c.in_ok-start.ensures.begins told).will

pub returns-clause-files : goal.returns-clause-files
returns-clause-files g c = λ told.
    let over_is = c.in_ok-ended.ensures.over in
    let place = (alone (g.W.Spawner.runs c.args.world.now).at (g.W.Spawner.runs c.start.new.self).at c.args.command over_is.command c.in_ok-ended.ended.place c.requires.idle c.in_ok-start.ensures.started.at over_is.ran).0 in
    (c.in_ok-ended.ensures.ends told).files
    ∙ ap (λ p. over (g.W.Tree.state c.start.new.self).files (file_at ((g.W.Spawner.runs c.start.new.self).will p).files)) place
    ∙ ap (λ (effect : Effect). over (g.W.Tree.state c.start.new.self).files (file_at effect.files)) (c.in_ok-start.ensures.begins told).will
    ∙ ap (λ files. over files (file_at (g.W.Spawner.effect (g.W.Spawner.runs c.args.world.now).book (seen_by c.args.command (g.W.Tree.state c.args.world.now).files)).files)) c.start.ensures.tree.files

pub returns-clause-outside : goal.returns-clause-outside
returns-clause-outside g c =
    let over = c.in_ok-ended.ensures.over in
    let same = (alone (g.W.Spawner.runs c.args.world.now).at (g.W.Spawner.runs c.start.new.self).at c.args.command over.command c.in_ok-ended.ended.place c.requires.idle c.in_ok-start.ensures.started.at over.ran).1 in
    subst (λ files. SameOutside c.args.command.outs files (g.W.Tree.state c.wait.new.self).files) c.start.ensures.tree.files
    (subst (λ (command : Command). SameOutside command.outs (g.W.Tree.state c.start.new.self).files (g.W.Tree.state c.wait.new.self).files) same over.outside)

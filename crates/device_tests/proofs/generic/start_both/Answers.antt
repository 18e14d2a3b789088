use Rattle.std.proofs.Common.{◌≡◌, ◌∙◌, sym, ap, cond}
use Rattle.std.specs.Prelude.{Some, is_some}
use Rattle.globs.specs.Outputs.{takes}
use Rattle.spawn_dev.proofs.Alone.{alone}
use Rattle.spawn_dev.specs.Effects.{may_read}
use Rattle.device_tests.proofs.generic.start_both.Goals as goal

pub start-requires-clause-clear : goal.start-requires-clause-clear
start-requires-clause-clear g c = λ place other at path owned. absurd (let none = c.requires.idle place in let some = ap is_some at in cc)

pub start-requires-clause-reads : goal.start-requires-clause-reads
start-requires-clause-reads g c = λ path reads. absurd (let none = c.requires.reads.0 path in cc)

pub start-requires-2-clause-fresh : goal.start-requires-2-clause-fresh
start-requires-2-clause-fresh g c =
    let old = g.W.Spawner.runs c.args.world.now in
    ap (λ f. is_some (f c.args.second.place)) c.in_ok-start.ensures.started.at ∙ ap (λ b. is_some (cond b (Some c.args.first) (old.at c.args.second.place))) c.requires.places ∙ c.requires.idle c.args.second.place

pub start-requires-2-clause-absent : goal.start-requires-2-clause-absent
start-requires-2-clause-absent g c = λ told path owned. ap (λ files. files path) c.start.ensures.tree.files ∙ (c.requires.absent told).1 path owned

pub start-requires-2-clause-clear : goal.start-requires-2-clause-clear
start-requires-2-clause-clear g c = λ place other at path owned.
    let same = (alone (g.W.Spawner.runs c.args.world.now).at (g.W.Spawner.runs c.start.new.self).at c.args.first other place c.requires.idle c.in_ok-start.ensures.started.at at).1 in
    (ap (λ command. takes command.outs path) same ∙ c.requires.apart path owned, ap (λ command. may_read command path) same ∙ c.requires.reads.0 path)

pub start-requires-2-clause-reads : goal.start-requires-2-clause-reads
start-requires-2-clause-reads g c = λ path reads. absurd (let none = c.requires.reads.1 path in cc)

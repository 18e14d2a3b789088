use Rattle.std.proofs.Common.{◌≡◌, ◌<◌, arith}
use Rattle.std.proofs.lemmas.List.{get_or_read}
use Rattle.run_core.proofs.Views.{inward, outward}
use Rattle.run_core.proofs.scheduler.Core.state.Goals as goal

pub index-requires : goal.index-requires
index-requires c =
    let s = c.self.inside in
    let below = inward s.deps.items s.commands.items s.width s.mode (λ g st. c.args.t < g.size) s.states.items c.args.self.now c.self.view_is c.requires in
    omega (arith, below, c.self.invariant.state_count, s.states.ok.0)

pub returns : goal.returns
returns c =
    let s = c.self.inside in
    let below = inward s.deps.items s.commands.items s.width s.mode (λ g st. c.args.t < g.size) s.states.items c.args.self.now c.self.view_is c.requires in
    outward s.deps.items s.commands.items s.width s.mode (λ g st. c.index.result.now ≡ st c.args.t) s.states.items c.args.self.now c.self.view_is
    (get_or_read s.states.items c.args.t _ (omega (arith, below, c.self.invariant.state_count)) c.index.ensures _)

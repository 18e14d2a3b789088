use Rattle.std.proofs.Common.{◌++◌, ◌∷◌, [], subst}
use Rattle.task_graph.proofs.Fronts.{Reaching, reaching_more}
use Rattle.task_graph.proofs.reached.reached.Goals as goal

pub loop-turn-preserved : goal.loop-turn-preserved
loop-turn-preserved c =
    let space = c.args.packages.now in
    let config = c.args.config.now in
    let starts = c.args.starts.now in
    let front = c.loop-turn.front in
    let before : Reaching space config starts front.rows.entries (c.pop.new.self.items ++ c.in-Some.task ∷ []) = subst (Reaching space config starts front.rows.entries) c.in-Some.ensures.items c.loop-turn.invariant in
    reaching_more space config starts front.rows.entries c.pop.new.self.items c.in-Some.task c.visit.new.front.rows.entries c.visit.new.front.waiting.items before c.in_ok-visit.ensures.visits

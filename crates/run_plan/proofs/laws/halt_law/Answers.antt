use Rattle.run_plan.proofs.Stopping.{halt-law}
use Rattle.run_plan.proofs.laws.halt_law.Goals as goal

pub returns : goal.returns
returns c = halt-law (record {
  laws = record {
    runs = c.run_law.ensures;
    keys = c.keys_law.ensures;
    found = c.found_law.ensures;
    hit = c.hit_law.ensures;
    effects = c.effect_law.ensures;
    files = c.artifact_law.ensures.files;
    ordered = c.closure_is_valid.ensures.ordered;
    core = c.run_law-2.ensures;
    next = c.next_law.ensures;
  };
  due = c.due_law.ensures;
  shows = c.shows_law.ensures;
})

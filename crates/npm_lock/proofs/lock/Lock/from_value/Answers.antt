use Rattle.std.proofs.Common.{◌≡◌, subst, map, codes}
use Rattle.serde_json.specs.Find.{get}
use Rattle.serde_json.specs.View.{view}
use Rattle.npm_lock.specs.Externals.{texts_in}
use Rattle.npm_lock.specs.Finds.{found_by}
use Rattle.npm_lock.proofs.lock.Lock.from_value.Goals as goal

pub invariant_of-result : goal.invariant_of-result
invariant_of-result c = record {
  accepted = c.in_ok-entries.ensures.entries.0;
  shallow = c.requires;
  read = c.in_ok-entries.ensures.entries.1;
  found = subst (λ es. c.in_ok-finds.finds.items ≡ map (found_by es) es) c.as_slice.ensures.value c.in_ok-finds.ensures.found;
  printed = subst (λ es. c.in_ok-texts.texts ≡ texts_in (get (codes "packages") (view c.args.value)) es) c.as_slice-2.ensures.value c.in_ok-texts.ensures;
  ascend = c.in_ok-entries.ensures.ascend;
  few = c.in_ok-entries.ensures.few;
}

use Rattle.std.proofs.Common.{◌++◌, ◌∙◌, List, ap}
use Rattle.rel_path.specs.Paths.{Path}
use Rattle.ignore_rules.specs.declared.rule.Rule.{Rule}
use Rattle.ignore_rules.proofs.Folders.{rules_added}
use Rattle.ignore_rules.proofs.stack.add.Goals as goal
use Rattle.ignore_rules.proofs.stack.add.Goals.{in-Some+in_ok-all-in-Some, in-None}

pub returns : goal.returns
returns c = λ folder.
    let parts = c.into_parts-folder.ensures in
    let own = ap (λ (p : Path × List Rule). p.0) parts in
    let more = ap (λ (p : Path × List Rule). p.1) parts in
    let rest = rw (c.as_slice.ensures.value, own) at c.remove.ensures.entries in
    let value = rw (c.as_slice.ensures.value, own) at c.remove.ensures.value in
    let add = rules_added folder c.args.file.0 c.args.files.now.entries c.remove.new.self.entries c.insert.new.self.entries c.into_parts-folder.result.0 c.match-remove.all c.args.file.1 own rest c.in_ok-insert.ensures.entries in
    elim c.match-remove.branch [
      | in-Some+in_ok-all-in-Some w ↦ add (rw (w.all-is, ← value, w.in-Some.is) (w.in_ok-all-in-Some.ensures ∙ ap (λ rules. w.in-Some.before.items ++ rules) more))
      | in-None w ↦ add (rw (w.all-is, ← value, w.in-None.is) more)
    ]

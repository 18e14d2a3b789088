use Rattle.std.proofs.Common.{◌≡◌, ◌∙◌, [], sym, true, false}
use Rattle.repository.specs.Reading.{contents_of}
use Rattle.kept_packages.specs.Kept.{has_root_task}
use Rattle.kept_packages.specs.Needs.{Gains, Leads, NeedsOne}
use Rattle.kept_packages.proofs.Needing.{needs_with, needs_without}
use Rattle.kept_packages.proofs.needs.needs_of.Goals as goal
use Rattle.kept_packages.proofs.needs.needs_of.Goals.{then-known+in_ok-add_givers, else-known}

pub returns-clause-needs : goal.returns-clause-needs
returns-clause-needs c =
    let contents = contents_of c.args.repository.now in
    let users = c.args.users.now in
    let first = c.add_all_needs.new.found.items in
    let one : Gains contents.space (Leads contents.space (NeedsOne contents) users) [] first = rw (c.as_slice.ensures, c.new-needs.ensures.items) at c.in_ok-add_all_needs.ensures.added in
    elim c.if-known.branch [
      | then-known+in_ok-add_givers w ↦
          let files : has_root_task contents ≡ true = sym c.requires.known.files ∙ w.if-known.true in
          rw w.needs-is (needs_with contents users [] first w.add_givers.new.found.items files one w.in_ok-add_givers.ensures.added)
      | else-known w ↦
          let files : has_root_task contents ≡ false = sym c.requires.known.files ∙ w.if-known.false in
          rw w.needs-is (needs_without contents users [] first files one)
    ]

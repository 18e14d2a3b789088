-- By what the repository is, and what pruning answers.
use Rattle.std.proofs.Common.{◌≡◌, ◌∙◌, List, ◌++◌, ℕ, inl, inr, refl, sym, ap, subst, Ok, Err, arith}
use Rattle.rel_path.specs.Paths.{Path}
use Rattle.rel_path.specs.Files.{FileMap}
use Rattle.rel_path.specs.Causes.{Counts}
use Rattle.refusals.specs.Stops.{is_failed}
use Rattle.refusals.specs.declared.stop.Stop.{Stop}
use Rattle.refusals.specs.declared.stop.Stop.TheVariants as stops
use Rattle.repository.specs.Reading.{Contents, contents_of, Means}
use Rattle.repository.specs.Answers.{Reads}
use Rattle.refusals.specs.Refusals.{line_of, refusal_text}
use Rattle.prune.specs.Answers.{Leaves, Prunes}
use Rattle.answers.specs.Answers.{HasCauseIn, counts_of}
use Rattle.answers.specs.Facts.{not_done, if_refused, if_fault}
use Rattle.answers.specs.Stops.{raised}
use Rattle.prune_orders.proofs.Refused.{refused_in, left_in, unread_only, pruned_only, refused_only}
use Rattle.prune_orders.proofs.Stopping.{both_refused, early_prune, fault_prune, refused_silent}
use Rattle.prune_orders.proofs.orders.prune_order.Goals as goal

-- ---- the repository was not read

pub returns-in-Err-clause-pruned : goal.returns-in-Err-clause-pruned
returns-in-Err-clause-pruned g c told = not_done c.tell_stop.result _ c.tell_stop.ensures.not_done

pub returns-in-Err-clause-refused : goal.returns-in-Err-clause-refused
returns-in-Err-clause-refused g c told =
    let files = (g.T.Tree.state c.args.tree.now).files in
    if_refused c.tell_stop.result _ _ (λ reason is. inl (subst (λ stop. Reads files (Err stop)) is (c.in-Err.ensures.reads told))) c.tell_stop.ensures.refused

pub returns-in-Err-clause-only : goal.returns-in-Err-clause-only
returns-in-Err-clause-only g c told reason refused =
    let files = (g.T.Tree.state c.args.tree.now).files in (
      c.tell_stop.ensures.not_done,
      if_refused c.tell_stop.result _ _
          (λ other is. unread_only c.repository_law.ensures c.once_law.ensures c.args.targets.now files reason other refused (subst (λ stop. Reads files (Err stop)) is (c.in-Err.ensures.reads told)))
          c.tell_stop.ensures.refused,
    )

pub returns-in-Err-clause-untouched : goal.returns-in-Err-clause-untouched
returns-in-Err-clause-untouched g c told = if_refused c.tell_stop.result _ _ (λ reason is. inl c.in-Err.ensures.looks.files) c.tell_stop.ensures.refused

pub returns-in-Err-clause-stopped : goal.returns-in-Err-clause-stopped
returns-in-Err-clause-stopped g c told heard =
    let files = (g.T.Tree.state c.args.tree.now).files in
    if_fault c.tell_stop.result _ _
    (early_prune c.args.targets.now files (λ reason. c.in-Err.stop ≡ stops.Refused reason)
    (λ reason is. inl (subst (λ stop. Reads files (Err stop)) is (c.in-Err.ensures.reads told)))
    (g.K.Sink.written c.args.out.now) (g.K.Sink.written c.tell_stop.new.out))
    (c.tell_stop.ensures.stopped heard)

pub returns-in-Err-clause-keeps : goal.returns-in-Err-clause-keeps
returns-in-Err-clause-keeps g c = let looks = c.in-Err.ensures.looks in record { rest = looks.rest; held = looks.held; faults = looks.faults }

pub returns-in-Err-clause-elsewhere : goal.returns-in-Err-clause-elsewhere
returns-in-Err-clause-elsewhere g c told path out = ap (λ (files : FileMap). files path) c.in-Err.ensures.looks.files

pub returns-in-Err-clause-cause : goal.returns-in-Err-clause-cause
returns-in-Err-clause-cause g c store start =
    let before = (g.T.Tree.state c.args.tree.now).faults in
    let after = (g.T.Tree.state c.read_repository.new.tree).faults in
    let counts : Counts {T = Unit {0}} is_failed before after (raised c.in-Err.stop) = record { later = c.in-Err.ensures.cause.later; counted = c.in-Err.ensures.cause.counted } in
    c.tell_stop.ensures.cause before after store start counts

-- ---- it was pruned

pub returns-in-Ok-prune-clause-pruned : goal.returns-in-Ok-prune-clause-pruned
returns-in-Ok-prune-clause-pruned g c told =
    let contents = contents_of c.in-Ok.repository in
    let after = (g.T.Tree.state c.prune.new.tree).files in
    record {
      contents = contents;
      means = c.in-Ok.ensures.reads told;
      prunes = subst (λ (files : FileMap). Prunes c.args.docker contents c.args.targets.now files after) c.in-Ok.ensures.looks.files (c.in-Ok-prune.ensures.leaves told);
      page_is = λ heard. c.in-Ok-prune.ensures.prints heard;
      status_is = refl;
    }

pub returns-in-Ok-prune-clause-only : goal.returns-in-Ok-prune-clause-only
returns-in-Ok-prune-clause-only g c told reason refused =
    let contents = contents_of c.in-Ok.repository in
    let files = (g.T.Tree.state c.args.tree.now).files in
    let after = (g.T.Tree.state c.prune.new.tree).files in
    let done = subst (λ (fs : FileMap). Prunes c.args.docker contents c.args.targets.now fs after) c.in-Ok.ensures.looks.files (c.in-Ok-prune.ensures.leaves told) in
    absurd (pruned_only c.repository_law.ensures c.once_law.ensures c.args.targets.now files contents (c.in-Ok.ensures.reads told) reason refused
    (record { begins = done.begins; pruning = done.pruning; is = done.is; small = done.small }))

pub returns-in-Ok-prune-clause-keeps : goal.returns-in-Ok-prune-clause-keeps
returns-in-Ok-prune-clause-keeps g c =
    let looks = c.in-Ok.ensures.looks in
    let keeps = c.in-Ok-prune.ensures.keeps in
    record { rest = keeps.rest ∙ looks.rest; held = keeps.held ∙ looks.held; faults = omega (arith, looks.faults, keeps.faults) }

pub returns-in-Ok-prune-clause-elsewhere : goal.returns-in-Ok-prune-clause-elsewhere
returns-in-Ok-prune-clause-elsewhere g c told path out =
    c.in-Ok-prune.ensures.elsewhere told path out ∙ ap (λ (files : FileMap). files path) c.in-Ok.ensures.looks.files

pub returns-in-Ok-prune-clause-cause : goal.returns-in-Ok-prune-clause-cause
returns-in-Ok-prune-clause-cause g c store start =
    let same = c.in-Ok-prune.ensures.cause in
    let tree = ap (λ counts. counts.tree) same ∙ c.in-Ok.ensures.cause.counted in
    let sink = ap (λ counts. counts.sink) same in
    λ j. counts_of (tree j) store start (sink j)

-- ---- it was not

pub returns-clause-pruned : goal.returns-clause-pruned
returns-clause-pruned g c told = not_done c.stopped.result _ c.stopped.ensures.not_done

pub returns-clause-refused : goal.returns-clause-refused
returns-clause-refused g c told =
    let contents = contents_of c.in-Ok.repository in
    let files = (g.T.Tree.state c.args.tree.now).files in
    let after = (g.T.Tree.state c.prune.new.tree).files in
    let leaves = subst (λ (fs : FileMap). Leaves c.args.docker contents c.args.targets.now fs after (Err c.in-Err-prune.fault)) c.in-Ok.ensures.looks.files (c.in-Err-prune.ensures.leaves told) in
    if_refused c.stopped.result _ _
    (λ reason is. inr (contents, c.in-Ok.ensures.reads told, refused_in c.args.docker contents c.args.targets.now files after c.in-Err-prune.fault leaves reason is))
    c.stopped.ensures.refused

pub returns-clause-only : goal.returns-clause-only
returns-clause-only g c told reason refused =
    let contents = contents_of c.in-Ok.repository in
    let files = (g.T.Tree.state c.args.tree.now).files in
    let after = (g.T.Tree.state c.prune.new.tree).files in
    let leaves = subst (λ (fs : FileMap). Leaves c.args.docker contents c.args.targets.now fs after (Err c.in-Err-prune.fault)) c.in-Ok.ensures.looks.files (c.in-Err-prune.ensures.leaves told) in (
      c.stopped.ensures.not_done,
      if_refused c.stopped.result _ _
          (λ other is. refused_only c.repository_law.ensures c.once_law.ensures c.args.targets.now files contents (c.in-Ok.ensures.reads told) reason other refused
          (refused_in c.args.docker contents c.args.targets.now files after c.in-Err-prune.fault leaves other is))
          c.stopped.ensures.refused,
    )

pub returns-clause-untouched : goal.returns-clause-untouched
returns-clause-untouched g c told =
    let contents = contents_of c.in-Ok.repository in
    let files = (g.T.Tree.state c.args.tree.now).files in
    let after = (g.T.Tree.state c.prune.new.tree).files in
    let leaves = subst (λ (fs : FileMap). Leaves c.args.docker contents c.args.targets.now fs after (Err c.in-Err-prune.fault)) c.in-Ok.ensures.looks.files (c.in-Err-prune.ensures.leaves told) in
    if_refused c.stopped.result _ _ (left_in c.args.docker contents c.args.targets.now files after (c.in-Ok.ensures.reads told) c.in-Err-prune.fault leaves) c.stopped.ensures.refused

pub returns-clause-stopped : goal.returns-clause-stopped
returns-clause-stopped g c told heard =
    let contents = contents_of c.in-Ok.repository in
    let files = (g.T.Tree.state c.args.tree.now).files in
    let after = (g.T.Tree.state c.prune.new.tree).files in
    let means = c.in-Ok.ensures.reads told in
    let leaves = subst (λ (fs : FileMap). Leaves c.args.docker contents c.args.targets.now fs after (Err c.in-Err-prune.fault)) c.in-Ok.ensures.looks.files (c.in-Err-prune.ensures.leaves told) in
    if_fault c.stopped.result _ _
    (fault_prune c.args.targets.now files contents means c.in-Err-prune.fault
    (λ reason is. inr (contents, means, refused_in c.args.docker contents c.args.targets.now files after c.in-Err-prune.fault leaves reason is))
    (g.K.Sink.written c.args.out.now) (g.K.Sink.written c.prune.new.out) (g.K.Sink.written c.stopped.new.out) (c.in-Err-prune.ensures.prints heard))
    (c.stopped.ensures.told heard)

pub returns-clause-keeps : goal.returns-clause-keeps
returns-clause-keeps g c =
    let looks = c.in-Ok.ensures.looks in
    let keeps = c.in-Err-prune.ensures.keeps in
    record { rest = keeps.rest ∙ looks.rest; held = keeps.held ∙ looks.held; faults = omega (arith, looks.faults, keeps.faults) }

pub returns-clause-elsewhere : goal.returns-clause-elsewhere
returns-clause-elsewhere g c told path out =
    c.in-Err-prune.ensures.elsewhere told path out ∙ ap (λ (files : FileMap). files path) c.in-Ok.ensures.looks.files

pub returns-clause-cause : goal.returns-clause-cause
returns-clause-cause g c store start =
    let sink = g.K.Sink.faults c.args.out.now in
    let now = g.K.Sink.faults c.stopped.new.out in
    let after = (g.T.Tree.state c.prune.new.tree).faults in
    subst (λ tree. HasCauseIn (counts_of tree store start sink) (counts_of after store start now) c.stopped.result) c.in-Ok.ensures.cause.counted
    (c.stopped.ensures.cause (g.T.Tree.state c.read_repository.new.tree).faults store after start sink c.in-Err-prune.ensures.cause)

pub returns-clause-line : goal.returns-clause-line
returns-clause-line g c heard =
    let before = g.K.Sink.written c.args.out.now in
    let after = g.K.Sink.written c.stopped.new.out in
    both_refused c.stopped.result _ _ _
    (λ reason is line. line ∙ ap (λ printed. printed ++ line_of (refusal_text reason))
    (refused_silent (contents_of c.in-Ok.repository) c.args.targets.now c.in-Err-prune.fault before (g.K.Sink.written c.prune.new.out) (c.in-Err-prune.ensures.prints heard) reason is))
    c.stopped.ensures.refused (c.stopped.ensures.line heard)

use Rattle.std.proofs.Common.{◌≡◌, ◌∙◌, subst, Ok, Err}
use Rattle.std.specs.Option.{option_map}
use Rattle.serde_json.specs.View.{view}
use Rattle.rel_path.specs.Files.{FileMap}
use Rattle.workspaces.specs.Space.{space_of}
use Rattle.repository.specs.Reading.{lockfile, setup_in}
use Rattle.repository.specs.Answers.{Stops, AnswersWalk, AnswersSpace}
use Rattle.repository.proofs.Whole.{stop_walk, stop_packages, stop_setup, whole}
use Rattle.repository.proofs.reading.read_repository.Goals as goal

pub returns-in-Err-walked-clause-reads : goal.returns-in-Err-walked-clause-reads
returns-in-Err-walked-clause-reads g c = λ told.
    let files = (g.T.Tree.state c.args.tree.now).files in
    let root = c.in-Ok.ensures in
    let lock = c.in-Ok-lockfile.ensures in
    let after_lock : (g.T.Tree.state c.lockfile.new.tree).files ≡ files = lock.looks.files ∙ root.looks.files in
    let is_lock = subst (λ (fs : FileMap). lockfile fs ≡ Ok (option_map view c.in-Ok-lockfile.lock)) root.looks.files (lock.answers told) in
    stop_walk files c.in-Ok.root (root.answers told) (option_map view c.in-Ok-lockfile.lock) is_lock c.in-Err-walked.e (subst (λ (fs : FileMap). AnswersWalk fs (Err c.in-Err-walked.e)) after_lock (c.in-Err-walked.ensures.answers told))

pub returns-in-Err-space_of-clause-reads : goal.returns-in-Err-space_of-clause-reads
returns-in-Err-space_of-clause-reads g c = λ told.
    let files = (g.T.Tree.state c.args.tree.now).files in
    let root = c.in-Ok.ensures in
    let lock = c.in-Ok-lockfile.ensures in
    let after_lock : (g.T.Tree.state c.lockfile.new.tree).files ≡ files = lock.looks.files ∙ root.looks.files in
    let is_lock = subst (λ (fs : FileMap). lockfile fs ≡ Ok (option_map view c.in-Ok-lockfile.lock)) root.looks.files (lock.answers told) in
    let walk = c.in-Ok-walked.ensures in
    let after_walk : (g.T.Tree.state c.walked.new.tree).files ≡ files = walk.looks.files ∙ after_lock in
    let is_walk = subst (λ (fs : FileMap). AnswersWalk fs (Ok c.in-Ok-walked.walk)) after_lock (walk.answers told) in
    stop_packages files c.in-Ok.root (root.answers told) (option_map view c.in-Ok-lockfile.lock) is_lock c.in-Ok-walked.walk is_walk c.in-Err-space_of.e (subst (λ (fs : FileMap). AnswersSpace (space_of fs c.in-Ok-walked.walk c.in-Ok.root) (Err c.in-Err-space_of.e)) after_walk (c.in-Err-space_of.ensures.answers told))

pub returns-in-Err-setup_in-clause-reads : goal.returns-in-Err-setup_in-clause-reads
returns-in-Err-setup_in-clause-reads g c = λ told.
    let files = (g.T.Tree.state c.args.tree.now).files in
    let root = c.in-Ok.ensures in
    let lock = c.in-Ok-lockfile.ensures in
    let after_lock : (g.T.Tree.state c.lockfile.new.tree).files ≡ files = lock.looks.files ∙ root.looks.files in
    let is_lock = subst (λ (fs : FileMap). lockfile fs ≡ Ok (option_map view c.in-Ok-lockfile.lock)) root.looks.files (lock.answers told) in
    let walk = c.in-Ok-walked.ensures in
    let after_walk : (g.T.Tree.state c.walked.new.tree).files ≡ files = walk.looks.files ∙ after_lock in
    let is_walk = subst (λ (fs : FileMap). AnswersWalk fs (Ok c.in-Ok-walked.walk)) after_lock (walk.answers told) in
    let space = c.in-Ok-space_of.ensures in
    let after_space : (g.T.Tree.state c.space_of.new.tree).files ≡ files = space.looks.files ∙ after_walk in
    let is_space = subst (λ (fs : FileMap). space_of fs c.in-Ok-walked.walk c.in-Ok.root ≡ Ok c.in-Ok-space_of.packages) after_walk (space.answers told) in
    stop_setup files c.in-Ok.root (root.answers told) (option_map view c.in-Ok-lockfile.lock) is_lock c.in-Ok-walked.walk is_walk c.in-Ok-space_of.packages is_space c.in-Err-setup_in.e (subst (λ (fs : FileMap). Stops (setup_in fs c.in-Ok-space_of.packages.packages) c.in-Err-setup_in.e) after_space (c.in-Err-setup_in.ensures.answers told))

pub returns-in-Ok-setup_in-clause-reads : goal.returns-in-Ok-setup_in-clause-reads
returns-in-Ok-setup_in-clause-reads g c = λ told.
    let files = (g.T.Tree.state c.args.tree.now).files in
    let root = c.in-Ok.ensures in
    let lock = c.in-Ok-lockfile.ensures in
    let after_lock : (g.T.Tree.state c.lockfile.new.tree).files ≡ files = lock.looks.files ∙ root.looks.files in
    let is_lock = subst (λ (fs : FileMap). lockfile fs ≡ Ok (option_map view c.in-Ok-lockfile.lock)) root.looks.files (lock.answers told) in
    let walk = c.in-Ok-walked.ensures in
    let after_walk : (g.T.Tree.state c.walked.new.tree).files ≡ files = walk.looks.files ∙ after_lock in
    let is_walk = subst (λ (fs : FileMap). AnswersWalk fs (Ok c.in-Ok-walked.walk)) after_lock (walk.answers told) in
    let space = c.in-Ok-space_of.ensures in
    let after_space : (g.T.Tree.state c.space_of.new.tree).files ≡ files = space.looks.files ∙ after_walk in
    let is_space = subst (λ (fs : FileMap). space_of fs c.in-Ok-walked.walk c.in-Ok.root ≡ Ok c.in-Ok-space_of.packages) after_walk (space.answers told) in
    whole files c.in-Ok.root (root.answers told) (option_map view c.in-Ok-lockfile.lock) is_lock c.in-Ok-walked.walk is_walk c.in-Ok-space_of.packages is_space c.in-Ok-setup_in.config (subst (λ (fs : FileMap). setup_in fs c.in-Ok-space_of.packages.packages ≡ Ok c.in-Ok-setup_in.config) after_space (c.in-Ok-setup_in.ensures.answers told))

use Rattle.std.proofs.Common.{◌≡◌, ◌∙◌, ℕ, List, filter, sym, ap, subst}
use Rattle.rel_path.specs.Paths.{Path}
use Rattle.repository.specs.Reading.{contents_of}
use Rattle.pruned_files.specs.Calls.{owners_at, Knows, stays}
use Rattle.pruned_files.proofs.Stays.{picked_are}
use Rattle.pruned_files.proofs.staying.pruned_paths.Goals as goal

pub returns-clause-paths : goal.returns-clause-paths
returns-clause-paths c =
    let contents = contents_of c.args.repository.now in let members = owners_at c.args.repository.now.packages c.args.kept.now in
    let knows : Knows contents members c.in_ok-known.known = subst (λ (ns : List ℕ). Knows contents (owners_at c.args.repository.now.packages ns) c.in_ok-known.known) c.as_slice.ensures c.in_ok-known.ensures.knows in
    picked_are contents c.args.kept.now c.in_ok-rooted.rooted c.in_ok-paths.paths c.in_ok-rooted.ensures.rooted
    (λ test are. subst (λ (w : List Path). c.in_ok-paths.paths ≡ filter (stays contents members test) w) c.as_slice-3.ensures
    (c.in_ok-paths.ensures.value contents members test knows (c.as_slice-2.ensures ∙ are ∙ ap (filter test) (sym c.as_slice-3.ensures))))

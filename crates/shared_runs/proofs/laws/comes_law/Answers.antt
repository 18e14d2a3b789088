use Rattle.std.proofs.Common.{◌≡◌, suc, max, false, List, ◌++◌, sym, ◌∙◌, ap, subst}
use Rattle.std.proofs.Common.{append_assoc, arith}
use Rattle.std.specs.Prelude.{◌==◌, ◌∷◌}
use Rattle.std.proofs.lemmas.Bool.{ne_eqb}
use Rattle.cache_api.specs.Pairs.{Pair}
use Rattle.shared_views.specs.Machine.Event.{Enter}
use Rattle.shared_views.specs.Histories.{IsHistory}
use Rattle.shared_views.proofs.Coming.{unused, brought, brought-apart, brought-added}
use Rattle.shared_views.proofs.Coming.{brought-history}
use Rattle.shared_runs.specs.Shared.{file_of, frames_in, coming_in}
use Rattle.shared_runs.specs.Steps.{events_in}
use Rattle.shared_runs.specs.Views.{pairs_at}
use Rattle.shared_runs.proofs.Passed.{pairs_start}
use Rattle.shared_runs.proofs.laws.comes_law.Goals as goal

pub returns : goal.returns
returns g c h s f told =
    let starts = g.met.H.Shared.stays s.turns.shared told (s.sees told).sound in
    let (more, pairs) = pairs_start (frames_in s) (coming_in s) starts in
    let (n, above) = unused (events_in h) in
    let j = max n (suc h.run) in
    let other : (j == h.run) ≡ false = ne_eqb j h.run (λ same. absurd (omega (arith, same))) in (
      brought j more,
      record {
        history = subst IsHistory (append_assoc h.earlier (Enter h.run ∷ h.later) (brought j more))
            (brought-history (events_in h) more j (above j (omega arith)) f.history);
        apart = brought-apart h.run j more other;
        pairs = pairs ∙ ap (λ (l : List Pair). pairs_at (file_of s) ++ l)
            (sym (brought-added j more));
      },
    )

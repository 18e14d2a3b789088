-- The tests of an output set decide its relations.
use Rattle.std.proofs.Common.{◌≡◌, ◌≢◌, ◌↔◌, ◌++◌, ◌&&◌, ℕ, not, List, Option, Some, None, refl, sym, ◌∙◌, ap, IsTrue, MatchOption}
use denote.Bor.{Bor}
use Rattle.rel_path.specs.Paths.{Path, strip}
use Rattle.rel_path.proofs.PathLaws.{strip_is, strip_append}
use Rattle.wildcards.proofs.Decides.{and_decides}
use Rattle.globs.specs.declared.out_set.OutSet.{OutSet}
use Rattle.globs.specs.Lists.{Takes, list_takes}
use Rattle.globs.specs.Outputs.{may_declare, Declares, AnyDeclares, Owned, Shared, declares_below, declares, any_declares, takes, shares}
use Rattle.globs.proofs.Decides.{any_decides}
use Rattle.globs.proofs.Lists.{list_takes_decides, not_decides}

below_decides : (outputs : List (List ℕ)) (rest : Path) → IsTrue (may_declare rest && list_takes outputs rest) ↔ (IsTrue (may_declare rest) × Takes outputs rest)
below_decides outputs rest = and_decides (may_declare rest) (list_takes outputs rest) (λ t. t, λ t. t) (list_takes_decides outputs rest)

declares_decides : (outputs : List (List ℕ)) (folder path : Path) → IsTrue (declares outputs folder path) ↔ Declares outputs folder path
unfolding Declares
declares_decides outputs folder path = by (strip folder path) refl
  where
    by : (below : Option Path) → strip folder path ≡ below → IsTrue (declares_below outputs below) ↔ ((rest : Path) × (path ≡ folder ++ rest) × IsTrue (may_declare rest) × Takes outputs rest)
    by None e = (λ t. cc, λ d. absurd (let found = ap (strip folder) d.1 ∙ strip_append folder d.0 in cc))
    by (Some rest) e = (
      λ t. let b = (below_decides outputs rest).0 t in (rest, strip_is folder path rest e, b.0, b.1),
      λ d.
          let found = sym e ∙ ap (strip folder) d.1 ∙ strip_append folder d.0 in
          let same : rest ≡ d.0 = cc in
          (below_decides outputs rest).1 (rw same d.2, rw same d.3),
    )

any_declares_decides : (others : List (List (List ℕ))) (folder path : Path) → IsTrue (any_declares others folder path) ↔ AnyDeclares others folder path
unfolding any_declares AnyDeclares
any_declares_decides others folder path = any_decides (λ outputs. declares outputs folder path) (λ outputs. Declares outputs folder path) (λ outputs. declares_decides outputs folder path) others

pub takes_decides : (set : OutSet) (path : Path) → IsTrue (takes set path) ↔ Owned set path
unfolding takes Owned
takes_decides set path =
    and_decides (declares set.mine set.folder path) (not (any_declares set.others set.folder path)) (declares_decides set.mine set.folder path)
    (not_decides (any_declares set.others set.folder path) (any_declares_decides set.others set.folder path))

pub shares_decides : (set : OutSet) (path : Path) → IsTrue (shares set path) ↔ Shared set path
unfolding shares Shared
shares_decides set path =
    and_decides (declares set.mine set.folder path) (any_declares set.others set.folder path) (declares_decides set.mine set.folder path) (any_declares_decides set.others set.folder path)

-- `strip` in the words of `strip_prefix`
strip_none : (folder path : Path) → ((rest : Path) → path ≢ folder ++ rest) → strip folder path ≡ None
strip_none folder path never = by (strip folder path) refl
  where
    by : (below : Option Path) → strip folder path ≡ below → below ≡ None
    by None e = refl
    by (Some rest) e = absurd (never rest (strip_is folder path rest e))

pub strip_as : (folder path : Path) (result : Option (Bor Path)) → MatchOption result ((rest : Path) → path ≢ folder ++ rest) (λ rest. path ≡ folder ++ rest.now) → MatchOption result (strip folder path ≡ None) (λ rest. strip folder path ≡ Some rest.now)
strip_as folder path None never = strip_none folder path never
strip_as folder path (Some rest) found = ap (strip folder) found ∙ strip_append folder rest.now

-- The packages' turbo.json files, read one after another.
use Rattle.std.proofs.Common.{◌≡◌, ℕ, List, [], ◌∷◌, ◌++◌, refl, sym, ap, ◌∙◌, append-nil, append_assoc}
use Rattle.std.specs.Prelude.{Option, Some, None, Result, Ok, Err}
use Rattle.rel_path.specs.Paths.{Path}
use Rattle.rel_path.specs.Files.{FileMap}
use Rattle.turbo_config.specs.declared.files.PackageConfig.{PackageConfig}
use Rattle.refusals.specs.declared.refusal.Refusal.{Refusal}
use Rattle.refusals.specs.declared.stop.Stop.{Stop}
use Rattle.refusals.specs.declared.stop.Stop.TheVariants.{Refused, Failed, OutOfMemory}
use Rattle.repository.specs.Reading.{package_config, package_configs, and_more}
use Rattle.repository.specs.Answers.{Stops, named}

abbrev pub Named : Type 0
Named = List (List ℕ × PackageConfig)

-- these files, and behind them those that are left
abbrev pub and_then : Named → Result Named Refusal → Result Named Refusal
and_then done (Ok more) = Ok (done ++ more)
and_then done (Err reason) = Err reason

pub nothing_yet : (r : Result Named Refusal) → r ≡ and_then [] r
nothing_yet (Ok files) = refl
nothing_yet (Err reason) = refl

module _ (files : FileMap) (all left later : List (Path × List ℕ)) (home : Path × List ℕ) (done : Named) where
  pub one_more : (file : Option PackageConfig) → package_configs files all ≡ and_then done (package_configs files left) → left ≡ home ∷ later → package_config files home.0 ≡ Ok file
      → package_configs files all ≡ and_then (done ++ named home.1 file) (package_configs files later)
  unfolding package_configs
  one_more file before next here = before ∙ rw (next, here) (joined file (package_configs files later)) where
    joined : (p : Option PackageConfig) (r : Result Named Refusal) → and_then done (and_more home.1 (Ok p) r) ≡ and_then (done ++ named home.1 p) r
    joined None (Ok more) = ap (λ ps. Ok (ps ++ more)) (sym (append-nil done))
    joined None (Err reason) = refl
    joined (Some p) (Ok more) = ap (λ ps. Ok ps) (sym (append_assoc done ((home.1, p) ∷ []) more))
    joined (Some p) (Err reason) = refl

  refused : (reason : Refusal) → package_configs files all ≡ and_then done (package_configs files left) → left ≡ home ∷ later → package_config files home.0 ≡ Err reason → package_configs files all ≡ Err reason
  unfolding package_configs
  refused reason before next here = before ∙ rw (next, here) refl

  pub stopped_at : (e : Stop) → package_configs files all ≡ and_then done (package_configs files left) → left ≡ home ∷ later → Stops (package_config files home.0) e → Stops (package_configs files all) e
  stopped_at (Refused reason) before next here = refused reason before next here
  stopped_at Failed before next here = tt
  stopped_at OutOfMemory before next here = tt

pub all_read : (files : FileMap) (all left : List (Path × List ℕ)) (done : Named) → package_configs files all ≡ and_then done (package_configs files left) → left ≡ [] → package_configs files all ≡ Ok done
unfolding package_configs
all_read files all left done before none = before ∙ rw none (ap (λ ps. Ok ps) (append-nil done))

-- What holds of a repository that was read.
use Rattle.std.proofs.Common.{◌≡◌, List, [], refl, sym, ap, subst}
use Rattle.std.specs.Prelude.{ℕ, Option, Some, None, Result, Ok, Err}
use Rattle.rel_path.specs.Paths.{Path}
use Rattle.rel_path.specs.Files.{FileMap}
use Rattle.serde_json.specs.Data.{Data}
use Rattle.manifest.specs.declared.manifest.Manifest.{Manifest}
use Rattle.tree_walk.specs.declared.error.WalkErr.{WalkErr}
use Rattle.turbo_config.specs.declared.files.PackageConfig.{PackageConfig}
use Rattle.turbo_config.specs.RootFile.{RootFile}
use Rattle.task_definitions.specs.Setup.{Setup, each_once, setup_of}
use Rattle.workspaces.specs.declared.member.Package.{Package}
use Rattle.workspaces.specs.declared.error.SpaceErr.{SpaceErr}
use Rattle.workspaces.specs.Space.{Space, space_of}
use Rattle.refusals.specs.declared.refusal.Refusal.{Refusal}
use Rattle.repository.specs.Steps.{After, IsRefusal, walk_refusal, space_refusal}
use Rattle.repository.specs.Reading.{Contents, root_manifest, lockfile, root_config, own_configs, script_names, setup_with, setup_from, setup_in, AfterWalkOf, AfterSpace, Means}
use Rattle.prune_laws.proofs.Owners.{IsSound}
use Rattle.prune_facts.proofs.Spaces.{space_apart}

scripts_of : (files : FileMap) (packages : List Package) (setup : Setup) → setup_in files packages ≡ Ok setup → setup.scripts ≡ each_once [] (script_names packages)
unfolding setup_in setup_of
scripts_of files packages setup e = by (root_config files) e
  where
    with_own : (root : Option RootFile) (r : Result (List (List ℕ × PackageConfig)) Refusal) → setup_with (script_names packages) root r ≡ Ok setup → setup.scripts ≡ each_once [] (script_names packages)
    with_own root (Ok own) k = let same : setup_of root own (script_names packages) ≡ setup = cc in ap (λ (s : Setup). s.scripts) (sym same)
    with_own root (Err reason) k = absurd (cc)

    by : (r : Result (Option RootFile) Refusal) → setup_from files packages r ≡ Ok setup → setup.scripts ≡ each_once [] (script_names packages)
    by (Ok root) k = with_own root (own_configs files packages root) k
    by (Err reason) k = absurd (cc)

made_sound : (files : FileMap) (walk : List Path) (root : Manifest) (space : Space) (setup : Setup) → space_of files walk root ≡ Ok space → setup_in files space.packages ≡ Ok setup → IsSound space setup
made_sound files walk root space setup e f =
    let a = space_apart files walk root space e in
    record { inner = a.inner; apart = a.apart; names = a.names; once = a.once; scripts = scripts_of files space.packages setup f }

abbrev ok : Contents → Result Contents Refusal
ok contents = Ok contents

of_parts : (contents : Contents) (walk : List Path) (space : Space) (setup : Setup) (lock : Option Data) → ok contents ≡ ok (record { walk = walk; space = space; setup = setup; lock = lock }) → IsSound space setup → IsSound contents.space contents.setup
of_parts contents walk space setup lock e sound =
    let same : contents ≡ record { walk = walk; space = space; setup = setup; lock = lock } = cc in
    subst (λ (c : Contents). IsSound c.space c.setup) (sym same) sound

no_refusal : (reason : Option Refusal) (contents : Contents) → IsRefusal {B = Contents} reason (Ok contents) → ⊥
no_refusal None contents h = h
no_refusal (Some reason) contents h = cc

module _ (files : FileMap) (contents : Contents) where
  goes_on : {A : Type 0} (r : Result A Refusal) (next : A → Result Contents Refusal → Type 0) → After r next (Ok contents) → (a : A) × (r ≡ Ok a) × next a (Ok contents)
  goes_on (Ok a) next s = (a, refl, s)
  goes_on (Err reason) next s = absurd (cc)

  walks_on : (walked : Result (List Path) WalkErr) (next : List Path → Result Contents Refusal → Type 0) → AfterWalkOf walked next (Ok contents) → (walk : List Path) × next walk (Ok contents)
  walks_on (Ok walk) next s = (walk, s)
  walks_on (Err fault) next s = absurd (no_refusal (walk_refusal fault) contents s)

  spaces_on : (r : Result Space SpaceErr) (next : Space → Result Contents Refusal → Type 0) → AfterSpace r next (Ok contents) → (space : Space) × (r ≡ Ok space) × next space (Ok contents)
  spaces_on (Ok space) next s = (space, refl, s)
  spaces_on (Err fault) next s = absurd (no_refusal (space_refusal fault) contents s)

  -- its packages and their scripts are sound
  pub sound_of : Means files (Ok contents) → IsSound contents.space contents.setup
  sound_of means =
      let root = goes_on (root_manifest files) _ means in
      let lock = goes_on (lockfile files) _ root.2 in
      let walk = walks_on lock.2.0 _ lock.2.2 in
      let space = spaces_on (space_of files walk.0 root.0) _ walk.1 in
      let setup = goes_on (setup_in files space.0.packages) _ space.2 in
      of_parts contents walk.0 space.0 setup.0 lock.0 setup.2 (made_sound files walk.0 root.0 space.0 setup.0 space.1 setup.1)

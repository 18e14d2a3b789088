-- What the files of a repository say, step by step.
use Rattle.std.proofs.Common.{◌≡◌, List, refl, sym, ap, ◌∙◌, subst}
use Rattle.std.specs.Prelude.{Option, Some, None, Result, Ok, Err}
use Rattle.serde_json.specs.Data.{Data}
use Rattle.rel_path.specs.Paths.{Path}
use Rattle.rel_path.specs.Files.{FileMap}
use Rattle.manifest.specs.declared.manifest.Manifest.{Manifest}
use Rattle.tree_walk.specs.declared.error.WalkErr.{WalkErr}
use Rattle.tree_walk.specs.Walked.{IsWalk, WalkedTo, Walks}
use Rattle.workspaces.specs.declared.error.SpaceErr.{SpaceErr}
use Rattle.workspaces.specs.Space.{Space, space_of}
use Rattle.task_definitions.specs.Setup.{Setup}
use Rattle.refusals.specs.declared.refusal.Refusal.{Refusal}
use Rattle.repository.specs.Steps.{After, IsRefusal, walk_refusal, space_refusal}
use Rattle.repository.specs.Reading.{Contents, root_manifest, lockfile, setup_in, AfterWalkOf, AfterSpace, Means}
use Rattle.pruned_reading.proofs.Found.{IsFound, found_in}

pub record IsRead (files : FileMap) (contents : Contents) : Type 0 where
  pub root : root_manifest files ≡ Ok contents.space.root
  pub lock : lockfile files ≡ Ok contents.lock
  pub few : IsWalk contents.walk
  pub walk : WalkedTo files None contents.walk
  pub space : IsFound files contents.walk contents.space.root contents.space
  pub setup : setup_in files contents.space.packages ≡ Ok contents.setup

module _ {B : Type 0} where
  after_ok : {A : Type 0} (result : Result A Refusal) (next : A → Result B Refusal → Type 0) (b : B) → After result next (Ok b) → (a : A) × (result ≡ Ok a) × next a (Ok b)
  after_ok (Ok a) next b h = (a, refl, h)
  after_ok (Err reason) next b h = absurd (cc)

  not_refused : (reason : Option Refusal) (b : B) → IsRefusal reason (Ok b) → ⊥
  not_refused None b h = h
  not_refused (Some reason) b h = cc

  walk_ok : (walked : Result (List Path) WalkErr) (next : List Path → Result B Refusal → Type 0) (b : B) → AfterWalkOf walked next (Ok b) → (walk : List Path) × (walked ≡ Ok walk) × next walk (Ok b)
  walk_ok (Ok walk) next b h = (walk, refl, h)
  walk_ok (Err fault) next b h = absurd (not_refused (walk_refusal fault) b h)

  space_ok : (result : Result Space SpaceErr) (next : Space → Result B Refusal → Type 0) (b : B) → AfterSpace result next (Ok b) → (space : Space) × (result ≡ Ok space) × next space (Ok b)
  space_ok (Ok space) next b h = (space, refl, h)
  space_ok (Err fault) next b h = absurd (not_refused (space_refusal fault) b h)

module _ (files : FileMap) where
  abbrev made : List Path → Space → Setup → Option Data → Contents
  made walk space setup lock = record { walk = walk; space = space; setup = setup; lock = lock }

  made_of : (root : Manifest) (lock : Option Data) (walk : List Path) (space : Space) (setup : Setup) → root_manifest files ≡ Ok root → lockfile files ≡ Ok lock → Walks (Unit {0}) files (Ok walk)
      → space_of files walk root ≡ Ok space → setup_in files space.packages ≡ Ok setup → IsRead files (made walk space setup lock)
  made_of root lock walk space setup r l w s u =
      let found = found_in files walk root space s in
      let its : root ≡ space.root = ap (λ (s : Space). s.root) (sym found.is) in
      record { root = r ∙ ap Ok its; lock = l; few = w.0; walk = w.1 tt; space = subst (λ m. IsFound files walk m space) its found; setup = u }

  pub read : (contents : Contents) → Means files (Ok contents) → IsRead files contents
  read contents means =
      let r = after_ok (root_manifest files) _ contents means in
      let l = after_ok (lockfile files) _ contents r.2 in
      let w = walk_ok l.2.0 _ contents l.2.2 in
      let s = space_ok (space_of files w.0 r.0) _ contents w.2 in
      let u = after_ok (setup_in files s.0.packages) _ contents s.2 in
      let is : made w.0 s.0 u.0 l.0 ≡ contents = let e = u.2 in cc in
      subst (IsRead files) is (made_of r.0 l.0 w.0 s.0 u.0 r.1 l.1 (subst (Walks (Unit {0}) files) w.1 l.2.1) s.1 u.1)

  -- what each step answers makes the repository
  pub means : (root : Manifest) (lock : Option Data) (walk : List Path) (space : Space) (setup : Setup) → root_manifest files ≡ Ok root → lockfile files ≡ Ok lock → Walks (Unit {0}) files (Ok walk)
      → space_of files walk root ≡ Ok space → setup_in files space.packages ≡ Ok setup → Means files (Ok (made walk space setup lock))
  means root lock walk space setup r l w s u = rw r (rw l (Ok walk, w, rw s (rw u refl)))

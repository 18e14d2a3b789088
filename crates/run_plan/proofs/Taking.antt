-- What is taken when a command has ended.
use Rattle.std.proofs.Common.{◌≡◌, ℕ, true, false, List, [], ◌∷◌, refl, sym, ap, ◌∙◌, inl, inr, None}
use Rattle.std.specs.Prelude.{is_some, IsTrue}
use Rattle.std.specs.List.{AllByRecursion}
use Rattle.std.specs.Ordering.{is_lt}
use Rattle.std.specs.declared.cmp.Ordering.{Ordering}
use Rattle.std.specs.declared.cmp.Ordering.TheVariants.{Less, Equal, Greater}
use Rattle.std.proofs.lemmas.Bool.{cases_Bool, false≢true, true≢false, and_parts, or_left, or_right, false_from_ne_true}
use Rattle.rel_path.specs.Paths.{Path, path_cmp, path_eq}
use Rattle.rel_path.specs.Files.{FileMap, file_at, has}
use Rattle.rel_path.proofs.PathLaws.{path_cmp_total, path_same}
use Rattle.globs.specs.declared.out_set.OutSet.{OutSet}
use Rattle.globs.specs.Outputs.{takes, shares, any_declares, declares as declares_path}
use Rattle.globs.specs.OwnedFiles.{owns_all}
use Rattle.cache_api.specs.Artifacts.{File, ascends, ascends_from}
use Rattle.capture.specs.Owned.{declares, SharesNone, SharesFirst, LargeFirst, fits}
use Rattle.spawn_dev.specs.Orders.{IsBefore, AscendByPath}
use Rattle.run_plan.specs.Results.{CanTake, Taken}

-- ---- files in order

less-is : (r : Ordering) → is_lt r ≡ true → r ≡ Less
less-is Less h = refl
less-is Equal h = absurd (false≢true h)
less-is Greater h = absurd (false≢true h)

before-all : (a b : Path) (files : List File) → IsBefore a b → ascends_from b files ≡ true → AllByRecursion (λ f. IsBefore a f.0) files
before-all a b [] is up = tt
before-all a b (f ∷ files) is up =
    let p = and_parts (is_lt (path_cmp b f.0)) (ascends_from f.0 files) up in
    let step : IsBefore a f.0 = ap is_lt (path_cmp_total.trans a b f.0 (less-is (path_cmp a b) is) (less-is (path_cmp b f.0) p.0)) in
    (step, before-all a f.0 files step p.1)

ascend-from : (last : Path) (files : List File) → ascends_from last files ≡ true → AscendByPath files
ascend-from last [] up = tt
ascend-from last (f ∷ files) up =
    let p = and_parts (is_lt (path_cmp last f.0)) (ascends_from f.0 files) up in
    (before-heads f.0 files p.1, ascend-from f.0 files p.1)
  where
    before-heads : (a : Path) (files : List File) → ascends_from a files ≡ true → AllByRecursion (λ g. IsBefore a g.0) files
    before-heads a [] up = tt
    before-heads a (g ∷ files) up =
        let p = and_parts (is_lt (path_cmp a g.0)) (ascends_from g.0 files) up in
        (p.0, before-all a g.0 files p.0 p.1)

pub ascend-is : (files : List File) → IsTrue (ascends files) → AscendByPath files
ascend-is files up = ascend-from [] files up

-- what another task owns is not among files that the task owns
pub unowned : (outs : OutSet) (files : List File) (path : Path) → owns_all outs files ≡ true → takes outs path ≡ false → file_at files path ≡ None
unowned outs [] path all free = refl
unowned outs (f ∷ files) path all free =
    let p = and_parts (takes outs f.0) (owns_all outs files) all in
    let other : path_eq f.0 path ≡ false = false_from_ne_true _ (λ e. true≢false (sym p.0 ∙ ap (takes outs) (path_same f.0 path e) ∙ free)) in
    rw other (unowned outs files path p.1 free)

-- what is shared is not owned
pub shared-unowned : (outs : OutSet) (path : Path) → shares outs path ≡ true → takes outs path ≡ false
unfolding takes shares
shared-unowned outs path h =
    let p = and_parts (declares_path outs.mine outs.folder path) (any_declares outs.others outs.folder path) h in
    rw (p.0, p.1) refl

-- ---- the same files at what the task declares

abbrev pub Agree : OutSet → FileMap → FileMap → Type 0
Agree outs one other = (path : Path) → declares outs path ≡ true → one path ≡ other path

module _ (outs : OutSet) (one other : FileMap) (same : Agree outs one other) where
  shared-same : (path : Path) → shares outs path ≡ true → has one path ≡ has other path
  shared-same path h = ap is_some (same path (or_right (takes outs path) (shares outs path) h))

  pub alone-same : SharesNone one outs → SharesNone other outs
  alone-same alone path there = elim (cases_Bool (shares outs path)) [
    | inl h ↦ absurd (true≢false (sym h ∙ alone path (shared-same path h ∙ there)))
    | inr h ↦ h
  ]

  pub fit-same : (limit : ℕ) → ((path : Path) → takes outs path ≡ true → fits limit (one path) ≡ true) → (path : Path) → takes outs path ≡ true → fits limit (other path) ≡ true
  fit-same limit fit path h = ap (fits limit) (sym (same path (or_left (takes outs path) (shares outs path) h))) ∙ fit path h

  pub shared-first : (path : Path) → SharesFirst one outs path → SharesFirst other outs path
  shared-first path first = record {
    there = sym (shared-same path first.is_shared) ∙ first.there;
    is_shared = first.is_shared;
    least = λ q there less. elim (cases_Bool (shares outs q)) [
      | inl h ↦ absurd (true≢false (sym h ∙ first.least q (shared-same q h ∙ there) less))
      | inr h ↦ h
    ];
  }

  pub large-first : (limit : ℕ) (path : Path) → LargeFirst one outs limit path → LargeFirst other outs limit path
  large-first limit path first = record {
    alone = alone-same first.alone;
    owns = first.owns;
    long = ap (fits limit) (sym (same path (or_left (takes outs path) (shares outs path) first.owns))) ∙ first.long;
    least = λ q own less. ap (fits limit) (sym (same q (or_left (takes outs q) (shares outs q) own))) ∙ first.least q own less;
  }

  pub can-take : (limit : ℕ) (taken : List File) → Taken one outs limit taken → CanTake other outs limit
  can-take limit taken is = record { alone = alone-same is.all.alone; fit = fit-same limit is.all.fit }

use Rattle.std.proofs.Common.{◌≡◌, ◌∙◌, ◌+◌, ◌∷◌, ap, sym, subst, refl, arith, drop, [], Ok}
use Rattle.std.proofs.lemmas.List.{drop_more, drop_all}
use Rattle.rel_path.specs.Files.{FileMap}
use Rattle.repository.specs.Reading.{package_config, package_configs}
use Rattle.repository.specs.Answers.{Stops}
use Rattle.repository.proofs.Files.{one_more, stopped_at, all_read, nothing_yet}
use Rattle.repository.proofs.configs.package_configs.Goals as goal

pub package_config-requires : goal.package_config-requires
package_config-requires g c = record { none = λ path. ap (λ held. held path) c.loop-home.invariant.looks.held ∙ c.requires.none path }

pub loop-home-init : goal.loop-home-init
loop-home-init g c = record {
  looks = record { files = refl; rest = refl; held = refl; reach = refl; faults = omega arith };
  faults = refl;
  found = λ told. rw c.new-files.ensures.items (nothing_yet (package_configs (g.T.Tree.state c.args.tree.now).files c.args.homes.now));
}

pub loop-home-preserved : goal.loop-home-preserved
loop-home-preserved g c =
    let inv = c.loop-home.invariant in
    let more = c.in-Ok.ensures.looks in
    let homes = c.args.homes.now in
    let i = c.loop-home.home-index in
    let home = c.home-item.result in
    let next : drop i homes ≡ home ∷ drop (i + 1) homes = drop_more homes i home c.loop-home-test.true ∙ ap (λ h. h ∷ drop (i + 1) homes) (sym c.home-item.is) in
    record {
      looks = record { files = more.files ∙ inv.looks.files; rest = more.rest ∙ inv.looks.rest; held = more.held ∙ inv.looks.held; reach = more.reach ∙ inv.looks.reach; faults = omega (arith, more.faults, inv.looks.faults) };
      faults = c.in-Ok.ensures.cause.counted ∙ inv.faults;
      found = λ told. rw c.in-Ok-push_named.ensures.pushed
          (one_more (g.T.Tree.state c.args.tree.now).files homes (drop i homes) (drop (i + 1) homes) home c.loop-home.files.items c.in-Ok.file (inv.found told) next
          (subst (λ (fs : FileMap). package_config fs home.0 ≡ Ok c.in-Ok.file) inv.looks.files (c.in-Ok.ensures.answers told)));
    }

pub returns-in-Err-clause-answers : goal.returns-in-Err-clause-answers
returns-in-Err-clause-answers g c = λ told.
    let inv = c.loop-home.invariant in
    let homes = c.args.homes.now in
    let i = c.loop-home.home-index in
    let home = c.home-item.result in
    let next : drop i homes ≡ home ∷ drop (i + 1) homes = drop_more homes i home c.loop-home-test.true ∙ ap (λ h. h ∷ drop (i + 1) homes) (sym c.home-item.is) in
    stopped_at (g.T.Tree.state c.args.tree.now).files homes (drop i homes) (drop (i + 1) homes) home c.loop-home.files.items c.in-Err.e (inv.found told) next
    (subst (λ (fs : FileMap). Stops (package_config fs home.0) c.in-Err.e) inv.looks.files (c.in-Err.ensures.answers told))

pub returns-clause-answers : goal.returns-clause-answers
returns-clause-answers g c = λ told.
    let left : drop c.loop-home.home-index c.args.homes.now ≡ [] = drop_all c.loop-home.home-index c.args.homes.now (omega (arith, c.loop-home-test.false)) in
    all_read (g.T.Tree.state c.args.tree.now).files c.args.homes.now (drop c.loop-home.home-index c.args.homes.now) c.loop-home.files.items (c.loop-home.invariant.found told) left

use Rattle.std.proofs.Common.{◌≡◌, ℕ, List, [], ◌∷◌, ◌++◌, map, append_assoc, ap, ◌∙◌, sym, subst}
use Rattle.std.specs.List.{AllByRecursion}
use Rattle.rel_path.specs.Paths.{Path}
use Rattle.folder_globs.specs.Exclusions.{exclusion, IsFolder}
use Rattle.workspaces.specs.declared.member.Package.{Package}
use Rattle.collect.proofs.Lists.{all_from_map}
use Rattle.collect.proofs.Ascending.{ascending_all}
use Rattle.collect.proofs.exclusions.exclusions_of.Goals as goal

one_more : (done new all : List (List ℕ)) (text : List ℕ) (folder : Path) (left rest : List Path) → left ≡ folder ∷ rest → text ≡ exclusion folder → new ≡ done ++ text ∷ [] → done ++ map exclusion left ≡ all → new ++ map exclusion rest ≡ all
one_more done new all text folder left rest at is made before =
    rw (made, is) (append_assoc done (exclusion folder ∷ []) (map exclusion rest)) ∙ ap (λ fs. done ++ map exclusion fs) (sym at) ∙ before

pub loop-folder-preserved : goal.loop-folder-preserved
loop-folder-preserved c = record {
  value = one_more c.loop-folder.texts c.push.new.self _ c.in_ok-exclusion_of.field-0 c.in-Some.folder.now c.loop-folder.folder-iterator c.next.new.self c.in-Some.ensures.steps c.in_ok-exclusion_of.ensures.value c.in_ok-push.ensures.pushed c.loop-folder.invariant.value;
  folders = λ rest. c.loop-folder.invariant.folders (subst (AllByRecursion IsFolder) (sym c.in-Some.ensures.steps) (c.in_ok-exclusion_of.ensures.folder, rest));
}

pub returns-clause-folders : goal.returns-clause-folders
returns-clause-folders c =
    let space = c.args.packages.now in
    let all = c.loop-folder.invariant.folders (subst (AllByRecursion IsFolder) (sym c.in-None.ensures.steps.0) tt) in
    all_from_map IsFolder (λ (p : Package). p.folder) space.packages (ascending_all IsFolder (map (λ (p : Package). p.folder) space.packages) all)

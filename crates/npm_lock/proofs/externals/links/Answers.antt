use Rattle.std.proofs.Common.{◌≡◌, ◌∙◌, sym, subst, nat_eq}
use Rattle.std.specs.List.{dedup}
use Rattle.std.specs.List.Sorted.{IsStrictlySortedBy}
use Rattle.std.specs.Cmp.Lexicographic.{pointwise, nat_list_cmp_total, texts_ties}
use Rattle.std.proofs.lemmas.List.Kept.{IsStrictlySortedBy-dedup}
use Rattle.std.proofs.lemmas.List.Filters.{dedup_is}
use Rattle.rel_path.specs.Paths.{name_cmp}
use Rattle.npm_lock.specs.Reach.{set_of, links_of}
use Rattle.npm_lock.specs.Sets.{Has}
use Rattle.npm_lock.proofs.MembersOf.{once_found, found_once, links_linked, linked_links}
use Rattle.npm_lock.proofs.externals.links.Goals as goal

pub returns-clause-ascending : goal.returns-clause-ascending
returns-clause-ascending c =
    let same : c.dedup.new.self.items ≡ dedup (pointwise nat_eq) c.sort.new.self.items = dedup_is _ _ _ c.dedup.ensures.filtered in
    subst (IsStrictlySortedBy name_cmp) (sym (c.from_vec.ensures ∙ same)) (IsStrictlySortedBy-dedup nat_list_cmp_total texts_ties c.sort.new.self.items c.in_ok-sort.ensures.sorted)

pub returns-clause-linked : goal.returns-clause-linked
returns-clause-linked c = λ folder.
    let es = c.args.entries.now in
    let set = set_of es c.args.set.now in
    let same : c.from_vec.result ≡ dedup (pointwise nat_eq) c.sort.new.self.items = c.from_vec.ensures ∙ dedup_is _ _ _ c.dedup.ensures.filtered in
    let found : c.in_ok-folders.folders.items ≡ links_of set es = c.in_ok-folders.ensures.folders in
    let perm = c.in_ok-sort.ensures.permutation in (
      λ h. links_linked set es folder (subst (λ xs. Has xs folder) found (once_found c.in_ok-folders.folders.items c.sort.new.self.items c.from_vec.result perm same folder h)),
      λ l. found_once c.in_ok-folders.folders.items c.sort.new.self.items c.from_vec.result perm same folder (subst (λ xs. Has xs folder) (sym found) (linked_links set es folder l.entry l.among l.is_member l.leads)),
    )

use Rattle.std.proofs.Common.{◌≡◌, Bool, true, false, refl, sym, ap, ◌∙◌}
use mathlib.Core.Bool.{beq}
use Rattle.std.specs.Cmp.{IsTotalOrder, then_total, on_total, bool_cmp_total, both_tied}
use Rattle.std.specs.Cmp.Lexicographic.{nat_list_cmp_total, texts_ties}
use Rattle.std.specs.Ordering.{eq_by_cmp, bool_cmp, is_eq}
use Rattle.std.specs.List.{list_any}
use Rattle.std.proofs.lemmas.List.Filters.{dedup_is, All-dedup}
use Rattle.std.proofs.lemmas.List.Sorted.{list_any-IsPermutation, All-permutation}
use Rattle.std.proofs.lemmas.List.Kept.{IsStrictlySortedBy-dedup}
use Rattle.rel_path.specs.Paths.{name_cmp, name_eq}
use Rattle.tree_dev.specs.declared.entries.Entry.{Entry}
use Rattle.tree_dev.specs.Names.{entry_cmp, same_entry, IsProper}
use Rattle.tree_dev.specs.Listing.{deepest}
use Rattle.tree_dev.proofs.NamesOf.{any-dedup, same_entries}
use Rattle.tree_dev.proofs.listing.sorted_names.Goals as goal

entry_cmp_total : IsTotalOrder entry_cmp
entry_cmp_total = then_total (on_total (λ (e : Entry). e.name) nat_list_cmp_total) (on_total (λ (e : Entry). e.folder) bool_cmp_total)

bools_tie : (a b : Bool) → beq a b ≡ is_eq (bool_cmp a b)
bools_tie true true = refl
bools_tie true false = refl
bools_tie false true = refl
bools_tie false false = refl

same_tie : (x y : Entry) → same_entry x y ≡ eq_by_cmp entry_cmp x y
same_tie x y = both_tied (name_eq x.name y.name) (beq x.folder y.folder) (name_cmp x.name y.name) (bool_cmp x.folder y.folder) (texts_ties x.name y.name) (bools_tie x.folder y.folder)

pub returns-clause-ascend : goal.returns-clause-ascend
returns-clause-ascend c = rw (dedup_is _ _ _ c.dedup.ensures.filtered) (IsStrictlySortedBy-dedup entry_cmp_total same_tie _ c.in_ok-sort.ensures.sorted)

pub returns-clause-names : goal.returns-clause-names
returns-clause-names c = λ entry.
    ap (list_any (λ other. same_entry other entry)) (dedup_is _ _ _ c.dedup.ensures.filtered)
    ∙ any-dedup _ (λ other. same_entry other entry) (λ a b e. ap (λ x. same_entry x entry) (same_entries a b e)) _
    ∙ sym (list_any-IsPermutation (λ other. same_entry other entry) _ _ c.in_ok-sort.ensures.permutation) ∙ c.in_ok-names.ensures.names entry

pub returns-clause-proper : goal.returns-clause-proper
returns-clause-proper c =
    let P = IsProper (deepest c.args.files.now) c.args.folder.now in
    rw (dedup_is _ _ _ c.dedup.ensures.filtered) (All-dedup _ P _ (All-permutation P _ _ c.in_ok-sort.ensures.permutation c.in_ok-names.ensures.proper))

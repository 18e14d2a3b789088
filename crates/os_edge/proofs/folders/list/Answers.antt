use Rattle.std.proofs.Common.{◌≡◌, ◌<◌, Bool, true, false, List, refl, length}
use Rattle.std.specs.List.{All}
use mathlib.Core.Bool.{beq}
use Rattle.std.specs.Cmp.{IsTotalOrder, then_total, on_total, bool_cmp_total, both_tied}
use Rattle.std.specs.Cmp.Lexicographic.{nat_list_cmp_total, texts_ties}
use Rattle.std.specs.Ordering.{eq_by_cmp, bool_cmp, is_eq}
use Rattle.std.proofs.lemmas.List.Filters.{dedup_is, All-dedup}
use Rattle.std.proofs.lemmas.List.Sorted.{All-permutation}
use Rattle.std.proofs.lemmas.List.Kept.{IsStrictlySortedBy-dedup}
use Rattle.rel_path.specs.Paths.{Path, name_cmp, name_eq}
use Rattle.tree_dev.specs.declared.entries.Entry.{Entry}
use Rattle.tree_dev.specs.Names.{entry_cmp, same_entry, IsProper}
use Rattle.os_edge.specs.Paths.{IsNamed}
use Rattle.os_edge.specs.declared.folders.TheConstants.{REACH}
use Rattle.os_edge.proofs.folders.list.Goals as goal

entry_cmp_total : IsTotalOrder entry_cmp
entry_cmp_total = then_total (on_total (λ (e : Entry). e.name) nat_list_cmp_total) (on_total (λ (e : Entry). e.folder) bool_cmp_total)

bools_tie : (a b : Bool) → beq a b ≡ is_eq (bool_cmp a b)
bools_tie true true = refl
bools_tie true false = refl
bools_tie false true = refl
bools_tie false false = refl

same_tie : (x y : Entry) → same_entry x y ≡ eq_by_cmp entry_cmp x y
same_tie x y = both_tied (name_eq x.name y.name) (beq x.folder y.folder) (name_cmp x.name y.name) (bool_cmp x.folder y.folder) (texts_ties x.name y.name) (bools_tie x.folder y.folder)

pub returns-clause-ascend : goal.returns-clause-ascend
returns-clause-ascend g c = rw (c.from_vec.ensures, dedup_is _ _ _ c.dedup.ensures.filtered) (IsStrictlySortedBy-dedup entry_cmp_total same_tie _ c.in_ok-sort.ensures.sorted)

proper_all : (names : List Entry) (folder : Path) → length folder < REACH → All IsNamed names → All (IsProper REACH folder) names
proper_all names folder shallow named = λ k d lt. record { named = named k d lt; shallow = λ is. shallow }

pub returns-clause-proper : goal.returns-clause-proper
returns-clause-proper g c =
    let shallow : length c.args.folder.now < REACH = rw c.components.ensures.value at c.if-components-ge-REACH.false in
    rw (c.from_vec.ensures, dedup_is _ _ _ c.dedup.ensures.filtered)
    (proper_all _ c.args.folder.now shallow (All-dedup _ IsNamed _ (All-permutation IsNamed _ _ c.in_ok-sort.ensures.permutation c.in_ok-names.ensures)))

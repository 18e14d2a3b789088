-- One walk of files.
use Rattle.std.proofs.Common.{◌≡◌, ◌&&◌, ◌≤◌, ◌<◌, Bool, true, false, List, length, refl, sym, ap, ◌∙◌, arith}
use Rattle.std.specs.Prelude.{Option, Some, None, Result, Ok, Err}
use Rattle.std.specs.declared.cmp.Ordering.{Ordering}
use Rattle.std.specs.declared.cmp.Ordering.TheVariants.{Less, Equal, Greater}
use Rattle.std.specs.Ordering.{is_eq, is_lt}
use Rattle.std.specs.Cmp.{first_so, second_so}
use Rattle.std.proofs.lemmas.Bool.{false≢true}
use Rattle.rel_path.specs.Paths.{Path, path_cmp, path_eq}
use Rattle.rel_path.specs.Files.{FileMap}
use Rattle.rel_path.proofs.PathLaws.{path_cmp_total, path_ties, path_same, path_self, path_cmp_self}
use Rattle.tree_walk.specs.declared.error.WalkErr.{WalkErr}
use Rattle.tree_walk.specs.declared.error.WalkErr.TheVariants.{TooDeep, TooMany, Failed, OutOfMemory}
use Rattle.tree_walk.specs.Traversal.{is_before}
use Rattle.tree_walk.specs.Walked.{is_walked, IsEntry, WalkedTo, IsTooDeep, IsTooMany, Walks}
use Rattle.plan_laws.proofs.Ascending.{turned, one_ascending, fewer}

path_tied : (p q : Path) → path_cmp p q ≡ Equal → p ≡ q
path_tied p q e = path_same p q (path_ties p q ∙ ap is_eq e)

and_so : (a b : Bool) → a ≡ true → b ≡ true → (a && b) ≡ true
and_so true b e f = f
and_so false b e f = absurd (false≢true e)

second_not : (a b : Bool) → b ≡ false → (a && b) ≡ false
second_not true b e = e
second_not false b e = refl

-- an answer that files give, and no want of memory or failed device
abbrev pub IsOfFiles : Result (List Path) WalkErr → Type 0
IsOfFiles (Ok paths) = Unit {0}
IsOfFiles (Err (TooDeep path)) = Unit {0}
IsOfFiles (Err TooMany) = Unit {0}
IsOfFiles (Err Failed) = ⊥
IsOfFiles (Err OutOfMemory) = ⊥

module _ (files : FileMap) where
  -- ---- by the paths

  same_walks : (stop : Option Path) (one other : List Path) → WalkedTo files stop one → WalkedTo files stop other → one ≡ other
  same_walks stop one other a b = one_ascending path_cmp path_cmp_total path_eq path_same path_self one other a.ascend b.ascend (λ p. a.exact p ∙ sym (b.exact p))

  before_is : (stop p : Path) → path_cmp p stop ≡ Less → is_before (Some stop) p ≡ true
  before_is stop p less = ap is_lt less

  never_before_itself : (stop : Path) → is_before (Some stop) stop ≡ false
  never_before_itself stop = ap is_lt (path_cmp_self stop)

  less_from : (o : Ordering) → is_lt o ≡ true → o ≡ Less
  less_from Less e = refl
  less_from Equal e = absurd (false≢true e)
  less_from Greater e = absurd (false≢true e)

  -- the walk up to a walked file has fewer files than one that goes past it
  goes_past : (stop : Path) (last : Option Path) (few many : List Path) → WalkedTo files (Some stop) few → WalkedTo files last many → is_walked files stop ≡ true
      → is_before last stop ≡ true → ((p : Path) → path_cmp p stop ≡ Less → is_before last p ≡ true) → length few < length many
  goes_past stop last few many a b there within further =
      fewer path_cmp path_cmp_total path_eq path_same path_self few many stop a.ascend
      (λ p is. let both = sym (a.exact p) ∙ is in b.exact p ∙ and_so (is_walked files p) (is_before last p) (first_so (is_walked files p) (is_before (Some stop) p) both) (further p (less_from (path_cmp p stop) (second_so (is_walked files p) (is_before (Some stop) p) both))))
      (a.exact stop ∙ second_not (is_walked files stop) (is_before (Some stop) stop) (never_before_itself stop))
      (b.exact stop ∙ and_so (is_walked files stop) (is_before last stop) there within)

  -- ---- the answers, two by two

  walk_no_deep : (walk before : List Path) (stop : Path) → WalkedTo files None walk → IsTooDeep files stop before → ⊥
  walk_no_deep walk before stop a b = let short : length stop ≤ 64 = a.shallow stop b.entry refl in let deep = b.deep in absurd (omega arith)

  walk_no_many : (walk before : List Path) (stop : Path) → length walk ≤ 200000 → WalkedTo files None walk → IsTooMany files stop before → ⊥
  walk_no_many walk before stop few a b = let more : length before < length walk = goes_past stop None before walk b.walked a b.file refl (λ p less. refl) in let full = b.full in absurd (omega arith)

  earlier_deep : (one other : Path) (before : List Path) → IsEntry files one → length one ≡ 65 → WalkedTo files (Some other) before → path_cmp one other ≡ Less → ⊥
  earlier_deep one other before entry deep walked less = let short : length one ≤ 64 = walked.shallow one entry (before_is other one less) in absurd (omega arith)

  one_deep : (one other : Path) (before past : List Path) → IsTooDeep files one before → IsTooDeep files other past → one ≡ other
  one_deep one other before past a b = by (path_cmp one other) refl where
    by : (r : Ordering) → path_cmp one other ≡ r → one ≡ other
    by Less e = absurd (earlier_deep one other past a.entry a.deep b.walked e)
    by Equal e = path_tied one other e
    by Greater e = absurd (earlier_deep other one before b.entry b.deep a.walked (turned path_cmp path_cmp_total path_eq path_same path_self one other e))

  deep_no_many : (one other : Path) (before past : List Path) → IsTooDeep files one before → IsTooMany files other past → ⊥
  deep_no_many one other before past a b = by (path_cmp one other) refl where
    by : (r : Ordering) → path_cmp one other ≡ r → ⊥
    by Less e = earlier_deep one other past a.entry a.deep b.walked e
    by Equal e = let same : length one ≡ length other = ap length (path_tied one other e) in let deep = a.deep in let fine = b.fine in absurd (omega arith)
    by Greater e =
        let less : path_cmp other one ≡ Less = turned path_cmp path_cmp_total path_eq path_same path_self one other e in
        let more : length past < length before = goes_past other (Some one) past before b.walked a.walked b.file (before_is one other less) (λ p lower. before_is one p (path_cmp_total.trans p other one lower less)) in
        let few = a.few in let full = b.full in absurd (omega arith)

  pub one_walk : (one other : Result (List Path) WalkErr) → IsOfFiles one → IsOfFiles other → Walks (Unit {0}) files one → Walks (Unit {0}) files other → one ≡ other
  one_walk (Ok walk) (Ok also) s t a b = ap Ok (same_walks None walk also (a.1 tt) (b.1 tt))
  one_walk (Ok walk) (Err (TooDeep stop)) s t a b = let deep = b tt in absurd (walk_no_deep walk deep.0 stop (a.1 tt) deep.1)
  one_walk (Ok walk) (Err TooMany) s t a b = let many = b tt in absurd (walk_no_many walk many.1 many.0 a.0.few (a.1 tt) many.2)
  one_walk (Err (TooDeep stop)) (Ok walk) s t a b = let deep = a tt in absurd (walk_no_deep walk deep.0 stop (b.1 tt) deep.1)
  one_walk (Err (TooDeep one)) (Err (TooDeep other)) s t a b = let deep = a tt in let also = b tt in ap (λ p. Err (TooDeep p)) (one_deep one other deep.0 also.0 deep.1 also.1)
  one_walk (Err (TooDeep stop)) (Err TooMany) s t a b = let deep = a tt in let many = b tt in absurd (deep_no_many stop many.0 deep.0 many.1 deep.1 many.2)
  one_walk (Err TooMany) (Ok walk) s t a b = let many = a tt in absurd (walk_no_many walk many.1 many.0 b.0.few (b.1 tt) many.2)
  one_walk (Err TooMany) (Err (TooDeep stop)) s t a b = let many = a tt in let deep = b tt in absurd (deep_no_many stop many.0 deep.0 many.1 deep.1 many.2)
  one_walk (Err TooMany) (Err TooMany) s t a b = refl
  one_walk (Err Failed) other s t a b = absurd s
  one_walk (Err OutOfMemory) other s t a b = absurd s
  one_walk (Ok walk) (Err Failed) s t a b = absurd t
  one_walk (Ok walk) (Err OutOfMemory) s t a b = absurd t
  one_walk (Err (TooDeep stop)) (Err Failed) s t a b = absurd t
  one_walk (Err (TooDeep stop)) (Err OutOfMemory) s t a b = absurd t
  one_walk (Err TooMany) (Err Failed) s t a b = absurd t
  one_walk (Err TooMany) (Err OutOfMemory) s t a b = absurd t

-- The law of books: what one says of a command is an effect of its task.
use Rattle.std.proofs.Common.{◌≡◌, ℕ, ◌<◌, Bool, true, false, cond, ◌&&◌, List, [], ◌∷◌, refl, ap, ◌∙◌, arith, min}
use Rattle.std.specs.List.{AllByRecursion}
use Rattle.std.specs.Ordering.{is_lt, match_ordering, ordering_reverse}
use Rattle.std.specs.declared.cmp.Ordering.{Ordering}
use Rattle.std.specs.declared.cmp.Ordering.TheVariants.{Less, Equal, Greater}
use Rattle.std.specs.BTreeMap.{insert_entry}
use Rattle.std.specs.Cmp.{first_so, second_so}
use Rattle.rel_path.specs.Paths.{Path, path_cmp}
use Rattle.rel_path.proofs.PathLaws.{path_cmp_total}
use Rattle.globs.specs.declared.out_set.OutSet.{OutSet}
use Rattle.globs.specs.Outputs.{takes}
use Rattle.globs.specs.OwnedFiles.{owns_all}
use Rattle.spawn_dev.specs.declared.book.Piece.{Piece}
use Rattle.spawn_dev.specs.declared.book.Rule.{Rule}
use Rattle.spawn_dev.specs.Orders.{IsBefore, AscendByPath}
use Rattle.spawn_dev.specs.Effects.{Seen, IsEffect, IsWellBehaved}
use Rattle.spawn_dev.specs.Books.{pieces_bytes, is_for, with_writes, effect_of}

abbrev File : Type 0
File = Path × List ℕ

both_so : (a b : Bool) → a ≡ true → b ≡ true → (a && b) ≡ true
both_so true true e f = refl
both_so true false e f = f
both_so false b e f = e

-- an owned file more
owns_insert : (outs : OutSet) (files : List File) (path : Path) (bytes : List ℕ) → owns_all outs files ≡ true → takes outs path ≡ true → owns_all outs (insert_entry path_cmp files path bytes) ≡ true
owns_insert outs [] path bytes all own = both_so (takes outs path) true own refl
owns_insert outs (f ∷ files) path bytes all own =
    by (path_cmp path f.0) (first_so (takes outs f.0) (owns_all outs files) all) (second_so (takes outs f.0) (owns_all outs files) all)
    (owns_insert outs files path bytes (second_so (takes outs f.0) (owns_all outs files) all) own)
  where
    by : (o : Ordering) → takes outs f.0 ≡ true → owns_all outs files ≡ true → owns_all outs (insert_entry path_cmp files path bytes) ≡ true
        → owns_all outs (match_ordering o ((path, bytes) ∷ f ∷ files) ((f.0, bytes) ∷ files) (f ∷ insert_entry path_cmp files path bytes)) ≡ true
    by Less here rest more = both_so (takes outs path) (owns_all outs (f ∷ files)) own all
    by Equal here rest more = both_so (takes outs f.0) (owns_all outs files) here rest
    by Greater here rest more = both_so (takes outs f.0) (owns_all outs (insert_entry path_cmp files path bytes)) here more

is_less : (r : Ordering) → is_lt r ≡ true → r ≡ Less
is_less Less h = refl
is_less Equal h = cc
is_less Greater h = cc

before_trans : (a b c : Path) → IsBefore a b → IsBefore b c → IsBefore a c
before_trans a b c e f = ap is_lt (path_cmp_total.trans a b c (is_less (path_cmp a b) e) (is_less (path_cmp b c) f))

-- behind a path, where all are and the new one is
all_insert : (before : Path) (files : List File) (path : Path) (bytes : List ℕ) → AllByRecursion (λ g. IsBefore before g.0) files → IsBefore before path
    → AllByRecursion (λ g. IsBefore before g.0) (insert_entry path_cmp files path bytes)
all_insert before [] path bytes all is = (is, tt)
all_insert before (f ∷ files) path bytes all is = by (path_cmp path f.0) (all_insert before files path bytes all.1 is)
  where
    by : (o : Ordering) → AllByRecursion (λ g. IsBefore before g.0) (insert_entry path_cmp files path bytes)
        → AllByRecursion (λ g. IsBefore before g.0) (match_ordering o ((path, bytes) ∷ f ∷ files) ((f.0, bytes) ∷ files) (f ∷ insert_entry path_cmp files path bytes))
    by Less more = (is, all)
    by Equal more = all
    by Greater more = (all.0, more)

all_far : (a b : Path) (files : List File) → IsBefore a b → AllByRecursion (λ g. IsBefore b g.0) files → AllByRecursion (λ g. IsBefore a g.0) files
all_far a b [] is all = tt
all_far a b (f ∷ files) is all = (before_trans a b f.0 is all.0, all_far a b files is all.1)

ascend_insert : (files : List File) (path : Path) (bytes : List ℕ) → AscendByPath files → AscendByPath (insert_entry path_cmp files path bytes)
ascend_insert [] path bytes up = (tt, tt)
ascend_insert (f ∷ files) path bytes up = by (path_cmp path f.0) refl (ascend_insert files path bytes up.1)
  where
    by : (o : Ordering) → path_cmp path f.0 ≡ o → AscendByPath (insert_entry path_cmp files path bytes)
        → AscendByPath (match_ordering o ((path, bytes) ∷ f ∷ files) ((f.0, bytes) ∷ files) (f ∷ insert_entry path_cmp files path bytes))
    by Less e more = ((ap is_lt e, all_far path f.0 files (ap is_lt e) up.0), up)
    by Equal e more = up
    by Greater e more = (all_insert f.0 files path bytes up.0 (ap is_lt (path_cmp_total.antisymm f.0 path ∙ ap ordering_reverse e)), more)

-- ---- writes

owns_writes : (seen : Seen) (files : List File) (writes : List (Path × List Piece)) → owns_all seen.outs files ≡ true → owns_all seen.outs (with_writes seen files writes) ≡ true
owns_writes seen files [] all = all
owns_writes seen files (w ∷ writes) all =
    by (takes seen.outs w.0) refl (λ e. owns_writes seen (insert_entry path_cmp files w.0 (pieces_bytes seen w.1)) writes (owns_insert seen.outs files w.0 (pieces_bytes seen w.1) all e))
    (owns_writes seen files writes all)
  where
    by : (b : Bool) → takes seen.outs w.0 ≡ b → (takes seen.outs w.0 ≡ true → owns_all seen.outs (with_writes seen (insert_entry path_cmp files w.0 (pieces_bytes seen w.1)) writes) ≡ true)
        → owns_all seen.outs (with_writes seen files writes) ≡ true → owns_all seen.outs (with_writes seen (cond b (insert_entry path_cmp files w.0 (pieces_bytes seen w.1)) files) writes) ≡ true
    by true e with_it without = with_it e
    by false e with_it without = without

ascend_writes : (seen : Seen) (files : List File) (writes : List (Path × List Piece)) → AscendByPath files → AscendByPath (with_writes seen files writes)
ascend_writes seen files [] up = up
ascend_writes seen files (w ∷ writes) up =
    by (takes seen.outs w.0) (ascend_writes seen (insert_entry path_cmp files w.0 (pieces_bytes seen w.1)) writes (ascend_insert files w.0 (pieces_bytes seen w.1) up)) (ascend_writes seen files writes up)
  where
    by : (b : Bool) → AscendByPath (with_writes seen (insert_entry path_cmp files w.0 (pieces_bytes seen w.1)) writes) → AscendByPath (with_writes seen files writes)
        → AscendByPath (with_writes seen (cond b (insert_entry path_cmp files w.0 (pieces_bytes seen w.1)) files) writes)
    by true with_it without = with_it
    by false with_it without = without

-- ---- books

below : (status : ℕ) → min status 255 < 256
below status = omega arith

behaved : (rules : List Rule) (seen : Seen) → IsEffect seen.outs (effect_of rules seen)
behaved [] seen = record { status = omega arith; owned = refl; ascend = tt }
behaved (rule ∷ rules) seen = by (is_for seen rule) (behaved rules seen)
  where
    by : (b : Bool) → IsEffect seen.outs (effect_of rules seen)
        → IsEffect seen.outs (cond b (record { log = pieces_bytes seen rule.log; status = min rule.status 255; files = with_writes seen [] rule.files }) (effect_of rules seen))
    by true other = record { status = below rule.status; owned = owns_writes seen [] rule.files refl; ascend = ascend_writes seen [] rule.files tt }
    by false other = other

-- what a command does is an effect of its task
pub behaves : (book : List Rule) → IsWellBehaved (effect_of book)
behaves book seen = behaved book seen

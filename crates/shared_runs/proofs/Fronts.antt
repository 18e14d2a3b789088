-- Frames at the front of others.
use Rattle.std.proofs.Common.{◌≡◌, inl, inr, ℕ, ◌+◌, ◌-◌, ◌≤◌, List, ◌++◌, length, take, Ok, refl}
use Rattle.std.proofs.Common.{sym, ◌∙◌, ap, subst, arith, length-append, append_assoc}
use Rattle.std.proofs.lemmas.List.{take_at, take_all, take-append-le}
use Rattle.std.proofs.Math.Seq.{take-append-add}
use Rattle.store_dev.specs.Device.{Only}
use Rattle.record_log.specs.Kinds.{Entry}
use Rattle.record_log.specs.Frames.{reading, frames_of, IsSound}
use Rattle.artifact_store.specs.declared.mark.StoreMark.{StoreMark}
use Rattle.artifact_store.specs.Marks.{IsMarkOf, marked}
use Rattle.blob_pool.specs.Known.{IsPoolOf}
use Rattle.pair_index.specs.Index.{IsIndexOf}
use Rattle.record_log.specs.Kept as log
use Rattle.shared_runs.specs.Frames.{StartWith, HoldsOn, HoldsFirst, HoldsOneOrMore}
use Rattle.shared_runs.proofs.MemTurns.{frames_is}

-- what is known of frames is known of them with more behind
pub mark_more : (mark : StoreMark) (fs more : List Entry) → IsMarkOf mark fs
    → IsMarkOf mark (fs ++ more)
mark_more mark fs more x =
    let same : take (marked mark) (fs ++ more) ≡ take (marked mark) fs =
    take-append-le (marked mark) fs more x.few in
    let seats : take (log.marked mark.log) (fs ++ more) ≡ take (log.marked mark.log) fs =
    take-append-le (log.marked mark.log) fs more (omega (arith, x.few, x.count)) in
    record {
      count = x.count;
      few = omega (arith, x.few, length-append fs more);
      log = subst (λ (l : List Entry). log.IsIndexOf mark.log l) (sym seats) x.log;
      pool = subst (IsPoolOf mark.pool) (sym same) x.pool;
      index = subst (IsIndexOf mark.index) (sym same) x.index;
    }

pub mark_starts : (mark : StoreMark) (fs all : List Entry) → StartWith fs all → IsMarkOf mark fs
    → IsMarkOf mark all
mark_starts mark fs all (more, is) x = subst (IsMarkOf mark) (sym is) (mark_more mark fs more x)

-- ---- of a file that is sound and leaves nothing else

pub starts_few : (fs all : List Entry) → StartWith fs all → length fs ≤ length all
starts_few fs all (more, is) = omega (arith, ap length is, length-append fs more)

pub starts_take : (fs all : List Entry) → StartWith fs all → take (length fs) all ≡ fs
starts_take fs all (more, is) = ap (take (length fs)) is ∙ take_at fs more (length fs) refl

pub first_all : (least : ℕ) (all : List Entry) (c : List ℕ) → least ≤ length all → reading c
    ≡ Ok all
    → HoldsFirst least all c
first_all least all c le is = (
  length all,
  le,
  omega arith,
  is ∙ ap (λ (l : List Entry). Ok l) (sym (take_all (length all) all (omega arith))),
)

module _ (file : List ℕ) (all : List Entry) (sound : IsSound file)
    (starts : StartWith (frames_of file) all) where
  pub first_none : (c : List ℕ) → reading c ≡ Ok (frames_of file)
      → HoldsFirst (length (frames_of file)) all c
  first_none c is = (
    length (frames_of file),
    omega arith,
    starts_few (frames_of file) all starts,
    is ∙ ap (λ (l : List Entry). Ok l) (sym (starts_take (frames_of file) all starts)),
  )

  pub first_or_more : (images : List ℕ → Type 0) → Only file images → (c : List ℕ)
      → HoldsOneOrMore images file all c → HoldsFirst (length (frames_of file)) all c
  first_or_more images only c (inl (d, now, same)) =
      first_none c (same ∙ ap reading (only d now) ∙ sound)
  first_or_more images only c (inr more) = more.1

-- ---- fronts of frames that others begin with

pub front_same : (fs all : List Entry) → StartWith fs all → (n : ℕ) → n ≤ length fs → take n all
    ≡ take n fs
front_same fs all (more, is) n le = ap (take n) is ∙ take-append-le n fs more le

-- what is longer begins with them
pub front_long : (fs all : List Entry) → StartWith fs all → (n : ℕ) → length fs ≤ n
    → StartWith fs (take n all)
front_long fs all (more, is) n le =
    let at : n ≡ length fs + (n - length fs) = omega (arith, le) in (
      take (n - length fs) more,
      ap (take n) is ∙ ap (λ (k : ℕ). take k (fs ++ more)) at
          ∙ take-append-add fs more (n - length fs),
    )

pub holds_first : (fs all : List Entry) → StartWith fs all → (c : List ℕ)
    → HoldsFirst (length fs) all c → HoldsOn fs c
holds_first fs all starts c (n, least, le, is) =
    let (more, same) = front_long fs all starts n least in
    (more, is ∙ ap (λ (l : List Entry). Ok l) same)

pub starts_then : (a b d : List Entry) → StartWith a b → StartWith b d → StartWith a d
starts_then a b d (x, is) (y, are) =
    (x ++ y, are ∙ ap (λ (l : List Entry). l ++ y) is ∙ append_assoc a x y)

pub holds_then : (a b : List Entry) → StartWith a b → (c : List ℕ) → HoldsOn b c → HoldsOn a c
holds_then a b (x, is) c (y, read) = (
  x ++ y,
  read ∙ ap (λ (l : List Entry). Ok l)
      (ap (λ (l : List Entry). l ++ y) is ∙ append_assoc a x y),
)

pub holds_starts : (fs : List Entry) (c : List ℕ) → HoldsOn fs c → StartWith fs (frames_of c)
holds_starts fs c (more, is) = (more, frames_is c (fs ++ more) is)

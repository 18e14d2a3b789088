-- Pools that go on, frame by frame.
use Rattle.std.specs.Prelude.{Result, IsOk, OnOk}
use Rattle.std.proofs.Common.{◌≡◌, ◌≢◌, ℕ, ◌+◌, ◌<◌, List, [], ◌∷◌, ◌++◌, length, get_or, Ok, Err, sym, ap, subst, arith, append_assoc, length-append}
use Rattle.record_log.specs.declared.kind.TheConstants.{CONTENT}
use Rattle.record_log.specs.Kinds.{Entry}
use Rattle.blob_pool.specs.declared.pool.Pool.{Pool}
use Rattle.std.proofs.lemmas.List.{append-nil}
use Rattle.blob_pool.specs.Known.{IsPoolOf, places_in, digests_in}
use Rattle.blob_pool.specs.Laws.{pool_next, pool_stays, below_push}
use Rattle.pair_writer.specs.Learning.{GoesOn}

pub goes_none : (first : ℕ) (pool : Pool) → GoesOn first [] pool pool
goes_none first pool = record {
  told = λ fs at x. subst (IsPoolOf pool) (sym (append-nil fs)) x;
  below = λ below i inside. omega (arith, below i inside);
  even = λ even. even;
}

pub goes_both : (first : ℕ) (xs ys : List Entry) (a b d : Pool) → GoesOn first xs a b
    → GoesOn (first + length xs) ys b d → GoesOn first (xs ++ ys) a d
goes_both first xs ys a b d x y = record {
  told = λ fs at is.
      let both : first + length xs ≡ length (fs ++ xs) = omega (arith, at, length-append fs xs) in
      subst (IsPoolOf d) (append_assoc fs xs ys) (y.told (fs ++ xs) both (x.told fs at is));
  below = λ below i inside. omega (arith, y.below (x.below below) i inside, length-append xs ys);
  even = λ even. y.even (x.even even);
}

-- a content
pub goes_learned : (first : ℕ) (e : Entry) (a b : Pool) → e.kind ≡ CONTENT
    → places_in b ≡ places_in a ++ first ∷ [] → digests_in b ≡ digests_in a ++ e.key ∷ []
    → GoesOn first (e ∷ []) a b
goes_learned first e a b kind places digests = record {
  told = λ fs at x. pool_next a b fs e first x kind at places digests;
  below = λ below.
      subst (λ (l : List ℕ). (i : ℕ) → i < length l → get_or l i 0 < first + 1) (sym places)
      (below_push (places_in a) first (first + 1) first below (omega arith) (omega arith));
  even = λ even.
      omega (
        arith,
        even,
        ap length places,
        ap length digests,
        length-append (places_in a) (first ∷ []),
        length-append (digests_in a) (e.key ∷ []),
      );
}

-- another frame
pub goes_by : (first : ℕ) (e : Entry) (pool : Pool) → e.kind ≢ CONTENT
    → GoesOn first (e ∷ []) pool pool
goes_by first e pool other = record {
  told = λ fs at x. pool_stays pool fs e x other;
  below = λ below i inside. omega (arith, below i inside);
  even = λ even. even;
}

-- what holds of an answer that is `Ok`
pub on_ok : {T E : Type 0} (r : Result T E) (P : Type 0) → IsOk r → OnOk r P → P
on_ok (Ok _) P is holds = holds
on_ok (Err _) P is holds = absurd cc

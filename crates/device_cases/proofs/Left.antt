-- What a store that was opened and added to leaves.
use Rattle.std.proofs.Common.{◌≡◌, inl, inr, ℕ, zero, suc, List, [], ◌∷◌, ◌++◌, length, Some, None}
use Rattle.std.proofs.Common.{Ok, Err, sym, ◌∙◌, ap, append-nil, arith}
use Rattle.std.specs.Prelude.{Option, Result}
use Rattle.std.proofs.lemmas.List.{take_all}
use Rattle.cache_api.specs.Pairs.{Pair, IsPartSince, IsFirstPart}
use Rattle.cache_api.proofs.Firsts.{part_added}
use Rattle.record_log.specs.Kinds.{Entry}
use Rattle.record_log.specs.Frames.{Fault, reading, ReadsAsOneOf}
use Rattle.artifact_store.specs.Pairs.{pairs_in, stands_for, told_as}
use Rattle.artifact_store.specs.Laws.{told_stands}
use Rattle.device_cases.specs.Session.{IsLeftBy}

reads_same : (c d : List ℕ) → reading c ≡ reading d → stands_for c ≡ stands_for d
unfolding stands_for
reads_same c d is = ap (λ (r : Result (List Entry) Fault). elim r as (λ _. Option (List Pair)) [ Ok es ↦ Some (pairs_in es) | Err _ ↦ None ]) is

pub opened : (images : List ℕ → Type 0) (pair : Pair) (c : List ℕ) → ReadsAsOneOf images c → IsLeftBy images pair c
opened images pair c (d, now, is) = (d, now, inl (reads_same c d is))

-- all of its pairs lasted
pub added : (images : List ℕ → Type 0) (pair : Pair) (bytes : List ℕ) (pairs : List Pair)
    → images bytes → stands_for bytes ≡ Some pairs → (generation : ℕ) (c : List ℕ)
    → IsPartSince (length pairs) (pairs ++ pair ∷ []) (told_as generation c)
    → IsLeftBy images pair c
added images pair bytes pairs now is generation c part =
    by (part_added pairs (pair ∷ []) (told_as generation c) part)
  where
    by : IsFirstPart pairs (pair ∷ []) (told_as generation c) → IsLeftBy images pair c
    by (zero, within, said) =
        let same = said ∙ ap (λ (l : List Pair). Some l) (append-nil pairs) in
        (bytes, now, inl (told_stands generation c pairs same ∙ sym is))
    by (suc n, within, said) =
        let more = said ∙ ap (λ (l : List Pair). Some (pairs ++ l))
        (take_all (suc n) (pair ∷ []) (omega arith)) in
        (bytes, now, inr (pairs, is, told_stands generation c (pairs ++ pair ∷ []) more))

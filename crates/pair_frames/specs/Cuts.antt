-- A pair that is cut in steps: its files, contents and runs, some done and some behind them.
use Rattle.std.proofs.Common.{◌≡◌, ℕ, List, [], ◌∷◌, ◌++◌, length, refl, sym, ◌∙◌, ap, append_assoc}
use Rattle.std.proofs.lemmas.List.{append-nil}
use Rattle.codes.specs.Codes.{word, str}
use Rattle.record_log.specs.Kinds.{Entry}
use Rattle.record_log.specs.Pieces.{Piece}
use Rattle.blob_pool.specs.Pool.{missing}
use Rattle.pair_frames.specs.Runs.{Run, contents_in, NamedBytes, file_run, file_runs}
use Rattle.pair_frames.specs.Runs.Run.{Plain, Whole}
use Rattle.pair_frames.specs.Puts.{literal_before, named, pieces_from, blobs_for}

-- ---- files and runs

pub file_runs-append : (xs ys : List NamedBytes)
    → file_runs (xs ++ ys) ≡ file_runs xs ++ file_runs ys
file_runs-append [] ys = refl
file_runs-append (x ∷ xs) ys =
    let head = str x.0 ++ word (length x.1) in
    ap (λ (l : List Run). Plain head ∷ file_run x.1 ∷ l) (file_runs-append xs ys)

pub contents_in-append : (xs ys : List Run)
    → contents_in (xs ++ ys) ≡ contents_in xs ++ contents_in ys
contents_in-append [] ys = refl
contents_in-append (Plain bytes ∷ xs) ys = contents_in-append xs ys
contents_in-append (Whole bytes ∷ xs) ys =
    ap (λ (l : List (List ℕ)). bytes ∷ l) (contents_in-append xs ys)

-- ---- the frames of contents

pub blobs_for-append : (fs : List Entry) (xs ys : List (List ℕ))
    → blobs_for fs (xs ++ ys) ≡ blobs_for fs xs ++ blobs_for (fs ++ blobs_for fs xs) ys
blobs_for-append fs [] ys = ap (λ (l : List Entry). blobs_for l ys) (sym (append-nil fs))
blobs_for-append fs (x ∷ xs) ys =
    let new = missing fs x in
    let more = blobs_for (fs ++ new) xs in
    ap (λ (l : List Entry). new ++ l) (blobs_for-append (fs ++ new) xs ys)
    ∙ sym (append_assoc new more (blobs_for ((fs ++ new) ++ more) ys))
    ∙ ap (λ (l : List Entry). (new ++ more) ++ blobs_for l ys) (append_assoc fs new more)

-- one content behind those for which these frames are added
pub blobs_step : (fs : List Entry) (done : List (List ℕ)) (bytes : List ℕ) (bs : List Entry)
    → bs ≡ blobs_for fs done → blobs_for fs (done ++ bytes ∷ []) ≡ bs ++ missing (fs ++ bs) bytes
blobs_step fs done bytes bs is =
    blobs_for-append fs done (bytes ∷ [])
    ∙ ap (λ (l : List Entry). l ++ (missing (fs ++ l) bytes ++ [])) (sym is)
    ∙ ap (λ (l : List Entry). bs ++ l) (append-nil (missing (fs ++ bs) bytes))

-- ---- pieces

-- the pieces that are known after runs, whatever follows
abbrev pub closed : List Entry → List ℕ → List Run → List Piece
closed fs before [] = []
closed fs before (Plain bytes ∷ runs) = closed fs (before ++ bytes) runs
closed fs before (Whole bytes ∷ runs) = literal_before before (named fs bytes ∷ closed fs [] runs)

-- and the bytes that are in none of them
abbrev pub open_bytes : List ℕ → List Run → List ℕ
open_bytes before [] = before
open_bytes before (Plain bytes ∷ runs) = open_bytes (before ++ bytes) runs
open_bytes before (Whole bytes ∷ runs) = open_bytes [] runs

literal_in_front : (before : List ℕ) (xs ys : List Piece)
    → literal_before before (xs ++ ys) ≡ literal_before before xs ++ ys
literal_in_front [] xs ys = refl
literal_in_front (x ∷ before) xs ys = refl

pub pieces_from-append : (fs : List Entry) (before : List ℕ) (xs ys : List Run)
    → pieces_from fs before (xs ++ ys)
    ≡ closed fs before xs ++ pieces_from fs (open_bytes before xs) ys
pieces_from-append fs before [] ys = refl
pieces_from-append fs before (Plain bytes ∷ xs) ys = pieces_from-append fs (before ++ bytes) xs ys
pieces_from-append fs before (Whole bytes ∷ xs) ys =
    let rest = pieces_from fs (open_bytes [] xs) ys in
    ap (λ (l : List Piece). literal_before before (named fs bytes ∷ l))
    (pieces_from-append fs [] xs ys)
    ∙ literal_in_front before (named fs bytes ∷ closed fs [] xs) rest

-- Going over pieces, as far as it has come.
use Rattle.std.proofs.Common.{◌≡◌, ℕ, suc, ◌+◌, ◌-◌, ◌≤◌, ◌<◌, ◌^◌, Bool, List, [], ◌∷◌, ◌++◌, length, drop, get_or, refl, ◌∙◌, ap, subst, arith, length-append, eq-eqb, drop_of_length-le}
use Rattle.std.specs.Prelude.{min, bytes_eq, ◌&&◌}
use Rattle.std.proofs.Math.Seq.{drop-cons}
use Rattle.store_dev.specs.declared.device.StoreDevice.{Ghosts}
use Rattle.record_log.specs.declared.log.Log.{Log}
use Rattle.record_log.specs.Log.{device_of, probes_of}
use Rattle.record_log.specs.Pieces.{Piece}
use Rattle.record_log.specs.Pieces.Piece.{Literal, Content}
use Rattle.blob_pool.specs.Known.{OnlyReadsLog}
use Rattle.blob_pool.specs.Laws.{reads_log_none, reads_log_both}
use Rattle.pair_frames.specs.Pairs.{piece_bytes}
use Rattle.pair_reader.specs.declared.piece.PieceAt.{PieceAt}
use Rattle.pair_reader.specs.declared.piece.PieceAt.TheVariants as at
use Rattle.pair_reader.specs.Frames.{contents_among}
use Rattle.pair_reader.specs.Standing.{piece_of, pieces_of, place_of, bytes_of, IsThere, AreThere, AllShow}
use Rattle.pair_reader.specs.Answers.{ReadsAtMost}

-- the pieces from an index on are the one there and those behind it
pub next_item : {A : Type 0} (xs : List A) (i : ℕ) (d : A) → i < length xs
    → drop i xs ≡ get_or xs i d ∷ drop (i + 1) xs
next_item xs i d lt =
    let step : suc i ≡ i + 1 = omega arith in
    drop-cons xs i d lt ∙ ap (λ (k : ℕ). get_or xs i d ∷ drop k xs) step

-- ---- how often is read

pub contents_cons : (piece : Piece) (more : List Piece)
    → contents_among (piece ∷ more) ≡ contents_among (piece ∷ []) + contents_among more
contents_cons (Literal bytes) more = omega arith
contents_cons (Content number) more = omega arith

-- a log was read for the first of the pieces, and these are left
pub record Walks {S : Type 0} {G : Ghosts S} (count : ℕ) (pieces left : List PieceAt)
    (old new : Log S G) : Type 0 where
  pub log : OnlyReadsLog old new
  pub faults : G.store_faults (device_of new) ≡ G.store_faults (device_of old)
  pub reads : probes_of new + contents_among (pieces_of left)
      ≤ probes_of old + contents_among (pieces_of pieces)
  pub there : AreThere count left

pub walks_none : {S : Type 0} {G : Ghosts S} (count : ℕ) (pieces : List PieceAt) (log : Log S G)
    → AreThere count pieces → Walks count pieces pieces log log
walks_none count pieces log there =
    record { log = reads_log_none log; faults = refl; reads = omega arith; there = there }

pub walks_next : {S : Type 0} {G : Ghosts S} (count : ℕ) (pieces : List PieceAt) (i : ℕ)
    (d : PieceAt) (old mid new : Log S G) → i < length pieces
    → Walks count pieces (drop i pieces) old mid → OnlyReadsLog mid new
    → G.store_faults (device_of new) ≡ G.store_faults (device_of mid)
    → ReadsAtMost (contents_among (piece_of (get_or pieces i d) ∷ [])) mid new
    → Walks count pieces (drop (i + 1) pieces) old new
walks_next {G = G} count pieces i d old mid new lt w reads faults few =
    let more = drop (i + 1) pieces in
    let same = next_item pieces i d lt in
    let there : AreThere count (get_or pieces i d ∷ more) = subst (AreThere count) same w.there in
    record {
      log = reads_log_both old mid new w.log reads;
      faults = faults ∙ w.faults;
      reads = omega (
        arith,
        w.reads,
        few,
        contents_cons (piece_of (get_or pieces i d)) (pieces_of more),
        ap (λ (l : List PieceAt). contents_among (pieces_of l)) same,
      );
      there = there.1;
    }

-- the content that the next piece names is there
pub walks_there : (count : ℕ) (pieces : List PieceAt) (i : ℕ) (d : PieceAt) → i < length pieces
    → AreThere count (drop i pieces) → IsThere count (get_or pieces i d)
walks_there count pieces i d lt there =
    let all : AreThere count (get_or pieces i d ∷ drop (i + 1) pieces) =
    subst (AreThere count) (next_item pieces i d lt) there in
    all.0

-- a call for the next piece reads no more often than the pieces are contents
pub walks_stop : {S : Type 0} {G : Ghosts S} (count : ℕ) (pieces : List PieceAt) (i : ℕ)
    (d : PieceAt) (old mid new : Log S G) → i < length pieces
    → Walks count pieces (drop i pieces) old mid
    → ReadsAtMost (contents_among (piece_of (get_or pieces i d) ∷ [])) mid new
    → ReadsAtMost (contents_among (pieces_of pieces)) old new
walks_stop count pieces i d old mid new lt w few =
    let more = drop (i + 1) pieces in
    omega (
      arith,
      w.reads,
      few,
      contents_cons (piece_of (get_or pieces i d)) (pieces_of more),
      ap (λ (l : List PieceAt). contents_among (pieces_of l)) (next_item pieces i d lt),
    )

-- ---- what they show

pub shows_next : (text : List ℕ) (contents : List (List ℕ)) (pieces : List PieceAt) (i : ℕ)
    (d : PieceAt) → i < length pieces
    → AllShow text contents (drop i pieces) → AllShow text contents (get_or pieces i d ∷ drop (i + 1) pieces)
shows_next text contents pieces i d lt shows =
    subst (AllShow text contents) (next_item pieces i d lt) shows

-- any piece
nothing : PieceAt
nothing = at.Content (record { number = 0 }) (record { at = 0; len = 0 })

pub shows_rest : (text : List ℕ) (contents : List (List ℕ)) (pieces : List PieceAt) (i : ℕ)
    → i < length pieces → AllShow text contents (drop i pieces)
    → AllShow text contents (drop (i + 1) pieces)
shows_rest text contents pieces i lt shows =
    (shows_next text contents pieces i nothing lt shows).1

pub bytes_next : (contents : List (List ℕ)) (pieces : List PieceAt) (i : ℕ) (d : PieceAt)
    → i < length pieces
    → bytes_of contents (drop i pieces)
    ≡ piece_bytes contents (piece_of (get_or pieces i d)) ++ bytes_of contents (drop (i + 1) pieces)
bytes_next contents pieces i d lt = ap (bytes_of contents) (next_item pieces i d lt)

-- so many bytes are counted, and those of the pieces that are left are wanting
pub record Counts (text : List ℕ) (contents : List (List ℕ)) (pieces left : List PieceAt)
    (n : ℕ) : Type 0 where
  pub shows : AllShow text contents left
  pub fits : n < 2 ^ 64
  pub sum : min (n + length (bytes_of contents left)) (2 ^ 64 - 1)
      ≡ min (length (bytes_of contents pieces)) (2 ^ 64 - 1)

pub counts_next : (text : List ℕ) (contents : List (List ℕ)) (pieces : List PieceAt) (i : ℕ)
    (d : PieceAt) (n m : ℕ) → i < length pieces
    → Counts text contents pieces (drop i pieces) n
    → m ≡ min (n + (place_of (get_or pieces i d)).len) (2 ^ 64 - 1)
    → Counts text contents pieces (drop (i + 1) pieces) m
counts_next text contents pieces i d n m lt c grown =
    let more = drop (i + 1) pieces in
    let shows = shows_next text contents pieces i d lt c.shows in
    let split = ap length (bytes_next contents pieces i d lt) in
    record {
      shows = shows.1;
      fits = omega (arith, grown);
      sum = omega (
        arith,
        c.sum,
        grown,
        shows.0.len,
        split,
        length-append (piece_bytes contents (piece_of (get_or pieces i d))) (bytes_of contents more),
      );
    }

-- behind the last piece none are left
pub none_left : (pieces : List PieceAt) (i : ℕ) → length pieces ≤ i → drop i pieces ≡ []
none_left pieces i past = drop_of_length-le pieces past

pub counts_all : (text : List ℕ) (contents : List (List ℕ)) (pieces : List PieceAt) (i n : ℕ)
    → length pieces ≤ i → Counts text contents pieces (drop i pieces) n
    → n ≡ min (length (bytes_of contents pieces)) (2 ^ 64 - 1)
counts_all text contents pieces i n past c =
    let none = ap (λ (l : List PieceAt). length (bytes_of contents l)) (none_left pieces i past) in
    omega (arith, c.sum, none, c.fits)

-- ---- bytes that are compared

-- equal fronts are no matter
pub eq_behind : (front xs ys : List ℕ) → bytes_eq (front ++ xs) (front ++ ys) ≡ bytes_eq xs ys
eq_behind [] xs ys = refl
eq_behind (b ∷ front) xs ys =
    ap (λ (r : Bool). r && bytes_eq (front ++ xs) (front ++ ys)) (eq-eqb b b refl)
    ∙ eq_behind front xs ys

-- How the devices of a file follow one another, in what a crash might have left.
use Rattle.std.proofs.Common.{◌⊎◌, inl, inr, ⊎_elim, ℕ, zero, suc, ◌≤◌, List, [], ◌∷◌, ◌++◌, length}
use Rattle.std.proofs.Common.{arith}
use Rattle.store_dev.specs.declared.memory.MemStore.{MemStore}
use Rattle.store_dev.specs.MemStore.{images_of, images_since_of, start_of, steps_of}
use Rattle.store_dev.specs.Record.{counts}
use Rattle.shared_runs.specs.History.{LeftWhile, LeftSince}

now_while : (d : MemStore) (c : List ℕ) → images_of d c → images_since_of d 0 c
now_while d c now = counts (start_of d) (steps_of d) 0 c (omega arith) now

since_while : (ds : List MemStore) (m : ℕ) (c : List ℕ) → LeftSince ds m c → LeftWhile ds c
since_while [] m c left = left
since_while (d ∷ ds) zero c left = ⊎_elim (λ now. inl (now_while d c now)) (λ later. inr later) left
since_while (d ∷ ds) (suc m) c left = inr (since_while ds m c left)

-- since a moment might have been left what might have been left since a later one
pub left_earlier : (ds : List MemStore) (m n : ℕ) (c : List ℕ) → m ≤ n → LeftSince ds n c
    → LeftSince ds m c
left_earlier [] m n c le left = left
left_earlier (d ∷ ds) zero zero c le left = left
left_earlier (d ∷ ds) zero (suc n) c le left = inr (since_while ds n c left)
left_earlier (d ∷ ds) (suc m) zero c le left = absurd (omega (arith, le))
left_earlier (d ∷ ds) (suc m) (suc n) c le left = left_earlier ds m n c (omega (arith, le)) left

-- since the last moment nothing but what may be left now
pub left_last : (past : List MemStore) (d : MemStore) (c : List ℕ)
    → LeftSince (past ++ d ∷ []) (length past) c → images_of d c
left_last [] d c left = ⊎_elim (λ now. now) (λ none. absurd none) left
left_last (p ∷ past) d c left = left_last past d c left

last_now : (past : List MemStore) (d : MemStore) (c : List ℕ) → images_of d c
    → LeftSince (past ++ d ∷ []) (length past) c
last_now [] d c now = inl now
last_now (p ∷ past) d c now = last_now past d c now

pub left_now : (past : List MemStore) (d : MemStore) (m : ℕ) (c : List ℕ) → m ≤ length past
    → images_of d c → LeftSince (past ++ d ∷ []) m c
left_now past d m c le now =
    left_earlier (past ++ d ∷ []) m (length past) c le (last_now past d c now)

-- ---- one device more

while_more : (ds : List MemStore) (d : MemStore) (c : List ℕ) → LeftWhile (ds ++ d ∷ []) c
    → LeftWhile ds c ⊎ images_since_of d 0 c
while_more [] d c left = ⊎_elim (λ now. inr now) (λ none. absurd none) left
while_more (x ∷ ds) d c left =
    ⊎_elim (λ was. inl (inl was)) (λ later. ⊎_elim (λ was. inl (inr was)) (λ new. inr new)
    (while_more ds d c later)) left

while_kept : (ds : List MemStore) (d : MemStore) (c : List ℕ) → LeftWhile ds c
    → LeftWhile (ds ++ d ∷ []) c
while_kept [] d c left = absurd left
while_kept (x ∷ ds) d c left = ⊎_elim (λ was. inl was) (λ later. inr (while_kept ds d c later)) left

while_last : (ds : List MemStore) (d : MemStore) (c : List ℕ) → images_since_of d 0 c
    → LeftWhile (ds ++ d ∷ []) c
while_last [] d c left = inl left
while_last (x ∷ ds) d c left = inr (while_last ds d c left)

pub left_kept : (ds : List MemStore) (d : MemStore) (m : ℕ) (c : List ℕ) → LeftSince ds m c
    → LeftSince (ds ++ d ∷ []) m c
left_kept [] d m c left = absurd left
left_kept (x ∷ ds) d zero c left = ⊎_elim (λ was. inl was)
    (λ later. inr (while_kept ds d c later)) left
left_kept (x ∷ ds) d (suc m) c left = left_kept ds d m c left

since_last : (past : List MemStore) (f d : MemStore) (c : List ℕ) → images_since_of d 0 c
    → LeftSince ((past ++ f ∷ []) ++ d ∷ []) (length past) c
since_last [] f d c left = inr (inl left)
since_last (p ∷ past) f d c left = since_last past f d c left

pub left_more : (past : List MemStore) (f d : MemStore) (c : List ℕ)
    → LeftSince ((past ++ f ∷ []) ++ d ∷ []) (length past) c → images_of f c ⊎ images_since_of d 0 c
left_more [] f d c left =
    ⊎_elim (λ was. inl was) (λ later. ⊎_elim (λ new. inr new) (λ none. absurd none) later) left
left_more (p ∷ past) f d c left = left_more past f d c left

either : (past : List MemStore) (f d : MemStore) (m : ℕ) (c : List ℕ) → m ≤ length past
    → LeftSince ((past ++ f ∷ []) ++ d ∷ []) m c → LeftSince (past ++ f ∷ []) m c
    ⊎ images_since_of d 0 c
either [] f d zero c le left =
    ⊎_elim (λ was. inl (inl was)) (λ later. ⊎_elim (λ new. inr new) (λ none. absurd none) later)
    left
either [] f d (suc m) c le left = absurd (omega (arith, le))
either (p ∷ past) f d zero c le left = ⊎_elim
    (λ was. inl (inl was))
    (λ later. ⊎_elim (λ was. inl (inr was)) (λ new. inr new)
    (while_more (past ++ f ∷ []) d c later))
    left
either (p ∷ past) f d (suc m) c le left = either past f d m c (omega (arith, le)) left

-- what might have been left since a moment was left before the last device, or since then
pub left_split : (past : List MemStore) (f d : MemStore) (m : ℕ) (c : List ℕ) → m ≤ length past
    → LeftSince ((past ++ f ∷ []) ++ d ∷ []) m c
    → LeftSince (past ++ f ∷ []) m c ⊎ LeftSince ((past ++ f ∷ []) ++ d ∷ []) (length past) c
left_split past f d m c le left =
    ⊎_elim (λ was. inl was) (λ new. inr (since_last past f d c new)) (either past f d m c le left)

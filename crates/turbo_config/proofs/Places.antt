-- Each key has its place.
use Rattle.std.proofs.Common.{◌≡◌, ◌&&◌, Bool, true, false, cond, List, [], ◌∷◌, Some, refl, sym, subst, ℕ}
use Rattle.std.specs.List.{find, list_all}
use Rattle.key_table.specs.Entry.{Entry as Key, entry_named, is_named}
use Rattle.turbo_config.specs.Keys.{task_keys, top_keys}
use Rattle.turbo_config.specs.Tasks.{is_place}
use Rattle.turbo_config.specs.Files.{is_top}

-- what is found among elements that all pass, passes
find_passes : {X : Type 0} (test all : X → Bool) (xs : List X) (x : X) → list_all all xs ≡ true → find test xs ≡ Some x → all x ≡ true
find_passes test all [] x passes found = absurd (cc)
find_passes test all (y ∷ ys) x passes found = by (test y) (all y) refl (find_passes test all ys x) passes found
  where
    by : (here ok : Bool) → all y ≡ ok → (list_all all ys ≡ true → find test ys ≡ Some x → all x ≡ true) → (ok && list_all all ys) ≡ true → cond here (Some y) (find test ys) ≡ Some x → all x ≡ true
    by here false is rest passes found = absurd (cc)
    by true true is rest passes found = let same : y ≡ x = cc in subst (λ z. all z ≡ true) same is
    by false true is rest passes found = rest passes found

pub key_has_place : (name : List ℕ) (keys : List Key) (key : Key) → keys ≡ task_keys → Some key ≡ entry_named name keys → is_place key.kind key.place ≡ true
key_has_place name keys key is found = find_passes (is_named name) (λ k. is_place k.kind k.place) keys key (rw is refl) (sym found)

pub top_key_has_place : (name : List ℕ) (keys : List Key) (key : Key) → keys ≡ top_keys → Some key ≡ entry_named name keys → is_top key.place ≡ true
top_key_has_place name keys key is found = find_passes (is_named name) (λ k. is_top k.place) keys key (rw is refl) (sym found)

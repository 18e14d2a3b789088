-- One step of the generator, and none.
use Rattle.std.proofs.Common.{◌≡◌, ℕ, ◌+◌, ◌∷◌, [], ◌++◌, refl, add-one}
use Rattle.sample_repository.specs.Repository.{next_state, state_behind, letter, letters}

pub state_none : (x : ℕ) → state_behind 0 x ≡ x
unfolding state_behind
state_none x = refl

pub state_more : (k x : ℕ) → state_behind (k + 1) x ≡ next_state (state_behind k x)
unfolding state_behind
state_more k x = rw (add-one k) refl

pub letters_none : (x : ℕ) → letters 0 x ≡ []
unfolding letters
letters_none x = refl

pub letters_more : (k x : ℕ)
    → letters (k + 1) x ≡ letters k x ++ letter (next_state (state_behind k x)) ∷ []
unfolding letters state_behind
letters_more k x = rw (add-one k) refl

-- The names of four maps that pass.
use Rattle.std.proofs.Common.{◌≡◌, ◌++◌, [], List, ℕ, Bool, append_assoc}
use Rattle.std.specs.Prelude.{filter}
use Rattle.std.proofs.lemmas.List.Elements.{filter-append}

pub four_maps : (test : List ℕ → Bool) (one two three four : List (List ℕ)) → ((([] ++ filter test one) ++ filter test two) ++ filter test three) ++ filter test four ≡ filter test (one ++ (two ++ (three ++ four)))
four_maps test one two three four = simp (filter-append, append_assoc)

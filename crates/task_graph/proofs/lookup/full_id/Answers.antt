use Rattle.std.proofs.Common.{◌≡◌, ◌<◌, ◌∷◌, ◌+◌, ◌||◌, [], ℕ, List, None, refl, lit<, false, true, Bool, length, cond, not, arith}
use Rattle.std.specs.List.{position_or_len}
use Rattle.std.proofs.lemmas.Str.Pattern.{split_once_first}
use Rattle.task_graph.specs.Tasks.{is_hash, is_full}
use Rattle.task_graph.proofs.lookup.full_id.Goals as goal

found : (text : List ℕ) → position_or_len is_hash text < length text → is_full text ≡ true
found [] less = absurd (omega arith)
found (b ∷ bs) less = by (is_hash b) less (found bs) where
  by : (t : Bool) → cond (not t) (1 + position_or_len is_hash bs) 0 < length (b ∷ bs) → (position_or_len is_hash bs < length bs → is_full bs ≡ true) → (t || is_full bs) ≡ true
  by true less inner = refl
  by false less inner = inner (omega arith)

none : (text : List ℕ) → position_or_len is_hash text ≡ length text → is_full text ≡ false
none [] same = refl
none (b ∷ bs) same = by (is_hash b) same (none bs) where
  by : (t : Bool) → cond (not t) (1 + position_or_len is_hash bs) 0 ≡ length (b ∷ bs) → (position_or_len is_hash bs ≡ length bs → is_full bs ≡ false) → (t || is_full bs) ≡ false
  by true same inner = absurd (omega (arith, same))
  by false same inner = inner (omega (arith, same))

pub returns-in-None-clause-value : goal.returns-in-None-clause-value
returns-in-None-clause-value c = rw (none c.args.text.now (split_once_first 35 c.args.text.now None c.in-None.ensures.cases (lit< tt))) refl

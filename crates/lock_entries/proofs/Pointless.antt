-- Pairs that read at one pointer read at each.
use Rattle.std.proofs.Common.{◌≡◌, ℕ, List, [], ◌∷◌, Option, Some, None, Ok}
use Rattle.serde_json.specs.Data.{Data, Members}
use Rattle.serde_json.specs.Find.{as_object}
use Rattle.json_view.specs.Pairs.{least_pointer, unless_other, pairs_if, pairs_of, text_members, other_members}

same_by : (pairs read : List (List ℕ × List ℕ)) (at other : List ℕ) (names : List (List ℕ)) → unless_other pairs (least_pointer at names) ≡ Ok read → unless_other pairs (least_pointer other names) ≡ Ok read
same_by pairs read at other [] e = e
same_by pairs read at other (name ∷ names) e = absurd (cc)

same_if : (read : List (List ℕ × List ℕ)) (at other : List ℕ) (o : Option Members) → pairs_if at o ≡ Ok read → pairs_if other o ≡ Ok read
same_if read at other None e = absurd (cc)
same_if read at other (Some ms) e = same_by (text_members ms) read at other (other_members ms) e

pub pairs_anywhere : (read : List (List ℕ × List ℕ)) (at other : List ℕ) (d : Data) → pairs_of at d ≡ Ok read → pairs_of other d ≡ Ok read
unfolding pairs_of
pairs_anywhere read at other d e = same_if read at other (as_object d) e

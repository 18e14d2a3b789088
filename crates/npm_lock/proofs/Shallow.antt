-- A reading nests no deeper than a JSON text may.
use Rattle.std.proofs.Common.{◌≡◌, ◌≤◌, ℕ, List, Bool, true, false, cond, Some, None}
use Rattle.std.specs.Str.{is_utf8}
use Rattle.serde_json.specs.Data.{Data, depth}
use Rattle.serde_json.specs.Read.{read, max_depth}
use Rattle.serde_json.proofs.Nesting.{depth-read}
use Rattle.json_view.specs.Reading.{reading, behind_mark}

pub reading-shallow : (bytes : List ℕ) (d : Data) → reading bytes ≡ Some d → depth d ≤ max_depth
unfolding reading
reading-shallow bytes d e = by (is_utf8 (behind_mark bytes)) e where
  by : (b : Bool) → cond b (read (behind_mark bytes)) None ≡ Some d → depth d ≤ max_depth
  by true h = depth-read (behind_mark bytes) d h
  by false h = absurd (cc)

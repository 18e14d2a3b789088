-- What bytes read as, by whether they are text.
use Rattle.std.proofs.Common.{◌≡◌, ℕ, List, Bool, true, false, Option, Some, None, refl, cond}
use Rattle.std.specs.Str.{is_utf8, IsUtf8}
use Rattle.std.proofs.lemmas.Str.{is_utf8-from_IsUtf8, IsUtf8-from_is_utf8}
use Rattle.serde_json.specs.Data.{Data}
use Rattle.serde_json.specs.Read.{read}
use Rattle.json_view.specs.Reading.{reading, behind_mark}

pub reading_of_text : (bytes rest : List ℕ) (d : Data) → rest ≡ behind_mark bytes → IsUtf8 rest × (read rest ≡ Some d) → reading bytes ≡ Some d
unfolding reading
reading_of_text bytes rest d same ok = rw (← same) (rw (is_utf8-from_IsUtf8 rest ok.0) ok.1)

none_if : (test : Bool) (o : Option Data) → (test ≡ true → o ≡ None) → cond test o None ≡ None
none_if true o e = e refl
none_if false o e = refl

pub no_reading : (bytes rest : List ℕ) → rest ≡ behind_mark bytes → (IsUtf8 rest → read rest ≡ None) → reading bytes ≡ None
unfolding reading
no_reading bytes rest same none = rw (← same) (none_if (is_utf8 rest) _ (λ text. none (IsUtf8-from_is_utf8 rest text)))

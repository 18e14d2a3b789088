-- A file that was written fits.
use Rattle.std.proofs.Common.{◌≡◌, ◌≢◌, ℕ, List, [], ◌∷◌, None, refl, sym}
use Rattle.std.specs.Prelude.{IsUtf8}
use Rattle.std.proofs.lemmas.Str.{is_utf8-from_IsUtf8}
use Rattle.rel_path.specs.Paths.{Path, AreNames, parts_of, text_fault}
use Rattle.codes.specs.Codes.{IsShort}
use Rattle.listing.specs.KeyText.{path_text}
use Rattle.cache_api.specs.Artifacts.{File, FileFits}
use Rattle.cache_api.proofs.Paths.{known}

-- the components of a path whose text reads back
names_of : (path : Path) (text : List ℕ) → (path ≢ [] → (text_fault text ≡ None) × (parts_of text ≡ path)) → IsUtf8 text → AreNames path
names_of [] text back utf8 = refl
names_of (name ∷ names) text back utf8 =
    let read = back (λ root. absurd (cc)) in
    (known text (name ∷ names) (record { utf8 = is_utf8-from_IsUtf8 text utf8; sound = read.0; parts = sym read.1 })).names

pub file_fits : (file : File) (text : List ℕ) → text ≡ path_text file.0 → (file.0 ≢ [] → (text_fault text ≡ None) × (parts_of text ≡ file.0)) → IsUtf8 text → IsShort text → IsShort file.1 → FileFits file
file_fits file text is back utf8 short_text short = record {
  short = record { first = record { text = rw (← is) short_text; names = names_of file.0 text back utf8 }; second = short };
  text = rw (← is) (is_utf8-from_IsUtf8 text utf8);
}

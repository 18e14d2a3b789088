-- Paths and their texts.
use Rattle.std.proofs.Common.{◌≡◌, ◌≢◌, ◌==◌, ◌&&◌, inl, inr, ℕ, Bool, true, false, cond, List, [], ◌∷◌, length, Option, Some, None, refl, sym, ◌∙◌, ap}
use Rattle.std.specs.Prelude.{is_none, IsUtf8}
use Rattle.std.specs.Str.{is_utf8}
use Rattle.std.specs.Ordering.{is_lt}
use Rattle.std.proofs.lemmas.Bool.{cases_Bool}
use Rattle.std.proofs.lemmas.Str.{IsUtf8-from_is_utf8, is_utf8-from_IsUtf8}
use Rattle.std.proofs.lemmas.List.Splits.{join_with_byte-slice_split}
use Rattle.rel_path.specs.declared.error.PathErr.{PathErr}
use Rattle.rel_path.specs.declared.error.PathErr.TheVariants.{Empty}
use Rattle.rel_path.specs.Paths.{Path, AreNames, path_cmp, parts_of, text_fault, first_fault}
use Rattle.rel_path.proofs.Parts.{text-reads_back, read-AreNames}
use Rattle.listing.specs.KeyText.{path_text}
use Rattle.cache_api.specs.Reading.{path_in}

-- ---- what a text writes

pub no_path : (text : List ℕ) → ¬ (IsUtf8 text) → path_in text ≡ None
no_path text bad =
    elim (cases_Bool (is_utf8 text)) [
      | inl good ↦ absurd (bad (IsUtf8-from_is_utf8 text good))
      | inr not_so ↦ rw not_so refl
    ]

pub is_path : (text : List ℕ) → IsUtf8 text → text_fault text ≡ None → path_in text ≡ Some (parts_of text)
is_path text good none = rw (is_utf8-from_IsUtf8 text good, none) refl

none_of : (o : Option PathErr) → is_none o ≡ true → o ≡ None
none_of None e = refl
none_of (Some fault) e = cc

-- a text that writes a path
pub record Writes (text : List ℕ) (path : Path) : Type 0 where
  pub utf8 : is_utf8 text ≡ true
  pub sound : text_fault text ≡ None
  pub parts : path ≡ parts_of text

by_tests : (text : List ℕ) (path : Path) (u n : Bool) → is_utf8 text ≡ u → is_none (text_fault text) ≡ n → cond (u && n) (Some (parts_of text)) None ≡ Some path → Writes text path
by_tests text path true true u n e = let same : parts_of text ≡ path = cc in record { utf8 = u; sound = none_of (text_fault text) n; parts = sym same }
by_tests text path true false u n e = let none : None ≡ Some path = e in absurd (cc)
by_tests text path false n u m e = let none : None ≡ Some path = e in absurd (cc)

pub writes : (text : List ℕ) (path : Path) → path_in text ≡ Some path → Writes text path
writes text path e = by_tests text path (is_utf8 text) (is_none (text_fault text)) refl refl e

parts_sound : (empty : Bool) (later : Option PathErr) → cond empty (Some Empty) later ≡ None → (empty ≡ false) × (later ≡ None)
parts_sound true later e = cc
parts_sound false later e = (refl, e)

-- ---- there and back

-- the path of a text has that text, and the text is a path's
pub record Known (text : List ℕ) (path : Path) : Type 0 where
  pub below : path ≢ []
  pub names : AreNames path
  pub joined : path_text path ≡ text

pub known : (text : List ℕ) (path : Path) → Writes text path → Known text path
known text path w =
    let sound = parts_sound (length text == 0) (first_fault (parts_of text)) w.sound in
    let joined : path_text path ≡ text = ap path_text w.parts ∙ join_with_byte-slice_split 47 text in
    record {
      below = λ root. let empty : text ≡ [] = sym joined ∙ ap path_text root in let test : (length text == 0) ≡ true = rw empty refl in absurd (cc (test, sound.0));
      names = rw w.parts (read-AreNames text sound.1);
      joined = joined;
    }

pub path_back : (path : Path) → path ≢ [] → AreNames path → is_utf8 (path_text path) ≡ true → path_in (path_text path) ≡ Some path
path_back path below names utf8 =
    let back = text-reads_back path (path_text path) names refl below in
    is_path (path_text path) (IsUtf8-from_is_utf8 (path_text path) utf8) back.0 ∙ ap (λ (p : Path). Some p) back.1

-- the root has no text that is a path, so that no other path is read from the text of a path
pub path_only : (path other : Path) → AreNames path → path_in (path_text path) ≡ Some other → other ≡ path
path_only [] other names e = let w = writes (path_text []) other e in let k = known (path_text []) other w in absurd (root_text (w.sound))
  where
    root_text : text_fault (path_text []) ≡ None → ⊥
    root_text e = cc
path_only (name ∷ rest) other names e =
    let w = writes (path_text (name ∷ rest)) other e in
    w.parts ∙ (text-reads_back (name ∷ rest) (path_text (name ∷ rest)) names refl (λ root. absurd (cc))).1

-- ---- the root

-- nothing stands before the root
pub not_before_root : (path : Path) → is_lt (path_cmp path []) ≡ false
not_before_root [] = refl
not_before_root (name ∷ names) = refl

-- Files gathered, as far as that has come.
use Rattle.std.proofs.Common.{◌≡◌, ℕ, suc, List, [], ◌∷◌, ◌++◌, length, refl, ◌∙◌, ap, arith, length-append}
use Rattle.std.specs.Prelude.{sum_by}
use Rattle.std.proofs.lemmas.List.Sums.{sum_by-append}
use Rattle.std.proofs.lemmas.List.{map-append}
use Rattle.codes.specs.Codes.{read_items}
use Rattle.codes.specs.Reading.{items_step, items_stop}
use Rattle.cache_api.specs.declared.hit.HitFile.{HitFile}
use Rattle.cache_api.specs.Reading.{read_file}
use Rattle.artifact_reader.specs.declared.part.Part.{Part}
use Rattle.artifact_reader.specs.declared.stop.Stop.{Stop}
use Rattle.artifact_reader.specs.declared.stop.Stop.TheVariants.{NoArtifact, Unknown, OutOfMemory}
use Rattle.artifact_reader.specs.Parts.{shown, spans_of}
use Rattle.artifact_reader.specs.Cursors.{AreOn, GoesOn}
use Rattle.artifact_reader.specs.Reads.{IsValue, IsStop, ArePlaces, AreFilePlaces, EachIn, file_in, files_in}
use Rattle.artifact_reader.proofs.SoFar.{goes_then}

-- of so many files, so many are left to read
pub record FilesSoFar (parts : List Part) (files : List HitFile) (left : List Part) (n k : ℕ) : Type 0 where
  pub goes : GoesOn parts left
  pub reads : (low : ℕ) (text : List ℕ) → AreOn low text parts
      → read_items read_file [] n (shown text (spans_of parts)) ≡ read_items read_file (files_in text files) k (shown text (spans_of left))

pub no_files : (parts : List Part) (n : ℕ) → FilesSoFar parts [] parts n n
no_files parts n = record { goes = record { well = λ w. w; on = λ low text on. on; unknown = λ u. u; few = omega arith }; reads = λ low text on. refl }

pub one_file : (parts : List Part) (files : List HitFile) (left : List Part) (n k k' : ℕ) (file : HitFile) (next : List HitFile) (rest : List Part)
    → FilesSoFar parts files left n k → IsValue (λ text. file_in text file) read_file left rest → next ≡ files ++ file ∷ [] → k ≡ suc k' → FilesSoFar parts next rest n k'
one_file parts files left n k k' file next rest s v grown is = record {
  goes = goes_then parts left rest s.goes v.goes;
  reads = λ low text on. s.reads low text on
      ∙ items_step read_file (files_in text files) (files_in text next) k k' _ _ (file_in text file) is (v.is low text (s.goes.on low text on)) (ap (files_in text) grown ∙ map-append (file_in text) files (file ∷ []));
}

pub stops_there : (parts : List Part) (files : List HitFile) (left : List Part) (n k k' : ℕ) (e : Stop) → FilesSoFar parts files left n k → k ≡ suc k' → IsStop read_file left e → IsStop (read_items read_file [] n) parts e
stops_there parts files left n k k' NoArtifact s is stop = λ low text on. s.reads low text on ∙ items_stop read_file (files_in text files) k k' (shown text (spans_of left)) is (stop low text (s.goes.on low text on))
stops_there parts files left n k k' Unknown s is stop = s.goes.unknown stop
stops_there parts files left n k k' OutOfMemory s is stop = tt

pub all_files : (parts : List Part) (files : List HitFile) (left : List Part) (n k : ℕ) → FilesSoFar parts files left n k → k ≡ 0 → IsValue (λ text. files_in text files) (read_items read_file [] n) parts left
all_files parts files left n k s none = record { goes = s.goes; is = λ low text on. s.reads low text on ∙ ap (λ (m : ℕ). read_items read_file (files_in text files) m (shown text (spans_of left))) none }

each_in_append : (low : ℕ) (text : List ℕ) (xs ys : List HitFile) → EachIn low text xs → EachIn low text ys → EachIn low text (xs ++ ys)
each_in_append low text [] ys a b = b
each_in_append low text (x ∷ xs) ys a b = (a.0, each_in_append low text xs ys a.1 b)

pub no_places : (parts : List Part) → AreFilePlaces parts [] parts
no_places parts = record { lie = λ low text on. tt; few = omega arith }

pub more_places : (parts : List Part) (files : List HitFile) (left : List Part) (file : HitFile) (next : List HitFile) (rest : List Part)
    → AreFilePlaces parts files left → GoesOn parts left → ArePlaces left file.spans rest → next ≡ files ++ file ∷ [] → AreFilePlaces parts next rest
more_places parts files left file next rest f goes p grown = record {
  lie = λ low text on. rw grown (each_in_append low text files (file ∷ []) (f.lie low text on) (p.lie low text (goes.on low text on), tt));
  few = omega (arith, f.few, p.few, ap length grown, length-append files (file ∷ []), ap (sum_by (λ x. length x.spans)) grown, sum_by-append (λ x. length x.spans) files (file ∷ []));
}

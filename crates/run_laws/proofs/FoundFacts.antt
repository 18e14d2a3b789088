-- Artifacts by their texts, and what is found in a store.
use Rattle.std.proofs.Common.{◌≡◌, ◌≢◌, ℕ, zero, suc, ◌<◌, ◌++◌, Bool, true, false, cond, List, [], ◌∷◌, length, slice_get, refl, sym, ap, ◌∙◌, subst, arith, Option, Some, None, Contains}
use Rattle.std.proofs.lemmas.List.{append-nil}
use Rattle.std.proofs.lemmas.Bool.{false_from_ne_true}
use Rattle.rel_path.specs.Paths.{name_eq}
use Rattle.rel_path.proofs.PathLaws.{name_same, name_self}
use Rattle.codes.specs.Codes.{Separates, str, IsShort, list}
use Rattle.codes.specs.Reading.{reads_separates, str_reads}
use Rattle.globs.specs.declared.out_set.OutSet.{OutSet}
use Rattle.listing.specs.KeyText.{file_code}
use Rattle.listing.proofs.Separates.{files_separate}
use Rattle.cache_api.specs.Artifacts.{Artifact, artifact_text}
use Rattle.cache_api.specs.Found.{if_owned, given, or_else, found}
use Rattle.globs.specs.OwnedFiles.{owns_all}
use Rattle.cache_api.specs.Pairs.{Pair}
use Rattle.cache_api.specs.Reading.{Reader}
use Rattle.run_laws.specs.FoundLaws.{ArtifactsDiffer, FoundLaw}

str_separates : Separates str IsShort
str_separates = reads_separates str_reads

pub artifact_law_lem : ArtifactsDiffer
unfolding artifact_text
artifact_law_lem a b fa fb e =
    let logs = str_separates a.0 b.0 (list file_code a.1) (list file_code b.1) fa.log fb.log e in
    let files = files_separate a.1 b.1 [] [] fa.files fb.files (append-nil (list file_code a.1) ∙ logs.1 ∙ sym (append-nil (list file_code b.1))) in
    λ i. (logs.0 i, files.0 i)

-- ---- what is found

-- what a pair gives
abbrev Gives : Reader → List ℕ → OutSet → Pair → Artifact → Type 0
Gives read key outs pair a = (pair.0 ≡ key) × (read pair.1 ≡ Some a) × (owns_all outs a.1 ≡ true)

owned-gives : (outs : OutSet) (x : Option Artifact) (a : Artifact) → if_owned outs x ≡ Some a → (x ≡ Some a) × (owns_all outs a.1 ≡ true)
owned-gives outs None a e = absurd (cc)
owned-gives outs (Some b) a e = by (owns_all outs b.1) refl e
  where
    by : (o : Bool) → owns_all outs b.1 ≡ o → cond o (Some b) None ≡ Some a → (Some b ≡ Some a) × (owns_all outs a.1 ≡ true)
    by true h k = let same : b ≡ a = cc in (k, subst (λ x. owns_all outs x.1 ≡ true) same h)
    by false h k = absurd (cc)

given-gives : (read : Reader) (key : List ℕ) (outs : OutSet) (pair : Pair) (a : Artifact) → given read key outs pair ≡ Some a → Gives read key outs pair a
given-gives read key outs pair a e = by (name_eq pair.0 key) refl e
  where
    by : (b : Bool) → name_eq pair.0 key ≡ b → cond b (if_owned outs (read pair.1)) None ≡ Some a → Gives read key outs pair a
    by true h k = let g = owned-gives outs (read pair.1) a k in (name_same pair.0 key h, g.0, g.1)
    by false h k = absurd (cc)

-- of two the first, if it is something
either : (P : Type 0) (x y : Option Artifact) (a : Artifact) → (x ≡ Some a → P) → (y ≡ Some a → P) → or_else x y ≡ Some a → P
either P None y a f g e = g e
either P (Some b) y a f g e = f e

-- a pair that gives it
record Giver (read : Reader) (key : List ℕ) (outs : OutSet) (pairs : List Pair) (a : Artifact) : Type 0 where
  value : List ℕ
  place : ℕ
  below : place < length pairs
  is : slice_get pairs place ≡ Some (key, value)
  reads : read value ≡ Some a
  owned : owns_all outs a.1 ≡ true

found-giver : (read : Reader) (key : List ℕ) (outs : OutSet) (pairs : List Pair) (a : Artifact) → found read key outs pairs ≡ Some a → Giver read key outs pairs a
found-giver read key outs [] a e = absurd (cc)
found-giver read key outs (pair ∷ pairs) a e =
    either (Giver read key outs (pair ∷ pairs) a) (found read key outs pairs) (given read key outs pair) a
    (λ h. let g = found-giver read key outs pairs a h in let l = g.below in record { value = g.value; place = suc g.place; below = omega arith; is = g.is; reads = g.reads; owned = g.owned })
    (λ h. let g = given-gives read key outs pair a h in record { value = pair.1; place = zero; below = omega arith; is = λ i. Some (g.0 i, pair.1); reads = g.1; owned = g.2 })
    e

get-contains : {X : Type 0} (xs : List X) (i : ℕ) (x : X) → i < length xs → slice_get xs i ≡ Some x → Contains xs x
get-contains [] i x l e = absurd (omega arith)
get-contains (y ∷ xs) zero x l e = let q : y ≡ x = cc in (zero, l, q)
get-contains (y ∷ xs) (suc i) x l e = let k = get-contains xs i x (omega arith) e in let m = k.1 in (suc k.0, omega arith, k.2)

pub found-stands : (read : Reader) (key : List ℕ) (outs : OutSet) (pairs : List Pair) (a : Artifact) → found read key outs pairs ≡ Some a → (value : List ℕ) × Contains pairs (key, value) × (read value ≡ Some a)
found-stands read key outs pairs a e =
    let g = found-giver read key outs pairs a e in
    (g.value, get-contains pairs g.place (key, g.value) g.below g.is, g.reads)

found-other : (read : Reader) (key : List ℕ) (outs : OutSet) (pairs : List Pair) (pair : Pair) → pair.0 ≢ key → found read key outs (pairs ++ pair ∷ []) ≡ found read key outs pairs
found-other read key outs [] pair ne =
    let no : name_eq pair.0 key ≡ false = false_from_ne_true _ (λ e. ne (name_same pair.0 key e)) in
    rw no refl
found-other read key outs (p ∷ pairs) pair ne = ap (λ x. or_else x (given read key outs p)) (found-other read key outs pairs pair ne)

found-latest : (read : Reader) (key : List ℕ) (outs : OutSet) (pairs : List Pair) (value : List ℕ) (a : Artifact) → read value ≡ Some a → owns_all outs a.1 ≡ true → found read key outs (pairs ++ (key, value) ∷ []) ≡ Some a
found-latest read key outs [] value a e own = rw (name_self key, e) (rw own refl)
found-latest read key outs (p ∷ pairs) value a e own = ap (λ x. or_else x (given read key outs p)) (found-latest read key outs pairs value a e own)

pub found_law_lem : FoundLaw
found_law_lem = record {
  owned = λ read key outs pairs a e. (found-giver read key outs pairs a e).owned;
  stands = λ read key outs pairs a e. found-stands read key outs pairs a e;
  other = λ read key outs pairs pair ne. found-other read key outs pairs pair ne;
  latest = λ read key outs pairs value a e own. found-latest read key outs pairs value a e own;
}

-- The codes of listings tell them apart.
use Rattle.std.proofs.Common.{◌≡◌, ℕ, List, [], ◌∷◌, ◌++◌, length, take, drop, refl, sym, ◌∙◌, ap, arith, append_assoc}
use Rattle.std.specs.Prelude.{codes}
use Rattle.std.proofs.lemmas.List.{take_at, drop_at, append-nil}
use Rattle.rel_path.specs.Paths.{Path, AreNames}
use Rattle.rel_path.proofs.Parts.{text-reads_back}
use Rattle.globs.specs.declared.out_set.OutSet.{OutSet}
use Rattle.codes.specs.Codes.{Separates, word, IsWord, str, IsShort, items, list, Each, IsList, both, AreBoth}
use Rattle.codes.specs.Reading.{reads_separates, word_reads, str_reads}
use Rattle.listing.specs.declared.part.Part.{Part}
use Rattle.listing.specs.KeyText.{path_text, path_code, pair_code, file_code, out_set_code, part_code, key_text, PathFits, OutSetFits, PartFits, IsAtHome, IsPart, KeyTextsDiffer}

-- two lists of one length in front
front_same : {A : Type 0} (x y r s : List A) → length x ≡ length y → x ++ r ≡ y ++ s → (x ≡ y) × (r ≡ s)
front_same x y r s len e = (
  sym (take_at x r (length x) refl) ∙ ap (take (length x)) e ∙ take_at y s (length x) (sym len),
  sym (drop_at x r (length x) refl) ∙ ap (drop (length x)) e ∙ drop_at y s (length x) (sym len),
)

word_separates : Separates word IsWord
word_separates = reads_separates word_reads

str_separates : Separates str IsShort
str_separates = reads_separates str_reads

items_separate : {A : Type 0} (code : A → List ℕ) (F : A → Type 0) → Separates code F → (xs ys : List A) (r s : List ℕ) → Each F xs → Each F ys → length xs ≡ length ys → items code xs ++ r ≡ items code ys ++ s → (xs ≡ ys) × (r ≡ s)
items_separate code F apart [] [] r s fx fy len e = (refl, e)
items_separate code F apart [] (y ∷ ys) r s fx fy len e = absurd (omega arith)
items_separate code F apart (x ∷ xs) [] r s fx fy len e = absurd (omega arith)
items_separate code F apart (x ∷ xs) (y ∷ ys) r s fx fy len e =
    let head = apart x y (items code xs ++ r) (items code ys ++ s) fx.0 fy.0 (sym (append_assoc (code x) (items code xs) r) ∙ e ∙ append_assoc (code y) (items code ys) s) in
    let tail = items_separate code F apart xs ys r s fx.1 fy.1 (omega arith) head.1 in
    (λ i. head.0 i ∷ tail.0 i, tail.1)

list_separates : {A : Type 0} (code : A → List ℕ) (F : A → Type 0) → Separates code F → Separates (list code) (IsList F)
unfolding list
list_separates code F apart xs ys r s fx fy e =
    let lens = word_separates (length xs) (length ys) (items code xs ++ r) (items code ys ++ s) fx.short fy.short (sym (append_assoc (word (length xs)) (items code xs) r) ∙ e ∙ append_assoc (word (length ys)) (items code ys) s) in
    items_separate code F apart xs ys r s fx.each fy.each lens.0 lens.1

-- one field of a record, and the rest of it
then_separates : {A : Type 0} (code : A → List ℕ) (F : A → Type 0) → Separates code F → (x y : A) (a b r s : List ℕ) → F x → F y → (code x ++ a) ++ r ≡ (code y ++ b) ++ s → (x ≡ y) × (a ++ r ≡ b ++ s)
then_separates code F apart x y a b r s fx fy e = apart x y (a ++ r) (b ++ s) fx fy (sym (append_assoc (code x) a r) ∙ e ∙ append_assoc (code y) b s)

both_separates : {A B : Type 0} (a : A → List ℕ) (F : A → Type 0) (b : B → List ℕ) (G : B → Type 0) → Separates a F → Separates b G → Separates (both a b) (AreBoth F G)
unfolding both
both_separates a F b G apart_a apart_b x y r s fx fy e =
    let p = then_separates a F apart_a x.0 y.0 (b x.1) (b y.1) r s fx.first fy.first e in
    let q = apart_b x.1 y.1 r s fx.second fy.second p.1 in
    (λ i. (p.0 i, q.0 i), q.1)

strs_separate : Separates (list str) (IsList IsShort)
strs_separate = list_separates str IsShort str_separates

pairs_separate : Separates (list pair_code) (IsList (AreBoth IsShort IsShort))
pairs_separate = list_separates pair_code (AreBoth IsShort IsShort) (both_separates str IsShort str IsShort str_separates str_separates)

-- the root folder alone has an empty text, and every other path reads back
texts_differ : (x y : Path) → AreNames x → AreNames y → path_text x ≡ path_text y → x ≡ y
texts_differ [] [] hx hy e = refl
texts_differ [] (n ∷ ns) hx hy e = let back = text-reads_back (n ∷ ns) [] hy e (λ q. cc) in absurd (cc back.0)
texts_differ (m ∷ ms) [] hx hy e = let back = text-reads_back (m ∷ ms) [] hx (sym e) (λ q. cc) in absurd (cc back.0)
texts_differ (m ∷ ms) (n ∷ ns) hx hy e =
    sym (text-reads_back (m ∷ ms) (path_text (m ∷ ms)) hx refl (λ q. cc)).1
    ∙ (text-reads_back (n ∷ ns) (path_text (m ∷ ms)) hy e (λ q. cc)).1

path_separates : Separates path_code PathFits
unfolding path_code
path_separates x y r s fx fy e =
    let t = str_separates (path_text x) (path_text y) r s fx.text fy.text e in
    (texts_differ x y fx.names fy.names t.0, t.1)

-- the globs of an output set, and with the folder the set
abbrev Globs : Type 0
Globs = List (List ℕ) × List (List (List ℕ))

abbrev globs_of : OutSet → Globs
globs_of o = (o.mine, o.others)

out_sets_differ : (x y : OutSet) (r s : List ℕ) → OutSetFits x → OutSetFits y → out_set_code x ++ r ≡ out_set_code y ++ s → (globs_of x ≡ globs_of y) × (r ≡ s)
unfolding out_set_code
out_sets_differ x y r s fx fy e =
    let a = then_separates (list str) (IsList IsShort) strs_separate x.mine y.mine _ _ r s fx.mine fy.mine e in
    let b = list_separates (list str) (IsList IsShort) strs_separate x.others y.others r s fx.others fy.others a.1 in
    (λ i. (a.0 i, b.0 i), b.1)

part_separates : Separates part_code IsPart
unfolding part_code
part_separates x y r s hx hy e =
    let fx = hx.fits in
    let fy = hy.fits in
    let a = then_separates str IsShort str_separates x.package y.package _ _ r s fx.package fy.package e in
    let b = then_separates path_code PathFits path_separates x.folder y.folder _ _ r s fx.folder fy.folder a.1 in
    let c = then_separates str IsShort str_separates x.task y.task _ _ r s fx.task fy.task b.1 in
    let d = then_separates (list str) (IsList IsShort) strs_separate x.scripts y.scripts _ _ r s fx.scripts fy.scripts c.1 in
    let f = then_separates (list str) (IsList IsShort) strs_separate x.args y.args _ _ r s fx.args fy.args d.1 in
    let g = out_sets_differ x.outs y.outs _ _ fx.outs fy.outs (sym (append_assoc (out_set_code x.outs) _ r) ∙ f.1 ∙ append_assoc (out_set_code y.outs) _ s) in
    let h = then_separates (list pair_code) (IsList (AreBoth IsShort IsShort)) pairs_separate x.env y.env _ _ r s fx.env fy.env g.1 in
    let j = then_separates (list path_code) (IsList PathFits) (list_separates path_code PathFits path_separates) x.inputs y.inputs _ _ r s fx.inputs fy.inputs h.1 in
    let k = then_separates (list pair_code) (IsList (AreBoth IsShort IsShort)) pairs_separate x.externals y.externals _ _ r s fx.externals fy.externals j.1 in
    let l = list_separates word IsWord word_separates x.deps y.deps r s fx.deps fy.deps k.1 in
    let home = hx.home ∙ b.0 ∙ sym hy.home in
    let outs : x.outs ≡ y.outs = λ i. record { folder = home i; mine = (g.0 i).0; others = (g.0 i).1 } in
    (λ i. record { «package» = a.0 i; folder = b.0 i; task = c.0 i; scripts = d.0 i; args = f.0 i; outs = outs i; env = h.0 i; inputs = j.0 i; externals = k.0 i; deps = l.0 i }, l.1)

pub files_separate : Separates (list file_code) (IsList (AreBoth PathFits IsShort))
files_separate = list_separates file_code (AreBoth PathFits IsShort) (both_separates path_code PathFits str IsShort path_separates str_separates)

pub parts_separate : Separates (list part_code) (IsList IsPart)
parts_separate = list_separates part_code IsPart part_separates

each_part : (ps : List Part) → Each PartFits ps → Each IsAtHome ps → Each IsPart ps
each_part [] f h = tt
each_part (p ∷ ps) f h = (record { fits = f.0; home = h.0 }, each_part ps f.1 h.1)

pub key_texts_differ : KeyTextsDiffer
unfolding key_text
key_texts_differ x y fx fy hx hy e =
    let rest = (front_same (codes "TURBKEY1") (codes "TURBKEY1") _ _ refl e).1 in
    let files = files_separate x.files y.files _ _ fx.files fy.files rest in
    let px : IsList IsPart x.parts = record { short = fx.parts.short; each = each_part x.parts fx.parts.each hx } in
    let py : IsList IsPart y.parts = record { short = fy.parts.short; each = each_part y.parts fy.parts.each hy } in
    let parts = parts_separate x.parts y.parts [] [] px py (append-nil (list part_code x.parts) ∙ files.1 ∙ sym (append-nil (list part_code y.parts))) in
    λ i. record { files = files.0 i; parts = parts.0 i }
